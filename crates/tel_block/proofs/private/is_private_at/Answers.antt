use Rattle.std.proofs.Common.{◌≡◌, ℕ, List, ap, sym, ◌∙◌}
use Rattle.std.specs.Prelude.{◌||◌, Bool, Some}
use Rattle.edge_log.specs.Entries.{Entry}
use Rattle.edge_log.specs.Places.{entry_at}
use Rattle.block_layout.specs.Blocks.{HoldsEntries}
use Rattle.block_layout.proofs.AtPlaces.{row-fits}
use Rattle.tel_block.specs.Logs.{is_stamp_to, is_private_to}
use Rattle.tel_block.proofs.private.is_private_at.Goals as goal
use Rattle.tel_block.proofs.private.is_private_at.Goals.{After-is_stamp_to-ended}

-- both stamps are judged by their numbers
both : (c : After-is_stamp_to-ended) (start : ℕ) (xs : List Entry) (x : Entry) → HoldsEntries start xs c.args.bytes.now → entry_at xs c.args.place ≡ Some x →
    (c.is_stamp_to-created.result || c.is_stamp_to-ended.result) ≡ is_private_to c.args.of x
both c start xs x held at =
    let is = c.entry_at-entry.ensures start xs x held at in
    let fits = row-fits start c.args.place xs x c.args.bytes.now held at in
    let a = c.is_stamp_to-created.ensures x.created fits.created (ap (λ e. e.created) is) in
    let b = c.is_stamp_to-ended.ensures x.ended fits.ended (ap (λ e. e.ended) is) in
    ap (λ (d : Bool). d || c.is_stamp_to-ended.result) a ∙ ap (λ (d : Bool). is_stamp_to c.args.of x.created || d) b

pub returns-then-created : goal.returns-then-created
returns-then-created c = λ start xs x held at.
    c.if-created.true ∙ sym (ap (λ (d : Bool). d || c.is_stamp_to-ended.result) c.if-created.true) ∙ both (goal.at.returns-then-created c).After-is_stamp_to-ended start xs x held at

pub returns-else-created : goal.returns-else-created
returns-else-created c = λ start xs x held at.
    sym (ap (λ (d : Bool). d || c.is_stamp_to-ended.result) c.if-created.false) ∙ both (goal.at.returns-else-created c).After-is_stamp_to-ended start xs x held at
