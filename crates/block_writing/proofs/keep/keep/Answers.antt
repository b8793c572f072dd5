use Rattle.std.proofs.Common.{ℕ, Bool, List, ◌∷◌, subst, sym, ◌∙◌}
use Rattle.std.specs.Prelude.{if◌then◌else◌}
use Rattle.edge_log.specs.Entries.{Entry}
use Rattle.edge_bloom.specs.Filters.{HasBitsOf}
use Rattle.block_layout.specs.Blocks.{IsBlock}
use Rattle.block_writing.specs.Filters.{filter_in}
use Rattle.block_writing.proofs.keep.keep.Goals as goal

pub returns-clause-kept : goal.returns-clause-kept
returns-clause-kept c = λ h f xs x b count sum fits row payload.
    let here = sym c.if-is_past.false ∙ c.is_past.ensures in
    let new : List ℕ = c.put_entry.new.block in
    let P : Bool → Type 0 = λ past.
    (let ys : List Entry = if past then xs else x ∷ xs in IsBlock c.args.order h (filter_in c.args.order new) ys new) in
    subst P here (c.put_entry.ensures.appended h f xs x b count sum fits row payload)

pub returns-clause-bits : goal.returns-clause-bits
returns-clause-bits c = λ has ds bits.
    let here = sym c.if-is_past.false ∙ c.is_past.ensures in
    let new : List ℕ = c.put_entry.new.block in
    let P : Bool → Type 0 = λ past.
    (let es : List ℕ = if past then ds else c.args.entry.now.d ∷ ds in HasBitsOf (filter_in c.args.order new) es) in
    subst P here (c.put_entry.ensures.added has ds bits)
