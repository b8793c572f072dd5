use Rattle.std.proofs.Common.{◌≡◌, ◌∙◌, ◌%◌, ℕ, refl, sym, ap, subst}
use Rattle.core_states.specs.Parts.{OfShard}
use Rattle.turn_board.specs.Board.{known, turns}
use Rattle.turn_board.specs.Spread.{turns_in}
use Rattle.turn_board.specs.Turns.{Told}
use Rattle.turn_board.specs.Views.{View, taking}
use Rattle.store_turns.specs.Grows.{Grew, told_if}
use Rattle.store_turns.specs.Fits.{Fits, name_in}
use Rattle.store_turns.proofs.RowSteps.{row_gives, row_leads_to}
use Rattle.store_turns.proofs.Knowing.{known_rows, below_count}
use Rattle.store_turns.proofs.steps.read_on_shard.Goals as goal
use Rattle.store_turns.proofs.steps.read_on_shard.Goals.{After-give}
use Rattle.store_turns.proofs.steps.read_on_shard.Given.{Over}

pub read_row-answer-requires-clause-known : goal.read_row-answer-requires-clause-known
read_row-answer-requires-clause-known g c =
    let shard = c.take_shard-shard in
    let v = known c.args.pass.now in
    let turn = c.vertex.result % c.from.result in
    let many = c.requires.shards in
    let same : turns shard.new.pass ≡ turns c.args.pass.now = ap (λ t. turns_in t.slots) shard.ensures.keeps.0 in
    let taken : known shard.new.pass ≡ taking turn (OfShard (g.X.ShowsRows.rows shard.result.value)) v = ap (λ m. m.0) shard.ensures.taken in
    known_rows (turns c.args.pass.now) c.args.shards turn v (g.X.ShowsRows.place shard.result.value) (g.X.ShowsRows.rows shard.result.value) c.args.session.now shard.ensures.place c.requires.limits many.1 many.2
    (below_count c.vertex.result c.from.result c.args.shards c.from.ensures many.0) c.requires.fits
    (subst (λ (z : ℕ × View). Told z.0 z.1) (λ i. (same i, taken i)) shard.ensures.told)

pub give-requires-clause-events : goal.give-requires-clause-events
give-requires-clause-events g c =
    let shard = c.take_shard-shard in
    let call = c.read_row-answer in
    let same : turns shard.new.pass ≡ turns c.args.pass.now = ap (λ t. turns_in t.slots) shard.ensures.keeps.0 in
    row_leads_to c.args.shards (g.C.RowEvent.of c.args.call.now) (c.vertex.result % c.from.result) (known c.args.pass.now) (known shard.new.pass) c.args.session.now c.args.session.now (g.X.ShowsRows.place shard.result.value) (g.X.ShowsRows.rows shard.result.value) (g.X.ShowsRows.rows call.new.shard.value)
    (g.C.RowEvent.acts c.args.call.now) c.requires.ready.1 c.vertex.ensures.reach c.requires.fits refl shard.ensures.place c.requires.limits (λ i. c.vertex.ensures.is i % c.from.ensures i) call.result call.ensures.does (ap (λ m. m.0) shard.ensures.taken)
    (turns shard.new.pass) (c.requires.shards.1 ∙ sym same)

-- what the pass knows after the give
given : (g : Over) (c : After-give g) → Grew (name_in (known c.args.pass.now) c.args.session.now.index) (told_if (g.C.RowEvent.acts c.args.call.now) c.read_row-answer.result) (known c.args.pass.now) (known c.give.new.pass)
    × Fits c.args.session.now (known c.give.new.pass)
given g c =
    let shard = c.take_shard-shard in
    let call = c.read_row-answer in
    row_gives c.args.shards (g.C.RowEvent.of c.args.call.now) (c.vertex.result % c.from.result) (known c.args.pass.now) (known shard.new.pass) c.args.session.now c.args.session.now (g.X.ShowsRows.place shard.result.value) (g.X.ShowsRows.rows shard.result.value) (g.X.ShowsRows.rows call.new.shard.value)
    (g.C.RowEvent.acts c.args.call.now) c.requires.ready.1 c.vertex.ensures.reach c.requires.fits refl shard.ensures.place c.requires.limits (λ i. c.vertex.ensures.is i % c.from.ensures i) call.result call.ensures.does (ap (λ m. m.0) shard.ensures.taken)
    (known c.give.new.pass) (ap (λ m. m.0) c.give.ensures.given)

pub returns-clause-grew : goal.returns-clause-grew
returns-clause-grew g c = (given g (goal.at.returns-clause-grew g c).After-give).0

pub returns-clause-fits : goal.returns-clause-fits
returns-clause-fits g c = (given g (goal.at.returns-clause-fits g c).After-give).1
