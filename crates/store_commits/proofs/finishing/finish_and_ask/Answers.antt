use Rattle.std.proofs.Common.{◌≡◌, ◌∙◌, ℕ, sym, ap, subst}
use Rattle.core_states.specs.Parts.{OfClock}
use Rattle.turn_board.specs.Board.{known, turns}
use Rattle.turn_board.specs.Spread.{turns_in}
use Rattle.turn_board.specs.Turns.{Told}
use Rattle.turn_board.specs.Views.{View, taking}
use Rattle.store_turns.specs.declared.session.Session.{Session}
use Rattle.store_turns.proofs.Knowing.{known_clock}
use Rattle.store_commits.proofs.Finished.{finish_led, finish_goes, finish_has_seen}
use Rattle.store_commits.proofs.finishing.finish_and_ask.Goals as goal

pub finish_in-yes-requires-clause-known : goal.finish_in-yes-requires-clause-known
finish_in-yes-requires-clause-known g c =
    let took = c.take_clock-home in
    let same : turns took.new.pass ≡ turns c.args.pass.now = ap (λ t. turns_in t.slots) took.ensures.keeps.0 in
    let taken : known took.new.pass ≡ taking c.args.board.now.shards (OfClock took.result.value.part.clock) (known c.args.pass.now) = ap (λ m. m.0) took.ensures.taken in
    known_clock (turns c.args.pass.now) c.args.board.now.shards (known c.args.pass.now) took.result.value.part.clock c.args.session.now c.requires.stands.0.turns c.requires.stands.1
    (subst (λ (z : ℕ × View). Told z.0 z.1) (λ i. (same i, taken i)) took.ensures.told)

pub give-requires-clause-events : goal.give-requires-clause-events
give-requires-clause-events g c =
    let took = c.take_clock-home in let on = c.finish_in-yes in let won = c.requires.won in
    let done = on.ensures.done won.0 won.1 won.2 in
    let finished = ap (λ (z : Session). z.finished) done in
    finish_led c.args.board.now.turns c.args.board.now.shards c.args.pass.now took.new.pass c.args.pass.now c.args.session.now on.new.session took.result.value.part.clock on.new.home.value.part.clock won.1 on.result c.requires.stands (ap (λ m. m.0) took.ensures.taken) on.ensures.same
    on.ensures.does (ap (λ (z : Session). z.work) done) finished (on.ensures.visible won.1 finished) (turns took.new.pass) (c.requires.stands.0.turns ∙ sym (ap (λ t. turns_in t.slots) took.ensures.keeps.0))

pub returns-clause-goes : goal.returns-clause-goes
returns-clause-goes g c =
    let took = c.take_clock-home in let on = c.finish_in-yes in let won = c.requires.won in
    let done = on.ensures.done won.0 won.1 won.2 in
    let finished = ap (λ (z : Session). z.finished) done in
    finish_goes c.args.board.now.turns c.args.board.now.shards c.args.pass.now took.new.pass c.give.new.pass c.args.session.now on.new.session took.result.value.part.clock on.new.home.value.part.clock won.1 on.result c.requires.stands (ap (λ m. m.0) took.ensures.taken) on.ensures.same
    on.ensures.does (ap (λ (z : Session). z.work) done) finished (on.ensures.visible won.1 finished) c.give.ensures.given c.give.ensures.newest took.ensures.keeps c.give.ensures.keeps

pub returns-clause-seen : goal.returns-clause-seen
returns-clause-seen g c t e won is_so =
    let took = c.take_clock-home in let on = c.finish_in-yes in
    let done = on.ensures.done t e won in
    let finished = ap (λ (z : Session). z.finished) done in
    finish_has_seen c.args.board.now.turns c.args.board.now.shards c.args.pass.now took.new.pass c.give.new.pass c.args.session.now on.new.session took.result.value.part.clock on.new.home.value.part.clock e on.result c.requires.stands (ap (λ m. m.0) took.ensures.taken) on.ensures.same
    on.ensures.does (ap (λ (z : Session). z.work) done) finished (on.ensures.visible e finished) c.give.ensures.given is_so
