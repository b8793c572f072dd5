use Rattle.std.proofs.Common.{◌≡◌, ◌∙◌, false, sym, ap, subst, Option}
use Rattle.atomic_table.specs.declared.shared.Seat.{Seat}
use Rattle.turn_board.specs.Board.{Knows, Knowing, Ready, slots_of}
use Rattle.turn_board.specs.Views.{View, joining}
use Rattle.turn_board.proofs.board.TurnBoard.join.Goals as goal

-- a pass that knows the same is ready too
still_ready : {H : Type 0} (p q : Seat (Option H) View) → ◌≡◌ {A = Knows H} q.me p.me → Ready p → Ready q
still_ready {H} p q same ready = subst (λ (m : Knows H). (m.0.spent ≡ false) × (m.1 ≡ slots_of m.0.held)) (sym same) ready

pub make_one-requires-clause-own : goal.make_one-requires-clause-own
make_one-requires-clause-own g c = (c.look_at_base.ensures.keeps.0 ∙ c.requires.own.0, c.look_at_base-2.ensures.keeps.0 ∙ c.requires.own.1)

pub make_one-requires-clause-ready : goal.make_one-requires-clause-ready
make_one-requires-clause-ready g c = (
  still_ready c.args.into.now c.look_at_base.new.pass c.look_at_base.ensures.same c.requires.ready.0,
  still_ready c.args.from c.look_at_base-2.new.pass c.look_at_base-2.ensures.same c.requires.ready.1,
)

pub make_one-requires-clause-idle : goal.make_one-requires-clause-idle
make_one-requires-clause-idle g c = ap (λ m. m.0.held) c.look_at_base-2.ensures.same ∙ c.requires.idle

pub returns-clause-both : goal.returns-clause-both
returns-clause-both g c =
    subst (λ (z : View × View). Knowing c.make_one.new.into (joining z.0 z.1)) (λ i. (ap (λ m. m.0) c.look_at_base.ensures.same i, ap (λ m. m.0) c.look_at_base-2.ensures.same i)) c.make_one.ensures.both

pub returns-clause-base : goal.returns-clause-base
returns-clause-base g c = c.look_at_base-2.ensures.base ∙ sym c.look_at_base.ensures.base

pub returns-clause-keeps : goal.returns-clause-keeps
returns-clause-keeps g c = (c.make_one.ensures.keeps.0 ∙ c.look_at_base.ensures.keeps.0, c.make_one.ensures.keeps.1 ∙ c.look_at_base.ensures.keeps.1)
