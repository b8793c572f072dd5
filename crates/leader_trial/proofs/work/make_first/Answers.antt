use Rattle.std.proofs.Common.{◌∙◌, sym, ap, subst, ℕ, List, []}
use Rattle.core_states.specs.declared.event.Act.TheVariants as acts
use Rattle.core_states.specs.Openings.{run_limits}
use Rattle.core_states.specs.States.{row_event}
use Rattle.turn_board.specs.Spread.{turns_in}
use Rattle.turn_board.specs.Board.{known, turns}
use Rattle.leader_trial.specs.Done.{done_if}
use Rattle.leader_trial.specs.Leads.{Went}
use Rattle.leader_trial.specs.Idle.{DoesOnRowIf}
use Rattle.leader_trial.proofs.Working.{row_given}
use Rattle.leader_trial.proofs.work.make_first.Goals as goal

pub give-requires-clause-events : goal.give-requires-clause-events
give-requires-clause-events g c = let p = c.args.pass.now in let q = c.take_shard-rows.new.pass in let r = c.try_make-answer in let row = c.take_shard-rows.result.first in
    (row_given c.args.me (turns q) (known p) (known q) (known q) row c.args.actor.now c.in-Ok.named r.result r.new.rows.first r.new.actor
    (ap (λ t. turns_in t.slots) c.take_shard-rows.ensures.keeps.0 ∙ c.requires.own.1) (ap (λ m. m.0) c.take_shard-rows.ensures.taken) c.requires.idle
    (subst (λ (z : List ℕ). DoesOnRowIf (row_event run_limits (acts.New 1 z) row c.args.actor.now) row c.args.actor.now r.result r.new.rows.first r.new.actor) (sym c.in-Ok.ensures) r.ensures)).0

pub returns-clause-went : goal.returns-clause-went
returns-clause-went g c = let p = c.args.pass.now in let q = c.take_shard-rows.new.pass in let r = c.try_make-answer in let row = c.take_shard-rows.result.first in
    subst (λ (z : List ℕ). Went c.args.me (done_if c.args.me (acts.New 1 z) r.result) r.new.actor [] (known p) (known c.give.new.pass)) c.in-Ok.ensures
    ((row_given c.args.me (turns q) (known p) (known q) (known c.give.new.pass) row c.args.actor.now c.in-Ok.named r.result r.new.rows.first r.new.actor
    (ap (λ t. turns_in t.slots) c.take_shard-rows.ensures.keeps.0 ∙ c.requires.own.1) (ap (λ m. m.0) c.take_shard-rows.ensures.taken) c.requires.idle
    (subst (λ (z : List ℕ). DoesOnRowIf (row_event run_limits (acts.New 1 z) row c.args.actor.now) row c.args.actor.now r.result r.new.rows.first r.new.actor) (sym c.in-Ok.ensures) r.ensures)).1
    (ap (λ m. m.0) c.give.ensures.given)).0

pub returns-clause-idle : goal.returns-clause-idle
returns-clause-idle g c = let p = c.args.pass.now in let q = c.take_shard-rows.new.pass in let r = c.try_make-answer in let row = c.take_shard-rows.result.first in
    ((row_given c.args.me (turns q) (known p) (known q) (known c.give.new.pass) row c.args.actor.now c.in-Ok.named r.result r.new.rows.first r.new.actor
    (ap (λ t. turns_in t.slots) c.take_shard-rows.ensures.keeps.0 ∙ c.requires.own.1) (ap (λ m. m.0) c.take_shard-rows.ensures.taken) c.requires.idle
    (subst (λ (z : List ℕ). DoesOnRowIf (row_event run_limits (acts.New 1 z) row c.args.actor.now) row c.args.actor.now r.result r.new.rows.first r.new.actor) (sym c.in-Ok.ensures) r.ensures)).1
    (ap (λ m. m.0) c.give.ensures.given)).1
