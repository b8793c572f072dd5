use Rattle.std.proofs.Common.{◌∙◌, ap, refl}
use Rattle.core_states.specs.declared.event.Act.TheVariants as acts
use Rattle.core_events.specs.CoreLogs.{log_of}
use Rattle.turn_board.specs.Spread.{turns_in}
use Rattle.turn_board.specs.Board.{known, turns}
use Rattle.leader_trial.proofs.Leading.{group_given}
use Rattle.leader_trial.proofs.leader.collect_group.Goals as goal

pub give-requires-clause-events : goal.give-requires-clause-events
give-requires-clause-events g c = let p = c.args.pass.now in let q = c.take_clock-hand.new.pass in let r = c.try_collect-answer in
    (group_given c.args.me (turns q) (known p) (known q) (known q) (log_of c.args.paper.now.log) c.take_clock-hand.result.clock c.args.actor.now acts.Collect r.result (log_of r.new.log) r.new.clock r.new.actor
    (ap (λ t. turns_in t.slots) c.take_clock-hand.ensures.keeps.0 ∙ c.requires.own.1) (ap (λ m. m.0) c.take_clock-hand.ensures.taken) c.requires.ready.1 c.requires.held c.requires.actor refl r.ensures).0

pub returns-clause-went : goal.returns-clause-went
returns-clause-went g c = let p = c.args.pass.now in let q = c.take_clock-hand.new.pass in let r = c.try_collect-answer in
    (group_given c.args.me (turns q) (known p) (known q) (known c.give.new.pass) (log_of c.args.paper.now.log) c.take_clock-hand.result.clock c.args.actor.now acts.Collect r.result (log_of r.new.log) r.new.clock r.new.actor
    (ap (λ t. turns_in t.slots) c.take_clock-hand.ensures.keeps.0 ∙ c.requires.own.1) (ap (λ m. m.0) c.take_clock-hand.ensures.taken) c.requires.ready.1 c.requires.held c.requires.actor refl r.ensures).1
    (ap (λ m. m.0) c.give.ensures.given)
