use Rattle.std.proofs.Common.{◌∙◌, ap}
use Rattle.core_events.specs.CoreLogs.{log_of}
use Rattle.turn_board.specs.Spread.{turns_in}
use Rattle.turn_board.specs.Board.{known, turns}
use Rattle.leader_trial.proofs.Leading.{written_given, durable_within, last_within}
use Rattle.leader_trial.proofs.leader.publish_group.Goals as goal

pub try_write-requires : goal.try_write-requires
try_write-requires g c = durable_within (turns c.args.pass.now) (known c.args.pass.now) (log_of c.args.paper.now.log) c.requires.own.1 c.requires.told c.requires.held

pub try_publish-published-requires : goal.try_publish-published-requires
try_publish-published-requires g c = let q = c.take_clock-hand.new.pass in
    last_within (turns q) (known q) c.take_clock-hand.result.clock (known c.args.pass.now).held (ap (λ t. turns_in t.slots) c.take_clock-hand.ensures.keeps.0 ∙ c.requires.own.1) c.take_clock-hand.ensures.told
    (ap (λ m. m.0.held) c.take_clock-hand.ensures.taken)

pub give-requires-clause-events : goal.give-requires-clause-events
give-requires-clause-events g c = let p = c.args.pass.now in let q = c.take_clock-hand.new.pass in let w = c.try_write in let r = c.try_publish-published in
    (written_given c.args.me c.args.moment (turns q) (known p) (known q) (known q) (log_of c.args.paper.now.log) c.take_clock-hand.result.clock c.args.actor.now c.in-Some.wrote (log_of w.new.log) w.new.actor r.result (log_of r.new.log) r.new.clock r.new.actor
    (ap (λ t. turns_in t.slots) c.take_clock-hand.ensures.keeps.0 ∙ c.requires.own.1) (ap (λ m. m.0) c.take_clock-hand.ensures.taken) c.requires.ready.1 c.requires.held c.requires.actor c.in-Some.ensures r.ensures).0

pub returns-clause-went : goal.returns-clause-went
returns-clause-went g c = let p = c.args.pass.now in let q = c.take_clock-hand.new.pass in let w = c.try_write in let r = c.try_publish-published in
    (written_given c.args.me c.args.moment (turns q) (known p) (known q) (known c.give.new.pass) (log_of c.args.paper.now.log) c.take_clock-hand.result.clock c.args.actor.now c.in-Some.wrote (log_of w.new.log) w.new.actor r.result (log_of r.new.log) r.new.clock r.new.actor
    (ap (λ t. turns_in t.slots) c.take_clock-hand.ensures.keeps.0 ∙ c.requires.own.1) (ap (λ m. m.0) c.take_clock-hand.ensures.taken) c.requires.ready.1 c.requires.held c.requires.actor c.in-Some.ensures r.ensures).1
    (ap (λ m. m.0) c.give.ensures.given)
