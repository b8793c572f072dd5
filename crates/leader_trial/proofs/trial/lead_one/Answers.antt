use Rattle.std.proofs.Common.{ap}
use Rattle.turn_board.specs.Board.{known}
use Rattle.leader_trial.proofs.Working.{fresh_idle, idle_still}
use Rattle.leader_trial.proofs.trial.lead_one.Goals as goal

pub queue_one-requires-clause-idle : goal.queue_one-requires-clause-idle
queue_one-requires-clause-idle g c = fresh_idle 0 c.new_actor-actor.result (known c.in_ok-board.pass) (ap (λ m. m.0) c.in_ok-board.ensures.pass) c.new_actor-actor.ensures

pub close-requires-clause-last : goal.close-requires-clause-last
close-requires-clause-last g c = (idle_still 0 _ c.queue_one.new.actor c.lead-led.new.actor (known c.queue_one.new.pass) (known c.lead-led.new.pass) c.lead-led.ensures.led c.queue_one.ensures.idle).0
