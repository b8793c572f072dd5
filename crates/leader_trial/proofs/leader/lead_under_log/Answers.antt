use Rattle.core_states.specs.declared.event.Act.TheVariants as acts
use Rattle.core_events.specs.CoreLogs.{log_of}
use Rattle.turn_board.specs.Board.{known}
use Rattle.leader_trial.specs.Done.{done_if}
use Rattle.leader_trial.specs.Leads.{log_held, ended_by}
use Rattle.leader_trial.proofs.Leading.{went_on, not_ended}
use Rattle.leader_trial.proofs.leader.lead_under_log.Goals.{then-matches, else-matches}
use Rattle.leader_trial.proofs.leader.lead_under_log.Goals as goal

pub returns-clause-went : goal.returns-clause-went
returns-clause-went g c = let one = c.collect_group-collected.ensures.went in let q = c.collect_group-collected.new in
    went_on c.args.me (done_if c.args.me acts.Collect c.collect_group-collected.result) (ended_by c.args.me c.args.append c.if-matches.wrote.0 c.if-matches.wrote.1) q.actor c.if-matches.actor
    (log_held (log_of q.paper.log)) (log_held (log_of c.if-matches.paper.log)) (known c.args.pass.now) (known q.pass) (known c.if-matches.pass) one
    (elim c.if-matches.branch [
      | then-matches w ↦ rw (w.pass-is, w.paper-is, w.actor-is, w.wrote-is) w.end_group.ensures.went
      | else-matches w ↦ rw (w.pass-is, w.paper-is, w.actor-is, w.wrote-is) (not_ended c.args.me c.args.append q.actor (log_held (log_of q.paper.log)) (known q.pass) one.held_is one.actor)
    ])
