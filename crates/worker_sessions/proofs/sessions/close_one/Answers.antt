use Rattle.std.proofs.Common.{rules, ◌≡◌, true, false}
use Rattle.std.specs.Prelude.{is_some}
use Rattle.worker_sessions.proofs.Serving.{closes-idle, closes-left, may-give, has-none}
use Rattle.worker_sessions.proofs.sessions.close_one.Goals as goal
use Rattle.worker_sessions.proofs.sessions.close_one.Goals.{then-is_some, else-is_some}

pub give_up-requires-clause-lost : goal.give_up-requires-clause-lost
give_up-requires-clause-lost g c =
    let some : is_some c.args.session.now.work ≡ true = search rules in
    may-give c.args.session.now c.requires.may some

pub returns-clause-goes : goal.returns-clause-goes
returns-clause-goes g c =
    let b = c.args.board.now in
    let p = c.args.pass.now in let s = c.args.session.now in
    elim c.if-is_some.branch [
      | then-is_some w ↦
          let some : is_some s.work ≡ true = search rules in
          let given = may-give s c.requires.may some in
          closes-left b.turns b.shards p w.give_up.new.pass c.if-is_some.pass c.close_session.new.pass s w.give_up.new.session c.if-is_some.session c.close_session.new.session
          w.pass-is w.session-is c.requires.stands given.0 given.1 w.give_up.ensures.goes c.close_session.ensures.goes
      | else-is_some w ↦
          let none : is_some s.work ≡ false = search rules in
          closes-idle b.turns b.shards p c.if-is_some.pass c.close_session.new.pass s c.if-is_some.session c.close_session.new.session
          w.pass-is w.session-is c.requires.stands (has-none s.work none) c.close_session.ensures.goes
    ]
