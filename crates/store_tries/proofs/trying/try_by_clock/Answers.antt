use Rattle.store_tries.proofs.Tried.{tried, tried_known}
use Rattle.store_tries.proofs.trying.try_by_clock.Goals as goal

pub call_clock-answer-requires : goal.call_clock-answer-requires
call_clock-answer-requires g c =
    let taken = c.in-Taken.ensures.taken in record {
      known = tried_known c.args.board.now.turns c.args.board.now.shards c.args.pass.now c.try_take_clock.new.pass c.args.session.now c.in-Taken.home.value.part.clock c.requires.stands taken.0 taken.1 c.in-Taken.ensures.keeps;
    }

pub returns-clause-goes : goal.returns-clause-goes
returns-clause-goes g c =
    let taken = c.in-Taken.ensures.taken in let call = c.call_clock-answer in
    (tried c.args.board.now.turns c.args.board.now.shards c.args.pass.now c.try_take_clock.new.pass c.args.session.now c.in-Taken.home.value.part.clock c.requires.stands taken.0 taken.1 c.in-Taken.ensures.keeps
    c.give.new.pass call.new.session call.new.home.value.part.clock (g.C.ClockCall.acts c.args.call.now) call.ensures.reach call.ensures.same call.result call.ensures.does c.give.ensures.given c.give.ensures.newest c.give.ensures.keeps).0

pub returns-clause-meets : goal.returns-clause-meets
returns-clause-meets g c =
    let taken = c.in-Taken.ensures.taken in let call = c.call_clock-answer in
    (tried c.args.board.now.turns c.args.board.now.shards c.args.pass.now c.try_take_clock.new.pass c.args.session.now c.in-Taken.home.value.part.clock c.requires.stands taken.0 taken.1 c.in-Taken.ensures.keeps
    c.give.new.pass call.new.session call.new.home.value.part.clock (g.C.ClockCall.acts c.args.call.now) call.ensures.reach call.ensures.same call.result call.ensures.does c.give.ensures.given c.give.ensures.newest c.give.ensures.keeps).1
