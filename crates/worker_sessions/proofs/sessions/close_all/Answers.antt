use Rattle.std.proofs.Common.{arith, ◌≡◌, ◌<◌, length, slice_index_or}
use Rattle.turn_board.specs.Board.{known}
use Rattle.worker_sessions.specs.Sessions.{HaveClosed, IsDone, MayClose}
use Rattle.worker_sessions.proofs.Serving.{none-yet, one-more, each-is, all-added, fit-at, next-one, closes-before, none-closed}
use Rattle.worker_sessions.proofs.sessions.close_all.Goals as goal

pub loop-i-init : goal.loop-i-init
loop-i-init g c = none-yet HaveClosed IsDone MayClose c.args.board.now.turns c.args.board.now.shards c.args.pass.now c.args.sessions.now c.requires.stands c.requires.fit c.requires.apart c.requires.may

pub close_one-requires-clause-stands : goal.close_one-requires-clause-stands
close_one-requires-clause-stands g c =
    let was = c.loop-i.invariant in let i = c.loop-i.i in let ss = c.loop-i.sessions in let d = c.index-sessions-i.result in
    let low : c.loop-i.i < length c.loop-i.sessions = let test = c.loop-i-test.true in let long = was.len in omega (arith, test, long) in
    (was.stands, fit-at i ss d (known c.loop-i.pass) low was.fit)

pub close_one-requires-clause-may : goal.close_one-requires-clause-may
close_one-requires-clause-may g c =
    let was = c.loop-i.invariant in let i = c.loop-i.i in let ss = c.loop-i.sessions in let d = c.index-sessions-i.result in
    let low : c.loop-i.i < length c.loop-i.sessions = let test = c.loop-i-test.true in let long = was.len in omega (arith, test, long) in
    next-one IsDone MayClose i ss d low was.are

pub loop-i-preserved : goal.loop-i-preserved
loop-i-preserved g c =
    let b = c.args.board.now in
    let was = c.loop-i.invariant in let i = c.loop-i.i in let ss = c.loop-i.sessions in let d = c.index-sessions-i.result in
    let low : c.loop-i.i < length c.loop-i.sessions = let test = c.loop-i-test.true in let long = was.len in omega (arith, test, long) in
    let z = slice_index_or ss i d in let made = c.close_one.ensures.goes in
    one-more HaveClosed IsDone MayClose b.turns b.shards c.args.pass.now c.args.sessions.now c.loop-i.pass c.close_one.new.pass ss i d c.close_one.new.session made.0 was low made.2 c.close_one.ensures.done
    (closes-before z.index made.0 (known c.loop-i.pass) (known c.close_one.new.pass) made.2.grew made.1)

pub returns-clause-done : goal.returns-clause-done
returns-clause-done g c =
    let b = c.args.board.now in
    let all : c.loop-i.i ≡ length c.args.sessions.now = let test = c.loop-i-test.false in let end = c.loop-i.auto.i-end in omega (arith, test, end) in
    each-is HaveClosed IsDone MayClose b.turns b.shards c.args.pass.now c.args.sessions.now c.loop-i.pass c.loop-i.sessions c.loop-i.i c.loop-i.invariant all

pub returns-clause-closed : goal.returns-clause-closed
returns-clause-closed g c =
    let b = c.args.board.now in
    let all : c.loop-i.i ≡ length c.args.sessions.now = let test = c.loop-i-test.false in let end = c.loop-i.auto.i-end in omega (arith, test, end) in
    all-added HaveClosed IsDone MayClose b.turns b.shards c.args.pass.now c.args.sessions.now c.loop-i.pass c.loop-i.sessions c.loop-i.i c.loop-i.invariant all (none-closed (known c.loop-i.pass))
