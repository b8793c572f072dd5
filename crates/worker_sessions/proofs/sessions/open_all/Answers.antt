use Rattle.std.proofs.Common.{arith, ◌≡◌, ◌<◌, length, slice_index_or}
use Rattle.turn_board.specs.Board.{known}
use Rattle.worker_sessions.specs.Sessions.{HaveOpened, IsIdle, IsShut}
use Rattle.worker_sessions.proofs.Serving.{none-yet, one-more, each-is, all-added, fit-at, next-one, is-idle, opens-before, none-opened}
use Rattle.worker_sessions.proofs.sessions.open_all.Goals as goal

pub loop-i-init : goal.loop-i-init
loop-i-init g c = none-yet HaveOpened IsIdle IsShut c.args.board.now.turns c.args.board.now.shards c.args.pass.now c.args.sessions.now c.requires.stands c.requires.fit c.requires.apart c.requires.shut

pub open_session-requires-clause-stands : goal.open_session-requires-clause-stands
open_session-requires-clause-stands g c =
    let was = c.loop-i.invariant in let i = c.loop-i.i in let ss = c.loop-i.sessions in let d = c.index-sessions-i.result in
    let low : c.loop-i.i < length c.loop-i.sessions = let test = c.loop-i-test.true in let long = was.len in omega (arith, test, long) in
    (was.stands, fit-at i ss d (known c.loop-i.pass) low was.fit)

pub open_session-requires-clause-closed : goal.open_session-requires-clause-closed
open_session-requires-clause-closed g c =
    let was = c.loop-i.invariant in let i = c.loop-i.i in let ss = c.loop-i.sessions in let d = c.index-sessions-i.result in
    let low : c.loop-i.i < length c.loop-i.sessions = let test = c.loop-i-test.true in let long = was.len in omega (arith, test, long) in
    (next-one IsIdle IsShut i ss d low was.are).0

pub loop-i-preserved : goal.loop-i-preserved
loop-i-preserved g c =
    let b = c.args.board.now in
    let was = c.loop-i.invariant in let i = c.loop-i.i in let ss = c.loop-i.sessions in let d = c.index-sessions-i.result in
    let low : c.loop-i.i < length c.loop-i.sessions = let test = c.loop-i-test.true in let long = was.len in omega (arith, test, long) in
    let z = slice_index_or ss i d in let made = c.open_session.ensures.goes in
    let shut = next-one IsIdle IsShut i ss d low was.are in
    one-more HaveOpened IsIdle IsShut b.turns b.shards c.args.pass.now c.args.sessions.now c.loop-i.pass c.open_session.new.pass ss i d c.open_session.new.session made.0 was low made.2 (is-idle z c.open_session.new.session shut c.open_session.ensures.session)
    (opens-before z.index made.0 (known c.loop-i.pass) (known c.open_session.new.pass) made.2.grew made.1)

pub returns-clause-idle : goal.returns-clause-idle
returns-clause-idle g c =
    let b = c.args.board.now in
    let all : c.loop-i.i ≡ length c.args.sessions.now = let test = c.loop-i-test.false in let end = c.loop-i.auto.i-end in omega (arith, test, end) in
    each-is HaveOpened IsIdle IsShut b.turns b.shards c.args.pass.now c.args.sessions.now c.loop-i.pass c.loop-i.sessions c.loop-i.i c.loop-i.invariant all

pub returns-clause-opened : goal.returns-clause-opened
returns-clause-opened g c =
    let b = c.args.board.now in
    let all : c.loop-i.i ≡ length c.args.sessions.now = let test = c.loop-i-test.false in let end = c.loop-i.auto.i-end in omega (arith, test, end) in
    all-added HaveOpened IsIdle IsShut b.turns b.shards c.args.pass.now c.args.sessions.now c.loop-i.pass c.loop-i.sessions c.loop-i.i c.loop-i.invariant all (none-opened (known c.loop-i.pass))
