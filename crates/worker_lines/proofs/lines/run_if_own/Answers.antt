use Rattle.std.proofs.Common.{rules, ◌≡◌, Bool, true, ◌/◌, sym, subst}
use Rattle.turn_board.specs.Board.{known}
use Rattle.worker_sessions.specs.Sessions.{indices}
use Rattle.worker_lines.specs.Lines.{is_of, RanIf}
use Rattle.worker_lines.proofs.Running.{seat-low, each-at, stands-at, still-at-line, own-ran}
use Rattle.store_lines.specs.Lines.{IsAtLine}
use Rattle.worker_lines.proofs.lines.run_if_own.Goals as goal

pub bounds-sessions-seat : goal.bounds-sessions-seat
bounds-sessions-seat g c =
    let own : is_of c.args.number c.args.shared.now.workers c.args.line.now ≡ true = search rules in
    seat-low (c.args.line.now.session / c.args.shared.now.workers) c.args.sessions.now c.args.line.now.session (c.requires.seated own)

pub run_line-reply-requires-clause-stands : goal.run_line-reply-requires-clause-stands
run_line-reply-requires-clause-stands g c =
    let own : is_of c.args.number c.args.shared.now.workers c.args.line.now ≡ true = search rules in
    let i = c.args.line.now.session / c.args.shared.now.workers in
    stands-at c.args.shared.now.board.now.turns c.args.shared.now.board.now.shards c.args.pass.now (indices c.args.sessions.now) c.args.sessions.now i c.index-sessions-seat.result c.requires.at_line
    (seat-low i c.args.sessions.now c.args.line.now.session (c.requires.seated own))

pub run_line-reply-requires-clause-ready : goal.run_line-reply-requires-clause-ready
run_line-reply-requires-clause-ready g c =
    let own : is_of c.args.number c.args.shared.now.workers c.args.line.now ≡ true = search rules in
    let i = c.args.line.now.session / c.args.shared.now.workers in
    each-at IsAtLine i c.args.sessions.now c.index-sessions-seat.result (seat-low i c.args.sessions.now c.args.line.now.session (c.requires.seated own)) c.requires.at_line.ready

pub returns-clause-at_line : goal.returns-clause-at_line
returns-clause-at_line g c =
    let own : is_of c.args.number c.args.shared.now.workers c.args.line.now ≡ true = search rules in
    let i = c.args.line.now.session / c.args.shared.now.workers in
    let ran = c.run_line-reply.ensures in
    still-at-line c.args.shared.now.board.now.turns c.args.shared.now.board.now.shards c.args.pass.now c.run_line-reply.new.pass (indices c.args.sessions.now) c.args.sessions.now i c.index-sessions-seat.result c.run_line-reply.new.session ran.events
    c.requires.at_line c.requires.apart (seat-low i c.args.sessions.now c.args.line.now.session (c.requires.seated own)) ran.goes ran.ready

pub returns-clause-ran : goal.returns-clause-ran
returns-clause-ran g c =
    let own : is_of c.args.number c.args.shared.now.workers c.args.line.now ≡ true = search rules in
    let line = c.args.line.now in
    subst (λ (b : Bool). RanIf b line (known c.args.pass.now) (known c.run_line-reply.new.pass) c.args.replies.now.items c.push_reserved.new.self.items) (sym own)
    (own-ran c.args.shared.now.board.now.turns c.args.shared.now.board.now.shards line c.run_line-reply.result c.args.pass.now c.run_line-reply.new.pass c.args.sessions.now (line.session / c.args.shared.now.workers) c.index-sessions-seat.result c.run_line-reply.new.session
    c.args.replies.now.items c.push_reserved.new.self.items (c.requires.seated own) c.run_line-reply.ensures c.push_reserved.ensures.items)
