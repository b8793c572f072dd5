use Rattle.std.proofs.Common.{◌≡◌, ◌+◌, drop, length, vec_capacity}
use Rattle.worker_sessions.specs.Sessions.{indices}
use Rattle.worker_lines.proofs.Parts.{InPart}
use Rattle.worker_lines.proofs.lines.run_part.Given as goal

-- the lines before this one are done
abbrev pub invariant-loop-line : goal.invariant-loop-line
invariant-loop-line g l = record {
  in_part : InPart l.shared.board.now.turns l.shared.board.now.shards l.number l.shared.workers l.shared.owners.now (l.fn.place + length l.lines) l.fn.pass l.pass (indices l.fn.sessions) l.fn.sessions l.sessions l.lines (drop l.line-index l.lines) l.place l.fn.replies.items l.replies.items (vec_capacity l.fn.replies);
  capacity : vec_capacity l.replies ≡ vec_capacity l.fn.replies;
}
