use Rattle.std.proofs.Common.{drop, vec_capacity}
use Rattle.std.specs.Vec.Iter.{into_iter_items}
use Rattle.script_parts.specs.InParts.{lines_in}
use Rattle.turn_board.specs.Board.{known}
use Rattle.worker_sessions.specs.Sessions.{indices}
use Rattle.worker_lines.specs.Wholes.{all_lines}
use Rattle.worker_lines.proofs.Parts.{AtPart}
use Rattle.worker_lines.proofs.lines.run_lines.Given as goal

-- the lines before this part are done
abbrev pub invariant-loop-part : goal.invariant-loop-part
invariant-loop-part g l = record {
  at_part : AtPart l.shared.board.now.turns l.shared.board.now.shards l.number l.shared.workers l.shared.owners.now (known l.fn.pass) l.pass (indices l.fn.sessions) l.sessions (all_lines l.fn.whole) l.place (lines_in (drop l.part-index l.part-items)) l.replies.items (vec_capacity l.replies);
}

abbrev pub invariant-loop-part-2 : goal.invariant-loop-part-2
invariant-loop-part-2 g l = record {
  at_part : AtPart l.shared.board.now.turns l.shared.board.now.shards l.number l.shared.workers l.shared.owners.now (known l.fn.pass) l.pass (indices l.fn.sessions) l.sessions (all_lines l.fn.whole) l.place (lines_in (into_iter_items l.part-iterator)) l.replies.items (vec_capacity l.replies);
}
