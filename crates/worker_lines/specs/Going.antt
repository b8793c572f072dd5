-- How far a worker has come in its script.
use Rattle.std.specs.Prelude.{◌≡◌, ℕ, ◌+◌, false, List, ◌++◌, length, map, Option}
use Rattle.atomic_table.specs.declared.shared.Seat.{Seat}
use Rattle.request_text.specs.declared.request.Line.{Line}
use Rattle.request_text.specs.declared.reply.Reply.{Reply}
use Rattle.request_text.specs.Limits.{AreWithinLimits}
use Rattle.graph_legal.specs.Lines.{Replied, asked_in, history_onto}
use Rattle.core_states.specs.Numbers.{has_number}
use Rattle.turn_board.specs.Board.{known}
use Rattle.turn_board.specs.Views.{View}
use Rattle.turn_board.specs.declared.board.TurnBoard.{TurnBoard}
use Rattle.store_turns.specs.declared.session.Session.{Session}
use Rattle.worker_runs.specs.Notes.{LinesDid}
use Rattle.worker_sessions.specs.Notes.{actors_in}
use Rattle.worker_sessions.specs.Sessions.{EachIs, Noting}
use Rattle.worker_lines.specs.Lines.{lines_of, replied_of, IsSeated, AreAtLine}

-- Since its pass knew v the worker has run its lines of the script before the rest, and what is noted of them makes with the replies to the others what is to be noted of all.
pub record SoFar {H : Type 0} (board : TurnBoard H) (shards w n : ℕ) (v : View) (q : Seat (Option H) View) (ks : List ℕ) (ss : List Session) (script rest : List Line) (rs : List Reply) : Type 0 where
  pub at_line : AreAtLine board shards q ks ss
  pub seated : EachIs (λ line. IsSeated w n ks line) rest
  pub within : AreWithinLimits rest
  pub left : length rs + length (lines_of w n rest) ≡ length (lines_of w n script)
  pub done : List Replied
  pub ahead : (more : List Reply) → history_onto done (map (asked_in 0 n) (lines_of w n rest)) more ≡ replied_of w n script (rs ++ more)
  pub noting : Noting (λ m old notes new. LinesDid m old done notes new) v (known q)
  pub others : (k : ℕ) → has_number k ks ≡ false → actors_in (known q) k ≡ actors_in v k
