-- The lines of one of the workers that share a script, and what running them makes.
use Rattle.std.specs.Prelude.{◌≡◌, ◌≢◌, ℕ, ◌/◌, ◌%◌, ◌==◌, Bool, true, false, List, [], ◌∷◌, ◌++◌, length, map, filter, slice_get, suc, MatchOption, Option, Some}
use Rattle.atomic_table.specs.declared.shared.Seat.{Seat}
use Rattle.request_text.specs.declared.request.Line.{Line}
use Rattle.request_text.specs.declared.reply.Reply.{Reply}
use Rattle.graph_legal.specs.Lines.{Replied, asked_in, history_onto}
use Rattle.core_states.specs.Numbers.{has_number}
use Rattle.turn_board.specs.Board.{known}
use Rattle.turn_board.specs.Views.{View}
use Rattle.turn_board.specs.declared.board.TurnBoard.{TurnBoard}
use Rattle.store_turns.specs.declared.session.Session.{Session}
use Rattle.store_board.specs.Standing.{IsAtBoard}
use Rattle.store_lines.specs.Lines.{IsAtLine}
use Rattle.worker_runs.specs.Notes.{LineDid, LinesDid}
use Rattle.worker_sessions.specs.Notes.{actors_in}
use Rattle.worker_sessions.specs.Sessions.{indices, AllFit, EachIs, Noting}

-- Of n workers that share a script, worker w has the lines whose session has session mod n = w.
abbrev pub is_of : ℕ → ℕ → Line → Bool
is_of w n line = line.session % n == w

abbrev pub lines_of : ℕ → ℕ → List Line → List Line
lines_of w n script = filter (is_of w n) script

-- Of n workers, the one that has this line is noted at this place; where none is noted there is one worker.
abbrev pub IsOwnerAt : ℕ → List ℕ → ℕ → Line → Type 0
IsOwnerAt n owners place line = MatchOption (slice_get owners place) (n ≡ 1) (λ owner. owner ≡ line.session % n)

-- The same of each of the lines that stand from this place on.
abbrev pub AreOwners : ℕ → List ℕ → ℕ → List Line → Type 0
AreOwners n owners place [] = Unit {0}
AreOwners n owners place (line ∷ lines) = IsOwnerAt n owners place line × AreOwners n owners (suc place) lines

-- its lines with their replies, newest first
abbrev pub replied_of : ℕ → ℕ → List Line → List Reply → List Replied
replied_of w n script replies = history_onto [] (map (asked_in 0 n) (lines_of w n script)) replies

-- If the line is the worker's, its session stands at its place among those with these numbers.
abbrev pub IsSeated : ℕ → ℕ → List ℕ → Line → Type 0
IsSeated w n ks line = is_of w n line ≡ true → slice_get ks (line.session / n) ≡ Some line.session

-- The line was run if it is the worker's, and nothing was done else.
abbrev pub RanIf : Bool → Line → View → View → List Reply → List Reply → Type 0
RanIf true line v w rs rs' =
    (r : Reply) × (rs' ≡ rs ++ r ∷ []) × Noting (λ p old notes new. LineDid p old line.session line.request r notes new) v w × ((k : ℕ) → k ≢ line.session → actors_in w k ≡ actors_in v k)
RanIf false line v w rs rs' = (rs' ≡ rs) × (w ≡ v)

-- The pass stands at the board, and the sessions, which are those that they were, fit to it and are ready for a line.
pub record AreAtLine {H : Type 0} (board : TurnBoard H) (shards : ℕ) (pass : Seat (Option H) View) (ks : List ℕ) (ss : List Session) : Type 0 where
  pub stands : IsAtBoard board shards pass
  pub fit : AllFit ss (known pass)
  pub same : indices ss ≡ ks
  pub ready : EachIs IsAtLine ss

-- The worker's lines were run one after another, with these replies; sessions with other numbers did nothing.
pub record HaveRun (w n : ℕ) (script : List Line) (replies : List Reply) (ks : List ℕ) (v v' : View) : Type 0 where
  pub len : length replies ≡ length (lines_of w n script)
  pub noting : Noting (λ p old notes new. LinesDid p old (replied_of w n script replies) notes new) v v'
  pub others : (k : ℕ) → has_number k ks ≡ false → actors_in v' k ≡ actors_in v k
