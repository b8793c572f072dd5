-- The workers of a storm at the board, and the first pass while theirs are out.
use Rattle.std.specs.Prelude.{◌≡◌, ◌⊎◌, ℕ, ◌<◌, List, [], length, map, slice_index_or, Option}
use Rattle.atomic_table.specs.declared.shared.Seat.{Seat}
use Rattle.turn_board.specs.Views.{View, In, numbers}
use Rattle.turn_board.specs.Board.{known}
use Rattle.turn_board.specs.declared.board.TurnBoard.{TurnBoard}
use Rattle.store_turns.specs.declared.session.Session.{Session}
use Rattle.store_board.specs.Standing.{IsAtBoard, Stands}
use Rattle.store_log.specs.LogChanges.{IsBaseOf}
use Rattle.store_storms.specs.declared.putter.Putter.{Putter}

-- The session stands at the board by its pass, off which no other was split, and the base is that of the log that was found.
pub record AreAtStorm {H : Type 0} (board : TurnBoard H) (shards : ℕ) (pass : Seat (Option H) View) (session : Session) : Type 0 where
  pub stands : Stands board shards pass session
  pub alone : (known pass).made ≡ []
  pub found : IsBaseOf (known pass).base (known pass).found.records

abbrev pub IsAtStorm : {H : Type 0} → TurnBoard H → ℕ → Putter (Seat (Option H) View) → Type 0
IsAtStorm board shards w = AreAtStorm board shards w.pass w.session

-- the number of the worker's pass, and those of several
abbrev pub number_of : {H : Type 0} → Putter (Seat (Option H) View) → List ℕ
number_of w = (known w.pass).number

abbrev pub numbers_of : {H : Type 0} → List (Putter (Seat (Option H) View)) → List (List ℕ)
numbers_of {H} ws = map (λ (w : Putter (Seat (Option H) View)). number_of w) ws

-- The worker is at the storm with the pass that it had, and so is each of several.
abbrev pub HasRun : {H : Type 0} → TurnBoard H → ℕ → Putter (Seat (Option H) View) → Putter (Seat (Option H) View) → Type 0
HasRun board shards old new = IsAtStorm board shards new × (number_of new ≡ number_of old)

abbrev pub EachRan : {H : Type 0} → TurnBoard H → ℕ → List (Putter (Seat (Option H) View)) → List (Putter (Seat (Option H) View)) → Type 0
EachRan {H} board shards olds news = (i : ℕ) (d : Putter (Seat (Option H) View)) → i < length olds → HasRun board shards (slice_index_or olds i d) (slice_index_or news i d)

-- While the passes of these numbers are out, each other one that was made is one that the first pass is made of. And the base is that of the log that was found.
pub record HasOut (out : List (List ℕ)) (v : View) : Type 0 where
  pub root : In [] (numbers v)
  pub made : (m : List ℕ) → In m v.made → In m out ⊎ In m (numbers v)
  pub found : IsBaseOf v.base v.found.records

-- And the first pass holds no turn of the board.
abbrev pub IsFirst : {H : Type 0} → TurnBoard H → ℕ → List (List ℕ) → Seat (Option H) View → Type 0
IsFirst board shards out pass = IsAtBoard board shards pass × HasOut out (known pass)
