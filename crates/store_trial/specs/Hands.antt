-- A session of a store by its pass, and what threads leave of a pass.
use Rattle.std.specs.Prelude.{◌≡◌, ◌⊎◌, ℕ, List, Option}
use Rattle.atomic_table.specs.declared.shared.Seat.{Seat}
use Rattle.turn_board.specs.Views.{View, In, numbers}
use Rattle.turn_board.specs.Board.{known}
use Rattle.turn_board.specs.declared.board.TurnBoard.{TurnBoard}
use Rattle.store_turns.specs.declared.session.Session.{Session}
use Rattle.store_board.specs.Standing.{IsAtBoard, Stands}
use Rattle.store_log.specs.LogChanges.{IsBaseOf}

-- the base is that of the log that was found
abbrev pub HasBase : View → Type 0
HasBase v = IsBaseOf v.base v.found.records

-- The pass holds no turn, and a pass may be split off it.
abbrev pub IsFree : {H : Type 0} → TurnBoard H → ℕ → Seat (Option H) View → Type 0
IsFree board shards pass = IsAtBoard board shards pass × HasBase (known pass)

-- The session stands at the board by the pass.
abbrev pub IsReady : {H : Type 0} → TurnBoard H → ℕ → Seat (Option H) View → Session → Type 0
IsReady board shards pass session = Stands board shards pass session × HasBase (known pass)

-- The pass is made of the same ones as before, and no other was split off it.
abbrev pub StaysAs : View → View → Type 0
StaysAs v w = (numbers w ≡ numbers v) × (w.made ≡ v.made)

-- The session is ready by the pass that this one has become.
abbrev pub GoesOn : {H : Type 0} → TurnBoard H → ℕ → Seat (Option H) View → Seat (Option H) View → Session → Type 0
GoesOn board shards old new session = IsReady board shards new session × StaysAs (known old) (known new)

-- The pass has come back: all that were split off it since are joined into it.
pub record CameBack (v w : View) : Type 0 where
  pub kept : (n : List ℕ) → In n (numbers v) → In n (numbers w)
  pub made : (n : List ℕ) → In n w.made → In n v.made ⊎ In n (numbers w)
