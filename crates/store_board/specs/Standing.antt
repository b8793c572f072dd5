-- A session at the board of a store, and how its events bring it on.
use Rattle.std.specs.Prelude.{◌≡◌, ℕ, ◌+◌, ◌<◌, List, [], Option}
use Rattle.atomic_table.specs.declared.shared.Seat.{Seat}
use Rattle.graph_model.specs.Records.{transaction_most}
use Rattle.core_calls.specs.Events.{Told}
use Rattle.turn_board.specs.Views.{Held, View}
use Rattle.turn_board.specs.Boards.{IsOf}
use Rattle.turn_board.specs.Board.{known, turns, Ready, SameSeat}
use Rattle.turn_board.specs.declared.board.TurnBoard.{TurnBoard}
use Rattle.store_turns.specs.declared.session.Session.{Session}
use Rattle.store_turns.specs.Fits.{Fits, name_in}
use Rattle.store_turns.specs.Grows.{Grew}

-- The pass is one of a board of so many shards, and holds these turns.
pub record Holds {H : Type 0} (board : TurnBoard H) (shards : ℕ) (hs : List Held) (pass : Seat (Option H) View) : Type 0 where
  pub own : IsOf board pass
  pub ready : Ready pass
  pub held : (known pass).held ≡ hs
  pub turns : shards + 2 ≡ turns pass
  pub as_many : shards ≡ (known pass).shards
  pub some : 0 < shards
  pub limits : (known pass).limits.txn ≡ transaction_most

-- It holds none.
abbrev pub IsAtBoard : {H : Type 0} → TurnBoard H → ℕ → Seat (Option H) View → Type 0
IsAtBoard board shards pass = Holds board shards [] pass

-- And the session is one of its actors.
abbrev pub Stands : {H : Type 0} → TurnBoard H → ℕ → Seat (Option H) View → Session → Type 0
Stands board shards pass s = IsAtBoard board shards pass × Fits s (known pass)

-- The session's actor did these events, and no other actor of the pass did any.
pub record Goes {H : Type 0} (board : TurnBoard H) (shards : ℕ) (ts : List Told) (p q : Seat (Option H) View) (s s' : Session) : Type 0 where
  pub stands : Stands board shards q s'
  pub grew : Grew (name_in (known p) s.index) ts (known p) (known q)
  pub index : s'.index ≡ s.index
  pub seat : SameSeat p q
