-- Two passes of one store, with a session of the second.
use Rattle.std.specs.Prelude.{◌≡◌, ◌⊎◌, ℕ, List, []}
use Rattle.disk_model.specs.declared.disk.Disk.{Ghosts}
use Rattle.turn_board.specs.Views.{In, numbers}
use Rattle.turn_board.specs.Board.{known}
use Rattle.turn_board.specs.declared.board.TurnBoard.{TurnBoard}
use Rattle.store_turns.specs.declared.session.Session.{Session}
use Rattle.store_board.specs.Standing.{IsAtBoard, Stands}
use Rattle.store_log.specs.LogChanges.{IsBaseOf}
use Rattle.graph_store.specs.declared.pass.Pass.{Pass}
use Rattle.graph_store.specs.Passes.{SpotOf, HoldsNone}

-- Neither pass holds a turn, and the session stands at the board by the second. The second is the only one that is not of the first. Both know the base as that of the log that was found.
pub record AreApart {D : Type 0} {g : Ghosts D} (board : TurnBoard (SpotOf D)) (shards : ℕ) (first second : Pass D g) (session : Session) : Type 0 where
  pub at : IsAtBoard board shards first.seat
  pub stands : Stands board shards second.seat session
  pub free : HoldsNone first × HoldsNone second
  pub root : In [] (numbers (known first.seat))
  pub made : (m : List ℕ) → In m (known first.seat).made → ((known second.seat).number ≡ m) ⊎ In m (numbers (known first.seat))
  pub none : (known second.seat).made ≡ []
  pub found : IsBaseOf (known first.seat).base (known first.seat).found.records × IsBaseOf (known second.seat).base (known second.seat).found.records
