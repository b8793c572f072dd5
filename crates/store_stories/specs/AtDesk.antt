-- Two sessions of one pass, at the board of a store.
use Rattle.std.specs.Prelude.{◌≢◌, ℕ}
use Rattle.disk_model.specs.declared.disk.Disk.{Ghosts}
use Rattle.turn_board.specs.Views.{IsLast}
use Rattle.turn_board.specs.Board.{known}
use Rattle.turn_board.specs.declared.board.TurnBoard.{TurnBoard}
use Rattle.store_turns.specs.declared.session.Session.{Session}
use Rattle.store_turns.specs.Fits.{Fits}
use Rattle.store_board.specs.Standing.{Stands}
use Rattle.store_log.specs.LogChanges.{IsBaseOf}
use Rattle.graph_store.specs.declared.pass.Pass.{Pass}
use Rattle.graph_store.specs.Passes.{SpotOf, HoldsNone}

-- Both sessions stand at the board by its only pass, which holds no turn, as two actors, and the base is that of the log that was found.
pub record AreAtDesk {D : Type 0} {g : Ghosts D} (board : TurnBoard (SpotOf D)) (shards : ℕ) (pass : Pass D g) (session other : Session) : Type 0 where
  pub stands : Stands board shards pass.seat session
  pub free : HoldsNone pass
  pub beside : Fits other (known pass.seat)
  pub apart : other.index ≢ session.index
  pub last : IsLast (known pass.seat)
  pub found : IsBaseOf (known pass.seat).base (known pass.seat).found.records
