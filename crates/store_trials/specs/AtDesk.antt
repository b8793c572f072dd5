-- A session at a board of its own.
use Rattle.std.specs.Prelude.{ℕ, true, [], Option, Some, None}
use Rattle.atomic_table.specs.declared.shared.Seat.{Seat}
use Rattle.core_states.specs.LogParts.{Found, all_firm}
use Rattle.disk_model.specs.Memory.{MemoryDisk}
use Rattle.turn_board.specs.Views.{View, IsLast}
use Rattle.turn_board.specs.Board.{known}
use Rattle.turn_board.specs.declared.board.TurnBoard.{TurnBoard}
use Rattle.store_turns.specs.declared.session.Session.{Session}
use Rattle.store_board.specs.Standing.{Stands}
use Rattle.store_log.specs.LogChanges.{IsBaseOf}

-- The session stands at the board, whose only pass it has, and the base is that of the log that was found.
pub record IsAtDesk {H : Type 0} (board : TurnBoard H) (shards : ℕ) (pass : Seat (Option H) View) (session : Session) : Type 0 where
  pub stands : Stands board shards pass session
  pub last : IsLast (known pass)
  pub found : IsBaseOf (known pass).base (known pass).found.records

-- what a run finds of a log that has no disk
abbrev pub found_on_paper : Found
found_on_paper = record { count = 0; firm = all_firm; records = None }

-- what a run finds of a new log on a disk that tells its bytes
abbrev pub found_new : MemoryDisk → Found
found_new disk = record { count = disk.faults; firm = record { since = disk.moment; no_rest = true }; records = Some [] }
