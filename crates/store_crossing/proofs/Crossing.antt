-- A pass of a store may go to another thread, and threads may share its board, where they may share the disk: by what is known of each type on the way. A search through the whole of them gives up.
use denote.RattleType.{RattleType}
use denote.Param.Send.{IsSend, IsSync, AllSync, sendable, struct_sync, recorded_sync}
use denote.Struct.Declared as declared
use denote.Struct.Tuple.{TupleAt, type_at}
use Rattle.std.proofs.Common.{ℕ, List, rules}
use Rattle.std.proofs.Crossing.{Box-send, crosses}
use Rattle.std.specs.contracts.option.Option as Option
use Rattle.std.specs.contracts.boxed.Box as Box
use Rattle.std.specs.contracts.alloc.Global as Global
use Rattle.std.specs.contracts.impls.GlobalAllocator.TheImpl.{ghosts}
use Rattle.std.proofs.option.Option.TheSendSync as option
use Rattle.atomic_table.specs.contracts.shared.Seat as Seat
use Rattle.atomic_table.proofs.shared.Seat.TheSendSync as seat
use Rattle.disk_model.specs.declared.disk.Disk.{Ghosts}
use Rattle.turn_board.specs.contracts.home.Home as Home
use Rattle.turn_board.specs.contracts.home.Wide as Wide
use Rattle.turn_board.specs.contracts.view.View as View
use Rattle.turn_board.proofs.home.Home.TheSendSync as turn
use Rattle.turn_board.proofs.home.Wide.TheSendSync as wide
use Rattle.store_turns.specs.contracts.clock_home.ClockHome as Clock
use Rattle.store_turns.proofs.clock_home.ClockHome.TheSendSync as clock
use Rattle.store_board.proofs.board.StoreBoard.TheSendSync as board
use Rattle.store_rows.specs.contracts.shard_home.ShardHome as Shard
use Rattle.store_rows.specs.contracts.shard_home.ShardHomeShowsRows.TheImpl as rows
use Rattle.store_crossing.proofs.Shards.{home_send, home_sync}
use Rattle.store_log.specs.contracts.log_home.LogHome as Log
use Rattle.store_log.specs.contracts.log_home.LogHomeShowsLog.TheImpl as shows
use Rattle.store_board.specs.contracts.board.StoreBoard as Board

log_send : (D : RattleType) (g : Ghosts D.Denot) → IsSend D → IsSend (Log.the_row D g)
log_send D g s = search (rules, sendable, crosses) depth 40 fits 5000

log_sync : (D : RattleType) (g : Ghosts D.Denot) → IsSync D → IsSync (Log.the_row D g)
log_sync D g s = search (rules, sendable, crosses) depth 40 fits 5000

abbrev pub board_row : (D : RattleType) → Ghosts D.Denot → RattleType
board_row D g = Board.the_row Shard.the_row (Log.the_row D g) rows.ghosts (shows.ghosts D g shows.no_dict)

module _ (D : RattleType) (g : Ghosts D.Denot) where
  -- the value of a turn
  abbrev pub spot : RattleType
  spot = Home.the_row (Box.the_row Shard.the_row Global.the_row ghosts) (Box.the_row Clock.the_row Global.the_row ghosts) (Wide.the_row (Log.the_row D g))

  spot_send : IsSend D → IsSend spot
  spot_send s = turn.the_send _ _ _ (Box-send Shard.the_row home_send) (Box-send Clock.the_row clock.the_send) (wide.the_send _ (log_send D g s))

  pub pass_send : IsSend D → IsSend (Seat.the_row (Option.the_row spot) View.the_row)
  pass_send s = seat.the_send (Option.the_row spot) View.the_row (option.the_send spot (spot_send s))

  pub board_sync : IsSend D → IsSync D → IsSync (board_row D g)
  board_sync s y = board.the_sync _ _ _ _ home_send (log_send D g s) home_sync (log_sync D g y)

-- a closure may be shared where all that it has may be
pub closure_sync : (ν : List ℕ) (Ts : List RattleType) → AllSync (declared.shape (type_at ν Ts)).fields → IsSync (TupleAt ν Ts)
closure_sync ν Ts s = let T = type_at ν Ts in recorded_sync _ _ T.to T.to_one (struct_sync (declared.shape T) s)
