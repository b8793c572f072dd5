use denote.Exit.{no}
use denote.Param.{param}
use denote.Param.Send.{IsSend, IsSync, param_send, arg_send, shr_send, sendable}
use denote.Struct.Field.{u32-field, shr_ref_field}
use mir.Syntax.{named}
use Rattle.std.proofs.Common.{ap, rules, [], ◌∷◌}
use Rattle.std.proofs.Crossing.{crosses}
use Rattle.std.specs.contracts.alloc.Global as Global
use Rattle.std.specs.contracts.option.Option as Option
use Rattle.atomic_table.specs.contracts.shared.Seat as Seat
use Rattle.turn_board.specs.contracts.view.View as View
use Rattle.turn_board.specs.Board.{known}
use Rattle.store_crossing.proofs.Crossing.{board_row, spot, pass_send, board_sync}
use Rattle.store_trial.specs.Hands.{CameBack}
use Rattle.store_trial.specs.contracts.work.Task as Task
use Rattle.store_trial.specs.contracts.tally.Tally as Tally
use Rattle.store_trial.proofs.Hands.{came_back}
use Rattle.store_trial.proofs.Crossing.{tuple_send}
use Rattle.store_trial.proofs.work.Task.TheSendSync.{the_send as task_send}
use Rattle.store_trial.proofs.tally.Tally.TheSendSync.{the_send as tally_send}
use Rattle.store_trial.proofs.crowd.«+crowd+fn-crowd-join+arg2+fn-crowd-join+arg3».Goals as goal

pub join-first-requires-send-F : goal.join-first-requires-send-F
join-first-requires-send-F g t c = λ κs w.
    let sync_rt : IsSync (param 1 g.row.R) = search (sendable, c.requires-raw) in
    let send : IsSend (param 0 g.row.D) = search sendable in
    let sync : IsSync (param 0 g.row.D) = search sendable in
    let rt = (shr_ref_field (record { mir = named 6; lft = κs.1.1.1.1.1.1.0 }) (param 1 g.row.R) tt).row in
    let board = (shr_ref_field (record { mir = named 7; lft = κs.1.1.1.1.1.1.1.0 }) (board_row (param 0 g.row.D) g.D.Disk) tt).row in
    let pass = Seat.the_row (Option.the_row (spot (param 0 g.row.D) g.D.Disk)) View.the_row in
    param_send _ _ (arg_send _ no _ (tuple_send _ (rt ∷ board ∷ Global.the_row ∷ pass ∷ u32-field.row ∷ Task.the_row ∷ []) (
      shr_send _ _ _ sync_rt,
      (
        shr_send _ _ _ (board_sync (param 0 g.row.D) g.D.Disk send sync),
        (
          (search (sendable, crosses) depth 20),
          (
            pass_send (param 0 g.row.D) g.D.Disk send,
            (
              (search sendable),
              (
                task_send,
                tt,
              ),
            ),
          ),
        ),
      ),
    )))

pub join-first-requires-send-A : goal.join-first-requires-send-A
join-first-requires-send-A g t c = λ κs w.
    let send : IsSend (param 0 g.row.D) = search sendable in
    let pass = Seat.the_row (Option.the_row (spot (param 0 g.row.D) g.D.Disk)) View.the_row in
    param_send _ _ (arg_send _ no _ (tuple_send _ (pass ∷ Tally.the_row ∷ []) (pass_send (param 0 g.row.D) g.D.Disk send, (tally_send, tt))))

pub returns-clause-back : goal.returns-clause-back
returns-clause-back g t c =
    let left : CameBack (known c.split_pass-second.new.pass) (known c.join-first.result.0.0) = search rules in
    let right : CameBack (known c.split_pass-second.result) (known c.join-first.result.1.0) = search rules in
    came_back (known c.args.pass) (known c.split_pass-second.new.pass) (known c.split_pass-second.result) (known c.join-first.result.0.0) (known c.join-first.result.1.0) (known c.join_pass.new.into)
    (ap (λ m. m.0) c.split_pass-second.ensures.left) (ap (λ m. m.0) c.split_pass-second.ensures.right) left right (ap (λ m. m.0) c.join_pass.ensures.both)
