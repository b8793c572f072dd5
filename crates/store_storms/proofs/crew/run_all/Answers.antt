use denote.Exit.{no}
use denote.Param.{param}
use denote.Param.Send.{param_send, param_sync, arg_send, arg_sync, shr_sync, sendable}
use denote.Struct.Field.{u32-field, u64-field, usize-field, shr_ref_field}
use mir.Syntax.{named}
use Rattle.std.proofs.Common.{arith, length, sym, subst, [], ◌∷◌}
use Rattle.std.proofs.Crossing.{crosses}
use Rattle.std.specs.contracts.alloc.Global as Global
use Rattle.store_crossing.proofs.Crossing.{board_row, pass_send, board_sync, closure_sync}
use Rattle.store_storms.specs.Putters.{IsAtStorm}
use Rattle.store_storms.proofs.Storms.{ran_at}
use Rattle.store_storms.proofs.putter.Putter.TheSendSync.{the_send as putter_send}
use Rattle.store_storms.proofs.crew.run_all.Goals as goal

pub for_each_mut-requires-send-T : goal.for_each_mut-requires-send-T
for_each_mut-requires-send-T g c = λ κs w. param_send _ _ (arg_send _ no _ (putter_send _ (pass_send (param 0 g.row.D) g.D.Disk c.type_bounds.send-D)))

pub for_each_mut-requires-sync-F : goal.for_each_mut-requires-sync-F
for_each_mut-requires-sync-F g c = λ κs w.
    let vertex = (shr_ref_field (record { mir = named 6; lft = κs.1.1.1.1.1.1.0 }) u64-field.row tt).row in
    let threads = (shr_ref_field (record { mir = named 7; lft = κs.1.1.1.1.1.1.1.0 }) usize-field.row tt).row in
    let each = (shr_ref_field (record { mir = named 8; lft = κs.1.1.1.1.1.1.1.1.0 }) u32-field.row tt).row in
    let rt = (shr_ref_field (record { mir = named 9; lft = κs.1.1.1.1.1.1.1.1.1.0 }) (param 1 g.row.R) tt).row in
    let heap = (shr_ref_field (record { mir = named 10; lft = κs.1.1.1.1.1.1.1.1.1.1.0 }) Global.the_row tt).row in
    let board = (shr_ref_field (record { mir = named 11; lft = κs.1.1.1.1.1.1.1.1.1.1.1.0 }) (board_row (param 0 g.row.D) g.D.Disk) tt).row in
    param_sync _ _ (arg_sync _ no _ (closure_sync _ (vertex ∷ threads ∷ each ∷ rt ∷ heap ∷ board ∷ []) (
      shr_sync _ _ u64-field.row (search sendable),
      (
        shr_sync _ _ usize-field.row (search sendable),
        (
          shr_sync _ _ u32-field.row (search sendable),
          (
            shr_sync _ _ _ c.type_bounds.sync-R,
            (
              shr_sync _ _ Global.the_row (search (sendable, crosses) depth 20),
              (
                shr_sync _ _ _ (board_sync (param 0 g.row.D) g.D.Disk c.type_bounds.send-D c.type_bounds.sync-D),
                tt,
              ),
            ),
          ),
        ),
      ),
    )))

pub for_each_mut-requires-clause-accepts : goal.for_each_mut-requires-clause-accepts
for_each_mut-requires-clause-accepts g c κs within = λ i p low is.
    let b = c.args.board.now in
    let few = c.requires.few in (
      omega (arith, low, few),
      few,
      subst (λ w. IsAtStorm b.turns b.shards w) (sym is) (c.requires.at i p.now low),
    )

pub returns-clause-ran : goal.returns-clause-ran
returns-clause-ran g c = λ i d low.
    let b = c.args.board.now in
    let ch = (c.for_each_mut.ensures i d low).1 in
    ran_at b.turns b.shards _ _ ch.argument.now ch.after_call.now ch.argument_is ch.left ch.call
