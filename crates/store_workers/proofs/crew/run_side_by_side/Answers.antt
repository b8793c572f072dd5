use denote.Exit.{no}
use denote.Param.{param}
use denote.Param.Send.{param_send, param_sync, arg_send, arg_sync, shr_sync, shr_slice_sync, sendable}
use denote.Struct.Field.{u32-field, shr_ref_field, shr_slice_field}
use mir.Syntax.{named}
use Rattle.std.proofs.Common.{arith, sym, subst, [], ◌∷◌}
use Rattle.std.proofs.Crossing.{crosses}
use Rattle.std.specs.contracts.alloc.Global as Global
use Rattle.script_parts.specs.contracts.parts.ScriptParts as ScriptParts
use Rattle.script_parts.proofs.parts.ScriptParts.TheSendSync.{the_sync as script_sync}
use Rattle.store_crossing.proofs.Crossing.{board_row, pass_send, board_sync, closure_sync}
use Rattle.store_workers.specs.Crews.{MayStart}
use Rattle.store_workers.proofs.Numbering.{numbered-at}
use Rattle.store_workers.proofs.Working.{ran-at}
use Rattle.store_workers.proofs.worker.Worker.TheSendSync.{the_send as worker_send}
use Rattle.store_workers.proofs.crew.run_side_by_side.Goals as goal

pub for_each_mut-requires-send-T : goal.for_each_mut-requires-send-T
for_each_mut-requires-send-T g c = λ κs w. param_send _ _ (arg_send _ no _ (worker_send _ (pass_send (param 0 g.row.D) g.D.Disk c.type_bounds.send-D)))

pub for_each_mut-requires-sync-F : goal.for_each_mut-requires-sync-F
for_each_mut-requires-sync-F g c = λ κs w.
    let heap = (shr_ref_field (record { mir = named 6; lft = κs.1.1.1.1.1.1.0 }) Global.the_row tt).row in
    let board = (shr_ref_field (record { mir = named 7; lft = κs.1.1.1.1.1.1.1.0 }) (board_row (param 0 g.row.D) g.D.Disk) tt).row in
    let owners = (shr_slice_field (record { mir = named 8; lft = κs.1.1.1.1.1.1.1.1.0 }) u32-field.row tt).row in
    let count = (shr_ref_field (record { mir = named 9; lft = κs.1.1.1.1.1.1.1.1.1.0 }) u32-field.row tt).row in
    let gate = (shr_ref_field (record { mir = named 10; lft = κs.1.1.1.1.1.1.1.1.1.1.0 }) (param 1 g.row.G) tt).row in
    let rt = (shr_ref_field (record { mir = named 11; lft = κs.1.1.1.1.1.1.1.1.1.1.1.0 }) (param 2 g.row.R) tt).row in
    let script = (shr_ref_field (record { mir = named 12; lft = κs.1.1.1.1.1.1.1.1.1.1.1.1.0 }) ScriptParts.the_row tt).row in
    param_sync _ _ (arg_sync _ no _ (closure_sync _ (heap ∷ board ∷ owners ∷ count ∷ gate ∷ rt ∷ script ∷ []) (
      shr_sync _ _ Global.the_row (search (sendable, crosses) depth 20),
      (
        shr_sync _ _ _ (board_sync (param 0 g.row.D) g.D.Disk c.type_bounds.send-D c.type_bounds.sync-D),
        (
          shr_slice_sync _ _ u32-field.row (search sendable),
          (
            shr_sync _ _ u32-field.row (search sendable),
            (
              shr_sync _ _ _ c.type_bounds.sync-G,
              (
                shr_sync _ _ _ c.type_bounds.sync-R,
                (
                  shr_sync _ _ _ script_sync,
                  tt,
                ),
              ),
            ),
          ),
        ),
      ),
    )))

pub for_each_mut-requires-clause-accepts : goal.for_each_mut-requires-clause-accepts
for_each_mut-requires-clause-accepts g c κs within = λ i p low is. (
  let many = c.requires.count in let fits = c.ranges.count.fits in omega (arith, low, many, fits),
  subst (λ w. MayStart c.args.board.now.turns c.args.board.now.shards c.args.count c.args.script.now i w) (sym is)
      (numbered-at (MayStart c.args.board.now.turns c.args.board.now.shards c.args.count c.args.script.now) c.args.workers.now c.requires.may i p.now low),
  c.requires.within,
  c.requires.owned,
)

pub returns-clause-ran : goal.returns-clause-ran
returns-clause-ran g c = λ i d low.
    let ch = (c.for_each_mut.ensures i d low).1 in
    ran-at c.args.board.now.turns c.args.board.now.shards c.args.count c.args.script.now i _ _ ch.argument.now ch.after_call.now ch.argument_is ch.left ch.call
