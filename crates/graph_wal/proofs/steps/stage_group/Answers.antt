use Rattle.std.proofs.Common.{arith}
use Rattle.disk_model.proofs.GoingOn.{tells-same, GoesOn-passes, GoesOn-join}
use Rattle.graph_wal.proofs.Moments.{Since-sync}
use Rattle.graph_wal.proofs.steps.stage_group.Goals as goal

pub returns-in-Ok-sync-clause-front : goal.returns-in-Ok-sync-clause-front
returns-in-Ok-sync-clause-front g c =
    Since-sync g.D.Disk.moment g.D.Disk.images _ _ _ _ (c.in-Ok.ensures.front c.args.start (omega arith)) c.sync.ensures.moment c.sync.ensures.images

pub returns-in-Err-sync-clause-front : goal.returns-in-Err-sync-clause-front
returns-in-Err-sync-clause-front g c =
    Since-sync g.D.Disk.moment g.D.Disk.images _ _ _ _ (c.in-Ok.ensures.front c.args.start (omega arith)) c.sync.ensures.moment c.sync.ensures.images

pub returns-in-Ok-sync-clause-keeps : goal.returns-in-Ok-sync-clause-keeps
returns-in-Ok-sync-clause-keeps g c =
    GoesOn-join g.D.Disk.told g.D.Disk.moment g.D.Disk.images g.D.Disk.faults _ _ _ c.in-Ok.ensures.keeps
    (GoesOn-passes g.D.Disk.told g.D.Disk.moment g.D.Disk.images g.D.Disk.faults _ _ (tells-same _ _ c.sync.ensures.told) c.sync.ensures.moment c.sync.ensures.count)

pub returns-in-Err-sync-clause-keeps : goal.returns-in-Err-sync-clause-keeps
returns-in-Err-sync-clause-keeps g c =
    GoesOn-join g.D.Disk.told g.D.Disk.moment g.D.Disk.images g.D.Disk.faults _ _ _ c.in-Ok.ensures.keeps
    (GoesOn-passes g.D.Disk.told g.D.Disk.moment g.D.Disk.images g.D.Disk.faults _ _ (tells-same _ _ c.sync.ensures.told) c.sync.ensures.moment c.sync.ensures.count)
