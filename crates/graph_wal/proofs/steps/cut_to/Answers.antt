use Rattle.disk_model.specs.Images.{CutShort}
use Rattle.disk_model.proofs.GoingOn.{tells-by, tells-same, GoesOn-passes, GoesOn-join}
use Rattle.disk_model.specs.ReadsBack.{CutShort-same}
use Rattle.graph_wal.proofs.Moments.{Since-step, Since-sync}
use Rattle.graph_wal.proofs.steps.cut_to.Goals as goal

pub returns-in-Ok-clause-torn : goal.returns-in-Ok-clause-torn
returns-in-Ok-clause-torn g c =
    Since-sync g.D.Disk.moment g.D.Disk.images _ _ _ _ (Since-step g.D.Disk.moment g.D.Disk.images _ _ (CutShort c.args.to) (CutShort-same c.args.to) c.cut.ensures.images c.cut.ensures.moment) c.sync.ensures.moment c.sync.ensures.images

pub returns-in-Err-clause-torn : goal.returns-in-Err-clause-torn
returns-in-Err-clause-torn g c = Since-step g.D.Disk.moment g.D.Disk.images _ _ (CutShort c.args.to) (CutShort-same c.args.to) c.cut.ensures.images c.cut.ensures.moment

pub returns-in-Ok-clause-keeps : goal.returns-in-Ok-clause-keeps
returns-in-Ok-clause-keeps g c =
    GoesOn-join g.D.Disk.told g.D.Disk.moment g.D.Disk.images g.D.Disk.faults _ _ _ (GoesOn-passes g.D.Disk.told g.D.Disk.moment g.D.Disk.images g.D.Disk.faults _ _ (tells-by _ _ _ c.in-Ok.ensures.cut) c.cut.ensures.moment c.cut.ensures.count)
    (GoesOn-passes g.D.Disk.told g.D.Disk.moment g.D.Disk.images g.D.Disk.faults _ _ (tells-same _ _ c.sync.ensures.told) c.sync.ensures.moment c.sync.ensures.count)

pub returns-in-Err-clause-keeps : goal.returns-in-Err-clause-keeps
returns-in-Err-clause-keeps g c = GoesOn-passes g.D.Disk.told g.D.Disk.moment g.D.Disk.images g.D.Disk.faults _ _ (tells-by _ _ _ c.in-Err.ensures.torn) c.cut.ensures.moment c.cut.ensures.count
