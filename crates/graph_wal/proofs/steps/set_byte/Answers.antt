use Rattle.disk_model.specs.Images.{Torn}
use Rattle.disk_model.proofs.GoingOn.{tells-by, tells-same, GoesOn-passes, GoesOn-join}
use Rattle.disk_model.specs.ReadsBack.{Torn-same}
use Rattle.graph_wal.proofs.Moments.{Since-step, Since-sync}
use Rattle.graph_wal.proofs.steps.set_byte.Goals as goal

pub returns-in-Ok-clause-torn : goal.returns-in-Ok-clause-torn
returns-in-Ok-clause-torn g c =
    Since-sync g.D.Disk.moment g.D.Disk.images _ _ _ _ (Since-step g.D.Disk.moment g.D.Disk.images _ _ (Torn c.args.place 1) (Torn-same c.args.place 1) c.write_at.ensures.images c.write_at.ensures.moment) c.sync.ensures.moment c.sync.ensures.images

pub returns-in-Err-clause-torn : goal.returns-in-Err-clause-torn
returns-in-Err-clause-torn g c = Since-step g.D.Disk.moment g.D.Disk.images _ _ (Torn c.args.place 1) (Torn-same c.args.place 1) c.write_at.ensures.images c.write_at.ensures.moment

pub returns-in-Ok-clause-keeps : goal.returns-in-Ok-clause-keeps
returns-in-Ok-clause-keeps g c =
    GoesOn-join g.D.Disk.told g.D.Disk.moment g.D.Disk.images g.D.Disk.faults _ _ _ (GoesOn-passes g.D.Disk.told g.D.Disk.moment g.D.Disk.images g.D.Disk.faults _ _ (tells-by _ _ _ c.in-Ok.ensures.written) c.write_at.ensures.moment c.write_at.ensures.count)
    (GoesOn-passes g.D.Disk.told g.D.Disk.moment g.D.Disk.images g.D.Disk.faults _ _ (tells-same _ _ c.sync.ensures.told) c.sync.ensures.moment c.sync.ensures.count)

pub returns-in-Err-clause-keeps : goal.returns-in-Err-clause-keeps
returns-in-Err-clause-keeps g c = GoesOn-passes g.D.Disk.told g.D.Disk.moment g.D.Disk.images g.D.Disk.faults _ _ (tells-by _ _ _ c.in-Err.ensures.torn) c.write_at.ensures.moment c.write_at.ensures.count
