use Rattle.disk_model.proofs.GoingOn.{tells-by, GoesOn-passes}
use Rattle.graph_wal.proofs.Moments.{KeepsFront-write}
use Rattle.graph_wal.proofs.pieces.put.Goals as goal

pub returns-in-Ok-clause-front : goal.returns-in-Ok-clause-front
returns-in-Ok-clause-front g c = λ n before. KeepsFront-write g.D.Disk.moment g.D.Disk.images _ _ c.args.place _ n before c.write_at.ensures.images c.write_at.ensures.moment

pub returns-in-Err-clause-front : goal.returns-in-Err-clause-front
returns-in-Err-clause-front g c = λ n before. KeepsFront-write g.D.Disk.moment g.D.Disk.images _ _ c.args.place _ n before c.write_at.ensures.images c.write_at.ensures.moment

pub returns-in-Ok-clause-keeps : goal.returns-in-Ok-clause-keeps
returns-in-Ok-clause-keeps g c = GoesOn-passes g.D.Disk.told g.D.Disk.moment g.D.Disk.images g.D.Disk.faults _ _ (tells-by _ _ _ c.in-Ok.ensures.written) c.write_at.ensures.moment c.write_at.ensures.count

pub returns-in-Err-clause-keeps : goal.returns-in-Err-clause-keeps
returns-in-Err-clause-keeps g c = GoesOn-passes g.D.Disk.told g.D.Disk.moment g.D.Disk.images g.D.Disk.faults _ _ (tells-by _ _ _ c.in-Err.ensures.torn) c.write_at.ensures.moment c.write_at.ensures.count
