use Rattle.graph_wal.proofs.Crashing.{kept, settled}
use Rattle.graph_wal.proofs.wal.Wal.mend.Goals as goal

pub returns-in-Ok-clause-kept : goal.returns-in-Ok-clause-kept
returns-in-Ok-clause-kept g c = λ from base groups failed log.
    let all = c.try_mend.ensures in
    kept g.D.Disk.told g.D.Disk.moment g.D.Disk.images _ _ from base groups failed log all.keeps.tells all.keeps.later (all.stands _ _ log.stands) (all.any_moment _ _ log.stands)

pub returns-in-Err-clause-kept : goal.returns-in-Err-clause-kept
returns-in-Err-clause-kept g c = λ from base groups failed log.
    let all = c.try_mend.ensures in
    kept g.D.Disk.told g.D.Disk.moment g.D.Disk.images _ _ from base groups failed log all.keeps.tells all.keeps.later (all.stands _ _ log.stands) (all.any_moment _ _ log.stands)

pub returns-in-Ok-clause-settled : goal.returns-in-Ok-clause-settled
returns-in-Ok-clause-settled g c = λ r a stands. settled g.D.Disk.told g.D.Disk.moment g.D.Disk.images _ r a c.in-Ok.ensures.mended (c.try_mend.ensures.stands r a stands)
