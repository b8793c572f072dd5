use Rattle.graph_wal.proofs.Crashing.{acknowledged, given-up}
use Rattle.graph_wal.proofs.wal.Wal.append_group.Goals as goal

pub returns-in-Ok-clause-acknowledged : goal.returns-in-Ok-clause-acknowledged
returns-in-Ok-clause-acknowledged g c = λ from base groups failed log next.
    let all = c.in-Ok.ensures in
    acknowledged g.D.Disk.told g.D.Disk.moment g.D.Disk.images _ _ from base groups failed log all.keeps.tells all.keeps.later _ _ all.moment (all.appended _ _ log.stands next) (all.any_moment _ _ log.stands next)

pub returns-in-Err-clause-given_up : goal.returns-in-Err-clause-given_up
returns-in-Err-clause-given_up g c = λ from base groups failed log next.
    let all = c.in-Err.ensures in
    given-up g.D.Disk.told g.D.Disk.moment g.D.Disk.images _ _ from base groups failed log all.keeps.tells all.keeps.later _ (all.attempted _ _ log.stands next) (all.any_moment _ _ log.stands next)
