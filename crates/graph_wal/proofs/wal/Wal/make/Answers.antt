use Rattle.std.proofs.Common.{[], None, lit<, lit≤}
use Rattle.graph_wal.proofs.Crashing.{made-as, begun-now, settled-as}
use Rattle.graph_wal.proofs.wal.Wal.make.Goals as goal

pub returns-in-Ok-clause-begun : goal.returns-in-Ok-clause-begun
returns-in-Ok-clause-begun g c =
    let disk = c.write_empty.new.disk in
    begun-now g.D.Disk.told g.D.Disk.moment g.D.Disk.images _ _
    (record { long = lit≤ tt; short = lit< tt; log = made-as (g.D.Disk.told disk) (g.D.Disk.images disk (g.D.Disk.moment disk)) c.in-Ok.ensures.bytes c.in-Ok.ensures.firm })

pub returns-in-Ok-clause-settled : goal.returns-in-Ok-clause-settled
returns-in-Ok-clause-settled g c =
    let disk = c.write_empty.new.disk in
    settled-as (g.D.Disk.told disk) 9 [] None (g.D.Disk.images disk (g.D.Disk.moment disk)) (made-as (g.D.Disk.told disk) (g.D.Disk.images disk (g.D.Disk.moment disk)) c.in-Ok.ensures.bytes c.in-Ok.ensures.firm)
