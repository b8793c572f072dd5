use Rattle.graph_wal.proofs.Crashing.{adopted-as, begun}
use Rattle.graph_wal.proofs.wal.Wal.adopt.Goals as goal

pub returns-clause-begun : goal.returns-clause-begun
returns-clause-begun g c = λ r from recovers each.
    let disk = c.args.disk in
    begun g.D.Disk.told g.D.Disk.moment g.D.Disk.images _ from r
    (record {
      long = c.requires.long;
      short = c.requires.short;
      log = adopted-as (g.D.Disk.told disk) c.args.durable r (g.D.Disk.images disk (g.D.Disk.moment disk)) c.requires.log recovers;
    })
    each
