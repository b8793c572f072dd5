-- What a cut leaves, of the log that was firm.
use Rattle.run_opening.proofs.Moments.{firm-recovers, firm-both, firm-cut}
use Rattle.run_opening.proofs.log.cut_log.Goals as goal

pub returns-in-Ok-clause-firm : goal.returns-in-Ok-clause-firm
returns-in-Ok-clause-firm g c =
    let old = c.args.disk.now in
    let new = c.cut_rest.new.disk in
    let log = c.args.log.now in
    firm-cut (g.D.Disk.told new) (g.D.Disk.images new (g.D.Disk.moment new)) log.records log.durable c.in-Ok.ensures.firm
    (c.in-Ok.ensures.log log.records (firm-recovers (g.D.Disk.told old) (g.D.Disk.images old (g.D.Disk.moment old)) log.records log.durable log.length c.requires.firm))

pub returns-in-Ok-clause-any_moment : goal.returns-in-Ok-clause-any_moment
returns-in-Ok-clause-any_moment g c = λ from each.
    let old = c.args.disk.now in
    let log = c.args.log.now in
    c.cut_rest.ensures.any_moment log.records from (firm-both (g.D.Disk.told old) (g.D.Disk.images old (g.D.Disk.moment old)) log.records log.durable log.length c.requires.firm) each

pub returns-in-Err-clause-any_moment : goal.returns-in-Err-clause-any_moment
returns-in-Err-clause-any_moment g c = λ from each.
    let old = c.args.disk.now in
    let log = c.args.log.now in
    c.cut_rest.ensures.any_moment log.records from (firm-both (g.D.Disk.told old) (g.D.Disk.images old (g.D.Disk.moment old)) log.records log.durable log.length c.requires.firm) each
