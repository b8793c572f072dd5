use Rattle.std.proofs.Common.{[], true}
use Rattle.group_commit.specs.Members.{records_at}
use Rattle.store_log.proofs.Durables.{opened-durable, grouped-durable, faulted-durable, mended-durable, may-behind}
use Rattle.store_log.proofs.story.a_failed_group_is_replaced.Goals as goal

pub append-requires-2-clause-lawful : goal.append-requires-2-clause-lawful
append-requires-2-clause-lawful g c =
    let disk = c.in-Ok.wal.disk in
    let d0 = opened-durable c.opened-home.result.log 0 (g.D.Disk.faults disk) (record { since = g.D.Disk.moment disk; no_rest = true }) (g.D.Disk.told disk) c.opened-home.ensures.log in
    let d1 = grouped-durable c.opened-home.result.log c.append.new.self.log 0 c.in-Ok-append.field-0 [] c.args.first.now d0 c.in-Ok-append.ensures.appended in
    may-behind c.append.new.self.log 1 (records_at 1 c.args.first.now) c.args.failing.now d1 c.requires.failing

pub append-requires-3-clause-lawful : goal.append-requires-3-clause-lawful
append-requires-3-clause-lawful g c =
    let disk = c.in-Ok.wal.disk in let h1 = records_at 1 c.args.first.now in
    let d0 = opened-durable c.opened-home.result.log 0 (g.D.Disk.faults disk) (record { since = g.D.Disk.moment disk; no_rest = true }) (g.D.Disk.told disk) c.opened-home.ensures.log in
    let d1 = grouped-durable c.opened-home.result.log c.append.new.self.log 0 c.in-Ok-append.field-0 [] c.args.first.now d0 c.in-Ok-append.ensures.appended in
    let d2 = faulted-durable c.append.new.self.log c.append-2.new.self.log 1 c.in-Err-append-2.field-0.after h1 _ d1 c.in-Err-append-2.ensures.failed in
    let d3 = mended-durable c.append-2.new.self.log c.mend.new.self.log 1 h1 d2 c.in-Ok-mend.ensures.mended in
    may-behind c.mend.new.self.log 1 h1 c.args.last.now d3 c.requires.last
