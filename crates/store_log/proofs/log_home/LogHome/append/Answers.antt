use Rattle.std.proofs.Common.{◌+◌, ap, arith, refl}
use Rattle.group_commit.specs.Members.{records_at}
use Rattle.store_log.specs.LogValues.{is_mended}
use Rattle.store_log.proofs.Keeping.{may_append_here, last-noted, kept-durable, kept-tried, epochs-more, epochs-tried, told-on}
use Rattle.store_log.proofs.log_home.LogHome.append.Goals as goal

pub append_group-requires-clause-ready : goal.append_group-requires-clause-ready
append_group-requires-clause-ready g c =
    let a = c.self.inside in let inv = c.self.invariant in
    (_, _, inv.appended.stands, may_append_here g.D.Disk.told a _ c.args.group.now c.self.view_is inv.epoch c.requires.lawful)

pub invariant_of-self : goal.invariant_of-self
invariant_of-self g c =
    let a = c.self.inside in let inv = c.self.invariant in let all = c.in-Ok.ensures in
    let may = may_append_here g.D.Disk.told a _ c.args.group.now c.self.view_is inv.epoch c.requires.lawful in
    kept-durable g.D.Disk.told g.D.Disk.moment g.D.Disk.images g.D.Disk.faults a _ (records_at (a.durable + 1) c.args.group.now) inv c.note_durable.ensures
    (all.acknowledged _ _ _ _ inv.appended may) (last-noted (a.durable + 1) c.in-Ok.moment a.notes.value c.args.group.now c.requires.members)
    (epochs-more a.durable c.in-Ok.moment a.notes.value c.args.group.now c.requires.members inv.epochs) all.moment all.mended
    (λ whole. all.no_rest (λ mended. inv.no_rest whole (ap is_mended mended))) (omega (arith, inv.counted, all.keeps.count)) all.keeps.later

pub invariant_of-self-in-Err : goal.invariant_of-self-in-Err
invariant_of-self-in-Err g c =
    let a = c.self.inside in let inv = c.self.invariant in let all = c.in-Err.ensures in
    let may = may_append_here g.D.Disk.told a _ c.args.group.now c.self.view_is inv.epoch c.requires.lawful in
    kept-tried g.D.Disk.told g.D.Disk.moment g.D.Disk.images g.D.Disk.faults a _ (records_at (a.durable + 1) c.args.group.now) inv c.note_tried.ensures
    (all.given_up _ _ _ _ inv.appended may) (told-on _ _ _ all.keeps.tells inv.epoch)
    (epochs-tried a.durable a.notes.value c.args.group.now inv.epochs) refl (omega (arith, inv.in_time, all.keeps.later)) all.not_mended
    (omega (arith, all.disk_fault.after_is)) all.keeps.later
