-- What the opening of a run leaves.
use Rattle.std.proofs.Common.{◌≡◌, List, subst, arith, sym}
use Rattle.disk_model.specs.Images.{EachImage}
use Rattle.graph_wal.specs.Log.{RecoversTo}
use Rattle.graph_model.specs.declared.record.Record.{Record}
use Rattle.run_opening.specs.Moments.{KeepsImages}
use Rattle.run_opening.specs.Opening.{IsOpened}
use Rattle.run_opening.proofs.Moments.{whole-uncut, told-two, kept-uncut, cut-records, firm-log, log-was}
use Rattle.run_opening.proofs.Refusals.{unread-unrun}
use Rattle.run_opening.proofs.opening.open_run.Goals as goal

pub returns-in-Err-clause-refused : goal.returns-in-Err-clause-refused
returns-in-Err-clause-refused g c =
    let log = c.in_ok-log in
    unread-unrun c.in-Err.status _ _ _ _ _ _ _ c.in-Err.ensures.unread
    (log.log.records, log.log.durable, log.log.length, record { lawful = log.ensures.lawful; within = log.ensures.durable.1; bytes = log.ensures.recovered })

pub returns-in-Err-clause-kept : goal.returns-in-Err-clause-kept
returns-in-Err-clause-kept g c =
    kept-uncut g.D.Disk.told g.D.Disk.moment g.D.Disk.images c.args.disk.now c.open_log.new.disk _ c.open_log.ensures.told c.open_log.ensures.images

pub returns-in_default-clause-kept : goal.returns-in_default-clause-kept
returns-in_default-clause-kept g c =
    kept-uncut g.D.Disk.told g.D.Disk.moment g.D.Disk.images c.args.disk.now c.open_log.new.disk _ c.open_log.ensures.told c.open_log.ensures.images

pub returns-in-Ok-cut_log-clause-opened : goal.returns-in-Ok-cut_log-clause-opened
returns-in-Ok-cut_log-clause-opened g c =
    let old = c.args.disk.now in
    let mid = c.open_log.new.disk in
    let new = c.cut_log.new.disk in
    let log = c.in_ok-log.log in
    let is = c.in_ok-log.ensures in
    let told = g.D.Disk.told in
    let moment = g.D.Disk.moment in
    let images = g.D.Disk.images in
    let opened : IsOpened told moment images old new log.records log.base log.durable = record {
      lawful = is.lawful;
      base_is = is.base;
      long = is.durable.0;
      short = omega (arith, is.durable);
      was = log-was (told old) log.records log.durable log.length is.recovered;
      firm = c.in-Ok-cut_log.ensures.firm;
      kept = cut-records told moment images old mid new log.records log.durable log.length c.open_log.ensures.told (g.met.D.Disk.reads_back old) c.open_log.ensures.images
          (firm-log (told old) (told mid) (images mid (moment mid)) log.records log.durable log.length c.open_log.ensures.told is.firm is.recovered)
          c.cut_log.ensures.any_moment c.cut_log.ensures.keeps.no_more;
      kept_whole = λ whole.
          let same = c.cut_log.ensures.uncut (whole-uncut (told old) log.records log.durable log.length is.recovered whole) in
          subst (λ d. KeepsImages moment images old d) (sym same) c.open_log.ensures.images;
      settled = λ settled. told-two (told old) (told mid) (told new) (EachImage moment images mid (moment old) (λ _ b. RecoversTo log.records b)) (EachImage moment images new (moment old) (λ _ b. RecoversTo log.records b))
          c.open_log.ensures.told c.cut_log.ensures.keeps.tells (is.settled settled) (c.cut_log.ensures.any_moment (moment old));
    } in
    subst (λ (rs : List Record). IsOpened told moment images old new rs log.base log.durable) (sym c.of-records.ensures) opened

pub returns-in-Err-cut_log-clause-kept : goal.returns-in-Err-cut_log-clause-kept
returns-in-Err-cut_log-clause-kept g c =
    let old = c.args.disk.now in
    let mid = c.open_log.new.disk in
    let new = c.cut_log.new.disk in
    let log = c.in_ok-log.log in
    let is = c.in_ok-log.ensures in
    let told = g.D.Disk.told in
    let moment = g.D.Disk.moment in
    let images = g.D.Disk.images in
    let refused = c.in-Err-cut_log.ensures.refused in
    record {
      records = cut-records told moment images old mid new log.records log.durable log.length c.open_log.ensures.told (g.met.D.Disk.reads_back old) c.open_log.ensures.images
          (firm-log (told old) (told mid) (images mid (moment mid)) log.records log.durable log.length c.open_log.ensures.told is.firm is.recovered)
          c.cut_log.ensures.any_moment c.cut_log.ensures.keeps.no_more;
      whole = λ whole.
          let uncut : log.length ≡ log.durable = whole-uncut (told old) log.records log.durable log.length is.recovered whole in
          absurd (omega (arith, uncut, c.in-Err-cut_log.ensures.longer));
      untouched = λ uncut. absurd (uncut (rw refused tt));
    }
