-- What a drill leaves: it found no memory behind its opening, or its requests have run.
use denote.Param.Send.{param_send, param_sync, arg_sync, given_send, given_sync}
use Rattle.std.proofs.Common.{◌≤◌, refl, sym, subst, inl, inr, rules}
use Rattle.std.specs.Prelude.{◌⊎◌}
use Rattle.log_commands.specs.declared.status.Status.{Status}
use Rattle.run_opening.specs.Moments.{KeepsImages, KeepsRecords, IsSettledAsRead}
use Rattle.run_opening.specs.Opening.{MayBeCut, IsOpened}
use Rattle.run_opening.specs.Drill.{Undrilled}
use Rattle.disk_model.specs.Images.{GoesOn}
use Rattle.script_runs.specs.Logged.{HasGoneOn}
use Rattle.run_ending.specs.Ending.{HasNotRun, since_of}
use Rattle.run_ending.proofs.Opened.{since-now, since-entry, since-settled, since-leaves}
use Rattle.run_ending.proofs.Ran.{gone-on, gone_on}
use Rattle.drill_runs.specs.Drills.{RanDrill, DrilledAs, drill_text}
use Rattle.drill_runs.proofs.running.drill.Goals as goal

pub drill_opened-requires : goal.drill_opened-requires
drill_opened-requires g c κs within =
    let told = g.D.Disk.told in
    let moment = g.D.Disk.moment in
    let images = g.D.Disk.images in
    let d = c.open_drill.new.disk in
    let old = c.of-entry.result.value in
    let o = c.in-Ok.opened in
    let same = c.of-entry.ensures in
    let is = c.in-Ok.ensures in
    let opened = subst (λ (x : g.row.D.Denot). IsOpened told moment images x d o.records.value o.base o.durable) (sym same) is.opened in
    let later = subst (λ (x : g.row.D.Denot). moment x ≤ moment d) (sym same) c.open_drill.ensures.keeps.later in
    let leaves = since-leaves told moment images g.settled old d o.records.value o.base o.durable opened (λ is. subst (λ (x : g.row.D.Denot). IsSettledAsRead told moment images x) (sym same) (c.requires.1.1.1.1.1.1.1.1.1.1 is)) in
    (search rules, (search rules, (search rules, (search rules, (param_send 1 _ (given_send 1 _ g.row.D c.requires.1.1.1.1.0), (param_sync 1 _ (arg_sync _ _ g.row.D (given_sync 1 g.row.D c.requires.1.1.1.1.1.0)), (param_sync 2 _ (arg_sync _ _ g.row.G (given_sync 2 g.row.G c.requires.1.1.1.1.1.1.0)), (param_sync 3 _ (arg_sync _ _ g.row.R (given_sync 3 g.row.R c.requires.1.1.1.1.1.1.1.0)), (c.requires.1.1.1.1.1.1.1.1.0, (opened, (record { base_is = refl; epoch_is = refl; since = since-now told moment images g.settled old d later; leaves = leaves; no_rest = refl }, (is.numbers, (is.first, (is.second, (is.within, (is.empty, is.changes))))))))))))))))

pub returns-in-Ok-clause-ends : goal.returns-in-Ok-clause-ends
returns-in-Ok-clause-ends g c =
    let told = g.D.Disk.told in
    let moment = g.D.Disk.moment in
    let images = g.D.Disk.images in
    let faults = g.D.Disk.faults in
    let written = g.K.Sink.written in
    let sink_faults = g.K.Sink.faults in
    let old = c.args.disk in
    let was = c.of-entry.result.value in
    let same = c.of-entry.ensures in
    let d = c.open_drill.new.disk in
    let o = c.in-Ok.ensures.opened in
    let plan = c.args.plan in
    let sink = c.args.sink.now in
    let sink' = c.drill_opened.new.sink in
    let ended = c.drill_opened.result in
    let later = subst (λ (x : g.row.D.Denot). moment x ≤ moment d) (sym same) c.open_drill.ensures.keeps.later in
    let first = subst (λ (x : g.row.D.Denot). HasGoneOn told moment faults (moment x) x d) (sym same) (gone_on told moment images faults old d c.open_drill.ensures.keeps) in
    let ends = subst (λ (x : g.row.D.Denot). HasNotRun d ended.disk ended.status ended.report sink sink' ⊎ (RanDrill told moment images faults g.settled plan x ended.disk ended.report ended.status
    × DrilledAs written sink_faults sink sink' ended.status (faults x) (faults ended.disk) (drill_text ended.report))) same
    (c.drill_opened.ensures.ends g.settled (since-entry told moment images g.settled was d later) (since-settled told moment images g.settled was d) first) in
    elim ends [
      | inl unrun ↦ inl (
        record {
          why = subst (λ (s : Status). Undrilled plan.sessions s (told old) (faults old) (faults ended.disk)) (sym unrun.no_memory) tt;
          kept = record {
            records = subst (λ (x : g.row.D.Denot). KeepsRecords told moment images old x) (sym unrun.same_disk) o.kept;
            whole = λ whole. subst (λ (x : g.row.D.Denot). KeepsImages moment images old x) (sym unrun.same_disk) (o.kept_whole whole);
            untouched = λ uncut. absurd (uncut (subst MayBeCut (sym unrun.no_memory) tt));
          };
          goes_on = subst (λ (x : g.row.D.Denot). GoesOn told moment images faults old x) (sym unrun.same_disk) c.open_drill.ensures.keeps;
        },
        unrun.same_sink,
        unrun.empty,
      )
      | inr ran ↦ inr ran
    ]

pub returns-in-Ok-clause-keeps : goal.returns-in-Ok-clause-keeps
returns-in-Ok-clause-keeps g c =
    let told = g.D.Disk.told in
    let moment = g.D.Disk.moment in
    let faults = g.D.Disk.faults in
    let old = c.args.disk in
    let was = c.of-entry.result.value in
    let same = c.of-entry.ensures in
    let d = c.open_drill.new.disk in
    let later = c.open_drill.ensures.keeps.later in
    let since = subst (λ (x : g.row.D.Denot). moment x ≤ since_of g.settled (moment was) (moment d)) same
    (since-entry told moment g.D.Disk.images g.settled was d (subst (λ (x : g.row.D.Denot). moment x ≤ moment d) (sym same) later)) in
    gone-on told moment faults (moment old) (since_of g.settled (moment was) (moment d)) old d c.drill_opened.result.disk since (gone_on told moment g.D.Disk.images faults old d c.open_drill.ensures.keeps) c.drill_opened.ensures.keeps
