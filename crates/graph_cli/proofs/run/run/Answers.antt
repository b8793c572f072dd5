-- What a run leaves: it found no memory behind its opening, or its requests have run.
use denote.Param.Send.{param_send, param_sync, arg_sync, given_send, given_sync}
use Rattle.std.proofs.Common.{◌≤◌, refl, sym, subst, inl, inr, rules}
use Rattle.std.specs.Prelude.{◌⊎◌}
use Rattle.request_text.specs.ReplyText.{replies_text}
use Rattle.log_commands.specs.declared.status.Status.{Status}
use Rattle.run_opening.specs.Moments.{KeepsImages, KeepsRecords, IsSettledAsRead}
use Rattle.run_opening.specs.Opening.{Unrun, MayBeCut, IsOpened}
use Rattle.disk_model.specs.Images.{GoesOn}
use Rattle.script_runs.specs.Logged.{HasGoneOn}
use Rattle.run_ending.specs.Ending.{HasNotRun, since_of}
use Rattle.run_ending.specs.Ran.{RanAs}
use Rattle.graph_cli.specs.Running.{RanScript}
use Rattle.run_ending.proofs.Opened.{since-now, since-entry, since-settled, since-leaves}
use Rattle.run_ending.proofs.Ran.{gone-on, gone_on}
use Rattle.graph_cli.proofs.run.run.Goals as goal

pub run_opened-requires : goal.run_opened-requires
run_opened-requires g c κs within =
    let told = g.D.Disk.told in
    let moment = g.D.Disk.moment in
    let images = g.D.Disk.images in
    let d = c.open_run.new.disk in
    let old = c.of-entry.result.value in
    let o = c.in-Ok.opened in
    let same = c.of-entry.ensures in
    let opened = subst (λ (x : g.row.D.Denot). IsOpened told moment images x d o.records.value o.base o.durable) (sym same) c.in-Ok.ensures.opened in
    let later = subst (λ (x : g.row.D.Denot). moment x ≤ moment d) (sym same) c.open_run.ensures.keeps.later in
    let leaves = since-leaves told moment images g.settled old d o.records.value o.base o.durable opened (λ is. subst (λ (x : g.row.D.Denot). IsSettledAsRead told moment images x) (sym same) (c.requires.1.1.1.1.1.1.1.1.1.1.1 is)) in (
      search rules,
      (
        search rules,
        (
          search rules,
          (
            search rules,
            (
              param_send 1 _ (given_send 2 _ g.row.D c.requires.1.1.1.1.1.0),
              (
                param_sync 1 _ (arg_sync _ _ g.row.D (given_sync 2 g.row.D c.requires.1.1.1.1.1.1.0)),
                (
                  param_sync 2 _ (arg_sync _ _ g.row.G (given_sync 3 g.row.G c.requires.1.1.1.1.1.1.1.0)),
                  (
                    param_sync 3 _ (arg_sync _ _ g.row.R (given_sync 4 g.row.R c.requires.1.1.1.1.1.1.1.1.0)),
                    (
                      c.requires.1.1.1.1.1.1.1.1.1.0,
                      (
                        c.requires.1.1.1.1.1.1.1.1.1.1.0,
                        (
                          opened,
                          (
                            record { base_is = refl; epoch_is = refl; since = since-now told moment images g.settled old d later; leaves = leaves; no_rest = refl },
                            (c.in-Ok.ensures.within, c.in-Ok.ensures.empty),
                          ),
                        ),
                      ),
                    ),
                  ),
                ),
              ),
            ),
          ),
        ),
      ),
    )

pub returns-in-Ok-clause-ends : goal.returns-in-Ok-clause-ends
returns-in-Ok-clause-ends g c =
    let told = g.D.Disk.told in
    let moment = g.D.Disk.moment in
    let images = g.D.Disk.images in
    let faults = g.D.Disk.faults in
    let old = c.args.disk in
    let was = c.of-entry.result.value in
    let same = c.of-entry.ensures in
    let d = c.open_run.new.disk in
    let o = c.in-Ok.ensures.opened in
    let left = g.S.Source.left c.args.source.now in
    let left' = g.S.Source.left c.open_run.new.source in
    let sink = c.args.sink.now in
    let sink' = c.run_opened.new.sink in
    let ended = c.run_opened.result in
    let later = subst (λ (x : g.row.D.Denot). moment x ≤ moment d) (sym same) c.open_run.ensures.keeps.later in
    let first = subst (λ (x : g.row.D.Denot). HasGoneOn told moment faults (moment x) x d) (sym same) (gone_on told moment images faults old d c.open_run.ensures.keeps) in
    let ends = subst (λ (x : g.row.D.Denot). HasNotRun d ended.disk ended.status ended.report sink sink' ⊎ (RanScript told moment images faults g.settled c.args.workers x ended.disk left left' ended.report ended.status
    × RanAs ended.status (g.K.Sink.written sink) (g.K.Sink.written sink') (g.K.Sink.faults sink) (g.K.Sink.faults sink') (faults x) (faults ended.disk) (replies_text ended.report.replies))) same
    (c.run_opened.ensures.ends g.settled left left' c.in-Ok.ensures.read (since-entry told moment images g.settled was d later) (since-settled told moment images g.settled was d) first) in
    elim ends [
      | inl unrun ↦ inl (
        record {
          why = subst (λ (s : Status). Unrun s left left' (g.S.Source.faults c.args.source.now) (g.S.Source.faults c.open_run.new.source) (told old) (faults old) (faults ended.disk)) (sym unrun.no_memory) tt;
          kept = record {
            records = subst (λ (x : g.row.D.Denot). KeepsRecords told moment images old x) (sym unrun.same_disk) o.kept;
            whole = λ whole. subst (λ (x : g.row.D.Denot). KeepsImages moment images old x) (sym unrun.same_disk) (o.kept_whole whole);
            untouched = λ uncut. absurd (uncut (subst MayBeCut (sym unrun.no_memory) tt));
          };
          goes_on = subst (λ (x : g.row.D.Denot). GoesOn told moment images faults old x) (sym unrun.same_disk) c.open_run.ensures.keeps;
        },
        unrun.same_sink,
        unrun.empty,
      )
      | inr ran ↦ inr ran
    ]

pub returns-in-Ok-clause-keeps : goal.returns-in-Ok-clause-keeps
returns-in-Ok-clause-keeps g c =
    let told = g.D.Disk.told in
    let moment = g.D.Disk.moment in
    let faults = g.D.Disk.faults in
    let old = c.args.disk in
    let was = c.of-entry.result.value in
    let same = c.of-entry.ensures in
    let d = c.open_run.new.disk in
    let later = c.open_run.ensures.keeps.later in
    let since = subst (λ (x : g.row.D.Denot). moment x ≤ since_of g.settled (moment was) (moment d)) same
    (since-entry told moment g.D.Disk.images g.settled was d (subst (λ (x : g.row.D.Denot). moment x ≤ moment d) (sym same) later)) in
    gone-on told moment faults (moment old) (since_of g.settled (moment was) (moment d)) old d c.run_opened.result.disk since (gone_on told moment g.D.Disk.images faults old d c.open_run.ensures.keeps) c.run_opened.ensures.keeps
