-- What a run on a log that was opened leaves.
use denote.Param.Send.{param_send, param_sync, arg_sync, given_send, given_sync}
use Rattle.std.proofs.Common.{◌≤◌, [], refl, sym, subst, inr, rules}
use Rattle.graph_model.specs.Records.{IsGood}
use Rattle.graph_recover.proofs.Goodness.{base-good}
use Rattle.request_text.specs.ReplyText.{replies_text}
use Rattle.log_commands.specs.declared.status.Status.{Status}
use Rattle.run_opening.specs.Script.{ReadScript}
use Rattle.graph_legal.specs.Lines.{history}
use Rattle.script_runs.specs.Logged.{HasGoneOn, CountFaults, count_before}
use Rattle.script_runs.specs.Runs.{shared}
use Rattle.run_ending.specs.declared.ended.Report.{Report}
use Rattle.run_ending.specs.Ending.{report_of}
use Rattle.run_ending.specs.Ran.{RanAs, told_count}
use Rattle.graph_cli.specs.Running.{RanScript}
use Rattle.run_ending.proofs.Opened.{is-found}
use Rattle.run_ending.proofs.Ran.{has_ran, mending-within, counted, before-exit}
use Rattle.graph_cli.proofs.run.run_opened.Goals as goal

pub run_on_log-requires : goal.run_on_log-requires
run_on_log-requires g c κs within =
    let o = c.requires.1.1.1.1.1.1.1.1.1.1.0 in
    let good = subst IsGood (sym o.base_is) (base-good c.args.opened.records.value o.lawful) in
    let is = c.adopt-wal.ensures in
    let found = is-found g.D.Disk.told g.D.Disk.moment g.D.Disk.images c.args.entry.value c.args.disk c.adopt-wal.result c.args.opened.records.value c.args.opened.base c.args.opened.durable g.origin
    o c.requires.1.1.1.1.1.1.1.1.1.1.1.0 is.disk is.durable is.mended is.begun in
    (search rules, (search rules, (search rules, (param_send 0 _ (given_send 1 _ g.row.D c.requires.1.1.1.1.0), (param_sync 0 _ (arg_sync _ _ g.row.D (given_sync 1 g.row.D c.requires.1.1.1.1.1.0)), (param_sync 1 _ (arg_sync _ _ g.row.G (given_sync 2 g.row.G c.requires.1.1.1.1.1.1.0)), (param_sync 2 _ (arg_sync _ _ g.row.R (given_sync 3 g.row.R c.requires.1.1.1.1.1.1.1.0)), (c.requires.1.1.1.1.1.1.1.1.1.0, (c.requires.1.1.1.1.1.1.1.1.0, (good, (good.lists, (found, search rules))))))))))))

pub returns-in-Ok-clause-ends : goal.returns-in-Ok-clause-ends
returns-in-Ok-clause-ends g c = λ settled left left' read since at_entry first.
    let told = g.D.Disk.told in
    let moment = g.D.Disk.moment in
    let images = g.D.Disk.images in
    let faults = g.D.Disk.faults in
    let old = c.args.entry.value in
    let d = c.args.disk in
    let run = c.in-Ok.run' in
    let is = c.in-Ok.ensures in
    let base = c.args.opened.base in
    let end = run.closed.disk in
    let status = c.finish.result.status in
    let workers = c.args.workers in
    let script = c.args.opened.script in
    let spelled : ReadScript left left' script = read in
    let sink = c.args.sink.now in
    let sink' = c.finish.new.sink in
    let same = c.adopt-wal.ensures.disk in
    let second = subst (λ (x : g.row.D.Denot). HasGoneOn told moment faults g.origin.since x end) same is.keeps in
    let count = subst (λ (x : g.row.D.Denot). CountFaults (faults x) (faults end) run.closed.mended (history (shared script workers) run.replies)) same is.faults in
    let mended = run.closed.mended in
    let told_most = subst (λ (x : Status). count_before mended (faults end) ≤ told_count x (faults end)) (sym c.finish.ensures.status.1)
    (counted c.finish.ensures.status.0 mended (faults end) (before-exit mended (faults d) (faults end) count.mending)) in
    let here : RanScript told moment images faults settled workers old end left left' (report_of base [] run.replies run.closed) status = record {
      script = script;
      base = c.args.opened.records.value;
      read = spelled;
      setup = refl;
      ran = has_ran told moment images faults settled c.args.opened.durable old d c.args.opened.records.value base g.origin (shared script workers) [] run.replies run.closed status
          c.requires.1.1.1.1.1.1.1.1.1.1.0 c.requires.1.1.1.1.1.1.1.1.1.1.1.0 since at_entry first is.legal is.logged is.epochs count second c.finish.ensures.done told_most;
    } in
    let ran_as : RanAs status (g.K.Sink.written sink) (g.K.Sink.written sink') (g.K.Sink.faults sink) (g.K.Sink.faults sink') (faults old) (faults end) (replies_text run.replies) =
    c.finish.ensures.ran (faults old) (faults end) (mending-within run.closed.mended (faults old) (faults d) (faults end) first.count count.mending) in
    inr (
      subst (λ (x : g.row.D.Denot). RanScript told moment images faults settled workers old x left left' c.finish.result.report status) (sym c.finish.ensures.disk)
          (subst (λ (p : Report). RanScript told moment images faults settled workers old end left left' p status) (sym c.finish.ensures.report) here),
      subst (λ (x : g.row.D.Denot). RanAs status (g.K.Sink.written sink) (g.K.Sink.written sink') (g.K.Sink.faults sink) (g.K.Sink.faults sink') (faults old) (faults x) (replies_text c.finish.result.report.replies)) (sym c.finish.ensures.disk)
          (subst (λ (p : Report). RanAs status (g.K.Sink.written sink) (g.K.Sink.written sink') (g.K.Sink.faults sink) (g.K.Sink.faults sink') (faults old) (faults end) (replies_text p.replies)) (sym c.finish.ensures.report) ran_as),
    )
