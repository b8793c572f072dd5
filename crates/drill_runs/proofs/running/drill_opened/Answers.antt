-- What a drill on a log that was opened leaves.
use denote.Param.Send.{param_send, param_sync, arg_sync, given_send, given_sync}
use Rattle.std.proofs.Common.{◌≡◌, ℕ, ◌+◌, ◌≤◌, ◌^◌, List, ◌++◌, sym, ap, ◌∙◌, subst, inr, rules}
use Rattle.graph_model.specs.declared.graph.Base.{Base}
use Rattle.graph_model.specs.Records.{IsGood}
use Rattle.graph_recover.specs.Bases.{base_of}
use Rattle.graph_recover.proofs.Goodness.{base-good}
use Rattle.request_text.specs.declared.request.Line.{Line}
use Rattle.graph_legal.specs.Lines.{Phase, history}
use Rattle.graph_legal.specs.Legal.{Legal}
use Rattle.graph_drill.specs.Scripts.{first_script, second_script}
use Rattle.script_runs.specs.Logged.{HasGoneOn, CountFaults, IsInLog}
use Rattle.script_runs.specs.Runs.{shared_behind}
use Rattle.run_ending.specs.declared.ended.Report.{Report}
use Rattle.run_ending.specs.Ending.{report_of}
use Rattle.run_ending.proofs.Opened.{is-found}
use Rattle.run_ending.proofs.Ran.{has_ran, mending-within, before-exit}
use Rattle.drill_runs.specs.Drills.{drilled, RanDrill, DrilledAs, drill_text}
use Rattle.drill_runs.proofs.Edges.{base_edges}
use Rattle.drill_runs.proofs.running.drill_opened.Goals as goal

pub run_both_on_log-requires : goal.run_both_on_log-requires
run_both_on_log-requires g c κs within =
    let o = c.requires.1.1.1.1.1.1.1.1.1.0 in
    let origin = c.requires.1.1.1.1.1.1.1.1.1.1.0 in
    let good = subst IsGood (sym o.base_is) (base-good c.args.opened.records.value o.lawful) in
    let is = c.adopt-wal.ensures in
    let limits = c.requires.1.1.1.1.1.1.1.1.1.1.1.1.1.1.0 in
    let found = is-found g.D.Disk.told g.D.Disk.moment g.D.Disk.images c.args.entry.value c.args.disk c.adopt-wal.result c.args.opened.records.value c.args.opened.base c.args.opened.durable g.origin o origin is.disk is.durable is.mended is.begun in
    (search rules, (search rules, (search rules, (param_send 0 _ (given_send 1 _ g.row.D c.requires.1.1.1.1.0), (param_sync 0 _ (arg_sync _ _ g.row.D (given_sync 1 g.row.D c.requires.1.1.1.1.1.0)), (param_sync 1 _ (arg_sync _ _ g.row.G (given_sync 2 g.row.G c.requires.1.1.1.1.1.1.0)), (param_sync 2 _ (arg_sync _ _ g.row.R (given_sync 3 g.row.R c.requires.1.1.1.1.1.1.1.0)), (search rules, (c.requires.1.1.1.1.1.1.1.1.0, (good, (good.lists, (found, (limits.0, limits.1)))))))))))))

pub finish-requires-clause-few : goal.finish-requires-clause-few
finish-requires-clause-few g c =
    let o = c.requires.1.1.1.1.1.1.1.1.1.0 in
    base_edges c.args.opened.records.value c.args.opened.base o.base_is c.requires.1.1.1.1.1.1.1.1.1.1.1.1.1.1.1.1

pub returns-in-Ok-clause-ends : goal.returns-in-Ok-clause-ends
returns-in-Ok-clause-ends g c = λ settled since at_entry before.
    let told = g.D.Disk.told in
    let moment = g.D.Disk.moment in
    let images = g.D.Disk.images in
    let faults = g.D.Disk.faults in
    let written = g.K.Sink.written in
    let sink_faults = g.K.Sink.faults in
    let old = c.args.entry.value in
    let d = c.args.disk in
    let run = c.in-Ok.run' in
    let is = c.in-Ok.ensures in
    let plan = c.args.plan in
    let opened = c.args.opened in
    let records = opened.records.value in
    let base = opened.base in
    let end = run.closed.disk in
    let status = c.finish.result.status in
    let o = c.requires.1.1.1.1.1.1.1.1.1.0 in
    let origin = c.requires.1.1.1.1.1.1.1.1.1.1.0 in
    let numbers = c.requires.1.1.1.1.1.1.1.1.1.1.1.0 in
    let first_is : opened.first ≡ first_script plan.sessions = c.requires.1.1.1.1.1.1.1.1.1.1.1.1.0 in
    let second_is : opened.second ≡ second_script plan.seed base.next_vertex plan.sessions plan.rounds = c.requires.1.1.1.1.1.1.1.1.1.1.1.1.1.0 in
    let next : base.next_vertex ≡ (base_of records).next_vertex = ap (λ (b : Base). b.next_vertex) o.base_is in
    let phases : shared_behind opened.first opened.second plan.workers ≡ drilled plan (base_of records).next_vertex =
    ap (λ (ls : List Line). shared_behind ls opened.second plan.workers) first_is
    ∙ (ap (λ (ls : List Line). shared_behind (first_script plan.sessions) ls plan.workers) second_is ∙ ap (λ (n : ℕ). drilled plan n) next) in
    let all = run.first ++ run.second in
    let legal = subst (λ (ps : List Phase). Legal ps base run.closed.records all) phases is.legal in
    let logged = subst (λ (ps : List Phase). IsInLog told moment images g.origin base.epoch (history ps all) run.closed) phases is.logged in
    let same = c.adopt-wal.ensures.disk in
    let second = subst (λ (x : g.row.D.Denot). HasGoneOn told moment faults g.origin.since x end) same is.keeps in
    let count = subst (λ (ps : List Phase). CountFaults (faults d) (faults end) run.closed.mended (history ps all)) phases
    (subst (λ (x : g.row.D.Denot). CountFaults (faults x) (faults end) run.closed.mended (history (shared_behind opened.first opened.second plan.workers) all)) same is.faults) in
    let told_most = c.finish.ensures.told (faults end) (before-exit run.closed.mended (faults d) (faults end) count.mending) in
    let here : RanDrill told moment images faults settled plan old end (report_of base run.first run.second run.closed) status = record {
      base = records;
      numbers = subst (λ (n : ℕ). n + plan.sessions ≤ 2 ^ 62) next numbers;
      ran = has_ran told moment images faults settled opened.durable old d records base g.origin (drilled plan (base_of records).next_vertex) run.first run.second run.closed status
          o origin since at_entry before legal logged is.epochs count second c.finish.ensures.done told_most;
    } in
    let drilled_as : DrilledAs written sink_faults c.args.sink.now c.finish.new.sink status (faults old) (faults end) (drill_text (report_of base run.first run.second run.closed)) =
    c.finish.ensures.drilled (faults old) (faults end) (mending-within run.closed.mended (faults old) (faults d) (faults end) before.count count.mending) in
    inr (
      subst (λ (x : g.row.D.Denot). RanDrill told moment images faults settled plan old x c.finish.result.report status) (sym c.finish.ensures.disk)
          (subst (λ (p : Report). RanDrill told moment images faults settled plan old end p status) (sym c.finish.ensures.report) here),
      subst (λ (x : g.row.D.Denot). DrilledAs written sink_faults c.args.sink.now c.finish.new.sink status (faults old) (faults x) (drill_text c.finish.result.report)) (sym c.finish.ensures.disk)
          (subst (λ (p : Report). DrilledAs written sink_faults c.args.sink.now c.finish.new.sink status (faults old) (faults end) (drill_text p)) (sym c.finish.ensures.report) drilled_as),
    )
