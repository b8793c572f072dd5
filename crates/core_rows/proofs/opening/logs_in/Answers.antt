-- The labels rise, so that each log stands last when it is made.
use Rattle.std.proofs.Common.{◌≡◌, ◌∙◌, true, get_or, ap}
use Rattle.std.proofs.lemmas.List.{take_all}
use Rattle.graph_model.specs.Graph.{vertex_at, pairs_in}
use Rattle.graph_model.specs.Whole.{rise}
use Rattle.core_rows.specs.Rows.{with_log}
use Rattle.core_rows.specs.LogMap.{logs_of}
use Rattle.core_rows.specs.Openings.{lists_in, opened_log}
use Rattle.core_rows.proofs.LogLists.{logs-insert}
use Rattle.core_rows.proofs.OpenedLogs.{labelled_logs, labelled-more, labelled-all, labels-rise}
use Rattle.core_rows.proofs.opening.logs_in.Goals as goal

pub loop-label-preserved : goal.loop-label-preserved
loop-label-preserved c =
    let lists = lists_in (vertex_at c.args.v c.args.graph.now) in
    let labels = c.as_slice-label-items.result.now in
    let up : rise labels ≡ true = ap rise (c.as_slice-label-items.ensures ∙ c.in_ok-labels.ensures) ∙ labels-rise c.args.v c.args.graph.now c.requires in
    let l = get_or labels c.loop-label.label-index 0 in
    let made = c.in_ok-log.ensures ∙ ap (opened_log c.args.epoch) c.in_ok-pairs.ensures in
    ap logs_of c.in_ok-insert.ensures.entries ∙ logs-insert c.loop-label.logs.entries l c.in_ok-log.log
    ∙ ap (λ log. with_log (record { label = l; log = log }) (logs_of c.loop-label.logs.entries)) made
    ∙ ap (with_log (record { label = l; log = opened_log c.args.epoch (pairs_in lists l) })) c.loop-label.invariant
    ∙ labelled-more c.args.epoch lists labels c.loop-label.label-index 0 up c.loop-label-test.true

pub returns : goal.returns
returns c =
    let lists = lists_in (vertex_at c.args.v c.args.graph.now) in
    let labels = c.as_slice-label-items.ensures ∙ c.in_ok-labels.ensures in
    c.loop-label.invariant
    ∙ ap (labelled_logs c.args.epoch lists) (take_all c.loop-label.label-index c.as_slice-label-items.result.now c.loop-label-test.false ∙ labels)
    ∙ labelled-all c.args.epoch lists (labels-rise c.args.v c.args.graph.now c.requires)
