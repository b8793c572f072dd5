-- The labels are those of the logs that show an edge.
use Rattle.std.proofs.Common.{◌∙◌, ◌++◌, ◌∷◌, [], List, ℕ, map, sym, ap, append-nil, append_assoc}
use Rattle.stamps.specs.Stamps.{Txn}
use Rattle.graph_model.specs.declared.query.Answer.TheVariants.{Named}
use Rattle.edge_log.specs.Contents.{LogContent}
use Rattle.core_rows.specs.Rows.{LabelLog, shown_lists}
use Rattle.core_rows.specs.LogMap.{logs_of}
use Rattle.core_rows.proofs.Shown.{labels_more, labels_passed}
use Rattle.core_rows.proofs.core_row.CoreRow.labels.Goals as goal

pub loop-label-init : goal.loop-label-init
loop-label-init c =
    let labels : List LabelLog → List ℕ = λ logs. map (λ y. y.label) (shown_lists logs c.args.read (Txn c.args.tid)) in
    ap (λ front. front ++ labels (logs_of c.into_iter-label-iterator.result)) c.new-labels.ensures
    ∙ ap (λ (es : List (ℕ × LogContent)). labels (logs_of es)) c.into_iter-label-iterator.ensures.into_iter_gives.0
    ∙ ap (λ row. labels row.logs) c.self.view_is

pub loop-label-preserved-in-Continue-1 : goal.loop-label-preserved-in-Continue-1
loop-label-preserved-in-Continue-1 c =
    let labels : List (ℕ × LogContent) → List ℕ = λ es. map (λ y. y.label) (shown_lists (logs_of es) c.args.read (Txn c.args.tid)) in
    ap (λ front. front ++ labels c.next.new.self) c.in_ok-push.ensures
    ∙ append_assoc c.loop-label.labels (c.in-Some.label.now ∷ []) (labels c.next.new.self)
    ∙ ap (λ rest. c.loop-label.labels ++ rest) (sym (labels_more c.next.new.self c.in-Some.label.now c.args.read (Txn c.args.tid) c.in-Some.log.now (sym c.shows_any.ensures ∙ c.if-shows_any.true)))
    ∙ ap (λ es. c.loop-label.labels ++ labels es) (sym c.in-Some.ensures.steps) ∙ c.loop-label.invariant

pub loop-label-preserved : goal.loop-label-preserved
loop-label-preserved c =
    let labels : List (ℕ × LogContent) → List ℕ = λ es. map (λ y. y.label) (shown_lists (logs_of es) c.args.read (Txn c.args.tid)) in
    ap (λ rest. c.loop-label.labels ++ rest) (sym (labels_passed c.next.new.self c.in-Some.label.now c.args.read (Txn c.args.tid) c.in-Some.log.now (sym c.shows_any.ensures ∙ c.if-shows_any.false)))
    ∙ ap (λ es. c.loop-label.labels ++ labels es) (sym c.in-Some.ensures.steps) ∙ c.loop-label.invariant

pub returns : goal.returns
returns c =
    let labels : List (ℕ × LogContent) → List ℕ = λ es. map (λ y. y.label) (shown_lists (logs_of es) c.args.read (Txn c.args.tid)) in
    ap Named (sym (append-nil c.loop-label.labels) ∙ ap (λ es. c.loop-label.labels ++ labels es) (sym c.in-None.ensures.steps.0) ∙ c.loop-label.invariant)
