-- The labels are the keys of the map.
use Rattle.std.proofs.Common.{◌∙◌, ◌++◌, ◌∷◌, [], map, sym, ap, refl, append-nil, append_assoc}
use Rattle.graph_model.specs.declared.query.Answer.TheVariants.{Named}
use Rattle.graph_model.specs.Vertex.{LabelList}
use Rattle.graph_model.specs.MapEntries.{Content, list_of}
use Rattle.graph_model.proofs.Rising.{numbers-map}
use Rattle.graph_model.proofs.vertex_entry.VertexEntry.labels.Goals as goal

pub loop-label-init : goal.loop-label-init
loop-label-init c =
    let labels = numbers-map (λ (y : LabelList). y.label) list_of (λ e. refl) c.self.inside.lists.entries in
    ap (λ front. front ++ c.into_iter-label-iterator.result) c.new-labels.ensures ∙ c.into_iter-label-iterator.ensures.into_iter_gives ∙ c.keys-label-items.ensures.rest
    ∙ sym labels ∙ ap (λ (v : Content). map (λ (y : LabelList). y.label) v.lists) c.self.view_is

pub loop-label-preserved : goal.loop-label-preserved
loop-label-preserved c =
    ap (λ front. front ++ c.next.new.self) c.in_ok-push.ensures ∙ append_assoc c.loop-label.labels (c.in-Some.label.now ∷ []) c.next.new.self
    ∙ ap (λ rest. c.loop-label.labels ++ rest) (sym c.in-Some.ensures.steps) ∙ c.loop-label.invariant

pub returns : goal.returns
returns c = ap Named (sym (append-nil _) ∙ ap (λ rest. c.loop-label.labels ++ rest) (sym c.in-None.ensures.steps.0) ∙ c.loop-label.invariant)
