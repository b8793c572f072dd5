-- The oldest edge of the front goes before those behind it.
use Rattle.std.proofs.Common.{◌≡◌, ◌∙◌, ◌++◌, ◌∷◌, [], sym, ap, append_assoc, IsTrue}
use Rattle.graph_model.specs.Graph.{without_pair}
use Rattle.graph_model.specs.Whole.{are_pairs}
use Rattle.graph_model.proofs.Shared.{moved, moved-left, nothing-left}
use Rattle.graph_model.proofs.edge_list.bring.Goals as goal

front_is : (c : goal.After-delete) → c.loop-oldest.front ≡ c.pop.new.self ++ c.in-Some.oldest ∷ []
front_is c = sym c.loop-oldest.invariant.left ∙ c.in-Some.ensures.items

apart : (c : goal.After-delete) → IsTrue (are_pairs ((c.pop.new.self ++ c.in-Some.oldest ∷ []) ++ c.loop-oldest.own))
apart c = ap (λ f. are_pairs (f ++ c.loop-oldest.own)) (sym (front_is c)) ∙ ap are_pairs c.loop-oldest.invariant.same ∙ c.requires

left : (c : goal.After-delete) → c.delete.new.self ≡ c.pop.new.self
left c = c.delete.ensures ∙ ap (without_pair c.in-Some.oldest.d) (front_is c) ∙ moved-left c.in-Some.oldest c.pop.new.self c.loop-oldest.own (apart c)

pub loop-oldest-preserved : goal.loop-oldest-preserved
loop-oldest-preserved c =
    let x = c.in-Some.oldest in
    let own = c.loop-oldest.own in
    record {
      left = sym (left c);
      same = ap (λ f. f ++ c.put.new.self) (left c) ∙ ap (λ o. c.pop.new.self ++ o) (c.in_ok-put.ensures.set ∙ moved x c.pop.new.self own (apart c))
          ∙ sym (append_assoc c.pop.new.self (x ∷ []) own) ∙ ap (λ f. f ++ own) (sym (front_is c)) ∙ c.loop-oldest.invariant.same;
    }

pub returns-clause-brought : goal.returns-clause-brought
returns-clause-brought c = sym c.loop-oldest.invariant.left ∙ nothing-left c.pop.result c.loop-oldest.pairs c.in_default.is c.pop.ensures.variant.1
