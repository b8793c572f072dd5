-- The map's entry is set where it stands, or made, and shows the lists after the put.
use Rattle.std.proofs.Common.{◌≡◌, ◌∙◌, ◌∷◌, List, sym, ap, Ok, Err, OnOk, OnErr, IsTrue}
use Rattle.std.specs.Ordering.{nat_cmp}
use Rattle.std.specs.BTreeMap.{insert_entry}
use Rattle.graph_model.specs.Vertex.{LabelList}
use Rattle.graph_model.specs.Graph.{without_pair, lists_after_put}
use Rattle.graph_model.specs.Whole.{are_lists}
use Rattle.graph_model.specs.MapEntries.{Content, lists_of}
use Rattle.graph_model.proofs.Wholes.{are_lists-put}
use Rattle.graph_model.proofs.EntryLists.{lists-put_through, lists-unchanged, lists-put_insert}
use Rattle.graph_model.proofs.vertex_entry.VertexEntry.put.Goals as goal

pub invariant_of-self : goal.invariant_of-self
invariant_of-self c =
    let es = c.self.inside.lists.entries in
    let new = (c.get_mut.follows.lender c.put.new.self).entries in
    let at = sym c.in-Some.ensures.value in
    let wrote = (c.get_mut.follows.holds c.put.new.self).0 in
    let kept = c.self.invariant in
    elim (c.put.result) as (λ r. OnOk r (c.put.new.self ≡ c.args.pair ∷ without_pair c.args.pair.d c.in-Some.list.now) → OnErr r (c.put.new.self ≡ c.in-Some.list.now) → IsTrue (are_lists (lists_of new))) [
      | Ok u ↦ λ yes no. ap are_lists (lists-put_through es new c.args.l c.args.pair c.in-Some.list.now c.put.new.self kept at wrote yes) ∙ are_lists-put c.args.l c.args.pair.d c.args.pair.p (lists_of es) kept
      | Err e ↦ λ yes no. ap are_lists (lists-unchanged es new c.args.l c.in-Some.list.now c.put.new.self at wrote no) ∙ kept
    ] c.put.ensures.set c.put.ensures.unchanged

pub returns-in-Some-clause-set : goal.returns-in-Some-clause-set
returns-in-Some-clause-set c =
    let es = c.self.inside.lists.entries in
    let new = (c.get_mut.follows.lender c.put.new.self).entries in
    let at = sym c.in-Some.ensures.value in
    let wrote = (c.get_mut.follows.holds c.put.new.self).0 in
    let shown : List LabelList → Content = λ lists. record { payload = c.self.inside.payload; lists = lists } in
    rw (← c.self.view_is) (elim (c.put.result) as (λ r. OnOk r (c.put.new.self ≡ c.args.pair ∷ without_pair c.args.pair.d c.in-Some.list.now) → OnOk r (shown (lists_of new) ≡ shown (lists_after_put c.args.l c.args.pair.d c.args.pair.p (lists_of es)))) [
      | Ok u ↦ λ yes. ap shown (lists-put_through es new c.args.l c.args.pair c.in-Some.list.now c.put.new.self c.self.invariant at wrote yes)
      | Err e ↦ λ yes. tt
    ] c.put.ensures.set)

pub returns-in-Some-clause-unchanged : goal.returns-in-Some-clause-unchanged
returns-in-Some-clause-unchanged c =
    let es = c.self.inside.lists.entries in
    let new = (c.get_mut.follows.lender c.put.new.self).entries in
    let at = sym c.in-Some.ensures.value in
    let wrote = (c.get_mut.follows.holds c.put.new.self).0 in
    let shown : List LabelList → Content = λ lists. record { payload = c.self.inside.payload; lists = lists } in
    rw (← c.self.view_is) (elim (c.put.result) as (λ r. OnErr r (c.put.new.self ≡ c.in-Some.list.now) → OnErr r (shown (lists_of new) ≡ shown (lists_of es))) [
      | Ok u ↦ λ no. tt
      | Err e ↦ λ no. ap shown (lists-unchanged es new c.args.l c.in-Some.list.now c.put.new.self at wrote no)
    ] c.put.ensures.unchanged)

pub invariant_of-self-2 : goal.invariant_of-self-2
invariant_of-self-2 c =
    let es = c.self.inside.lists.entries in
    let wrote = c.in_ok-insert.ensures.entries ∙ ap (λ m. insert_entry nat_cmp m.entries c.args.l c.put-2.new.self) c.get_mut.follows.holds-at-none in
    let made = c.in_ok-put.ensures.set ∙ ap (λ old. c.args.pair ∷ without_pair c.args.pair.d old) c.new-list.ensures in
    ap are_lists (lists-put_insert es c.insert.new.self.entries c.args.l c.args.pair c.put-2.new.self (sym c.in_default.ensures.value) wrote made)
    ∙ are_lists-put c.args.l c.args.pair.d c.args.pair.p (lists_of es) c.self.invariant

pub returns-clause-set : goal.returns-clause-set
returns-clause-set c =
    let es = c.self.inside.lists.entries in
    let wrote = c.in_ok-insert.ensures.entries ∙ ap (λ m. insert_entry nat_cmp m.entries c.args.l c.put-2.new.self) c.get_mut.follows.holds-at-none in
    let made = c.in_ok-put.ensures.set ∙ ap (λ old. c.args.pair ∷ without_pair c.args.pair.d old) c.new-list.ensures in
    let shown : List LabelList → Content = λ lists. record { payload = c.self.inside.payload; lists = lists } in
    rw (← c.self.view_is) (ap shown (lists-put_insert es c.insert.new.self.entries c.args.l c.args.pair c.put-2.new.self (sym c.in_default.ensures.value) wrote made))
