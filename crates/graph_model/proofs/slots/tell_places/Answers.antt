-- Each place is told when its slot is passed.
use Rattle.std.proofs.Common.{◌≡◌, ◌∙◌, ◌-◌, ◌∷◌, [], List, length, refl, ap, subst, arith, Ok, Err, OnOk, OnErr, Some, None}
use Rattle.std.specs.Prelude.{Option}
use Rattle.std.specs.Ordering.{nat_cmp}
use Rattle.std.specs.BTreeMap.{get, Updates}
use Rattle.std.specs.VecDeque.Iter.{deque_iter_rest}
use Rattle.graph_model.specs.declared.pairs.Pair.{Pair}
use Rattle.graph_model.specs.Gaps.{place_of}
use Rattle.graph_model.proofs.Gaps.{IsTelling, telling-begins, telling-has, telling-edge, telling-gap}
use Rattle.graph_model.proofs.slots.tell_places.Goals as goal

pub loop-slot-init : goal.loop-slot-init
loop-slot-init c =
    let all = ap deque_iter_rest c.into_iter-slot-iterator.ensures.into_iter_gives ∙ c.iter-slot-items.ensures.rest in
    telling-begins c.args.slots.now.items (deque_iter_rest c.into_iter-slot-iterator.result) c.args.places.now c.len-place.result all (c.len-place.ensures ∙ c.args.slots.now.ok.0) c.requires.distinct c.requires.has

pub overflow_sub-place : goal.overflow_sub-place
overflow_sub-place c =
    let long = ap length c.in-Some.ensures.steps in
    omega (arith, long, c.loop-slot.invariant.left)

pub loop-slot-preserved-in-Some-slot : goal.loop-slot-preserved-in-Some-slot
loop-slot-preserved-in-Some-slot c =
    let slots = c.args.slots.now.items in
    let rest = deque_iter_rest c.next.new.self in
    let x = c.in-Some-slot.pair in
    let old = c.loop-slot.places in
    let new = c.insert-old.new.self in
    let place = c.loop-slot.place in
    let is : IsTelling slots (Some x ∷ rest) old place =
    subst (λ r. IsTelling slots r old place) (c.in-Some.ensures.steps ∙ ap (λ s. s ∷ rest) c.in-Some-slot.is) c.loop-slot.invariant in
    elim (c.insert-old.result) as (λ r. OnOk r (Updates nat_cmp old new x.d (Some (place - 1))) → OnErr r (get nat_cmp old x.d ≡ None) → IsTelling slots rest new (place - 1)) [
      | Ok o ↦ λ set lacks. telling-edge x slots rest old new place is set.0
      | Err e ↦ λ set lacks. absurd (telling-has x slots rest old place is lacks)
    ] c.insert-old.ensures.updates c.insert-old.ensures.absent

pub loop-slot-preserved : goal.loop-slot-preserved
loop-slot-preserved c =
    let slots = c.args.slots.now.items in
    let rest = deque_iter_rest c.next.new.self in
    telling-gap slots rest c.loop-slot.places c.loop-slot.place (subst (λ r. IsTelling slots r c.loop-slot.places c.loop-slot.place) (c.in-Some.ensures.steps ∙ ap (λ s. s ∷ rest) c.in_default.is) c.loop-slot.invariant)

pub returns : goal.returns
returns c = λ d. c.loop-slot.invariant.done d (ap (place_of d) (none (deque_iter_rest c.loop-slot.slot-iterator) c.in-None.ensures.steps.0))
  where
    none : (rest : List (Option Pair)) → length rest ≡ 0 → rest ≡ []
    none [] e = refl
    none (x ∷ rest) e = absurd (omega arith)
