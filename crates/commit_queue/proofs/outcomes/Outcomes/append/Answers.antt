use Rattle.std.proofs.Common.{ℕ, suc, ◌≡◌, ◌+◌, ◌-◌, ◌≤◌, List, [], ◌∷◌, ◌++◌, length, get_or, set, sym, ap, subst, ◌∙◌, inl, inr, arith}
use Rattle.std.proofs.lemmas.Bool.{cases_eq}
use Rattle.std.proofs.lemmas.List.{length_push, length-set, get_or-set_same, get_or-set_other}
use Rattle.graph_model.specs.declared.record.Outcome.{Outcome}
use Rattle.commit_queue.specs.KeptOutcomes.{KeptOutcomes, place_in, noted_place}
use Rattle.commit_queue.proofs.Places.{ne_to, noted_still, noted_new, none_above}
use Rattle.commit_queue.proofs.outcomes.Outcomes.append.Goals as goal

pub invariant_of-self : goal.invariant_of-self
invariant_of-self c =
    let a = c.self.inside in
    let h = c.self.invariant in
    let old = a.kept.items in
    let t = c.args.tid in
    let o = c.args.o in
    let items = sym c.push_reserved.ensures.items in
    let none = subst (λ (s : KeptOutcomes). place_in t s.kept ≡ length s.kept) (sym c.self.view_is) c.requires.new in
    let greatest = c.max-self-inside.ensures in
    let m = t - a.first in
    let v = c.len-then-tid-self-2.result in
    let low = c.if-tid-self.true in
    let there = c.if-tid-self-2.true in
    let count = c.len.ensures in
    let long = length-set a.places.items m v in
    let is : v ≡ suc (length old) = omega (arith, c.len-then-tid-self-2.ensures, ap length c.push_reserved.ensures.items, length_push old (t, o)) in
    record {
      most = λ q above.
          subst (λ (xs : List (ℕ × Outcome)). place_in q xs ≡ length xs) items
          (none_above q t o old (ne_to q t (λ (e : q ≡ t). omega (arith, e, above, greatest))) (h.most q (omega (arith, above, greatest))));
      noted = λ n within.
          subst (λ (xs : List (ℕ × Outcome)). noted_place (length xs) (get_or (set a.places.items m v) n 0) ≡ place_in (a.first + n) xs) items
          (elim (cases_eq n m) [
            | inl e ↦
                ap (noted_place (length (old ++ (t, o) ∷ []))) (ap (λ (k : ℕ). get_or (set a.places.items m v) k 0) e ∙ get_or-set_same a.places.items m v 0 (omega (arith, there, count)) ∙ is)
                ∙ noted_new t o old none
                ∙ ap (λ (q : ℕ). place_in q (old ++ (t, o) ∷ [])) (omega (arith, e, low))
            | inr ne ↦
                ap (noted_place (length (old ++ (t, o) ∷ []))) (get_or-set_other a.places.items m n v 0 ne)
                ∙ noted_still (a.first + n) t o old (get_or a.places.items n 0) (ne_to (a.first + n) t (λ (e : a.first + n ≡ t). ne (omega (arith, e)))) (h.within n) (h.noted n (omega (arith, within, long)))
          ]);
      within = λ n.
          subst (λ (xs : List (ℕ × Outcome)). get_or (set a.places.items m v) n 0 ≤ length xs) items
          (elim (cases_eq n m) [
            | inl e ↦ (let g = ap (λ (k : ℕ). get_or (set a.places.items m v) k 0) e ∙ get_or-set_same a.places.items m v 0 (omega (arith, there, count)) ∙ is in omega (arith, g, length_push old (t, o)))
            | inr ne ↦ (let g = get_or-set_other a.places.items m n v 0 ne in omega (arith, g, length_push old (t, o), h.within n))
          ]);
    }

pub invariant_of-self-else-tid-self-2 : goal.invariant_of-self-else-tid-self-2
invariant_of-self-else-tid-self-2 c =
    let a = c.self.inside in
    let h = c.self.invariant in
    let old = a.kept.items in
    let t = c.args.tid in
    let o = c.args.o in
    let items = sym c.push_reserved.ensures.items in
    let none = subst (λ (s : KeptOutcomes). place_in t s.kept ≡ length s.kept) (sym c.self.view_is) c.requires.new in
    let greatest = c.max-self-inside.ensures in
    let over = c.if-tid-self-2.false in
    let count = c.len.ensures in
    let low = c.if-tid-self.true in
    record {
      most = λ q above.
          subst (λ (xs : List (ℕ × Outcome)). place_in q xs ≡ length xs) items
          (none_above q t o old (ne_to q t (λ (e : q ≡ t). omega (arith, e, above, greatest))) (h.most q (omega (arith, above, greatest))));
      noted = λ n within.
          subst (λ (xs : List (ℕ × Outcome)). noted_place (length xs) (get_or a.places.items n 0) ≡ place_in (a.first + n) xs) items
          (noted_still (a.first + n) t o old (get_or a.places.items n 0) (ne_to (a.first + n) t (λ (e : a.first + n ≡ t). omega (arith, e, within, over, count, low))) (h.within n) (h.noted n within));
      within = λ n. subst (λ (xs : List (ℕ × Outcome)). get_or a.places.items n 0 ≤ length xs) items (omega (arith, length_push old (t, o), h.within n));
    }

pub invariant_of-self-else-tid-self : goal.invariant_of-self-else-tid-self
invariant_of-self-else-tid-self c =
    let a = c.self.inside in
    let h = c.self.invariant in
    let old = a.kept.items in
    let t = c.args.tid in
    let o = c.args.o in
    let items = sym c.push_reserved.ensures.items in
    let none = subst (λ (s : KeptOutcomes). place_in t s.kept ≡ length s.kept) (sym c.self.view_is) c.requires.new in
    let greatest = c.max-self-inside.ensures in
    let below = c.if-tid-self.false in
    record {
      most = λ q above.
          subst (λ (xs : List (ℕ × Outcome)). place_in q xs ≡ length xs) items
          (none_above q t o old (ne_to q t (λ (e : q ≡ t). omega (arith, e, above, greatest))) (h.most q (omega (arith, above, greatest))));
      noted = λ n within.
          subst (λ (xs : List (ℕ × Outcome)). noted_place (length xs) (get_or a.places.items n 0) ≡ place_in (a.first + n) xs) items
          (noted_still (a.first + n) t o old (get_or a.places.items n 0) (ne_to (a.first + n) t (λ (e : a.first + n ≡ t). omega (arith, e, below))) (h.within n) (h.noted n within));
      within = λ n. subst (λ (xs : List (ℕ × Outcome)). get_or a.places.items n 0 ≤ length xs) items (omega (arith, length_push old (t, o), h.within n));
    }
