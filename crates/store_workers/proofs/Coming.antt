-- The passes of a phase's workers are split off their parent, and come back to it.
use Rattle.std.proofs.Common.{◌≡◌, ◌⊎◌, inl, inr, ℕ, suc, ◌≤◌, ◌<◌, Bool, true, false, List, [], ◌∷◌, ◌++◌, refl, sym, ap, ◌∙◌, subst, arith, append-nil, append_assoc}
use Rattle.std.proofs.lemmas.Bool.{cases_eq}
use Rattle.graph_model.specs.declared.graph.Base.{Base}
use Rattle.core_states.specs.Names.{same_pass, Name}
use Rattle.core_states.specs.Openings.{fresh_actor}
use Rattle.core_states.proofs.Names.{same_name_is, same_name_true}
use Rattle.turn_board.specs.Views.{Did, Busy, Noted, View, In, numbers, next_number, next_origin, splitting, split_off, joining, start_of}
use Rattle.turn_board.specs.Histories.{noted}
use Rattle.turn_board.proofs.HeldLists.{in_append, in_left, in_right}
use Rattle.turn_board.proofs.Named.{noted_both}
use Rattle.graph_legal.specs.Lines.{Replied}
use Rattle.worker_runs.specs.Notes.{WorkerDid}
use Rattle.worker_sessions.specs.Notes.{AreOf}
use Rattle.store_workers.specs.Crews.{pass_of, origins_of, Extends, IsFreshAt, HasWorked, HasOut, HasParted}

-- a worker that has not run
pub nothing-did : (base : Base) (p : List ℕ) → WorkerDid base p [] []
nothing-did base p = record {
  opened = [];
  at_first = λ k. fresh_actor base;
  opening = [];
  opens = (refl, λ k. refl);
  at_end = λ k. fresh_actor base;
  serving = [];
  serves = (refl, λ k. refl);
  closed = [];
  left = λ k. fresh_actor base;
  closing = [];
  closes = (refl, λ k. refl);
  others = λ k away. refl;
  are = refl;
}

-- a number is that of a name, so it is told from others as a name is
pass-same : (p : List ℕ) → same_pass p p ≡ true
pass-same p = same_name_true (record { pass = p; index = 0 }) (record { pass = p; index = 0 }) refl

pass-is : (p q : List ℕ) → same_pass p q ≡ true → p ≡ q
pass-is p q same = ap (λ (n : Name). n.pass) (same_name_is (record { pass = p; index = 0 }) (record { pass = q; index = 0 }) (rw same refl))

-- what is noted of a pass among its own notes, and among those of another
noted-own : (p : List ℕ) (notes : List Noted) → AreOf p notes → noted p notes ≡ notes
noted-own p [] are = refl
noted-own p (Did e a ∷ notes) are =
    let same : same_pass p e.by.pass ≡ true = subst (λ (q : List ℕ). same_pass p q ≡ true) (sym are.0) (pass-same p) in
    rw same (ap (λ (xs : List Noted). Did e a ∷ xs) (noted-own p notes are.1))
noted-own p (Busy k ∷ notes) are = absurd are

noted-other : (p q : List ℕ) (notes : List Noted) → AreOf p notes → same_pass q p ≡ false → noted q notes ≡ []
noted-other p q [] are apart = refl
noted-other p q (Did e a ∷ notes) are apart =
    let no : same_pass q e.by.pass ≡ false = subst (λ (r : List ℕ). same_pass q r ≡ false) (sym are.0) apart in
    rw no (noted-other p q notes are.1 apart)
noted-other p q (Busy k ∷ notes) are apart = absurd are

-- a list and what comes behind it
pub extends-more : {A : Type 0} (xs ys zs : List A) → Extends xs ys → Extends xs (ys ++ zs)
extends-more {A} xs ys zs ext = (ext.0 ++ zs, ap (λ (l : List A). l ++ zs) ext.1 ∙ append_assoc xs ext.0 zs)

pub extends-none : {A : Type 0} (xs ys : List A) → ys ≡ xs → Extends xs ys
extends-none {A} xs ys e = ([], e ∙ sym (append-nil xs))

-- a pass that has split off none yet
pub none-parted : (u : View) → u.splits ≡ 0 → HasParted u 0 u
none-parted u none = record {
  start_is = refl;
  number = refl;
  joined = refl;
  made = λ m there. inr there;
  splits = none;
  origins = sym (append-nil u.origins);
  events = refl;
}

-- one pass more is split off
module _ (u : View) (n : ℕ) (v : View) (has : HasParted u n v) where
  next : next_number v ≡ pass_of u.number n
  next = λ i. suc (has.splits i) ∷ has.number i

  in-old : (m : List ℕ) → ((i : ℕ) × (i < n) × (m ≡ pass_of u.number i)) ⊎ In m u.made → ((i : ℕ) × (i < suc n) × (m ≡ pass_of u.number i)) ⊎ In m u.made
  in-old m (inl x) = let low = x.1 in inl (x.0, omega (arith, low), x.2)
  in-old m (inr x) = inr x

  in-made : (m : List ℕ) → In m v.made ⊎ In m (next_number v ∷ []) → ((i : ℕ) × (i < suc n) × (m ≡ pass_of u.number i)) ⊎ In m u.made
  in-made m (inl old) = in-old m (has.made m old)
  in-made m (inr (inl e)) = inl (n, omega arith, sym e ∙ next)
  in-made m (inr (inr never)) = absurd never

  origin-is : next_origin v ≡ record { number = pass_of u.number n; passes = numbers u; events = u.events }
  origin-is = λ i. record { number = next i; passes = has.number i ∷ has.joined i; events = has.events i }

  pub parts-more : HasParted u (suc n) (splitting v)
  parts-more = record {
    start_is = has.start_is;
    number = has.number;
    joined = has.joined;
    made = λ m there. in-made m (in_append m v.made (next_number v ∷ []) there);
    splits = ap suc has.splits;
    origins = (λ i. has.origins i ++ origin-is i ∷ []) ∙ append_assoc u.origins (origins_of u n) (record { number = pass_of u.number n; passes = numbers u; events = u.events } ∷ []);
    events = has.events;
  }

  pub split-fresh : IsFreshAt (start_of u) (pass_of u.number n) (split_off v)
  split-fresh = (has.start_is, next, refl)

-- all workers are out, and have done nothing yet
module _ (u : View) (lines : ℕ → List Replied) (n : ℕ) (v : View) (has : HasParted u n v) where
  here : numbers v ≡ numbers u
  here = λ i. has.number i ∷ has.joined i

  made-out : ((m : List ℕ) → In m u.made → In m (numbers u)) → (m : List ℕ) → ((i : ℕ) × (i < n) × (m ≡ pass_of u.number i)) ⊎ In m u.made → ((i : ℕ) × (i < n) × (m ≡ pass_of u.number i)) ⊎ In m (numbers v)
  made-out all m (inl x) = inl x
  made-out all m (inr h) = inr (subst (λ (ms : List (List ℕ)). In m ms) (sym here) (all m h))

  pub all-out : ((m : List ℕ) → In m u.made → In m (numbers u)) → ((i : ℕ) → noted (pass_of u.number i) u.events ≡ []) → ((i : ℕ) → n ≤ i → lines i ≡ []) → HasOut u n lines n v
  all-out all before none = record {
    start_is = has.start_is;
    number = has.number;
    joined = extends-none u.joined v.joined has.joined;
    made = λ m there. made-out all m (has.made m there);
    origins = extends-none (u.origins ++ origins_of u n) v.origins has.origins;
    few = omega arith;
    before = before;
    did = λ i high. subst (λ (z : List Replied × List Noted). WorkerDid u.base (pass_of u.number i) z.0 z.1) (λ j. (sym (none i high) j, sym (ap (noted (pass_of u.number i)) has.events ∙ before i) j)) (nothing-did u.base (pass_of u.number i));
    only = λ p. inl (ap (noted p) has.events);
  }

-- two workers have two passes
pub pass-apart : (p : List ℕ) (i n : ℕ) → (i ≡ n → ⊥) → same_pass (pass_of p i) (pass_of p n) ≡ false
pass-apart p i n ne = by_case (same_pass (pass_of p i) (pass_of p n)) refl
  where
    by_case : (b : Bool) → same_pass (pass_of p i) (pass_of p n) ≡ b → same_pass (pass_of p i) (pass_of p n) ≡ false
    by_case false e = e
    by_case true e = absurd (ne (let same = pass-is (pass_of p i) (pass_of p n) e in (cc)))

-- a worker's pass comes back
module _ (u : View) (count : ℕ) (lines : ℕ → List Replied) (n : ℕ) (v w : View) (has : HasOut u count lines (suc n) v) (worked : HasWorked (start_of u) (pass_of u.number n) (lines n) w) where
  abbrev mine : List ℕ
  mine = pass_of u.number n

  in-first : (m : List ℕ) → In m (numbers v) → In m (numbers (joining v w))
  in-first m (inl e) = inl e
  in-first m (inr h) = inr (in_left m v.joined (numbers w) h)

  own-in : In mine (numbers (joining v w))
  own-in = inr (in_right mine v.joined (numbers w) (inl worked.number))

  in-or : (m : List ℕ) → ((i : ℕ) × (i < suc n) × (m ≡ pass_of u.number i)) ⊎ In m (numbers v) → ((i : ℕ) × (i < n) × (m ≡ pass_of u.number i)) ⊎ In m (numbers (joining v w))
  in-or m (inr h) = inr (in-first m h)
  in-or m (inl x) = by_place (cases_eq x.0 n)
    where
      by_place : (x.0 ≡ n) ⊎ (x.0 ≡ n → ⊥) → ((i : ℕ) × (i < n) × (m ≡ pass_of u.number i)) ⊎ In m (numbers (joining v w))
      by_place (inl e) = inr (subst (λ (q : List ℕ). In q (numbers (joining v w))) (sym (x.2 ∙ ap (pass_of u.number) e)) own-in)
      by_place (inr ne) = let low = x.1 in inl (x.0, omega (arith, low, ne), x.2)

  made-or : (m : List ℕ) → In m v.made ⊎ In m w.made → ((i : ℕ) × (i < n) × (m ≡ pass_of u.number i)) ⊎ In m (numbers (joining v w))
  made-or m (inl h) = in-or m (has.made m h)
  made-or m (inr h) = absurd (subst (λ (xs : List (List ℕ)). In m xs) worked.made h)

  -- nothing of a worker that is out is noted yet
  silent : (noted mine v.events ≡ noted mine u.events) ⊎ ((i : ℕ) × (suc n ≤ i) × (i < count) × (mine ≡ pass_of u.number i) × In mine (numbers v)) → noted mine v.events ≡ []
  silent (inl none) = none ∙ has.before n
  silent (inr x) = let same : n ≡ x.0 = let e = x.3 in (cc) in let high = x.1 in absurd (omega (arith, same, high))

  both : (p : List ℕ) → noted p (joining v w).events ≡ noted p v.events ++ noted p w.events
  both p = noted_both p v.events w.events

  own : noted mine (joining v w).events ≡ w.events
  own = both mine ∙ (λ i. silent (has.only mine) i ++ noted-own mine w.events worked.are i)

  others : (p : List ℕ) → same_pass p mine ≡ false → noted p (joining v w).events ≡ noted p v.events
  others p apart = both p ∙ ap (λ (xs : List Noted). noted p v.events ++ xs) (noted-other mine p w.events worked.are apart) ∙ append-nil (noted p v.events)

  did-now : (i : ℕ) → n ≤ i → WorkerDid u.base (pass_of u.number i) (lines i) (noted (pass_of u.number i) (joining v w).events)
  did-now i high = by_place (cases_eq i n)
    where
      by_place : (i ≡ n) ⊎ (i ≡ n → ⊥) → WorkerDid u.base (pass_of u.number i) (lines i) (noted (pass_of u.number i) (joining v w).events)
      by_place (inl e) =
          subst (λ (j : ℕ). WorkerDid u.base (pass_of u.number j) (lines j) (noted (pass_of u.number j) (joining v w).events)) (sym e)
          (subst (λ (xs : List Noted). WorkerDid u.base mine (lines n) xs) (sym own) worked.did)
      by_place (inr ne) =
          subst (λ (xs : List Noted). WorkerDid u.base (pass_of u.number i) (lines i) xs) (sym (others (pass_of u.number i) (pass-apart u.number i n ne))) (has.did i (omega (arith, high, ne)))

  only-now : (p : List ℕ) (b : Bool) → same_pass p mine ≡ b → (noted p (joining v w).events ≡ noted p u.events) ⊎ ((i : ℕ) × (n ≤ i) × (i < count) × (p ≡ pass_of u.number i) × In p (numbers (joining v w)))
  only-now p true same = let few = has.few in inr (n, omega arith, omega (arith, few), pass-is p mine same, subst (λ (q : List ℕ). In q (numbers (joining v w))) (sym (pass-is p mine same)) own-in)
  only-now p false apart = by_case (has.only p)
    where
      by_case : (noted p v.events ≡ noted p u.events) ⊎ ((i : ℕ) × (suc n ≤ i) × (i < count) × (p ≡ pass_of u.number i) × In p (numbers v))
          → (noted p (joining v w).events ≡ noted p u.events) ⊎ ((i : ℕ) × (n ≤ i) × (i < count) × (p ≡ pass_of u.number i) × In p (numbers (joining v w)))
      by_case (inl none) = inl (others p apart ∙ none)
      by_case (inr x) = let high = x.1 in inr (x.0, omega (arith, high), x.2, x.3, in-first p x.4)

  pub comes-back : HasOut u count lines n (joining v w)
  comes-back = let few = has.few in record {
    start_is = has.start_is;
    number = has.number;
    joined = extends-more u.joined v.joined (numbers w) has.joined;
    made = λ m there. made-or m (in_append m v.made w.made there);
    origins = extends-more (u.origins ++ origins_of u count) v.origins w.origins has.origins;
    few = omega (arith, few);
    before = has.before;
    did = did-now;
    only = λ p. only-now p (same_pass p mine) refl;
  }
