-- Where outcomes stand, and what one more changes.
use Rattle.std.proofs.Common.{ℕ, zero, suc, ◌≡◌, ◌≢◌, ◌+◌, ◌<◌, ◌≤◌, Bool, true, false, not, cond, eqb, nat_eq, List, [], ◌∷◌, ◌++◌, length, get_or, set, Option, Some, None, refl, sym, ap, ◌∙◌, arith, if◌then◌else◌}
use Rattle.std.proofs.lemmas.Bool.Decides.{nat_tests}
use Rattle.std.proofs.lemmas.List.{length_push}
use Rattle.std.proofs.lemmas.List.Folds.{position_or_len-set, position_or_len_push}
use Rattle.graph_model.specs.declared.record.Outcome.{Outcome}
use Rattle.commit_queue.specs.KeptOutcomes.{outcome_of, place_in, noted_place, KeepsAt}

pub eq_refl : (q : ℕ) → nat_eq q q ≡ true
eq_refl q = grind (arith, nat_tests)

pub eq_of : (q t : ℕ) → nat_eq q t ≡ true → q ≡ t
eq_of q t e = grind (arith, nat_tests)

pub ne_of : (q t : ℕ) → nat_eq q t ≡ false → q ≢ t
ne_of q t e = λ (h : q ≡ t). grind (arith, nat_tests)

pub ne_to : (q t : ℕ) → q ≢ t → nat_eq q t ≡ false
ne_to q t apart = by (nat_eq q t) refl
  where
    by : (b : Bool) → nat_eq q t ≡ b → b ≡ false
    by true e = absurd (apart (eq_of q t e))
    by false e = refl

-- an outcome that stands at its place
pub outcome_at : (q : ℕ) (kept : List (ℕ × Outcome)) (d : ℕ × Outcome) → place_in q kept < length kept → outcome_of q kept ≡ Some (get_or kept (place_in q kept) d).1
outcome_at q [] d within = absurd (omega (arith, within))
outcome_at q (x ∷ kept) d within = by (nat_eq q x.0) within (outcome_at q kept d)
  where
    by : (b : Bool) → cond (not b) (1 + place_in q kept) 0 < suc (length kept) → (place_in q kept < length kept → outcome_of q kept ≡ Some (get_or kept (place_in q kept) d).1)
        → (if b then Some x.1 else outcome_of q kept) ≡ Some (get_or (x ∷ kept) (cond (not b) (1 + place_in q kept) 0) d).1
    by true h rest = refl
    by false h rest = rest (omega (arith, h)) ∙ ap (λ (k : ℕ). Some (get_or (x ∷ kept) k d).1) (let e : suc (place_in q kept) ≡ 1 + place_in q kept = omega arith in e)

pub outcome_none : (q : ℕ) (kept : List (ℕ × Outcome)) → length kept ≤ place_in q kept → outcome_of q kept ≡ None
outcome_none q [] over = refl
outcome_none q (x ∷ kept) over = by (nat_eq q x.0) over (outcome_none q kept)
  where
    by : (b : Bool) → suc (length kept) ≤ cond (not b) (1 + place_in q kept) 0 → (length kept ≤ place_in q kept → outcome_of q kept ≡ None) → (if b then Some x.1 else outcome_of q kept) ≡ None
    by true h rest = absurd (omega (arith, h))
    by false h rest = rest (omega (arith, h))

pub no_place : (q : ℕ) (kept : List (ℕ × Outcome)) → outcome_of q kept ≡ None → place_in q kept ≡ length kept
no_place q [] none = refl
no_place q (x ∷ kept) none = by (nat_eq q x.0) none (no_place q kept)
  where
    by : (b : Bool) → (if b then Some x.1 else outcome_of q kept) ≡ None → (outcome_of q kept ≡ None → place_in q kept ≡ length kept) → cond (not b) (1 + place_in q kept) 0 ≡ suc (length kept)
    by true h rest = absurd (let e : ⊥ = (cc) in e)
    by false h rest = omega (arith, rest h)

-- the number of an outcome at its place
pub number_at : (q : ℕ) (kept : List (ℕ × Outcome)) (d : ℕ × Outcome) → place_in q kept < length kept → nat_eq q (get_or kept (place_in q kept) d).0 ≡ true
number_at q [] d within = absurd (omega (arith, within))
number_at q (x ∷ kept) d within = by (nat_eq q x.0) refl within (number_at q kept d)
  where
    by : (b : Bool) → nat_eq q x.0 ≡ b → cond (not b) (1 + place_in q kept) 0 < suc (length kept) → (place_in q kept < length kept → nat_eq q (get_or kept (place_in q kept) d).0 ≡ true)
        → nat_eq q (get_or (x ∷ kept) (cond (not b) (1 + place_in q kept) 0) d).0 ≡ true
    by true e h rest = e
    by false e h rest = ap (λ (k : ℕ). nat_eq q (get_or (x ∷ kept) k d).0) (let e : 1 + place_in q kept ≡ suc (place_in q kept) = omega arith in e) ∙ rest (omega (arith, h))

pub place_most : (q : ℕ) (kept : List (ℕ × Outcome)) → place_in q kept ≤ length kept
place_most q [] = omega arith
place_most q (x ∷ kept) = by (nat_eq q x.0) (place_most q kept)
  where
    by : (b : Bool) → place_in q kept ≤ length kept → cond (not b) (1 + place_in q kept) 0 ≤ suc (length kept)
    by true h = omega arith
    by false h = omega (arith, h)

-- an outcome in the place of another one for its number
pub place_replaced : (q t : ℕ) (o : Outcome) (kept : List (ℕ × Outcome)) (d : ℕ × Outcome) → place_in t kept < length kept → place_in q (set kept (place_in t kept) (t, o)) ≡ place_in q kept
place_replaced q t o kept d within =
    let same : t ≡ (get_or kept (place_in t kept) d).0 = eq_of t _ (number_at t kept d within) in
    position_or_len-set (λ (x : ℕ × Outcome). nat_eq q x.0) kept (place_in t kept) (t, o) d (ap (nat_eq q) same)

pub keeps_replaced : (t : ℕ) (o : Outcome) (kept : List (ℕ × Outcome)) → place_in t kept < length kept → KeepsAt t o kept (set kept (place_in t kept) (t, o))
keeps_replaced t o [] within = absurd (omega (arith, within))
keeps_replaced t o (x ∷ kept) within = λ q. by q (nat_eq t x.0) refl within (λ h. keeps_replaced t o kept h q)
  where
    hit : (q : ℕ) (b c : Bool) → nat_eq t x.0 ≡ true → nat_eq q t ≡ b → nat_eq t q ≡ c → (if b then Some o else outcome_of q kept) ≡ (if c then Some o else (if nat_eq q x.0 then Some x.1 else outcome_of q kept))
    hit q true true e f g = refl
    hit q false true e f g = absurd (let h = eq_of t q g in let i = ne_of q t f in i (sym h))
    hit q true false e f g = absurd (let h = eq_of q t f in let i = ne_of t q g in i (sym h))
    hit q false false e f g = let m : nat_eq q x.0 ≡ false = ap (nat_eq q) (sym (eq_of t x.0 e)) ∙ f in rw m refl

    miss : (q : ℕ) (b c : Bool) → nat_eq t x.0 ≡ false → nat_eq q x.0 ≡ b → nat_eq t q ≡ c → (rest : Option Outcome) → rest ≡ (if c then Some o else outcome_of q kept)
        → (if b then Some x.1 else rest) ≡ (if c then Some o else (if b then Some x.1 else outcome_of q kept))
    miss q true true e f g rest is = absurd (ne_of t x.0 e (eq_of t q g ∙ eq_of q x.0 f))
    miss q true false e f g rest is = refl
    miss q false true e f g rest is = is
    miss q false false e f g rest is = is

    by : (q : ℕ) (b : Bool) → nat_eq t x.0 ≡ b → cond (not b) (1 + place_in t kept) 0 < suc (length kept)
        → (place_in t kept < length kept → outcome_of q (set kept (place_in t kept) (t, o)) ≡ (if nat_eq t q then Some o else outcome_of q kept))
        → outcome_of q (set (x ∷ kept) (cond (not b) (1 + place_in t kept) 0) (t, o)) ≡ (if nat_eq t q then Some o else outcome_of q (x ∷ kept))
    by q true e h rest = hit q (nat_eq q t) (nat_eq t q) e refl refl
    by q false e h rest =
        ap (λ (k : ℕ). outcome_of q (set (x ∷ kept) k (t, o))) (let e : 1 + place_in t kept ≡ suc (place_in t kept) = omega arith in e)
        ∙ miss q (nat_eq q x.0) (nat_eq t q) e refl refl _ (rest (omega (arith, h)))

-- an outcome behind the others
pub place_appended : (q t : ℕ) (o : Outcome) (kept : List (ℕ × Outcome)) →
    place_in q (kept ++ (t, o) ∷ []) ≡ cond (eqb (place_in q kept) (length kept)) (length kept + cond (nat_eq q t) 0 1) (place_in q kept)
place_appended q t o kept = position_or_len_push (λ (x : ℕ × Outcome). nat_eq q x.0) kept (t, o)

pub keeps_appended : (t : ℕ) (o : Outcome) (kept : List (ℕ × Outcome)) → place_in t kept ≡ length kept → KeepsAt t o kept (kept ++ (t, o) ∷ [])
keeps_appended t o [] none = λ q. alone q (nat_eq q t) (nat_eq t q) refl refl
  where
    alone : (q : ℕ) (b c : Bool) → nat_eq q t ≡ b → nat_eq t q ≡ c → (if b then Some o else None) ≡ (if c then Some o else None)
    alone q true true f g = refl
    alone q false true f g = absurd (ne_of q t f (sym (eq_of t q g)))
    alone q true false f g = absurd (ne_of t q g (sym (eq_of q t f)))
    alone q false false f g = refl
keeps_appended t o (x ∷ kept) none = λ q. by q (nat_eq t x.0) refl none (λ h. keeps_appended t o kept h q)
  where
    miss : (q : ℕ) (b c : Bool) → nat_eq t x.0 ≡ false → nat_eq q x.0 ≡ b → nat_eq t q ≡ c → (rest : Option Outcome) → rest ≡ (if c then Some o else outcome_of q kept)
        → (if b then Some x.1 else rest) ≡ (if c then Some o else (if b then Some x.1 else outcome_of q kept))
    miss q true true e f g rest is = absurd (ne_of t x.0 e (eq_of t q g ∙ eq_of q x.0 f))
    miss q true false e f g rest is = refl
    miss q false true e f g rest is = is
    miss q false false e f g rest is = is

    by : (q : ℕ) (b : Bool) → nat_eq t x.0 ≡ b → cond (not b) (1 + place_in t kept) 0 ≡ suc (length kept)
        → (place_in t kept ≡ length kept → outcome_of q (kept ++ (t, o) ∷ []) ≡ (if nat_eq t q then Some o else outcome_of q kept))
        → outcome_of q ((x ∷ kept) ++ (t, o) ∷ []) ≡ (if nat_eq t q then Some o else outcome_of q (x ∷ kept))
    by q true e h rest = absurd (omega (arith, h))
    by q false e h rest = miss q (nat_eq q x.0) (nat_eq t q) e refl refl _ (rest (omega (arith, h)))

still_none : (p many more : ℕ) (b : Bool) → b ≡ false → many ≡ p → more ≡ many + 1 → more ≡ cond (eqb p many) (many + cond b 0 1) p
still_none p many more b e is one = grind (arith, e, is, one)

still_there : (p many i : ℕ) (b : Bool) → i ≡ p → suc i ≤ many → i ≡ cond (eqb p many) (many + cond b 0 1) p
still_there p many i b is low = grind (arith, is, low)

now_there : (p many : ℕ) (b : Bool) → b ≡ true → p ≡ many → many ≡ cond (eqb p many) (many + cond b 0 1) p
now_there p many b e is = grind (arith, e, is)

-- what is noted of another number stays, where an outcome is appended
pub noted_still : (q t : ℕ) (o : Outcome) (kept : List (ℕ × Outcome)) (v : ℕ) → nat_eq q t ≡ false → v ≤ length kept → noted_place (length kept) v ≡ place_in q kept
    → noted_place (length (kept ++ (t, o) ∷ [])) v ≡ place_in q (kept ++ (t, o) ∷ [])
noted_still q t o kept zero ne low is = still_none (place_in q kept) (length kept) _ (nat_eq q t) ne is (length_push kept (t, o)) ∙ sym (place_appended q t o kept)
noted_still q t o kept (suc i) ne low is = still_there (place_in q kept) (length kept) i (nat_eq q t) is low ∙ sym (place_appended q t o kept)

pub noted_new : (t : ℕ) (o : Outcome) (kept : List (ℕ × Outcome)) → place_in t kept ≡ length kept → length kept ≡ place_in t (kept ++ (t, o) ∷ [])
noted_new t o kept none = now_there (place_in t kept) (length kept) (nat_eq t t) (eq_refl t) none ∙ sym (place_appended t t o kept)

pub none_above : (q t : ℕ) (o : Outcome) (kept : List (ℕ × Outcome)) → nat_eq q t ≡ false → place_in q kept ≡ length kept → place_in q (kept ++ (t, o) ∷ []) ≡ length (kept ++ (t, o) ∷ [])
none_above q t o kept ne none = sym (noted_still q t o kept 0 ne (omega arith) (sym none))
