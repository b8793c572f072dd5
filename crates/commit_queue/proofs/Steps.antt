-- The steps of a collection, and of the outcomes that are kept.
use Rattle.std.proofs.Common.{ℕ, zero, suc, ◌≡◌, ◌+◌, ◌<◌, ◌≤◌, Bool, true, false, ◌||◌, List, [], ◌∷◌, ◌++◌, length, take, drop, get_or, slice_get, Option, Some, None, Result, Ok, Err, IsOk, OnOk, refl, sym, ap, subst, ◌∙◌, arith}
use Rattle.std.specs.Prelude.{nat_eq, if◌then◌else◌}
use Rattle.std.proofs.Math.Bool.{or-false}
use Rattle.std.proofs.lemmas.List.{append-nil, append_assoc, take_all, take_at, drop_all, drop_at, drop_more, take_more}
use Rattle.graph_model.specs.declared.record.Outcome.{Outcome}
use Rattle.group_commit.specs.Encoded.{Encoded}
use Rattle.commit_queue.specs.Waiting.{Waiting}
use Rattle.commit_queue.specs.KeptOutcomes.{outcome_of, has_member, kept_for, KeepsFor, AllNew}

or_assoc : (a b c : Bool) → (a || (b || c)) ≡ ((a || b) || c)
or_assoc true b c = refl
or_assoc false b c = refl

has_member-push : (q : ℕ) (g : List Encoded) (m : Encoded) → has_member q (g ++ m ∷ []) ≡ (has_member q g || nat_eq m.draft.tid q)
has_member-push q [] m = or-false (nat_eq m.draft.tid q)
has_member-push q (x ∷ g) m =
    ap (λ (b : Bool). nat_eq x.draft.tid q || b) (has_member-push q g m) ∙ or_assoc (nat_eq x.draft.tid q) (has_member q g) (nat_eq m.draft.tid q)

pick : (b h : Bool) (s x : Option Outcome) → (if b then s else (if h then s else x)) ≡ (if (h || b) then s else x)
pick true true s x = refl
pick true false s x = refl
pick false true s x = refl
pick false false s x = refl

-- one outcome more
pub keeps_more : (g : List Encoded) (m : Encoded) (o : Outcome) (old mid new : List (ℕ × Outcome)) → KeepsFor g o old mid →
    ((q : ℕ) → outcome_of q new ≡ (if nat_eq m.draft.tid q then Some o else outcome_of q mid)) → KeepsFor (g ++ m ∷ []) o old new
keeps_more g m o old mid new before one = λ q.
    one q
    ∙ ap (λ (x : Option Outcome). if nat_eq m.draft.tid q then Some o else x) (before q)
    ∙ pick (nat_eq m.draft.tid q) (has_member q g) (Some o) (outcome_of q old)
    ∙ sym (ap (λ (b : Bool). if b then Some o else outcome_of q old) (has_member-push q g m))

-- what stands at a place
pub got_at : (g : List Encoded) (i : ℕ) (m d : Encoded) → Some m ≡ slice_get g i → get_or g i d ≡ m
got_at [] i m d is = absurd (let e : ⊥ = (cc) in e)
got_at (x ∷ g) zero m d is = cc
got_at (x ∷ g) (suc i) m d is = got_at g i m d is

pub nothing_at : (g : List Encoded) (i : ℕ) → i < length g → None ≡ slice_get g i → ⊥
nothing_at [] i within is = omega arith
nothing_at (x ∷ g) zero within is = cc
nothing_at (x ∷ g) (suc i) within is = nothing_at g i (omega arith) is

pub taken_more : (g : List Encoded) (i : ℕ) (m : Encoded) → i < length g → Some m ≡ slice_get g i → take (i + 1) g ≡ take i g ++ m ∷ []
taken_more g i m within is = take_more g i m within ∙ ap (λ (x : Encoded). take i g ++ x ∷ []) (got_at g i m m is)

pub rest_more : (g : List Encoded) (i : ℕ) (m : Encoded) → i < length g → Some m ≡ slice_get g i → drop i g ≡ m ∷ drop (i + 1) g
rest_more g i m within is = drop_more g i m within ∙ ap (λ (x : Encoded). x ∷ drop (i + 1) g) (got_at g i m m is)

-- a group of 64 members, and those behind it
pub full_group : (g rest all : List Encoded) → g ++ rest ≡ all → length g ≡ 64 → (g ≡ take 64 all) × (rest ≡ drop 64 all)
full_group g rest all is full =
    (sym (take_at g rest 64 full) ∙ ap (λ (xs : List Encoded). take 64 xs) is, sym (drop_at g rest 64 full) ∙ ap (λ (xs : List Encoded). drop 64 xs) is)

-- a group of all
pub whole_group : (g rest all : List Encoded) → g ++ rest ≡ all → rest ≡ [] → length g ≤ 64 → (g ≡ take 64 all) × (rest ≡ drop 64 all)
whole_group g rest all is none few =
    let e : g ≡ all = sym (append-nil g) ∙ ap (λ (xs : List Encoded). g ++ xs) (sym none) ∙ is in
    let n : length all ≤ 64 = subst (λ (xs : List Encoded). length xs ≤ 64) e few in
    (e ∙ sym (take_all 64 all n), none ∙ sym (drop_all 64 all n))

pub same_waiting : (a b : List Encoded) (r s : ℕ) → a ≡ b → r ≡ s → (let x : Waiting = record { members = a; room = r } in let y : Waiting = record { members = b; room = s } in x ≡ y)
same_waiting a b r s e h = λ i. record { members = e i; room = h i }

-- what a value tells
pub on_ok : {T E : Type 0} (r : Result T E) (P : Type 0) → IsOk r → OnOk r P → P
on_ok (Ok x) P ok h = h
on_ok (Err e) P ok h = absurd (let e : ⊥ = (cc) in e)

-- an outcome more for another number
none_still : (t u : ℕ) (o : Outcome) (kept : List (ℕ × Outcome)) → nat_eq t u ≡ false → outcome_of t kept ≡ None → outcome_of t (kept ++ (u, o) ∷ []) ≡ None
none_still t u o [] ne none = rw ne refl
none_still t u o (x ∷ kept) ne none = by (nat_eq t x.0) none (none_still t u o kept ne)
  where
    by : (b : Bool) → (if b then Some x.1 else outcome_of t kept) ≡ None → (outcome_of t kept ≡ None → outcome_of t (kept ++ (u, o) ∷ []) ≡ None)
        → (if b then Some x.1 else outcome_of t (kept ++ (u, o) ∷ [])) ≡ None
    by true h ih = h
    by false h ih = ih h

new_still : (u : ℕ) (o : Outcome) (g : List Encoded) (kept : List (ℕ × Outcome)) → has_member u g ≡ false → AllNew g kept → AllNew g (kept ++ (u, o) ∷ [])
new_still u o [] kept has new = tt
new_still u o (m ∷ g) kept has new = (none_still m.draft.tid u o kept (or_parts (nat_eq m.draft.tid u) (has_member u g) has).0 new.0, new.1, new_still u o g kept (or_parts (nat_eq m.draft.tid u) (has_member u g) has).1 new.2)
  where
    or_parts : (a b : Bool) → (a || b) ≡ false → (a ≡ false) × (b ≡ false)
    or_parts true b h = absurd (let e : ⊥ = (cc) in e)
    or_parts false b h = (refl, h)

-- What is kept behind the first outcomes, while those of a group are put there one by one.
pub record Appending (rest : List Encoded) (o : Outcome) (first now all : List (ℕ × Outcome)) : Type 0 where
  pub new : AllNew rest now
  pub same : now ++ kept_for o rest ≡ all

pub appending_more : (m : Encoded) (rest : List Encoded) (o : Outcome) (first now next all : List (ℕ × Outcome)) → Appending (m ∷ rest) o first now all
    → (outcome_of m.draft.tid now ≡ None → next ≡ now ++ (m.draft.tid, o) ∷ []) → Appending rest o first next all
appending_more m rest o first now next all h one = let e = one h.new.0 in record {
  new = subst (λ (k : List (ℕ × Outcome)). AllNew rest k) (sym e) (new_still m.draft.tid o rest now h.new.1 h.new.2);
  same = ap (λ (k : List (ℕ × Outcome)). k ++ kept_for o rest) e ∙ append_assoc now ((m.draft.tid, o) ∷ []) (kept_for o rest) ∙ h.same;
}
