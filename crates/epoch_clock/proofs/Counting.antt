-- How many records of each epoch are not done, and how far that lets the visible epoch rise.
use Rattle.std.proofs.Common.{ℕ, zero, suc, ◌≡◌, ◌≢◌, ◌+◌, ◌-◌, ◌<◌, ◌≤◌, min, Bool, true, false, List, [], ◌∷◌, ◌++◌, length, get_or, refl, sym, ap, subst, ◌∙◌, arith}
use Rattle.std.specs.Prelude.{if◌then◌else◌, ◌==◌}
use Rattle.std.proofs.Math.ListN.{set}
use Rattle.std.proofs.lemmas.Bool.{eq-eqb, eqb-true, eqb-false, ne_eqb}
use Rattle.std.proofs.lemmas.Bool.Decides.{nat_tests}
use Rattle.graph_model.specs.declared.record.Record.{Record}
use Rattle.core_states.specs.declared.clock.Active.{Active}
use Rattle.core_states.specs.Numbers.{without_active, visible_of, pending_of}
use Rattle.epoch_clock.specs.Decided.{count_at, Counts, EpochsWithin, BeginsAbove, risen}

-- counts that stay from an epoch on
counts_same : (b : ℕ) (ns : List ℕ) (old new : List Active) → ((f : ℕ) → b ≤ f → count_at f new ≡ count_at f old) → Counts b ns old → Counts b ns new
counts_same b [] old new same h = tt
counts_same b (n ∷ ns) old new same h = (h.0 ∙ sym (same b (omega arith)), counts_same (b + 1) ns old new (λ f le. same f (omega arith)) h.1)

-- one record less in one epoch
pub counts_less : (b i e : ℕ) (ns : List ℕ) (old new : List Active) → b + i ≡ e → ((f : ℕ) → count_at f new + (if e == f then 1 else 0) ≡ count_at f old) → Counts b ns old
    → Counts b (set ns i (get_or ns i 0 - 1)) new
counts_less b i e [] old new at less h = tt
counts_less b zero e (n ∷ ns) old new at less h = (
  (let l = subst (λ (t : Bool). count_at b new + (if t then 1 else 0) ≡ count_at b old) (eq-eqb e b (omega arith)) (less b) in let a = h.0 in omega arith),
  counts_same (b + 1) ns old new (λ f le. (let l = subst (λ (t : Bool). count_at f new + (if t then 1 else 0) ≡ count_at f old) (ne_eqb e f (λ same. omega arith)) (less f) in omega arith)) h.1,
)
counts_less b (suc i) e (n ∷ ns) old new at less h = (
  (let l = subst (λ (t : Bool). count_at b new + (if t then 1 else 0) ≡ count_at b old) (ne_eqb e b (λ same. omega arith)) (less b) in let a = h.0 in omega arith),
  counts_less (b + 1) i e ns old new (omega arith) less h.1,
)

pub count_there : (b i e : ℕ) (ns : List ℕ) (pending : List Active) → b + i ≡ e → i < length ns → Counts b ns pending → get_or ns i 0 ≡ count_at e pending
count_there b i e [] pending at within h = absurd (omega arith)
count_there b zero e (n ∷ ns) pending at within h = h.0 ∙ ap (λ (f : ℕ). count_at f pending) (let q : b ≡ e = omega arith in q)
count_there b (suc i) e (n ∷ ns) pending at within h = count_there (b + 1) i e ns pending (omega arith) (omega arith) h.1

-- an epoch with a record that is not done is one of those
pub count_within : (e low high : ℕ) (pending : List Active) → 0 < count_at e pending → EpochsWithin low high pending → (low < e) × (e ≤ high)
count_within e low high [] some within = absurd (omega arith)
count_within e low high (x ∷ xs) some within = by (x.epoch == e) refl some (λ more. count_within e low high xs more within.2)
  where
    by : (b : Bool) → (x.epoch == e) ≡ b → 0 < (if b then suc (count_at e xs) else count_at e xs) → (0 < count_at e xs → (low < e) × (e ≤ high)) → (low < e) × (e ≤ high)
    by true q h ih = let same = eqb-true x.epoch e q in let a = within.0 in let b = within.1 in (omega arith, omega arith)
    by false q h ih = ih h

pub within_without : (t low high : ℕ) (pending : List Active) → EpochsWithin low high pending → EpochsWithin low high (without_active t pending)
within_without t low high [] h = tt
within_without t low high (x ∷ xs) h = by (x.tid == t) (within_without t low high xs h.2)
  where
    by : (b : Bool) → EpochsWithin low high (without_active t xs) → EpochsWithin low high (if b then without_active t xs else x ∷ without_active t xs)
    by true ih = ih
    by false ih = (h.0, h.1, ih)

-- an epoch in which all is done
within_more : (v high : ℕ) (pending : List Active) → 0 ≡ count_at (v + 1) pending → EpochsWithin v high pending → EpochsWithin (v + 1) high pending
within_more v high [] none h = tt
within_more v high (x ∷ xs) none h = by (x.epoch == v + 1) refl none (λ more. within_more v high xs more h.2)
  where
    by : (b : Bool) → (x.epoch == v + 1) ≡ b → 0 ≡ (if b then suc (count_at (v + 1) xs) else count_at (v + 1) xs) → (0 ≡ count_at (v + 1) xs → EpochsWithin (v + 1) high xs) → EpochsWithin (v + 1) high (x ∷ xs)
    by true q n ih = absurd (omega arith)
    by false q n ih = let ne = eqb-false x.epoch (v + 1) q in let a = h.0 in ((let r : v + 1 < x.epoch = omega (arith, ne) in r), h.1, ih n)

-- What holds of the visible epoch and the counts above it.
pub record Stands (v last : ℕ) (ns : List ℕ) (pending : List Active) : Type 0 where
  pub ends : v + length ns ≡ last
  pub within : EpochsWithin v last pending
  pub counts : Counts (v + 1) ns pending
  pub front : BeginsAbove ns

pub rises : (v w last : ℕ) (ns : List ℕ) (pending : List Active) → v + length ns ≡ last → EpochsWithin v last pending → Counts (v + 1) ns pending → w + length (risen ns) ≡ last
    → Stands w last (risen ns) pending
rises v w last [] pending ends within counts up =
    let same : v ≡ w = omega arith in record { ends = up; within = subst (λ (n : ℕ). EpochsWithin n last pending) same within; counts = tt; front = tt }
rises v w last (zero ∷ ns) pending ends within counts up =
    rises (v + 1) w last ns pending (omega arith) (within_more v last pending counts.0 within) counts.1 up
rises v w last (suc n ∷ ns) pending ends within counts up =
    let same : v ≡ w = omega arith in record {
      ends = up;
      within = subst (λ (n : ℕ). EpochsWithin n last pending) same within;
      counts = subst (λ (m : ℕ). Counts (m + 1) (suc n ∷ ns) pending) same counts;
      front = omega arith;
    }

visible_high : (high : ℕ) (pending : List Active) → visible_of high pending ≤ high
visible_high high [] = omega arith
visible_high high (x ∷ xs) = let ih = visible_high high xs in omega arith

visible_from : (v high : ℕ) (pending : List Active) → v ≤ high → EpochsWithin v high pending → v ≤ visible_of high pending
visible_from v high [] le h = le
visible_from v high (x ∷ xs) le h = let ih = visible_from v high xs le h.2 in let a = h.0 in omega arith

visible_until : (v high : ℕ) (pending : List Active) → 0 < count_at (v + 1) pending → visible_of high pending ≤ v
visible_until v high [] some = absurd (omega arith)
visible_until v high (x ∷ xs) some = by (x.epoch == v + 1) refl some (visible_until v high xs)
  where
    by : (b : Bool) → (x.epoch == v + 1) ≡ b → 0 < (if b then suc (count_at (v + 1) xs) else count_at (v + 1) xs) → (0 < count_at (v + 1) xs → visible_of high xs ≤ v) → visible_of high (x ∷ xs) ≤ v
    by true q h ih = let same = eqb-true x.epoch (v + 1) q in omega arith
    by false q h ih = let less = ih h in omega arith

-- so it is the epoch up to which all records are done
pub visible_is : (v last : ℕ) (ns : List ℕ) (pending : List Active) → Stands v last ns pending → v ≡ visible_of last pending
visible_is v last [] pending h =
    let a = h.ends in let low = visible_from v last pending (omega arith) h.within in let high = visible_high last pending in omega arith
visible_is v last (n ∷ ns) pending h =
    let a = h.ends in
    let low = visible_from v last pending (omega arith) h.within in
    let c = h.counts.0 in let f = h.front in
    let high = visible_until v last pending (omega arith) in omega arith

-- A group is published.
count-append : (f : ℕ) (xs ys : List Active) → count_at f (xs ++ ys) ≡ count_at f xs + count_at f ys
count-append f [] ys = omega arith
count-append f (x ∷ xs) ys = by (x.epoch == f) (count-append f xs ys)
  where
    by : (b : Bool) → count_at f (xs ++ ys) ≡ count_at f xs + count_at f ys → (if b then suc (count_at f (xs ++ ys)) else count_at f (xs ++ ys)) ≡ (if b then suc (count_at f xs) else count_at f xs) + count_at f ys
    by true ih = omega arith
    by false ih = ih

count_group : (e : ℕ) (rs : List Record) → count_at e (pending_of e rs) ≡ length rs
count_group e [] = refl
count_group e (r ∷ rs) = rw (eq-eqb e e refl) (ap suc (count_group e rs))

count_other : (e f : ℕ) (rs : List Record) → e ≢ f → count_at f (pending_of e rs) ≡ 0
count_other e f [] ne = refl
count_other e f (r ∷ rs) ne = rw (ne_eqb e f ne) (count_other e f rs ne)

count_above : (e low high : ℕ) (pending : List Active) → high < e → EpochsWithin low high pending → count_at e pending ≡ 0
count_above e low high [] lt h = refl
count_above e low high (x ∷ xs) lt h = let a = h.1 in rw (ne_eqb x.epoch e (λ same. omega arith)) (count_above e low high xs lt h.2)

counts_more : (b e : ℕ) (ns : List ℕ) (old : List Active) (rs : List Record) → b + length ns ≡ e → count_at e old ≡ 0 → Counts b ns old → Counts b (ns ++ length rs ∷ []) (old ++ pending_of e rs)
counts_more b e [] old rs at none h =
    let same : b ≡ e = omega arith in
    ((let c = count-append e old (pending_of e rs) in let g = count_group e rs in subst (λ (f : ℕ). length rs ≡ count_at f (old ++ pending_of e rs)) (sym same) (omega arith)), tt)
counts_more b e (n ∷ ns) old rs at none h = (
  (let c = count-append b old (pending_of e rs) in let g = count_other e b rs (λ same. omega arith) in let a = h.0 in omega arith),
  counts_more (b + 1) e ns old rs (omega arith) none h.1,
)

within_up : (low high : ℕ) (pending : List Active) → EpochsWithin low high pending → EpochsWithin low (high + 1) pending
within_up low high [] h = tt
within_up low high (x ∷ xs) h = (h.0, (let a = h.1 in omega arith), within_up low high xs h.2)

within_group : (low high : ℕ) (rs : List Record) → low ≤ high → EpochsWithin low (high + 1) (pending_of (high + 1) rs)
within_group low high [] le = tt
within_group low high (r ∷ rs) le = (omega arith, omega arith, within_group low high rs le)

within-append : (low high : ℕ) (xs ys : List Active) → EpochsWithin low high xs → EpochsWithin low high ys → EpochsWithin low high (xs ++ ys)
within-append low high [] ys h g = g
within-append low high (x ∷ xs) ys h g = (h.0, h.1, within-append low high xs ys h.2 g)

begins_still : (ns : List ℕ) (n : ℕ) → 0 < n → BeginsAbove ns → BeginsAbove (ns ++ n ∷ [])
begins_still [] n lt h = lt
begins_still (m ∷ ns) n lt h = h

length_more : (ns : List ℕ) (n : ℕ) → length (ns ++ n ∷ []) ≡ length ns + 1
length_more [] n = refl
length_more (m ∷ ns) n = let ih = length_more ns n in omega arith

pub stands_more : (v last : ℕ) (ns : List ℕ) (pending : List Active) (rs : List Record) → 0 < length rs → Stands v last ns pending
    → Stands v (last + 1) (ns ++ length rs ∷ []) (pending ++ pending_of (last + 1) rs)
stands_more v last ns pending rs some h =
    let a = h.ends in record {
      ends = (let l = length_more ns (length rs) in omega arith);
      within = within-append v (last + 1) pending (pending_of (last + 1) rs) (within_up v last pending h.within) (within_group v last rs (omega arith));
      counts = counts_more (v + 1) (last + 1) ns pending rs (omega arith) (count_above (last + 1) v last pending (omega arith) h.within) h.counts;
      front = begins_still ns (length rs) some h.front;
    }
