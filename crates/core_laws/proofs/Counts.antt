-- The last epoch is below the next transaction number, so epochs cannot run out before numbers.
use Rattle.std.proofs.Common.{◌≡◌, ℕ, zero, suc, ◌+◌, ◌-◌, ◌<◌, ◌≤◌, Bool, true, false, List, [], ◌∷◌, length, refl, sym, ap, ◌∙◌, subst, arith, length-append}
use Rattle.std.proofs.lemmas.Bool.{eqb-true, eqb-false}
use Rattle.std.specs.Prelude.{if◌then◌else◌, ◌==◌}
use Rattle.graph_model.specs.declared.graph.Base.{Base}
use Rattle.graph_model.specs.declared.record.Record.{Record}
use Rattle.core_kept.specs.Good.{Ghost, RecordsOk, Grouped, joined, Good}
use Rattle.core_states.specs.Numbers.{has_record}
use Rattle.core_states.specs.States.{State}

-- the records without a number's
abbrev without : ℕ → List Record → List Record
without t [] = []
without t (r ∷ rs) = if r.tid == t then without t rs else r ∷ without t rs

-- numbers that differ, from low on and below a bound
abbrev Apart_in : ℕ → ℕ → List Record → Type 0
Apart_in low high [] = Unit {0}
Apart_in low high (r ∷ rs) = (low ≤ r.tid) × (r.tid < high) × (has_record r.tid rs ≡ false) × Apart_in low high rs

same_without : (t : ℕ) (rs : List Record) → has_record t rs ≡ false → without t rs ≡ rs
same_without t [] none = refl
same_without t (r ∷ rs) none = grind (arith, same_without t rs)

one_less : (low high t : ℕ) (rs : List Record) → Apart_in low high rs → length rs ≤ length (without t rs) + 1
one_less low high t [] apart = omega arith
one_less low high t (r ∷ rs) apart = by_tid (r.tid == t) refl (one_less low high t rs apart.3)
  where
    by_tid : (b : Bool) → (r.tid == t) ≡ b → length rs ≤ length (without t rs) + 1 → length (r ∷ rs) ≤ length (without t (r ∷ rs)) + 1
    by_tid true e ih =
        let same = same_without t rs (ap (λ u. has_record u rs) (sym (eqb-true r.tid t e)) ∙ apart.2) in
        rw e (let q = ap (λ (l : List Record). length l) same in omega (arith, q))
    by_tid false e ih = rw e (omega arith)

has_without : (t u : ℕ) (rs : List Record) → has_record u rs ≡ false → has_record u (without t rs) ≡ false
has_without t u [] none = refl
has_without t u (r ∷ rs) none = grind (arith, has_without t u rs)

lower : (low high : ℕ) (rs : List Record) → Apart_in low (high + 1) rs → Apart_in low high (without high rs)
lower low high [] apart = tt
lower low high (r ∷ rs) apart = by_tid (r.tid == high) refl (lower low high rs apart.3)
  where
    by_tid : (b : Bool) → (r.tid == high) ≡ b → Apart_in low high (without high rs) → Apart_in low high (without high (r ∷ rs))
    by_tid true e ih = rw e ih
    by_tid false e ih = rw e (apart.0, (let n = eqb-false r.tid high e in let b = apart.1 in omega arith), has_without high r.tid rs apart.2, ih)

pub few : (n low : ℕ) (rs : List Record) → Apart_in low (low + n) rs → length rs ≤ n
few zero low [] apart = omega arith
few zero low (r ∷ rs) apart = absurd (let a = apart.0 in let b = apart.1 in omega arith)
few (suc n) low rs apart =
    let apart' : Apart_in low ((low + n) + 1) rs = subst (λ h. Apart_in low h rs) (omega arith) apart in
    let a = one_less low ((low + n) + 1) (low + n) rs apart' in
    let b = few n low (without (low + n) rs) (lower low (low + n) rs apart') in
    omega arith

-- each group has a record
groups_few : (e : ℕ) (gs : List (List Record)) → Grouped e gs → length gs ≤ length (joined gs)
groups_few e [] all = omega arith
groups_few e (rs ∷ gs) all = let ih = groups_few (e + 1) gs all.3 in let some = all.1 in let l = length-append rs (joined gs) in omega (arith, l)

apart_of : (base : Base) (g : Ghost) (n : ℕ) (rs : List Record) → RecordsOk base g n rs → Apart_in base.next_tid n rs
apart_of base g n [] ok = tt
apart_of base g n (r ∷ rs) ok = (ok.1, ok.2, ok.5, apart_of base g n rs ok.6)

gap : (a b : ℕ) → a ≤ b → (n : ℕ) × (a + n ≡ b)
gap a b le = (b - a, omega arith)

pub last_below : (base : Base) (g : Ghost) (s : State) → base.epoch < base.next_tid → Good base g s → s.clock.last < s.clock.next_tid
last_below base g s low good =
    let d = gap base.next_tid s.clock.next_tid good.next_tid in
    let count = few d.0 base.next_tid s.clock.records (subst (λ n. Apart_in base.next_tid n s.clock.records) (sym d.1) (apart_of base g s.clock.next_tid s.clock.records good.records)) in
    let groups = groups_few (base.epoch + 1) good.lawful.groups good.lawful.grouped in
    let are = ap (λ (l : List Record). length l) good.lawful.are in
    let last = good.lawful.last_is in
    omega (arith, count, groups, are, last, d.1)
