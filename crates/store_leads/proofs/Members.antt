-- Whether the record of a transaction is among those of a group's members.
use Rattle.std.proofs.Common.{◌≡◌, ℕ, zero, suc, Bool, true, false, List, [], ◌∷◌, length, take, slice_get, refl, sym, ap, ◌∙◌, arith, Some}
use Rattle.std.specs.Prelude.{nat_eq, ◌||◌}
use Rattle.std.proofs.lemmas.Bool.{eq-eqb, ne_eqb, or_right}
use Rattle.std.proofs.lemmas.List.{take_all}
use Rattle.group_commit.specs.Encoded.{Encoded}
use Rattle.group_commit.specs.Members.{records_at}
use Rattle.core_states.specs.Numbers.{has_record}

-- it is the one at a place
pub has_at : (t e : ℕ) (ms : List Encoded) (i : ℕ) (m : Encoded) → slice_get ms i ≡ Some m → m.draft.tid ≡ t → has_record t (records_at e ms) ≡ true
has_at t e [] i m at is = absurd (let bad : ⊥ = (cc) in bad)
has_at t e (x ∷ ms) zero m at is = let same : x ≡ m = (cc) in rw (eq-eqb x.draft.tid t (ap (λ (z : Encoded). z.draft.tid) same ∙ is)) refl
has_at t e (x ∷ ms) (suc i) m at is = by_head (has_at t e ms i m at is)
  where
    by_head : has_record t (records_at e ms) ≡ true → has_record t (records_at e (x ∷ ms)) ≡ true
    by_head there = or_right (nat_eq x.draft.tid t) (has_record t (records_at e ms)) there

-- it is none of the first ones, nor the next
pub none_more : (t e : ℕ) (ms : List Encoded) (i : ℕ) (m : Encoded) → slice_get ms i ≡ Some m → (m.draft.tid ≡ t → ⊥) → has_record t (records_at e (take i ms)) ≡ false → has_record t (records_at e (take (suc i) ms)) ≡ false
none_more t e [] i m at other none = absurd (let bad : ⊥ = (cc) in bad)
none_more t e (x ∷ ms) zero m at other none = let same : x ≡ m = (cc) in rw (ne_eqb x.draft.tid t (λ is. other (ap (λ (z : Encoded). z.draft.tid) (sym same) ∙ is))) refl
none_more t e (x ∷ ms) (suc i) m at other none = by_head (nat_eq x.draft.tid t) none (none_more t e ms i m at other)
  where
    by_head : (b : Bool) → (b || has_record t (records_at e (take i ms))) ≡ false → (has_record t (records_at e (take i ms)) ≡ false → has_record t (records_at e (take (suc i) ms)) ≡ false) → (b || has_record t (records_at e (take (suc i) ms))) ≡ false
    by_head true is more = is
    by_head false is more = more is

-- it is none of all
pub none_at_all : (t e : ℕ) (ms : List Encoded) (i : ℕ) → i ≡ length ms → has_record t (records_at e (take i ms)) ≡ false → has_record t (records_at e ms) ≡ false
none_at_all t e ms i all none = ap (λ (xs : List Encoded). has_record t (records_at e xs)) (sym (take_all i ms (omega (arith, all)))) ∙ none
