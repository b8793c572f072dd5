-- The epochs of records that leave no gap.
use Rattle.std.proofs.Common.{◌≡◌, ℕ, ◌+◌, ◌≤◌, Bool, true, ◌||◌, List, [], ◌∷◌, ◌++◌, length, refl, inl, inr, arith}
use Rattle.std.specs.Prelude.{◌==◌, nat_lt, nat_le}
use Rattle.std.specs.List.{list_all}
use Rattle.std.proofs.lemmas.Bool.{and_parts, and_from, or_cases, or_right, eqb-true, leb-true, le-leb, lt-ltb}
use Rattle.graph_model.specs.declared.record.Record.{Record}
use Rattle.graph_model.specs.Records.{goes_on, begins_after, last_epoch}
use Rattle.group_codec.specs.Judging.{none_later}
use Rattle.group_codec.proofs.Lists.{all_more}

-- the next epoch is the same or one more
next-epoch : (e n : ℕ) → (n == e || n == e + 1) ≡ true → (e ≤ n) × (n ≤ e + 1)
next-epoch e n h = elim (or_cases (n == e) (n == e + 1) h) [
  | inl same ↦ let is = eqb-true n e same in (omega (arith, is), omega (arith, is))
  | inr next ↦ let is = eqb-true n (e + 1) next in (omega (arith, is), omega (arith, is))
]

pub begins-goes_on : (e : ℕ) (rs : List Record) → begins_after e rs ≡ true → goes_on e rs ≡ true
begins-goes_on e [] h = refl
begins-goes_on e (r ∷ rs) h =
    let parts = and_parts (r.epoch == e + 1) (goes_on r.epoch rs) h in
    and_from (r.epoch == e || r.epoch == e + 1) (goes_on r.epoch rs) (or_right (r.epoch == e) (r.epoch == e + 1) parts.0) parts.1

-- the last epoch is no earlier than the first, and each record adds one at most
pub last-between : (e : ℕ) (rs : List Record) → goes_on e rs ≡ true → (e ≤ last_epoch e rs) × (last_epoch e rs ≤ e + length rs)
last-between e [] h = (omega arith, omega arith)
last-between e (r ∷ rs) h =
    let parts = and_parts (r.epoch == e || r.epoch == e + 1) (goes_on r.epoch rs) h in
    let next = next-epoch e r.epoch parts.0 in
    let rest = last-between r.epoch rs parts.1 in
    (omega (arith, next.0, rest.0), omega (arith, next.1, rest.1))

-- no record is later than the last
pub none-after_last : (e : ℕ) (rs : List Record) → goes_on e rs ≡ true → none_later (last_epoch e rs) rs ≡ true
none-after_last e [] h = refl
none-after_last e (r ∷ rs) h =
    let parts = and_parts (r.epoch == e || r.epoch == e + 1) (goes_on r.epoch rs) h in
    and_from _ _ (le-leb r.epoch (last_epoch r.epoch rs) (last-between r.epoch rs parts.1).0) (none-after_last r.epoch rs parts.1)

all-from : (e : ℕ) (rs : List Record) → goes_on e rs ≡ true → list_all (λ r. nat_le e r.epoch) rs ≡ true
all-from e [] h = refl
all-from e (r ∷ rs) h =
    let parts = and_parts (r.epoch == e || r.epoch == e + 1) (goes_on r.epoch rs) h in
    let next = (next-epoch e r.epoch parts.0).0 in
    and_from _ _ (le-leb e r.epoch next) (all_more (λ s. nat_le r.epoch s.epoch) (λ s. nat_le e s.epoch) rs (λ s le. le-leb e s.epoch (omega (arith, next, leb-true r.epoch s.epoch le))) (all-from r.epoch rs parts.1))

-- records that begin after an epoch are later than it
pub all-later : (e : ℕ) (rs : List Record) → begins_after e rs ≡ true → list_all (λ r. nat_lt e r.epoch) rs ≡ true
all-later e [] h = refl
all-later e (r ∷ rs) h =
    let parts = and_parts (r.epoch == e + 1) (goes_on r.epoch rs) h in
    let is = eqb-true r.epoch (e + 1) parts.0 in
    and_from _ _ (lt-ltb e r.epoch (omega (arith, is))) (all_more (λ s. nat_le r.epoch s.epoch) (λ s. nat_lt e s.epoch) rs (λ s le. lt-ltb e s.epoch (omega (arith, is, leb-true r.epoch s.epoch le))) (all-from r.epoch rs parts.1))

goes_on-append : (e : ℕ) (xs ys : List Record) → goes_on e xs ≡ true → begins_after (last_epoch e xs) ys ≡ true → goes_on e (xs ++ ys) ≡ true
goes_on-append e [] ys h next = begins-goes_on e ys next
goes_on-append e (x ∷ xs) ys h next =
    let parts = and_parts (x.epoch == e || x.epoch == e + 1) (goes_on x.epoch xs) h in
    and_from _ _ parts.0 (goes_on-append x.epoch xs ys parts.1 next)

-- what begins after the last goes on from there
pub begins-append : (e : ℕ) (xs ys : List Record) → begins_after e xs ≡ true → begins_after (last_epoch e xs) ys ≡ true → begins_after e (xs ++ ys) ≡ true
begins-append e [] ys h next = next
begins-append e (x ∷ xs) ys h next =
    let parts = and_parts (x.epoch == e + 1) (goes_on x.epoch xs) h in
    and_from _ _ parts.0 (goes_on-append x.epoch xs ys parts.1 next)

-- where there is a record, the last epoch is that of one: what holds of each record's epoch holds of it
pub last-passes : (p : ℕ → Bool) (e : ℕ) (r : Record) (rs : List Record) → list_all (λ s. p s.epoch) (r ∷ rs) ≡ true → p (last_epoch e (r ∷ rs)) ≡ true
last-passes p e r [] all = (and_parts (p r.epoch) true all).0
last-passes p e r (s ∷ rs) all = last-passes p r.epoch s rs (and_parts (p r.epoch) (list_all (λ x. p x.epoch) (s ∷ rs)) all).1
