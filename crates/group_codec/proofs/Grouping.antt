-- The epochs and the sizes of groups.
use Rattle.std.proofs.Common.{◌≡◌, ℕ, ◌+◌, ◌<◌, ◌≤◌, Bool, true, false, not, cond, ◌&&◌, ◌||◌, List, [], ◌∷◌, ◌++◌, length, refl, sym, ap, ◌∙◌, subst, inl, inr, arith, append-nil}
use Rattle.std.specs.Prelude.{◌==◌, nat_lt, nat_le, count_by}
use Rattle.std.specs.List.{list_all}
use Rattle.std.proofs.lemmas.Bool.{and_parts, and_from, ltb-true, leb-true, le-leb, lt-ltb, eqb-true, ne_eqb, cases_order}
use Rattle.std.proofs.lemmas.Bool.Decides.{nat_tests}
use Rattle.std.proofs.lemmas.List.Folds.{list_all-append}
use Rattle.std.proofs.lemmas.List.Sums.{sum_by-append, sum_by-cons, count_by-le-length}
use Rattle.std.proofs.lemmas.List.Concat.{flat_map-append}
use Rattle.graph_model.specs.declared.record.Record.{Record}
use Rattle.graph_model.specs.Records.{goes_on, begins_after, group_most}
use Rattle.group_codec.specs.Spelling.{is_spelled, is_group}
use Rattle.group_codec.specs.Log.{are_groups, records_of}
use Rattle.group_codec.specs.Judging.{none_later}
use Rattle.group_codec.proofs.Lists.{all_more}
use Rattle.group_codec.proofs.Groups.{group-parts, spelled-parts}

-- each record of a group has its epoch
pub group-epochs : (epoch : ℕ) (g : List Record) → is_group epoch g ≡ true → list_all (λ r. r.epoch == epoch) g ≡ true
group-epochs epoch g ok =
    all_more (is_spelled epoch) (λ r. r.epoch == epoch) g (λ r s. (and_parts (r.epoch == epoch) _ s).0) (spelled-parts epoch g (group-parts epoch g ok).1).2

pub records_of-push : (groups : List (List Record)) (g : List Record) → records_of (groups ++ g ∷ []) ≡ records_of groups ++ g
records_of-push groups g = flat_map-append (λ x. x) groups (g ∷ []) ∙ ap (λ rs. records_of groups ++ rs) (append-nil g)

pub are_groups-append : (k : ℕ) (xs ys : List (List Record)) → are_groups k (xs ++ ys) ≡ (are_groups k xs && are_groups (k + length xs) ys)
are_groups-append k [] ys = ap (λ n. are_groups n ys) (omega arith)
are_groups-append k (g ∷ xs) ys =
    ap (λ b. is_group (k + 1) g && b) (are_groups-append (k + 1) xs ys ∙ ap (λ n. are_groups (k + 1) xs && are_groups n ys) (omega arith))
    ∙ turned (is_group (k + 1) g) (are_groups (k + 1) xs) (are_groups (k + length (g ∷ xs)) ys)
  where
    turned : (a b c : Bool) → (a && (b && c)) ≡ ((a && b) && c)
    turned a b c = grind (arith, nat_tests)

pub are_groups-push : (groups : List (List Record)) (g : List Record) → are_groups 0 groups ≡ true → is_group (length groups + 1) g ≡ true → are_groups 0 (groups ++ g ∷ []) ≡ true
are_groups-push groups g ok one =
    are_groups-append 0 groups (g ∷ []) ∙ and_from _ _ ok (and_from _ _ (ap (λ n. is_group n g) (omega arith) ∙ one) refl)

-- no record is later than the last group
pub groups-none_later : (k : ℕ) (groups : List (List Record)) → are_groups k groups ≡ true → none_later (k + length groups) (records_of groups) ≡ true
groups-none_later k [] ok = refl
groups-none_later k (g ∷ groups) ok =
    let parts = and_parts (is_group (k + 1) g) (are_groups (k + 1) groups) ok in
    let rest = ap (λ n. none_later n (records_of groups)) (omega arith) ∙ groups-none_later (k + 1) groups parts.1 in
    list_all-append (λ s. nat_le s.epoch (k + length (g ∷ groups))) g (records_of groups)
    ∙ and_from _ _ (all_more (λ r. r.epoch == (k + 1)) (λ s. nat_le s.epoch (k + length (g ∷ groups))) g (λ r e. le-leb r.epoch (k + length (g ∷ groups)) (omega (arith, eqb-true r.epoch (k + 1) e))) (group-epochs (k + 1) g parts.0)) rest

pub groups-later_than : (epoch : ℕ) (groups : List (List Record)) → are_groups 0 groups ≡ true → length groups ≤ epoch → none_later epoch (records_of groups) ≡ true
groups-later_than epoch groups ok le =
    all_more (λ s. nat_le s.epoch (0 + length groups)) (λ s. nat_le s.epoch epoch) (records_of groups) (λ s h. le-leb s.epoch epoch (omega (arith, leb-true s.epoch (0 + length groups) h, le))) (groups-none_later 0 groups ok)

-- and none is earlier than the first one
pub groups-later : (k : ℕ) (groups : List (List Record)) → are_groups k groups ≡ true → list_all (λ r. nat_lt k r.epoch) (records_of groups) ≡ true
groups-later k [] ok = refl
groups-later k (g ∷ groups) ok =
    let parts = and_parts (is_group (k + 1) g) (are_groups (k + 1) groups) ok in
    list_all-append (λ r. nat_lt k r.epoch) g (records_of groups)
    ∙ and_from _ _ (all_more (λ r. r.epoch == (k + 1)) (λ r. nat_lt k r.epoch) g (λ r e. lt-ltb k r.epoch (omega (arith, eqb-true r.epoch (k + 1) e))) (group-epochs (k + 1) g parts.0))
    (all_more (λ r. nat_lt (k + 1) r.epoch) (λ r. nat_lt k r.epoch) (records_of groups) (λ r e. lt-ltb k r.epoch (omega (arith, ltb-true (k + 1) r.epoch e))) (groups-later (k + 1) groups parts.1))

-- ---- the epochs begin after the one before, and leave no gap

goes_on-later : (k : ℕ) (rs : List Record) → begins_after k rs ≡ true → goes_on k rs ≡ true
goes_on-later k [] h = refl
goes_on-later k (r ∷ rs) h = let parts = and_parts (r.epoch == k + 1) (goes_on r.epoch rs) h in next (r.epoch == k) (r.epoch == k + 1) (goes_on r.epoch rs) parts.0 parts.1
  where
    next : (a b c : Bool) → b ≡ true → c ≡ true → ((a || b) && c) ≡ true
    next a b c p q = grind (arith, nat_tests)

goes_on-within : (e : ℕ) (xs ys : List Record) → list_all (λ r. r.epoch == e) xs ≡ true → goes_on e ys ≡ true → goes_on e (xs ++ ys) ≡ true
goes_on-within e [] ys same rest = rest
goes_on-within e (x ∷ xs) ys same rest =
    let parts = and_parts (x.epoch == e) (list_all (λ r. r.epoch == e) xs) same in
    let is = eqb-true x.epoch e parts.0 in
    let tail = subst (λ n. goes_on n (xs ++ ys) ≡ true) (sym is) (goes_on-within e xs ys parts.1 rest) in
    next (x.epoch == e) (x.epoch == e + 1) (goes_on x.epoch (xs ++ ys)) parts.0 tail
  where
    next : (a b c : Bool) → a ≡ true → c ≡ true → ((a || b) && c) ≡ true
    next a b c p q = grind (arith, nat_tests)

begins-group : (k : ℕ) (g rest : List Record) → 0 < length g → list_all (λ r. r.epoch == k + 1) g ≡ true → goes_on (k + 1) rest ≡ true → begins_after k (g ++ rest) ≡ true
begins-group k [] rest some same on = absurd (omega arith)
begins-group k (x ∷ xs) rest some same on =
    let parts = and_parts (x.epoch == k + 1) (list_all (λ r. r.epoch == k + 1) xs) same in
    let is = eqb-true x.epoch (k + 1) parts.0 in
    and_from _ _ parts.0 (subst (λ n. goes_on n (xs ++ rest) ≡ true) (sym is) (goes_on-within (k + 1) xs rest parts.1 on))

pub groups-begin : (k : ℕ) (groups : List (List Record)) → are_groups k groups ≡ true → begins_after k (records_of groups) ≡ true
groups-begin k [] ok = refl
groups-begin k (g ∷ groups) ok =
    let parts = and_parts (is_group (k + 1) g) (are_groups (k + 1) groups) ok in
    let some = (spelled-parts (k + 1) g (group-parts (k + 1) g parts.0).1).0 in
    begins-group k g (records_of groups) some (group-epochs (k + 1) g parts.0) (goes_on-later (k + 1) (records_of groups) (groups-begin (k + 1) groups parts.1))

-- ---- no epoch has more records than a group may

count-append : (e : ℕ) (xs ys : List Record) → count_by (λ s. s.epoch == e) (xs ++ ys) ≡ count_by (λ s. s.epoch == e) xs + count_by (λ s. s.epoch == e) ys
count-append e xs ys = sum_by-append (λ s. cond (s.epoch == e) 1 0) xs ys

count-none : (e : ℕ) (rs : List Record) → list_all (λ r. not (r.epoch == e)) rs ≡ true → count_by (λ s. s.epoch == e) rs ≡ 0
count-none e [] h = refl
count-none e (r ∷ rs) h =
    let parts = and_parts (not (r.epoch == e)) (list_all (λ s. not (s.epoch == e)) rs) h in
    let rest = count-none e rs parts.1 in
    let one = sum_by-cons (λ s. cond (s.epoch == e) 1 0) r rs in
    let here : cond {A = ℕ} (r.epoch == e) 1 0 ≡ 0 = nothing (r.epoch == e) parts.0 in
    omega (arith, rest, one, here)
  where
    nothing : (b : Bool) → not b ≡ true → cond {A = ℕ} b 1 0 ≡ 0
    nothing true h = (cc)
    nothing false h = refl

pub groups-few : (e k : ℕ) (groups : List (List Record)) → are_groups k groups ≡ true → count_by (λ s. s.epoch == e) (records_of groups) ≤ group_most
groups-few e k [] ok = omega arith
groups-few e k (g ∷ groups) ok =
    let parts = and_parts (is_group (k + 1) g) (are_groups (k + 1) groups) ok in
    let both = count-append e g (records_of groups) in
    let few = (spelled-parts (k + 1) g (group-parts (k + 1) g parts.0).1).1 in
    elim (cases_order e (k + 1)) [
      | inl same ↦
          let most = count_by-le-length (λ s. s.epoch == e) g in
          let later = count-none e (records_of groups) (all_more (λ r. nat_lt (k + 1) r.epoch) (λ r. not (r.epoch == e)) (records_of groups)
          (λ r h. other r.epoch (omega (arith, same, ltb-true (k + 1) r.epoch h))) (groups-later (k + 1) groups parts.1)) in
          omega (arith, both, few, most, later)
      | inr apart ↦
          let here = count-none e g (all_more (λ r. r.epoch == k + 1) (λ r. not (r.epoch == e)) g
          (λ r h. other r.epoch (elim apart [ inl low ↦ omega (arith, low, eqb-true r.epoch (k + 1) h) | inr high ↦ omega (arith, high, eqb-true r.epoch (k + 1) h) ])) (group-epochs (k + 1) g parts.0)) in
          let rest = groups-few e (k + 1) groups parts.1 in
          omega (arith, both, here, rest)
    ]
  where
    other : (n : ℕ) → (n ≡ e → ⊥) → not (n == e) ≡ true
    other n ne = ap not (ne_eqb n e ne)
