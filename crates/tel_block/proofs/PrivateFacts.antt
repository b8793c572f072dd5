-- Where private stamps stand, while entries are appended, ended and settled.
use Rattle.std.proofs.Common.{◌≡◌, ℕ, suc, ◌+◌, ◌-◌, ◌^◌, ◌<◌, ◌≤◌, Bool, true, false, List, [], ◌∷◌, ◌++◌, length, get_or, refl, sym, ap, subst, ◌∙◌, ⊎_elim, inl, inr, arith}
use Rattle.std.specs.Prelude.{◌⊎◌, ◌==◌, ◌||◌, ◌&&◌, nat_le, if◌then◌else◌, Option, Some, None}
use Rattle.std.specs.List.{list_any}
use Rattle.std.proofs.lemmas.Bool.{cases_lt, cases_eq, true≢false}
use Rattle.std.proofs.lemmas.Bool.Decides.{nat_tests}
use Rattle.std.proofs.lemmas.List.Folds.{list_any-append}
use Rattle.stamps.specs.declared.stamp.Stamp.{Stamp}
use Rattle.stamps.specs.declared.stamp.Stamp.TheVariants.{Never, At, By}
use Rattle.stamps.specs.Stamps.{is_by, is_private, converted_stamp, cleared_stamp}
use Rattle.edge_log.specs.Entries.{Entry, converted, cleared}
use Rattle.edge_log.specs.Places.{entry_at, oldest, ended_at}
use Rattle.edge_log.proofs.EntryLemmas.{length-ended_at, length-converted, length-cleared}
use Rattle.tel_entry.specs.RawStamps.{raw_of, HasRaw}
use Rattle.block_layout.specs.Rows.{HaveRows}
use Rattle.block_layout.specs.Blocks.{HoldsEntries}
use Rattle.block_layout.proofs.AtPlaces.{at_newest, at_older, entry_at-within, there}
use Rattle.block_writing.specs.Changed.{is_among, AreReached}
use Rattle.tel_block.specs.Logs.{is_stamp_to, is_private_to, IsReached}

-- a stamp that is private to one is private
stamp-private : (of : Option ℕ) (s : Stamp) → is_stamp_to of s ≡ true → is_private s ≡ true
stamp-private None s is = is
stamp-private (Some t) Never is = is
stamp-private (Some t) (At e) is = is
stamp-private (Some t) (By u) is = refl

pub or-cases : (a b : Bool) → (a || b) ≡ true → (a ≡ true) ⊎ (b ≡ true)
or-cases true b is = inl refl
or-cases false b is = inr is

pub entry-private : (of : Option ℕ) (x : Entry) → is_private_to of x ≡ true → is_private_to None x ≡ true
entry-private of x is =
    ⊎_elim
    (λ (a : is_stamp_to of x.created ≡ true). grind (arith, stamp-private of x.created a))
    (λ (b : is_stamp_to of x.ended ≡ true). grind (arith, stamp-private of x.ended b, nat_tests))
    (or-cases (is_stamp_to of x.created) (is_stamp_to of x.ended) is)

-- those of one transaction stand there too
pub reached-of : (t : ℕ) (noted : List ℕ) (from : ℕ) (xs : List Entry) → IsReached noted from xs → AreReached t noted from xs
reached-of t noted from [] reached = tt
reached-of t noted from (x ∷ xs) reached = (λ is. reached.0 (entry-private (Some t) x is), reached-of t noted from xs reached.1)

pub reached-oldest : (noted : List ℕ) (from n : ℕ) (xs : List Entry) → IsReached noted from xs → IsReached noted from (oldest n xs)
reached-oldest noted from n [] reached = tt
reached-oldest noted from n (x ∷ xs) reached = by_test (nat_le (length xs + 1) n) (reached-oldest noted from n xs reached.1)
  where
    by_test : (b : Bool) → IsReached noted from (oldest n xs) → IsReached noted from (if b then x ∷ xs else oldest n xs)
    by_test true older = reached
    by_test false older = older

converted-private : (t e : ℕ) (s : Stamp) → is_private (converted_stamp t e s) ≡ true → is_private s ≡ true
converted-private t e Never is = is
converted-private t e (At n) is = is
converted-private t e (By u) is = refl

cleared-private : (t : ℕ) (s : Stamp) → is_private (cleared_stamp t s) ≡ true → is_private s ≡ true
cleared-private t Never is = is
cleared-private t (At n) is = is
cleared-private t (By u) is = refl

pub reached-converted : (t e : ℕ) (noted : List ℕ) (from : ℕ) (xs : List Entry) → IsReached noted from xs → IsReached noted from (converted t e xs)
reached-converted t e noted from [] reached = tt
reached-converted t e noted from (x ∷ xs) reached = (
  λ is. subst (λ (n : ℕ). (nat_le from n || is_among noted n) ≡ true) (sym (length-converted t e xs)) (reached.0 (⊎_elim
      (λ (a : is_private (converted_stamp t e x.created) ≡ true). grind (arith, converted-private t e x.created a))
      (λ (b : is_private (converted_stamp t e x.ended) ≡ true). grind (arith, converted-private t e x.ended b, nat_tests))
      (or-cases (is_private (converted_stamp t e x.created)) (is_private (converted_stamp t e x.ended)) is))),
  reached-converted t e noted from xs reached.1,
)

pub reached-cleared : (t : ℕ) (noted : List ℕ) (from : ℕ) (xs : List Entry) → IsReached noted from xs → IsReached noted from (cleared t xs)
reached-cleared t noted from [] reached = tt
reached-cleared t noted from (x ∷ xs) reached = (
  λ is. subst (λ (n : ℕ). (nat_le from n || is_among noted n) ≡ true) (sym (length-cleared t xs)) (reached.0 (⊎_elim
      (λ (a : is_private x.created ≡ true). grind (arith, a))
      (λ (b : is_private (cleared_stamp t x.ended) ≡ true). grind (arith, cleared-private t x.ended b, nat_tests))
      (or-cases (is_private x.created) (is_private (cleared_stamp t x.ended)) is))),
  reached-cleared t noted from xs reached.1,
)

-- the entry at a place is ended, which is noted or reached without
pub reached-ended : (noted more : List ℕ) (from : ℕ) (xs : List Entry) (n t : ℕ) → ((k : ℕ) → is_among noted k ≡ true → is_among more k ≡ true) → (n < from → is_among more n ≡ true)
    → IsReached noted from xs → IsReached more from (ended_at xs n t)
reached-ended noted more from [] n t kept here reached = tt
reached-ended noted more from (x ∷ xs) n t kept here reached = by_place (n == length xs) refl (reached-ended noted more from xs n t kept here reached.1)
  where
    widen : (k : ℕ) → (nat_le from k || is_among noted k) ≡ true → (nat_le from k || is_among more k) ≡ true
    widen k is = ⊎_elim
        (λ (a : nat_le from k ≡ true). grind (arith, a))
        (λ (b : is_among noted k ≡ true). grind (arith, kept k b, nat_tests))
        (or-cases (nat_le from k) (is_among noted k) is)

    all : (ys : List Entry) → IsReached noted from ys → IsReached more from ys
    all [] r = tt
    all (y ∷ ys) r = (λ is. widen (length ys) (r.0 is), all ys r.1)

    by_from : (n ≡ length xs) → (n < from) ⊎ (from ≤ n) → (nat_le from (length xs) || is_among more (length xs)) ≡ true
    by_from same (inl below) = let h = here below in grind (arith, nat_tests, h, same)
    by_from same (inr above) = grind (arith, nat_tests, same)

    by_place : (b : Bool) → (n == length xs) ≡ b → IsReached more from (ended_at xs n t) → IsReached more from (if b then record x { ended = By t } ∷ xs else x ∷ ended_at xs n t)
    by_place true same older = (λ _. by_from (grind (arith, nat_tests, same)) (cases_lt n from), all xs reached.1)
    by_place false other older = (λ is. subst (λ (k : ℕ). (nat_le from k || is_among more k) ≡ true) (sym (length-ended_at xs n t)) (widen (length xs) (reached.0 is)), older)

-- where nothing is private, all is reached
pub none-reached : (noted : List ℕ) (from : ℕ) (xs : List Entry) → list_any (is_private_to None) xs ≡ false → IsReached noted from xs
none-reached noted from [] none = tt
none-reached noted from (x ∷ xs) none = by_test (is_private_to None x) refl none (λ rest. none-reached noted from xs rest)
  where
    by_test : (b : Bool) → is_private_to None x ≡ b → (b || list_any (is_private_to None) xs) ≡ false → (list_any (is_private_to None) xs ≡ false → IsReached noted from xs) → IsReached noted from (x ∷ xs)
    by_test true is rest older = absurd (true≢false rest)
    by_test false is rest older = (λ private. absurd (true≢false (sym private ∙ is)), older rest)

or-true : (b : Bool) → (b || true) ≡ true
or-true true = refl
or-true false = refl

-- one that is private is found
pub any-found : (of : Option ℕ) (n : ℕ) (xs : List Entry) (x : Entry) → entry_at xs n ≡ Some x → is_private_to of x ≡ true → list_any (is_private_to of) xs ≡ true
any-found of n [] x at is = absurd (cc at)
any-found of n (y ∷ ys) x at is = by_place (n == length ys) refl at (λ older. any-found of n ys x older is)
  where
    by_place : (b : Bool) → (n == length ys) ≡ b → (if b then Some y else entry_at ys n) ≡ Some x → (entry_at ys n ≡ Some x → list_any (is_private_to of) ys ≡ true) → (is_private_to of y || list_any (is_private_to of) ys) ≡ true
    by_place true same here _ =
        let e : y ≡ x = cc here in
        let p : is_private_to of y ≡ true = ap (is_private_to of) e ∙ is in
        ap (λ (b : Bool). b || list_any (is_private_to of) ys) p
    by_place false other behind older =
        let h = older behind in
        ap (λ (b : Bool). is_private_to of y || b) h ∙ or-true (is_private_to of y)

-- where none at these places is private, none is
pub none-found : (of : Option ℕ) (noted : List ℕ) (from : ℕ) (xs : List Entry) → IsReached noted from xs
    → ((n : ℕ) (x : Entry) → entry_at xs n ≡ Some x → (nat_le from n || is_among noted n) ≡ true → is_private_to of x ≡ false) → list_any (is_private_to of) xs ≡ false
none-found of noted from [] reached none = refl
none-found of noted from (x ∷ xs) reached none =
    let older = none-found of noted from xs reached.1 (λ n y at place. none n y (at_older x xs n (entry_at-within xs n y at) ∙ at) place) in
    ap (λ (b : Bool). b || list_any (is_private_to of) xs) (by_test (is_private_to of x) refl) ∙ older
  where
    by_test : (b : Bool) → is_private_to of x ≡ b → is_private_to of x ≡ false
    by_test true is = none (length xs) x (at_newest x xs) (reached.0 (entry-private of x is))
    by_test false is = is

-- a number that no stamp has changes nothing
no-stamp : (t : ℕ) (s : Stamp) → 2 ^ 63 ≤ t → HasRaw s → is_by t s ≡ false
no-stamp t Never large has = refl
no-stamp t (At e) large has = refl
no-stamp t (By u) large has = grind (arith, nat_tests, large, has)

converted-same : (t e : ℕ) (s : Stamp) → is_by t s ≡ false → converted_stamp t e s ≡ s
converted-same t e Never other = refl
converted-same t e (At n) other = refl
converted-same t e (By u) other = ap (λ (b : Bool). if b then At e else By u) other

cleared-same : (t : ℕ) (s : Stamp) → is_by t s ≡ false → cleared_stamp t s ≡ s
cleared-same t Never other = refl
cleared-same t (At n) other = refl
cleared-same t (By u) other = ap (λ (b : Bool). if b then Never else By u) other

same-front : (x : Entry) (c c' n n' : Stamp) (ys ys' : List Entry) → c ≡ c' → n ≡ n' → ys ≡ ys' →
    ◌≡◌ {A = List Entry} (record { d = x.d; p = x.p; created = c; ended = n } ∷ ys) (record { d = x.d; p = x.p; created = c'; ended = n' } ∷ ys')
same-front x c c' n n' ys ys' e1 e2 e3 = cc (e1, e2, e3)

pub converted-none : (t e : ℕ) (xs : List Entry) → 2 ^ 63 ≤ t → HaveRows xs → converted t e xs ≡ xs
converted-none t e [] large fit = refl
converted-none t e (x ∷ xs) large fit =
    let a = converted-same t e x.created (no-stamp t x.created large fit.0.created) in
    let b = converted-same t e x.ended (no-stamp t x.ended large fit.0.ended) in
    let rest = converted-none t e xs large fit.1 in
    same-front x (converted_stamp t e x.created) x.created (converted_stamp t e x.ended) x.ended (converted t e xs) xs a b rest

pub cleared-none : (t : ℕ) (xs : List Entry) → 2 ^ 63 ≤ t → HaveRows xs → cleared t xs ≡ xs
cleared-none t [] large fit = refl
cleared-none t (x ∷ xs) large fit =
    let b = cleared-same t x.ended (no-stamp t x.ended large fit.0.ended) in
    let rest = cleared-none t xs large fit.1 in
    same-front x x.created x.created (cleared_stamp t x.ended) x.ended (cleared t xs) xs refl b rest

-- the number of a stamp says to whom it is private
pub stamp-to-none : (s : Stamp) (raw : ℕ) → HasRaw s → raw ≡ raw_of s → nat_le 0x8000_0000_0000_0000 raw ≡ is_private s
stamp-to-none Never raw has same = grind (arith, nat_tests, same)
stamp-to-none (At e) raw has same = let below = has.1 in grind (arith, nat_tests, same, below)
stamp-to-none (By u) raw has same = grind (arith, nat_tests, same)

pub stamp-to-some : (t : ℕ) (s : Stamp) (raw : ℕ) → HasRaw s → raw ≡ raw_of s → (nat_le 0x8000_0000_0000_0000 raw && raw - 0x8000_0000_0000_0000 == t) ≡ is_by t s
stamp-to-some t Never raw has same = grind (arith, nat_tests, same)
stamp-to-some t (At e) raw has same = let below = has.1 in grind (arith, nat_tests, same, below)
stamp-to-some t (By u) raw has same = grind (arith, nat_tests, same)

-- a place among noted ones, and one noted more
pub among-kept : (noted : List ℕ) (n k : ℕ) → is_among noted k ≡ true → is_among (noted ++ n ∷ []) k ≡ true
among-kept noted n k is = list_any-append (λ m. m == k) noted (n ∷ []) ∙ ap (λ (b : Bool). b || list_any (λ m. m == k) (n ∷ [])) is

pub among-here : (noted : List ℕ) (n : ℕ) → is_among (noted ++ n ∷ []) n ≡ true
among-here noted n = list_any-append (λ m. m == n) noted (n ∷ []) ∙ grind (arith, nat_tests)

-- no entry at a place is private
abbrev pub IsNoneAt : Option ℕ → List ℕ → ℕ → Type 0
IsNoneAt of bytes n = (start : ℕ) (xs : List Entry) (x : Entry) → HoldsEntries start xs bytes → entry_at xs n ≡ Some x → is_private_to of x ≡ false

pub none-noted : (of : Option ℕ) (bytes noted : List ℕ) (i : ℕ) → IsNoneAt of bytes (get_or noted i 0) → ((k : ℕ) → k < i → IsNoneAt of bytes (get_or noted k 0)) → (k : ℕ) → k < i + 1 → IsNoneAt of bytes (get_or noted k 0)
none-noted of bytes noted i here so_far k within = by_index (cases_eq k i)
  where
    by_index : (k ≡ i) ⊎ (k ≡ i → ⊥) → IsNoneAt of bytes (get_or noted k 0)
    by_index (inl same) = subst (λ (j : ℕ). IsNoneAt of bytes (get_or noted j 0)) (sym same) here
    by_index (inr other) = so_far k (omega (arith, other, within))

pub none-behind : (of : Option ℕ) (bytes : List ℕ) (from p : ℕ) → IsNoneAt of bytes p → ((n : ℕ) → from ≤ n → n < p → IsNoneAt of bytes n) → (n : ℕ) → from ≤ n → n < p + 1 → IsNoneAt of bytes n
none-behind of bytes from p here so_far n above within = by_place (cases_eq n p)
  where
    by_place : (n ≡ p) ⊎ (n ≡ p → ⊥) → IsNoneAt of bytes n
    by_place (inl same) = subst (λ (j : ℕ). IsNoneAt of bytes j) (sym same) here
    by_place (inr other) = so_far n above (omega (arith, other, within))

-- a place among noted ones has an index
pub among-index : (noted : List ℕ) (n : ℕ) → is_among noted n ≡ true → (k : ℕ) × (k < length noted) × (get_or noted k 0 ≡ n)
among-index [] n is = absurd (cc is)
among-index (m ∷ ms) n is = by_test (m == n) refl is (λ rest. among-index ms n rest)
  where
    by_test : (b : Bool) → (m == n) ≡ b → (b || is_among ms n) ≡ true → (is_among ms n ≡ true → (k : ℕ) × (k < length ms) × (get_or ms k 0 ≡ n)) → (k : ℕ) × (k < length (m ∷ ms)) × (get_or (m ∷ ms) k 0 ≡ n)
    by_test true same rest _ = (0, omega arith, grind (arith, nat_tests, same))
    by_test false other rest older = let found = older rest in (suc found.0, (let h = found.1 in omega (arith, h)), found.2)

-- all that are private were looked at
pub none-anywhere : (of : Option ℕ) (bytes noted : List ℕ) (from count start : ℕ) (xs : List Entry) → HoldsEntries start xs bytes → length xs ≡ count → IsReached noted from xs
    → ((k : ℕ) → k < length noted → IsNoneAt of bytes (get_or noted k 0)) → ((n : ℕ) → from ≤ n → n < count → IsNoneAt of bytes n) → list_any (is_private_to of) xs ≡ false
none-anywhere of bytes noted from count start xs held long reached at_notes behind = none-found of noted from xs reached each
  where
    each : (n : ℕ) (x : Entry) → entry_at xs n ≡ Some x → (nat_le from n || is_among noted n) ≡ true → is_private_to of x ≡ false
    each n x at place = ⊎_elim
        (λ (a : nat_le from n ≡ true). behind n (grind (arith, nat_tests, a)) (let w = entry_at-within xs n x at in omega (arith, w, long)) start xs x held at)
        (λ (b : is_among noted n ≡ true).
        let found = among-index noted n b in
        at_notes found.0 found.1 start xs x held (subst (λ (k : ℕ). entry_at xs k ≡ Some x) (sym found.2) at))
        (or-cases (nat_le from n) (is_among noted n) place)

-- an entry in its row
pub found-there : (of : Option ℕ) (bytes : List ℕ) (n count start : ℕ) (xs : List Entry) → HoldsEntries start xs bytes → length xs ≡ count → n < count
    → ((start : ℕ) (xs : List Entry) (x : Entry) → HoldsEntries start xs bytes → entry_at xs n ≡ Some x → is_private_to of x ≡ true) → list_any (is_private_to of) xs ≡ true
found-there of bytes n count start xs held long within is =
    let x = there xs n (omega (arith, long, within)) in
    any-found of n xs x.0 x.1 (is start xs x.0 held x.1)
