-- Lists in the order of their numbers, and the sorted entries of a map that stand for them.
use Rattle.std.proofs.Common.{◌≡◌, ℕ, Bool, true, false, not, cond, List, [], ◌∷◌, map, refl, sym, ap, ◌∙◌, arith}
use Rattle.std.specs.Prelude.{◌==◌, nat_lt, filter, find, None}
use Rattle.std.specs.Option.{option_map, IsSome}
use Rattle.std.specs.List.{list_all}
use Rattle.std.specs.Ordering.{nat_cmp}
use Rattle.std.specs.Map.{keys_of, lookup, remove_entry, set_value}
use Rattle.std.specs.BTreeMap.{insert_entry, is_at}
use Rattle.std.proofs.lemmas.Bool.{and_parts}
use Rattle.std.proofs.lemmas.Bool.Decides.{nat_tests}
use Rattle.graph_model.specs.Whole.{rise}

-- an item in its place among items whose numbers rise
abbrev pub placed : {Y : Type 0} → (Y → ℕ) → Y → List Y → List Y
placed number x [] = x ∷ []
placed number x (y ∷ ys) =
    cond (nat_lt (number x) (number y)) (x ∷ y ∷ ys) (cond (number x == number y) (x ∷ ys) (y ∷ placed number x ys))

-- whether an entry is at a key
pub is_at-nat : (k n : ℕ) → is_at (nat_cmp k) n ≡ (n == k)
is_at-nat k n = grind (arith, nat_tests)

-- what passes a test on all numbers still does with one more that passes
pub list_all-placed : {Y : Type 0} (number : Y → ℕ) (p : Y → Bool) (x : Y) (ys : List Y) → p x ≡ true → list_all p ys ≡ true → list_all p (placed number x ys) ≡ true
list_all-placed number p x [] px all = grind (arith, nat_tests)
list_all-placed number p x (y ∷ ys) px all =
    let parts = and_parts (p y) (list_all p ys) all in
    let rest = list_all-placed number p x ys px parts.1 in grind (arith, nat_tests)

-- a test that all pass is passed by those that are kept
pub list_all-filter : {Y : Type 0} (p q : Y → Bool) (ys : List Y) → list_all p ys ≡ true → list_all p (filter q ys) ≡ true
list_all-filter p q [] all = refl
list_all-filter p q (y ∷ ys) all =
    let parts = and_parts (p y) (list_all p ys) all in
    let rest = list_all-filter p q ys parts.1 in grind (arith, nat_tests)

-- the same of the numbers
abbrev above : {Y : Type 0} → (Y → ℕ) → ℕ → List Y → Bool
above number n ys = list_all (nat_lt n) (map number ys)

above-placed : {Y : Type 0} (number : Y → ℕ) (n : ℕ) (x : Y) (ys : List Y) → nat_lt n (number x) ≡ true → above number n ys ≡ true → above number n (placed number x ys) ≡ true
above-placed number n x [] lt all = grind (arith, nat_tests)
above-placed number n x (y ∷ ys) lt all =
    let parts = and_parts (nat_lt n (number y)) (above number n ys) all in
    let rest = above-placed number n x ys lt parts.1 in grind (arith, nat_tests)

above-filter : {Y : Type 0} (number : Y → ℕ) (n : ℕ) (q : Y → Bool) (ys : List Y) → above number n ys ≡ true → above number n (filter q ys) ≡ true
above-filter number n q [] all = refl
above-filter number n q (y ∷ ys) all =
    let parts = and_parts (nat_lt n (number y)) (above number n ys) all in
    let rest = above-filter number n q ys parts.1 in grind (arith, nat_tests)

above-lower : {Y : Type 0} (number : Y → ℕ) (m n : ℕ) (ys : List Y) → nat_lt m n ≡ true → above number n ys ≡ true → above number m ys ≡ true
above-lower number m n [] lt all = refl
above-lower number m n (y ∷ ys) lt all =
    let parts = and_parts (nat_lt n (number y)) (above number n ys) all in
    let rest = above-lower number m n ys lt parts.1 in grind (arith, nat_tests)

-- numbers that rise still rise with one more item in its place
pub rise-placed : {Y : Type 0} (number : Y → ℕ) (x : Y) (ys : List Y) → rise (map number ys) ≡ true → rise (map number (placed number x ys)) ≡ true
rise-placed number x [] up = refl
rise-placed number x (y ∷ ys) up =
    let parts = and_parts (above number (number y) ys) (rise (map number ys)) up in
    let rest = rise-placed number x ys parts.1 in
    let later = above-lower number (number x) (number y) ys in
    let later_rest = above-placed number (number y) x ys in
    grind (arith, nat_tests)

-- and where some are left out
pub rise-filter : {Y : Type 0} (number : Y → ℕ) (q : Y → Bool) (ys : List Y) → rise (map number ys) ≡ true → rise (map number (filter q ys)) ≡ true
rise-filter number q [] up = refl
rise-filter number q (y ∷ ys) up =
    let parts = and_parts (above number (number y) ys) (rise (map number ys)) up in
    let rest = rise-filter number q ys parts.1 in
    let later = above-filter number (number y) q ys parts.0 in
    grind (arith, nat_tests)

-- an entry that is set shows in its place
pub map-insert_entry : {X Y : Type 0} (number : Y → ℕ) (show : ℕ × X → Y) → ((e : ℕ × X) → number (show e) ≡ e.0) → (es : List (ℕ × X)) (k : ℕ) (v : X) →
    map show (insert_entry nat_cmp es k v) ≡ placed number (show (k, v)) (map show es)
map-insert_entry number show same [] k v = refl
map-insert_entry number show same (e ∷ es) k v =
    let rest = map-insert_entry number show same es k v in
    let here = same e in
    let there = same (k, v) in
    let equal : k ≡ e.0 → show (e.0, v) ≡ show (k, v) = λ h. ap (λ n. show (n, v)) (sym h) in
    grind (arith, nat_tests)

-- below the first key nothing stands
lookup-above : {X : Type 0} (k : ℕ) (es : List (ℕ × X)) → list_all (nat_lt k) (keys_of es) ≡ true → lookup (is_at (nat_cmp k)) es ≡ None
lookup-above k [] all = refl
lookup-above k (e ∷ es) all =
    let parts = and_parts (nat_lt k e.0) (list_all (nat_lt k) (keys_of es)) all in
    let rest = lookup-above k es parts.1 in grind (arith, nat_tests)

keys-lower : (m n : ℕ) (ns : List ℕ) → nat_lt m n ≡ true → list_all (nat_lt n) ns ≡ true → list_all (nat_lt m) ns ≡ true
keys-lower m n [] lt all = refl
keys-lower m n (k ∷ ns) lt all =
    let parts = and_parts (nat_lt n k) (list_all (nat_lt n) ns) all in
    let rest = keys-lower m n ns lt parts.1 in grind (arith, nat_tests)

-- where the key stands, a value that is written there is an entry that is set
pub set_value-insert_entry : {X : Type 0} (es : List (ℕ × X)) (k : ℕ) (v : X) → rise (keys_of es) ≡ true → IsSome (lookup (is_at (nat_cmp k)) es) →
    set_value (is_at (nat_cmp k)) es v ≡ insert_entry nat_cmp es k v
set_value-insert_entry {X} [] k v up some = let no : false ≡ true = some in (cc)
set_value-insert_entry {X} (e ∷ es) k v up some =
    let parts = and_parts (list_all (nat_lt e.0) (keys_of es)) (rise (keys_of es)) up in
    let rest : IsSome (lookup (is_at (nat_cmp k)) es) → set_value (is_at (nat_cmp k)) es v ≡ insert_entry nat_cmp es k v = set_value-insert_entry es k v parts.1 in
    let absent : nat_lt k e.0 ≡ true → lookup (is_at (nat_cmp k)) es ≡ None = λ lt. lookup-above k es (keys-lower k e.0 (keys_of es) lt parts.0) in
    grind (arith, nat_tests)

-- above a number no item has it
filter-above : {Y : Type 0} (number : Y → ℕ) (n : ℕ) (ys : List Y) → list_all (nat_lt n) (map number ys) ≡ true → filter (λ y. not (number y == n)) ys ≡ ys
filter-above number n [] all = refl
filter-above number n (y ∷ ys) all =
    let parts = and_parts (nat_lt n (number y)) (list_all (nat_lt n) (map number ys)) all in
    let rest = filter-above number n ys parts.1 in grind (arith, nat_tests)

pub numbers-map : {X Y : Type 0} (number : Y → ℕ) (show : ℕ × X → Y) → ((e : ℕ × X) → number (show e) ≡ e.0) → (es : List (ℕ × X)) → map number (map show es) ≡ keys_of es
numbers-map number show same [] = refl
numbers-map number show same (e ∷ es) = let rest = numbers-map number show same es in let here = same e in (cc)

-- an entry that is taken out is missing among those that show
pub map-remove_entry : {X Y : Type 0} (number : Y → ℕ) (show : ℕ × X → Y) → ((e : ℕ × X) → number (show e) ≡ e.0) → (es : List (ℕ × X)) (k : ℕ) →
    rise (keys_of es) ≡ true → map show (remove_entry (is_at (nat_cmp k)) es) ≡ filter (λ y. not (number y == k)) (map show es)
map-remove_entry number show same [] k up = refl
map-remove_entry number show same (e ∷ es) k up =
    let parts = and_parts (list_all (nat_lt e.0) (keys_of es)) (rise (keys_of es)) up in
    let rest = map-remove_entry number show same es k parts.1 in
    let here = same e in
    let later : k ≡ e.0 → filter (λ y. not (number y == k)) (map show es) ≡ map show es =
    λ h. filter-above number k (map show es) (ap (list_all (nat_lt k)) (numbers-map number show same es) ∙ ap (λ n. list_all (nat_lt n) (keys_of es)) h ∙ parts.0) in
    grind (arith, nat_tests)

-- what shows under a key is the value that stands there
pub find-map : {X Y : Type 0} (number : Y → ℕ) (show : ℕ × X → Y) → ((e : ℕ × X) → number (show e) ≡ e.0) → (es : List (ℕ × X)) (k : ℕ) →
    find (λ y. number y == k) (map show es) ≡ option_map (λ v. show (k, v)) (lookup (is_at (nat_cmp k)) es)
find-map number show same [] k = refl
find-map number show same (e ∷ es) k =
    let rest = find-map number show same es k in
    let here = same e in
    let equal : e.0 ≡ k → show e ≡ show (k, e.1) = λ h. ap (λ n. show (n, e.1)) h in
    grind (arith, nat_tests)
