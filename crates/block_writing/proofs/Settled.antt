-- Private stamps, replaced.
use Rattle.std.proofs.Common.{◌≡◌, ℕ, ◌+◌, ◌-◌, ◌^◌, ◌<◌, ◌≤◌, Bool, true, false, List, [], ◌∷◌, length, refl, sym, ap, ◌∙◌, arith}
use Rattle.std.specs.Prelude.{◌==◌, ◌||◌, ◌&&◌, nat_le, nat_lt, if◌then◌else◌, map, take, get_or}
use Rattle.std.proofs.lemmas.List.{take_more}
use Rattle.std.proofs.lemmas.List.Folds.{list_any-append}
use Rattle.std.proofs.lemmas.Bool.Decides.{nat_tests}
use Rattle.stamps.specs.declared.stamp.Stamp.{Stamp}
use Rattle.stamps.specs.declared.stamp.Stamp.TheVariants.{Never, At, By}
use Rattle.stamps.specs.Stamps.{is_by, converted_stamp, cleared_stamp}
use Rattle.edge_log.specs.Entries.{Entry, is_entry_of, converted, cleared}
use Rattle.tel_entry.specs.declared.entry.Entry.{Entry as RawEntry}
use Rattle.tel_entry.specs.RawStamps.{stamp_of, raw_of, HasRaw}
use Rattle.block_layout.specs.Rows.{raw_entry, HasRow}
use Rattle.block_writing.specs.Changed.{replaced_stamp, settled_entry, changed_where, is_among, AreReached}

pub raw_of-stamp_of : (n : ℕ) → raw_of (stamp_of n) ≡ n
raw_of-stamp_of n = grind (arith, nat_tests)

pub stamp_of-has : (n : ℕ) → n < 2 ^ 64 → HasRaw (stamp_of n)
stamp_of-has n small = by_zero (n == 0) (grind (arith, nat_tests))
  where
    by_private : (b : Bool) → (b ≡ true → n < 2 ^ 63) → (b ≡ false → 2 ^ 63 ≤ n) → 0 < n → HasRaw (if b then At n else By (n - 2 ^ 63))
    by_private true low high pos = (pos, low refl)
    by_private false low high pos = (let h = high refl in omega arith)

    by_zero : (b : Bool) → (b ≡ false → 0 < n) → HasRaw (if b then Never else if nat_lt n (2 ^ 63) then At n else By (n - 2 ^ 63))
    by_zero true pos = tt
    by_zero false pos = by_private (nat_lt n (2 ^ 63)) (λ e. grind (arith, nat_tests)) (λ e. grind (arith, nat_tests)) (pos refl)

replaced-has : (t : ℕ) (new s : Stamp) → HasRaw new → HasRaw s → HasRaw (replaced_stamp t new s)
replaced-has t new s has hs = by_test (is_by t s)
  where
    by_test : (b : Bool) → HasRaw (if b then new else s)
    by_test true = has
    by_test false = hs

-- the number of a stamp, replaced where it is the transaction's
pub raw-replaced : (t n : ℕ) (s : Stamp) → HasRaw s → (if raw_of s == 2 ^ 63 + t then n else raw_of s) ≡ raw_of (replaced_stamp t (stamp_of n) s)
raw-replaced t n Never has = grind (arith, nat_tests)
raw-replaced t n (At e) has = (let below = has.1 in grind (arith, nat_tests))
raw-replaced t n (By u) has =
    let same : (2 ^ 63 + u == 2 ^ 63 + t) ≡ (u == t) = grind (arith, nat_tests) in
    ap (λ (b : Bool). if b then n else 2 ^ 63 + u) same ∙ by_test (u == t)
  where
    by_test : (b : Bool) → (if b then n else 2 ^ 63 + u) ≡ raw_of (if b then stamp_of n else By u)
    by_test true = sym (raw_of-stamp_of n)
    by_test false = refl

pub settled-fits : (t : ℕ) (created ended : Stamp) (x : Entry) → HasRaw created → HasRaw ended → HasRow x → HasRow (settled_entry t created ended x)
settled-fits t created ended x hc he fits = record {
  d = fits.d;
  created = replaced-has t created x.created hc fits.created;
  ended = replaced-has t ended x.ended he fits.ended;
  len = fits.len;
}

-- what is replaced once is replaced
replaced-twice : (t : ℕ) (new s : Stamp) → replaced_stamp t new (replaced_stamp t new s) ≡ replaced_stamp t new s
replaced-twice t new s = by_test (is_by t s) refl
  where
    either : (d : Bool) → (if d then new else new) ≡ new
    either true = refl
    either false = refl

    by_test : (b : Bool) → is_by t s ≡ b → (if is_by t (if b then new else s) then new else (if b then new else s)) ≡ (if b then new else s)
    by_test true e = either (is_by t new)
    by_test false e = ap (λ (d : Bool). if d then new else s) e

same_entry : (x : Entry) (c n c' n' : Stamp) → c ≡ c' → n ≡ n' → ◌≡◌ {A = Entry} (record x { created = c; ended = n }) (record x { created = c'; ended = n' })
same_entry x c n c' n' e1 e2 = cc

pub settled-twice : (t : ℕ) (created ended : Stamp) (x : Entry) →
    settled_entry t created ended (settled_entry t created ended x) ≡ settled_entry t created ended x
settled-twice t created ended x = same_entry x _ _ _ _ (replaced-twice t created x.created) (replaced-twice t ended x.ended)

pub length-changed : (test : ℕ → Bool) (g : Entry → Entry) (xs : List Entry) → length (changed_where test g xs) ≡ length xs
length-changed test g [] = refl
length-changed test g (x ∷ xs) = (let older = length-changed test g xs in omega arith)

pub changed-twice : (p q : ℕ → Bool) (g : Entry → Entry) (xs : List Entry) → ((x : Entry) → g (g x) ≡ g x) →
    changed_where p g (changed_where q g xs) ≡ changed_where (λ n. q n || p n) g xs
changed-twice p q g [] twice = refl
changed-twice p q g (x ∷ xs) twice =
    ap (λ (n : ℕ). (if p n then g (if q (length xs) then g x else x) else (if q (length xs) then g x else x)) ∷ changed_where p g (changed_where q g xs)) (length-changed q g xs)
    ∙ ap (λ (y : Entry). y ∷ changed_where p g (changed_where q g xs)) (by_test (p (length xs)) (q (length xs)))
    ∙ ap (λ (ys : List Entry). (if q (length xs) || p (length xs) then g x else x) ∷ ys) (changed-twice p q g xs twice)
  where
    by_test : (a b : Bool) → (if a then g (if b then g x else x) else (if b then g x else x)) ≡ (if b || a then g x else x)
    by_test true true = twice x
    by_test true false = refl
    by_test false true = refl
    by_test false false = refl

pub changed-same : (p q : ℕ → Bool) (g : Entry → Entry) (xs : List Entry) → ((n : ℕ) → p n ≡ q n) → changed_where p g xs ≡ changed_where q g xs
changed-same p q g [] same = refl
changed-same p q g (x ∷ xs) same =
    ap (λ (b : Bool). (if b then g x else x) ∷ changed_where p g xs) (same (length xs))
    ∙ ap (λ (ys : List Entry). (if q (length xs) then g x else x) ∷ ys) (changed-same p q g xs same)

-- a place more
pub changed-more : (p q r : ℕ → Bool) (g : Entry → Entry) (xs : List Entry) → ((x : Entry) → g (g x) ≡ g x) → ((n : ℕ) → (q n || p n) ≡ r n) →
    changed_where p g (changed_where q g xs) ≡ changed_where r g xs
changed-more p q r g xs twice same = changed-twice p q g xs twice ∙ changed-same (λ n. q n || p n) r g xs same

pub changed-never : (p : ℕ → Bool) (g : Entry → Entry) (xs : List Entry) → ((n : ℕ) → p n ≡ false) → changed_where p g xs ≡ xs
changed-never p g [] never = refl
changed-never p g (x ∷ xs) never =
    ap (λ (b : Bool). (if b then g x else x) ∷ changed_where p g xs) (never (length xs)) ∙ ap (λ (ys : List Entry). x ∷ ys) (changed-never p g xs never)

-- Where all private stamps are reached, all are replaced.
cover : (a b c : Bool) → c ≡ true → (a || b) ≡ true → ((a && c) || b) ≡ true
cover true b c here any = ap (λ (d : Bool). d || b) here
cover false b c here any = any

head-changed : (g : Entry → Entry) (x : Entry) (test d : Bool) → (d ≡ false → g x ≡ x) → (d ≡ true → test ≡ true) → (if test then g x else x) ≡ g x
head-changed g x test true same reached = ap (λ (b : Bool). if b then g x else x) (reached refl)
head-changed g x true false same reached = refl
head-changed g x false false same reached = sym (same refl)

pub all-changed : (t : ℕ) (noted : List ℕ) (from count : ℕ) (g : Entry → Entry) (xs : List Entry) → AreReached t noted from xs → length xs ≤ count →
    ((x : Entry) → is_entry_of t x ≡ false → g x ≡ x) →
    changed_where (λ n. (nat_le from n && nat_lt n count) || is_among noted n) g xs ≡ map g xs
all-changed t noted from count g [] reached within same = refl
all-changed t noted from count g (x ∷ xs) reached within same =
    let test : ℕ → Bool = λ n. (nat_le from n && nat_lt n count) || is_among noted n in
    let low : nat_lt (length xs) count ≡ true = grind (arith, nat_tests) in
    ap (λ (y : Entry). y ∷ changed_where test g xs)
    (head-changed g x (test (length xs)) (is_entry_of t x) (same x) (λ own. cover (nat_le from (length xs)) (is_among noted (length xs)) (nat_lt (length xs) count) low (reached.0 own)))
    ∙ ap (λ (ys : List Entry). g x ∷ ys) (all-changed t noted from count g xs reached.1 (omega arith) same)

-- an entry without private stamps of the transaction stays
neither : (t : ℕ) (c n : Stamp) → (is_by t c || is_by t n) ≡ false → (is_by t c ≡ false) × (is_by t n ≡ false)
neither t c n e = by_test (is_by t c) (is_by t n) e
  where
    by_test : (a b : Bool) → (a || b) ≡ false → (a ≡ false) × (b ≡ false)
    by_test true b other = absurd (cc other)
    by_test false b other = (refl, other)

pub settled-other : (t : ℕ) (created ended : Stamp) (x : Entry) → is_entry_of t x ≡ false → settled_entry t created ended x ≡ x
settled-other t created ended x other =
    let both = neither t x.created x.ended other in
    same_entry x _ _ x.created x.ended (ap (λ (b : Bool). if b then created else x.created) both.0) (ap (λ (b : Bool). if b then ended else x.ended) both.1)

-- the stamps of a commit and of an abort
replaced-converted : (t e : ℕ) (s : Stamp) → replaced_stamp t (At e) s ≡ converted_stamp t e s
replaced-converted t e Never = refl
replaced-converted t e (At s) = refl
replaced-converted t e (By u) = refl

replaced-cleared : (t : ℕ) (s : Stamp) → replaced_stamp t Never s ≡ cleared_stamp t s
replaced-cleared t Never = refl
replaced-cleared t (At s) = refl
replaced-cleared t (By u) = refl

replaced-own : (t : ℕ) (s : Stamp) → replaced_stamp t (By t) s ≡ s
replaced-own t Never = refl
replaced-own t (At s) = refl
replaced-own t (By u) = by_test (u == t) (λ e. grind (arith, nat_tests))
  where
    by_test : (b : Bool) → (b ≡ true → u ≡ t) → (if b then By t else By u) ≡ By u
    by_test true same = ap By (sym (same refl))
    by_test false same = refl

pub map-converted : (t e : ℕ) (xs : List Entry) → map (settled_entry t (At e) (At e)) xs ≡ converted t e xs
map-converted t e [] = refl
map-converted t e (x ∷ xs) =
    ap (λ (y : Entry). y ∷ map (settled_entry t (At e) (At e)) xs) (same_entry x _ _ _ _ (replaced-converted t e x.created) (replaced-converted t e x.ended))
    ∙ ap (λ (ys : List Entry). record { d = x.d; p = x.p; created = converted_stamp t e x.created; ended = converted_stamp t e x.ended } ∷ ys) (map-converted t e xs)

pub map-cleared : (t : ℕ) (xs : List Entry) → map (settled_entry t (By t) Never) xs ≡ cleared t xs
map-cleared t [] = refl
map-cleared t (x ∷ xs) =
    ap (λ (y : Entry). y ∷ map (settled_entry t (By t) Never) xs) (same_entry x _ _ _ _ (replaced-own t x.created) (replaced-cleared t x.ended))
    ∙ ap (λ (ys : List Entry). record { d = x.d; p = x.p; created = x.created; ended = cleared_stamp t x.ended } ∷ ys) (map-cleared t xs)

pub stamp_of-epoch : (e : ℕ) → 0 < e → e < 2 ^ 63 → stamp_of e ≡ At e
stamp_of-epoch e pos small = grind (arith, nat_tests)

-- the tests of the two loops
pub window-none : (a n : ℕ) → (nat_le a n && nat_lt n a) ≡ false
window-none a n = grind (arith, nat_tests)

pub window-more : (a p n : ℕ) → a ≤ p → ((nat_le a n && nat_lt n p) || p == n) ≡ (nat_le a n && nat_lt n (p + 1))
window-more a p n above = grind (arith, nat_tests)

pub among-more : (places : List ℕ) (i n : ℕ) → i < length places → (is_among (take i places) n || get_or places i 0 == n) ≡ is_among (take (i + 1) places) n
among-more places i n within =
    sym (ap (λ (ys : List ℕ). is_among ys n) (take_more places i 0 within) ∙ list_any-append (λ m. m == n) (take i places) (get_or places i 0 ∷ [])
    ∙ ap (λ (b : Bool). is_among (take i places) n || b) (last (get_or places i 0 == n)))
  where
    last : (b : Bool) → (b || false) ≡ b
    last true = refl
    last false = refl

-- the numbers of an entry, where those of its stamps are replaced
same_row : (d c n l d' c' n' l' : ℕ) → d ≡ d' → c ≡ c' → n ≡ n' → l ≡ l' →
    ◌≡◌ {A = RawEntry} (record { d = d; created = c; ended = n; len = l }) (record { d = d'; created = c'; ended = n'; len = l' })
same_row d c n l d' c' n' l' e1 e2 e3 e4 = cc

pub settled-written : (t created ended private c n : ℕ) (x : Entry) (r : RawEntry) → HasRow x → private ≡ 2 ^ 63 + t → r ≡ raw_entry x →
    c ≡ (if r.created == private then created else r.created) → n ≡ (if r.ended == private then ended else r.ended) →
    ◌≡◌ {A = RawEntry} (record { d = r.d; created = c; ended = n; len = r.len }) (raw_entry (settled_entry t (stamp_of created) (stamp_of ended) x))
settled-written t created ended private c n x r fits own is cis nis =
    same_row r.d c n r.len x.d _ _ (length x.p)
    (ap (λ (e : RawEntry). e.d) is)
    (cis ∙ ap (λ (k : ℕ). if r.created == k then created else r.created) own ∙ ap (λ (e : RawEntry). if e.created == 2 ^ 63 + t then created else e.created) is ∙ raw-replaced t created x.created fits.created)
    (nis ∙ ap (λ (k : ℕ). if r.ended == k then ended else r.ended) own ∙ ap (λ (e : RawEntry). if e.ended == 2 ^ 63 + t then ended else e.ended) is ∙ raw-replaced t ended x.ended fits.ended)
    (ap (λ (e : RawEntry). e.len) is)
