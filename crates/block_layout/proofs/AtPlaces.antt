-- The entries that stand at and below a place.
use Rattle.std.proofs.Common.{◌≡◌, ℕ, ◌+◌, ◌*◌, ◌<◌, ◌≤◌, List, [], ◌∷◌, ◌++◌, length, drop, refl, sym, ap, ◌∙◌, subst, ⊎_elim, arith, Some}
use Rattle.std.proofs.lemmas.Bool.{cases_lt, cases_eq}
use Rattle.std.proofs.lemmas.Bool.Decides.{nat_tests}
use Rattle.edge_log.specs.Entries.{Entry, payload_sum}
use Rattle.edge_log.specs.Places.{entry_at, oldest}
use Rattle.tel_entry.specs.Layouts.{entry_bytes}
use Rattle.block_layout.specs.Sizes.{bytes_at}
use Rattle.block_layout.specs.Rows.{raw_entry, HasRow, rows_of}
use Rattle.block_layout.specs.Blocks.{HoldsEntries}
use Rattle.block_layout.specs.Reads.{row_start}
use Rattle.block_layout.proofs.Held.{held-next, held-older, held-row}

-- A place either has the newest entry, or stands in the older ones.
pub at_newest : (x : Entry) (xs : List Entry) → entry_at (x ∷ xs) (length xs) ≡ Some x
at_newest x xs = grind (arith, nat_tests)

pub at_older : (x : Entry) (xs : List Entry) (n : ℕ) → n < length xs → entry_at (x ∷ xs) n ≡ entry_at xs n
at_older x xs n within = grind (arith, nat_tests)

pub oldest_all : (xs : List Entry) (n : ℕ) → length xs ≤ n → oldest n xs ≡ xs
oldest_all [] n within = refl
oldest_all (x ∷ xs) n within = grind (arith, nat_tests)

pub oldest_older : (x : Entry) (xs : List Entry) (n : ℕ) → n ≤ length xs → oldest n (x ∷ xs) ≡ oldest n xs
oldest_older x xs n within = grind (arith, nat_tests)

pub entry_at-within : (xs : List Entry) (n : ℕ) (x : Entry) → entry_at xs n ≡ Some x → n < length xs
entry_at-within [] n x at = absurd (cc at)
entry_at-within (y ∷ xs) n x at = grind (arith, nat_tests, entry_at-within xs n x)

-- at each place within the log there is an entry
pub there : (xs : List Entry) (n : ℕ) → n < length xs → (x : Entry) × (entry_at xs n ≡ Some x)
there [] n within = absurd (omega arith)
there (x ∷ xs) n within =
    let P : ℕ → Type 0 = λ m. (y : Entry) × (entry_at (x ∷ xs) m ≡ Some y) in
    ⊎_elim
    (λ (here : n ≡ length xs). subst P (sym here) (x, at_newest x xs))
    (λ other.
    let below : n < length xs = omega arith in
    let older = there xs n below in
    (older.0, at_older x xs n below ∙ older.1))
    (cases_eq n (length xs))

-- cutting the newest entries leaves the others as they stand
pub held-oldest : (start n : ℕ) (xs : List Entry) (bytes : List ℕ) → HoldsEntries start xs bytes → HoldsEntries start (oldest n xs) bytes
held-oldest start n [] bytes held = held
held-oldest start n (x ∷ xs) bytes held =
    let P : List Entry → Type 0 = λ ys. HoldsEntries start ys bytes in
    ⊎_elim
    (λ (above : length xs < n). let here : length (x ∷ xs) ≤ n = omega arith in subst P (sym (oldest_all (x ∷ xs) n here)) held)
    (λ (below : n ≤ length xs). subst P (sym (oldest_older x xs n below)) (held-oldest start n xs bytes (held-older start x xs bytes held)))
    (cases_lt (length xs) n)

-- the oldest entries are the entry above the others and those
pub oldest_with : (xs : List Entry) (n : ℕ) (x : Entry) → entry_at xs n ≡ Some x → oldest (n + 1) xs ≡ x ∷ oldest n xs
oldest_with [] n x at = absurd (cc at)
oldest_with (y ∷ xs) n x at = grind (arith, nat_tests, oldest_with xs n x, oldest_all xs n, entry_at-within xs n x)

pub length-oldest : (xs : List Entry) (n : ℕ) → n ≤ length xs → length (oldest n xs) ≡ n
length-oldest [] n within = omega arith
length-oldest (x ∷ xs) n within = grind (arith, nat_tests, length-oldest xs n)

-- the bytes hold the entry at a place, above those below it
pub held-at : (start n : ℕ) (xs : List Entry) (x : Entry) (bytes : List ℕ) → HoldsEntries start xs bytes → entry_at xs n ≡ Some x → HoldsEntries start (x ∷ oldest n xs) bytes
held-at start n xs x bytes held at =
    let P : List Entry → Type 0 = λ ys. HoldsEntries start ys bytes in
    subst P (oldest_with xs n x at) (held-oldest start (n + 1) xs bytes held)

pub row-within : (start n : ℕ) (xs : List Entry) (x : Entry) (bytes : List ℕ) → HoldsEntries start xs bytes → entry_at xs n ≡ Some x → 28 * (n + 1) ≤ length bytes
row-within start n xs x bytes held at =
    let h = held.within in let w = entry_at-within xs n x at in omega arith

pub row-at : (start n : ℕ) (xs : List Entry) (x : Entry) (bytes : List ℕ) → HoldsEntries start xs bytes → entry_at xs n ≡ Some x →
    drop (row_start n bytes) bytes ≡ entry_bytes (raw_entry x) ++ rows_of (oldest n xs)
row-at start n xs x bytes held at =
    let long : length (oldest n xs) ≡ n = length-oldest xs n (let w = entry_at-within xs n x at in omega arith) in
    ap (λ (k : ℕ). drop (row_start k bytes) bytes) (sym long) ∙ held-row start x (oldest n xs) bytes (held-at start n xs x bytes held at)

pub payload-at : (start n : ℕ) (xs : List Entry) (x : Entry) (bytes : List ℕ) → HoldsEntries start xs bytes → entry_at xs n ≡ Some x →
    bytes_at (start + payload_sum (oldest n xs)) (length x.p) bytes ≡ x.p
payload-at start n xs x bytes held at = (held-next start x (oldest n xs) bytes (held-at start n xs x bytes held at)).payload

pub row-fits : (start n : ℕ) (xs : List Entry) (x : Entry) (bytes : List ℕ) → HoldsEntries start xs bytes → entry_at xs n ≡ Some x → HasRow x
row-fits start n xs x bytes held at = (held-at start n xs x bytes held at).fit.0
