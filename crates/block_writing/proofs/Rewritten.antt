-- The row of one entry, written anew.
use Rattle.std.proofs.Common.{◌≡◌, ℕ, ◌+◌, ◌<◌, ◌≤◌, Bool, true, false, IsTrue, List, [], ◌∷◌, length, refl, sym, ap, ◌∙◌, subst, ⊎_elim, arith, Option, Some}
use Rattle.std.specs.Prelude.{◌==◌, if◌then◌else◌}
use Rattle.std.specs.List.{list_any, AllByRecursion}
use Rattle.std.proofs.lemmas.Bool.{cases_eq}
use Rattle.std.proofs.lemmas.Bool.Decides.{nat_tests}
use Rattle.stamps.specs.declared.stamp.Stamp.TheVariants.{By}
use Rattle.edge_log.specs.Entries.{Entry}
use Rattle.edge_log.specs.Places.{entry_at, ended_at}
use Rattle.tel_entry.specs.declared.header.Header.{Header}
use Rattle.tel_entry.specs.Layouts.{entry_bytes}
use Rattle.tel_entry.proofs.Fronts.{length-entry_bytes}
use Rattle.block_layout.specs.Sizes.{props_start}
use Rattle.block_layout.specs.Rows.{raw_entry, HasRow}
use Rattle.block_layout.specs.Blocks.{KnowsAll, IsBlock}
use Rattle.block_layout.specs.Reads.{row_start}
use Rattle.block_layout.specs.Writes.{overwritten, with_entry, ended_as}
use Rattle.block_layout.proofs.Windows.{window-written}
use Rattle.block_layout.proofs.AtPlaces.{entry_at-within, at_newest, at_older}
use Rattle.block_layout.proofs.Stamped.{held-rewritten}
use Rattle.block_layout.proofs.Blocked.{block-behind}
use Rattle.block_writing.specs.Changed.{changed_where}

abbrev is_known : List ℕ → Entry → Type 0
is_known ds x = IsTrue (list_any (λ e. e == x.d) ds)

with_entry-known : (ds : List ℕ) (n : ℕ) (x y : Entry) (xs : List Entry) → entry_at xs n ≡ Some x → y.d ≡ x.d →
    AllByRecursion (is_known ds) xs → AllByRecursion (is_known ds) (with_entry n y xs)
with_entry-known ds n x y [] at same all = tt
with_entry-known ds n x y (z ∷ xs) at same all = by_test (n == length xs) at (λ e. with_entry-known ds n x y xs e same all.1)
  where
    by_test : (b : Bool) → ◌≡◌ {A = Option Entry} (if b then Some z else entry_at xs n) (Some x) → (entry_at xs n ≡ Some x → AllByRecursion (is_known ds) (with_entry n y xs)) →
        AllByRecursion (is_known ds) (if b then y ∷ xs else z ∷ with_entry n y xs)
    by_test true e older =
        let d : z.d ≡ y.d = (let zx : z ≡ x = cc in ap (λ (w : Entry). w.d) zx ∙ sym same) in
        (subst (λ (m : ℕ). IsTrue (list_any (λ e. e == m) ds)) d all.0, all.1)
    by_test false e older = (all.0, older e)

pub block-rewritten : (order : ℕ) (h : Header) (f : List ℕ) (n : ℕ) (x y : Entry) (xs : List Entry) (bytes : List ℕ) → IsBlock order h f xs bytes →
    entry_at xs n ≡ Some x → HasRow y → y.p ≡ x.p → y.d ≡ x.d →
    IsBlock order h f (with_entry n y xs) (overwritten (row_start n bytes) (entry_bytes (raw_entry y)) bytes)
block-rewritten order h f n x y xs bytes b at fits payload same =
    let long : length (entry_bytes (raw_entry y)) ≡ 28 = length-entry_bytes (raw_entry y) in
    let w = b.entries.within in
    let below = entry_at-within xs n x at in
    let within : row_start n bytes + length (entry_bytes (raw_entry y)) ≤ length bytes = omega (arith, long) in
    let known : KnowsAll order f (with_entry n y xs) = λ has. (let k = b.known has in (k.0, (k.1.0, with_entry-known k.0 n x y xs at same k.1.1))) in
    block-behind order h f xs (with_entry n y xs) (row_start n bytes) (entry_bytes (raw_entry y)) bytes b (omega arith) within known
    (held-rewritten (props_start order) n x y xs (row_start n bytes) (entry_bytes (raw_entry y)) bytes b.entries at
    (record {
      fits = fits;
      payload = payload;
      begins = omega arith;
      ends = omega (arith, long);
      row = window-written (row_start n bytes) 28 (entry_bytes (raw_entry y)) bytes long within;
    }))

-- the entry of a place, changed
changed-none : (n : ℕ) (g : Entry → Entry) (xs : List Entry) → length xs ≤ n → changed_where (λ m. n == m) g xs ≡ xs
changed-none n g [] above = refl
changed-none n g (x ∷ xs) above =
    let no : (n == length xs) ≡ false = grind (arith, nat_tests) in
    ap (λ (b : Bool). (if b then g x else x) ∷ changed_where (λ m. n == m) g xs) no
    ∙ ap (λ (ys : List Entry). x ∷ ys) (changed-none n g xs (omega arith))

pub with_entry-changed : (n : ℕ) (g : Entry → Entry) (xs : List Entry) (x : Entry) → entry_at xs n ≡ Some x → with_entry n (g x) xs ≡ changed_where (λ m. n == m) g xs
with_entry-changed n g [] x at = absurd (cc at)
with_entry-changed n g (z ∷ xs) x at =
    ⊎_elim
    (λ (here : n ≡ length xs).
    let yes : (n == length xs) ≡ true = grind (arith, nat_tests) in
    let first : entry_at (z ∷ xs) n ≡ Some z = ap (entry_at (z ∷ xs)) here ∙ at_newest z xs in
    let same : x ≡ z = cc in
    ap (λ (b : Bool). if b then g x ∷ xs else z ∷ with_entry n (g x) xs) yes
    ∙ ap (λ (w : Entry). g w ∷ xs) same
    ∙ ap (λ (ys : List Entry). g z ∷ ys) (sym (changed-none n g xs (omega arith)))
    ∙ ap (λ (b : Bool). (if b then g z else z) ∷ changed_where (λ m. n == m) g xs) (sym yes))
    (λ other.
    let no : (n == length xs) ≡ false = grind (arith, nat_tests) in
    let w = entry_at-within (z ∷ xs) n x at in
    let below : n < length xs = omega arith in
    let older : entry_at xs n ≡ Some x = sym (at_older z xs n below) ∙ at in
    ap (λ (b : Bool). if b then g x ∷ xs else z ∷ with_entry n (g x) xs) no
    ∙ ap (λ (ys : List Entry). z ∷ ys) (with_entry-changed n g xs x older)
    ∙ ap (λ (b : Bool). (if b then g z else z) ∷ changed_where (λ m. n == m) g xs) (sym no))
    (cases_eq n (length xs))

pub ended_at-as : (n t : ℕ) (xs : List Entry) → ended_as n (By t) xs ≡ ended_at xs n t
ended_at-as n t [] = refl
ended_at-as n t (x ∷ xs) = ap (λ (ys : List Entry). if n == length xs then record x { ended = By t } ∷ xs else x ∷ ys) (ended_at-as n t xs)
