-- The rows at the end of a block, one by one.
use Rattle.std.proofs.Common.{◌≡◌, ℕ, zero, suc, ◌+◌, ◌-◌, ◌*◌, ◌/◌, ◌%◌, List, [], ◌∷◌, ◌++◌, length, drop, refl, ap, ◌∙◌, arith, drop-drop}
use Rattle.std.proofs.lemmas.List.{take_at, drop_at}
use Rattle.std.specs.Simd.{first_chunks}
use Rattle.edge_log.specs.Entries.{Entry}
use Rattle.tel_entry.specs.Layouts.{entry_bytes}
use Rattle.tel_entry.proofs.Fronts.{length-entry_bytes}
use Rattle.block_layout.specs.Rows.{raw_entry, rows_of}
use Rattle.block_layout.specs.Blocks.{HoldsEntries}
use Rattle.block_reading.specs.RowLists.{row_list}

-- the chunks behind the first k are those of the bytes behind these
drop_chunks : (n k m : ℕ) (ys : List ℕ) → drop k (first_chunks n (k + m) ys) ≡ first_chunks n m (drop (n * k) ys)
drop_chunks n zero m ys =
    let a : 0 + m ≡ m = omega arith in
    let b : n * 0 ≡ 0 = omega arith in
    rw (a, b) refl
drop_chunks n (suc k) m ys =
    let a : suc k + m ≡ suc (k + m) = omega arith in
    let b : n + n * k ≡ n * suc k = omega arith in
    ap (λ (j : ℕ). drop (suc k) (first_chunks n j ys)) a
    ∙ drop_chunks n k m (drop n ys)
    ∙ ap (first_chunks n m) (drop-drop (n * k) n ys ∙ ap (λ (j : ℕ). drop j ys) b)

-- rows of 28 bytes, cut into such
chunks-rows_of : (xs : List Entry) → first_chunks 28 (length xs) (rows_of xs) ≡ row_list xs
chunks-rows_of [] = refl
chunks-rows_of (x ∷ xs) =
    let e : List ℕ = entry_bytes (raw_entry x) in
    let long : length e ≡ 28 = length-entry_bytes (raw_entry x) in
    ap (λ (r : List ℕ). r ∷ first_chunks 28 (length xs) (drop 28 (e ++ rows_of xs))) (take_at e (rows_of xs) 28 long)
    ∙ ap (λ (ys : List ℕ). e ∷ first_chunks 28 (length xs) ys) (drop_at e (rows_of xs) 28 long)
    ∙ ap (λ (rs : List (List ℕ)). e ∷ rs) (chunks-rows_of xs)

pub length-row_list : (xs : List Entry) → length (row_list xs) ≡ length xs
length-row_list [] = refl
length-row_list (x ∷ xs) = ap suc (length-row_list xs)

-- the last chunks of a block are the rows of its entries
pub last_chunks : (start : ℕ) (xs : List Entry) (bytes : List ℕ) → HoldsEntries start xs bytes →
    drop (length bytes / 28 - length xs) (first_chunks 28 (length bytes / 28) (drop (length bytes % 28) bytes)) ≡ row_list xs
last_chunks start xs bytes held =
    let n : ℕ = length xs in
    let k : ℕ = length bytes / 28 - length xs in
    let within = held.within in
    let whole : length bytes / 28 ≡ k + n = omega arith in
    let place : length bytes % 28 + 28 * k ≡ length bytes - 28 * n = omega arith in
    ap (λ (m : ℕ). drop k (first_chunks 28 m (drop (length bytes % 28) bytes))) whole
    ∙ drop_chunks 28 k n (drop (length bytes % 28) bytes)
    ∙ ap (first_chunks 28 n) (drop-drop (28 * k) (length bytes % 28) bytes ∙ ap (λ (j : ℕ). drop j bytes) place ∙ held.rows)
    ∙ chunks-rows_of xs
