-- A number that fits its field is read back from its bytes, and no other number has them.
use Rattle.std.proofs.Common.{◌≡◌, ℕ, ◌+◌, ◌<◌, ◌≤◌, ◌^◌, List, ◌++◌, length, take, drop, get_or, sym, ap, ◌∙◌, inl, inr, arith}
use Rattle.byteorder.specs.Endian.{big_number}
use Rattle.byteorder.specs.Numbers.{big_number-reads_back}
use Rattle.std.specs.Int.{w16, w32, w64, from_be_bytes}
use Rattle.std.proofs.lemmas.Bool.{cases_lt}
use Rattle.std.proofs.lemmas.List.{take-append-drop, get_or-take, get_or-drop, get_or_past, length-take, append_cancel_left}
use Rattle.std.proofs.lemmas.Nat.{be_bytes_2, be_bytes_4, be_bytes_8}
use Rattle.byteorder.specs.Numbers.{length-bytes_high_first}
use Rattle.tel_entry.specs.Layouts.{u16_bytes, u32_bytes, u64_bytes}

pub length-u16 : (n : ℕ) → length (u16_bytes n) ≡ 2
unfolding u16_bytes
length-u16 n = length-bytes_high_first 2 n

pub length-u32 : (n : ℕ) → length (u32_bytes n) ≡ 4
unfolding u32_bytes
length-u32 n = length-bytes_high_first 4 n

pub length-u64 : (n : ℕ) → length (u64_bytes n) ≡ 8
unfolding u64_bytes
length-u64 n = length-bytes_high_first 8 n

-- a byte of the front is a byte
byte-take : (n : ℕ) (bytes : List ℕ) (i : ℕ) → ((k : ℕ) → get_or bytes k 0 < 256) → get_or (take n bytes) i 0 < 256
byte-take n bytes i fits = elim (cases_lt i n) [
  | inl h ↦ rw (get_or-take n bytes i 0 h) (fits i)
  | inr h ↦ let past : get_or (take n bytes) i 0 ≡ 0 = get_or_past (take n bytes) i 0 (omega (arith, length-take n bytes)) in omega arith
]

-- and so is one of the rest
pub byte-drop : (n : ℕ) (bytes : List ℕ) (i : ℕ) → ((k : ℕ) → get_or bytes k 0 < 256) → get_or (drop n bytes) i 0 < 256
byte-drop n bytes i fits = rw get_or-drop (fits (n + i))

pub u64_read : (n : ℕ) (rest : List ℕ) → n < 2 ^ 64 → big_number 8 (u64_bytes n ++ rest) ≡ n
unfolding u64_bytes
u64_read n rest h = big_number-reads_back 8 n rest h

pub u32_read : (n : ℕ) (rest : List ℕ) → n < 2 ^ 32 → big_number 4 (u32_bytes n ++ rest) ≡ n
unfolding u32_bytes
u32_read n rest h = big_number-reads_back 4 n rest h

pub u16_read : (n : ℕ) (rest : List ℕ) → n < 2 ^ 16 → big_number 2 (u16_bytes n ++ rest) ≡ n
unfolding u16_bytes
u16_read n rest h = big_number-reads_back 2 n rest h

-- the eight, four or two bytes at the front are those of the number that they are read as
pub u64_front : (bytes : List ℕ) → 8 ≤ length bytes → ((i : ℕ) → get_or bytes i 0 < 256) → bytes ≡ u64_bytes (big_number 8 bytes) ++ drop 8 bytes
unfolding u64_bytes
u64_front bytes long fits =
    let front : ℕ → ℕ = λ i. get_or (take 8 bytes) i 0 in
    let at : (i : ℕ) → i < 8 → front i ≡ get_or bytes i 0 = λ i h. get_or-take 8 bytes i 0 h in
    let below : (i : ℕ) → get_or (take 8 bytes) i 0 < 256 = λ i. byte-take 8 bytes i fits in
    let same : big_number 8 bytes ≡ from_be_bytes w64 (take 8 bytes) =
    omega (arith, at 0 (omega arith), at 1 (omega arith), at 2 (omega arith), at 3 (omega arith), at 4 (omega arith), at 5 (omega arith), at 6 (omega arith), at 7 (omega arith)) in
    sym (take-append-drop 8 bytes) ∙ ap (λ xs. xs ++ drop 8 bytes) (sym (be_bytes_8 (take 8 bytes) (big_number 8 bytes) (omega (arith, length-take 8 bytes)) below same))

pub u32_front : (bytes : List ℕ) → 4 ≤ length bytes → ((i : ℕ) → get_or bytes i 0 < 256) → bytes ≡ u32_bytes (big_number 4 bytes) ++ drop 4 bytes
unfolding u32_bytes
u32_front bytes long fits =
    let at : (i : ℕ) → i < 4 → get_or (take 4 bytes) i 0 ≡ get_or bytes i 0 = λ i h. get_or-take 4 bytes i 0 h in
    let below : (i : ℕ) → get_or (take 4 bytes) i 0 < 256 = λ i. byte-take 4 bytes i fits in
    let same : big_number 4 bytes ≡ from_be_bytes w32 (take 4 bytes) =
    omega (arith, at 0 (omega arith), at 1 (omega arith), at 2 (omega arith), at 3 (omega arith)) in
    sym (take-append-drop 4 bytes) ∙ ap (λ xs. xs ++ drop 4 bytes) (sym (be_bytes_4 (take 4 bytes) (big_number 4 bytes) (omega (arith, length-take 4 bytes)) below same))

pub u16_front : (bytes : List ℕ) → 2 ≤ length bytes → ((i : ℕ) → get_or bytes i 0 < 256) → bytes ≡ u16_bytes (big_number 2 bytes) ++ drop 2 bytes
unfolding u16_bytes
u16_front bytes long fits =
    let at : (i : ℕ) → i < 2 → get_or (take 2 bytes) i 0 ≡ get_or bytes i 0 = λ i h. get_or-take 2 bytes i 0 h in
    let below : (i : ℕ) → get_or (take 2 bytes) i 0 < 256 = λ i. byte-take 2 bytes i fits in
    let same : big_number 2 bytes ≡ from_be_bytes w16 (take 2 bytes) = omega (arith, at 0 (omega arith), at 1 (omega arith)) in
    sym (take-append-drop 2 bytes) ∙ ap (λ xs. xs ++ drop 2 bytes) (sym (be_bytes_2 (take 2 bytes) (big_number 2 bytes) (omega (arith, length-take 2 bytes)) below same))

-- one number has these bytes, whatever follows them
pub u64_one : (m n : ℕ) (r s : List ℕ) → m < 2 ^ 64 → n < 2 ^ 64 → u64_bytes m ++ r ≡ u64_bytes n ++ s → (m ≡ n) × (r ≡ s)
u64_one m n r s hm hn e =
    let same : m ≡ n = sym (u64_read m r hm) ∙ ap (big_number 8) e ∙ u64_read n s hn in
    (same, append_cancel_left (u64_bytes m) r s (e ∙ ap (λ k. u64_bytes k ++ s) (sym same)))

pub u32_one : (m n : ℕ) (r s : List ℕ) → m < 2 ^ 32 → n < 2 ^ 32 → u32_bytes m ++ r ≡ u32_bytes n ++ s → (m ≡ n) × (r ≡ s)
u32_one m n r s hm hn e =
    let same : m ≡ n = sym (u32_read m r hm) ∙ ap (big_number 4) e ∙ u32_read n s hn in
    (same, append_cancel_left (u32_bytes m) r s (e ∙ ap (λ k. u32_bytes k ++ s) (sym same)))

pub u16_one : (m n : ℕ) (r s : List ℕ) → m < 2 ^ 16 → n < 2 ^ 16 → u16_bytes m ++ r ≡ u16_bytes n ++ s → (m ≡ n) × (r ≡ s)
u16_one m n r s hm hn e =
    let same : m ≡ n = sym (u16_read m r hm) ∙ ap (big_number 2) e ∙ u16_read n s hn in
    (same, append_cancel_left (u16_bytes m) r s (e ∙ ap (λ k. u16_bytes k ++ s) (sym same)))
