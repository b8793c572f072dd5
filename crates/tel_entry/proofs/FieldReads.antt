-- Fields read one after another, from the front on.
use Rattle.std.proofs.Common.{◌≡◌, ℕ, ◌+◌, ◌-◌, ◌<◌, ◌≤◌, List, ◌∷◌, ◌++◌, length, take, drop, get_or, sym, ap, ◌∙◌, arith, drop-drop, length-drop, add-one, drop-cons}
use Rattle.std.proofs.lemmas.List.{take_all}
use Rattle.byteorder.specs.Endian.{big_number}
use Rattle.tel_entry.specs.Layouts.{u16_bytes, u32_bytes, u64_bytes}
use Rattle.tel_entry.proofs.Numbers.{byte-drop, u16_front, u32_front, u64_front}

-- each number of the list is a byte
abbrev pub AreBytes : List ℕ → Type 0
AreBytes xs = (i : ℕ) → get_or xs i 0 < 256

to_end : (n : ℕ) (xs : List ℕ) → take (length xs - n) (drop n xs) ≡ drop n xs
to_end n xs = take_all (length xs - n) (drop n xs) (let h = length-drop n xs in omega (arith, h))

pub read_first : (x : ℕ) (buf : List ℕ) → AreBytes buf → 8 ≤ length buf → x ≡ big_number 8 buf → buf ≡ u64_bytes x ++ drop 8 buf
read_first x buf bytes long is = u64_front buf long bytes ∙ ap (λ (k : ℕ). u64_bytes k ++ drop 8 buf) (sym is)

pub read_u64_at : (n x : ℕ) (buf : List ℕ) → AreBytes buf → n + 8 ≤ length buf → x ≡ big_number 8 (take (length buf - n) (drop n buf)) →
    drop n buf ≡ u64_bytes x ++ drop (n + 8) buf
read_u64_at n x buf bytes long is =
    u64_front (drop n buf) (let h = length-drop n buf in omega (arith, h)) (λ i. byte-drop n buf i bytes)
    ∙ ap (λ (k : ℕ). u64_bytes k ++ drop 8 (drop n buf)) (sym (is ∙ ap (big_number 8) (to_end n buf)))
    ∙ ap (λ (ys : List ℕ). u64_bytes x ++ ys) (drop-drop 8 n buf)

pub read_u32_at : (n x : ℕ) (buf : List ℕ) → AreBytes buf → n + 4 ≤ length buf → x ≡ big_number 4 (take (length buf - n) (drop n buf)) →
    drop n buf ≡ u32_bytes x ++ drop (n + 4) buf
read_u32_at n x buf bytes long is =
    u32_front (drop n buf) (let h = length-drop n buf in omega (arith, h)) (λ i. byte-drop n buf i bytes)
    ∙ ap (λ (k : ℕ). u32_bytes k ++ drop 4 (drop n buf)) (sym (is ∙ ap (big_number 4) (to_end n buf)))
    ∙ ap (λ (ys : List ℕ). u32_bytes x ++ ys) (drop-drop 4 n buf)

pub read_u16_at : (n x : ℕ) (buf : List ℕ) → AreBytes buf → n + 2 ≤ length buf → x ≡ big_number 2 (take (length buf - n) (drop n buf)) →
    drop n buf ≡ u16_bytes x ++ drop (n + 2) buf
read_u16_at n x buf bytes long is =
    u16_front (drop n buf) (let h = length-drop n buf in omega (arith, h)) (λ i. byte-drop n buf i bytes)
    ∙ ap (λ (k : ℕ). u16_bytes k ++ drop 2 (drop n buf)) (sym (is ∙ ap (big_number 2) (to_end n buf)))
    ∙ ap (λ (ys : List ℕ). u16_bytes x ++ ys) (drop-drop 2 n buf)

pub read_byte_at : (n : ℕ) (buf : List ℕ) → n < length buf → drop n buf ≡ get_or buf n 0 ∷ drop (n + 1) buf
read_byte_at n buf long = rw (add-one, drop-cons buf n 0)
