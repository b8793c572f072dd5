-- Bytes at a place, where other bytes were written.
use Rattle.std.proofs.Common.{◌≡◌, ℕ, ◌+◌, ◌-◌, ◌≤◌, List, ◌++◌, length, take, drop, refl, sym, ap, ◌∙◌, arith, length-append, length-drop, drop-drop}
use Rattle.std.proofs.Math.Seq.{take-add}
use Rattle.std.proofs.lemmas.List.{take_at, drop_at, length-take-le, take-append-drop, drop-take, take-append-le, take-take}
use Rattle.block_layout.specs.Sizes.{bytes_at}
use Rattle.block_layout.specs.Writes.{overwritten}

pub length-overwritten : (from : ℕ) (new bytes : List ℕ) → from + length new ≤ length bytes → length (overwritten from new bytes) ≡ length bytes
length-overwritten from new bytes within =
    let a = length-append (take from bytes) (new ++ drop (from + length new) bytes) in
    let b = length-append new (drop (from + length new) bytes) in
    let c = length-drop (from + length new) bytes in
    let d : length (take from bytes) ≡ from = length-take-le from bytes (omega arith) in
    omega (arith, a, b, c, d)

-- what is before stays
pub take-before : (n from : ℕ) (new bytes : List ℕ) → n ≤ from → from + length new ≤ length bytes → take n (overwritten from new bytes) ≡ take n bytes
take-before n from new bytes before within =
    let long : length (take from bytes) ≡ from = length-take-le from bytes (omega arith) in
    take-append-le n (take from bytes) (new ++ drop (from + length new) bytes) (omega (arith, long)) ∙ take-take n from bytes before

-- the bytes are written
pub drop-written : (from : ℕ) (new bytes : List ℕ) → from + length new ≤ length bytes → drop from (overwritten from new bytes) ≡ new ++ drop (from + length new) bytes
drop-written from new bytes within = drop_at (take from bytes) (new ++ drop (from + length new) bytes) from (length-take-le from bytes (omega arith))

-- what is behind stays
pub drop-behind : (n from : ℕ) (new bytes : List ℕ) → from + length new ≤ n → from + length new ≤ length bytes → drop n (overwritten from new bytes) ≡ drop n bytes
drop-behind n from new bytes behind within =
    let split : n ≡ from + (length new + (n - (from + length new))) = omega arith in
    let whole : (from + length new) + (n - (from + length new)) ≡ n = omega arith in
    ap (λ (k : ℕ). drop k (overwritten from new bytes)) split
    ∙ sym (drop-drop (length new + (n - (from + length new))) from (overwritten from new bytes))
    ∙ ap (drop (length new + (n - (from + length new)))) (drop-written from new bytes within)
    ∙ sym (drop-drop (n - (from + length new)) (length new) (new ++ drop (from + length new) bytes))
    ∙ ap (drop (n - (from + length new))) (drop_at new (drop (from + length new) bytes) (length new) refl)
    ∙ drop-drop (n - (from + length new)) (from + length new) bytes
    ∙ ap (λ (k : ℕ). drop k bytes) whole

-- a window is a part of the bytes up to its end
pub window-take : (a n m : ℕ) (bytes : List ℕ) → a + n ≤ m → bytes_at a n bytes ≡ bytes_at a n (take m bytes)
window-take a n m bytes within =
    sym (drop-take a n bytes) ∙ ap (drop a) (sym (take-take (a + n) m bytes within)) ∙ drop-take a n (take m bytes)

pub window-before : (a n from : ℕ) (new bytes : List ℕ) → a + n ≤ from → from + length new ≤ length bytes → bytes_at a n (overwritten from new bytes) ≡ bytes_at a n bytes
window-before a n from new bytes before within =
    window-take a n from (overwritten from new bytes) before
    ∙ ap (bytes_at a n) (take-before from from new bytes (omega arith) within)
    ∙ sym (window-take a n from bytes before)

pub window-behind : (a n from : ℕ) (new bytes : List ℕ) → from + length new ≤ a → from + length new ≤ length bytes → bytes_at a n (overwritten from new bytes) ≡ bytes_at a n bytes
window-behind a n from new bytes behind within = ap (take n) (drop-behind a from new bytes behind within)

pub window-written : (from n : ℕ) (new bytes : List ℕ) → length new ≡ n → from + length new ≤ length bytes → bytes_at from n (overwritten from new bytes) ≡ new
window-written from n new bytes long within = ap (take n) (drop-written from new bytes within) ∙ take_at new (drop (from + length new) bytes) n long

-- two windows that meet are one
pub window-join : (a m n : ℕ) (bytes : List ℕ) → bytes_at a (m + n) bytes ≡ bytes_at a m bytes ++ bytes_at (a + m) n bytes
window-join a m n bytes = take-add m n (drop a bytes) ∙ ap (λ (ys : List ℕ). take m (drop a bytes) ++ take n ys) (drop-drop m a bytes)

-- the bytes from a place on, in two
pub drop-join : (a n : ℕ) (bytes : List ℕ) → drop a bytes ≡ bytes_at a n bytes ++ drop (a + n) bytes
drop-join a n bytes = sym (take-append-drop n (drop a bytes)) ∙ ap (λ (ys : List ℕ). take n (drop a bytes) ++ ys) (drop-drop n a bytes)
