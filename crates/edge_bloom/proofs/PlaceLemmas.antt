-- The top bits of a number, by a shift.
use Rattle.std.proofs.Common.{ℕ, ◌≡◌, ◌+◌, ◌-◌, ◌*◌, ◌/◌, ◌^◌, ◌<◌, ◌≤◌, ap, sym, ◌∙◌, subst, ⊎_elim, arith, w64}
use Rattle.std.proofs.Math.Nat.{mul-div_left, div-lt_iff_lt-mul}
use Rattle.std.proofs.Math.Pow.{pow_mono}
use Rattle.std.proofs.lemmas.Nat.{pow-add, pow_pos}
use Rattle.std.proofs.lemmas.Bool.{cases_eq, cases_lt}
use Rattle.std.proofs.lemmas.Nat.Bits.{bit_at-trailing_zeros, bit_at-pow_other}
use Rattle.std.specs.Int.{trailing_zeros, IsPowerOfTwo}
use Rattle.edge_bloom.specs.Filters.{top_bits}

-- a power of two that is at most 2^27 has an exponent of at most 27
small_exponent : (j : ℕ) → 2 ^ j ≤ 2 ^ 27 → j ≤ 27
small_exponent j most =
    ⊎_elim
    (λ (above : 27 < j).
    let p : 2 ^ 28 ≤ 2 ^ j = pow_mono (let q : 28 ≤ j = omega arith in q) in
    absurd (omega arith))
    (λ (at_most : j ≤ 27). at_most)
    (cases_lt 27 j)

-- below its one bit a power of two has as many zeros as its exponent says
trailing_zeros-pow : (j : ℕ) → j ≤ 27 → trailing_zeros w64 (2 ^ j) ≡ j
trailing_zeros-pow j small =
    let below : 2 ^ j ≤ 2 ^ 27 = pow_mono small in
    let bit = bit_at-trailing_zeros w64 (2 ^ j) (pow_pos j) (omega arith) in
    ⊎_elim
    (λ (e : trailing_zeros w64 (2 ^ j) ≡ j). e)
    (λ other.
    let none = bit_at-pow_other j (trailing_zeros w64 (2 ^ j)) other in
    let one = bit.1 in
    absurd (omega (arith, none, one)))
    (cases_eq (trailing_zeros w64 (2 ^ j)) j)

-- what is left of 2^64 by the bits of a filter
parts : (j : ℕ) → j ≤ 27 → 2 ^ 64 ≡ 2 ^ (61 - j) * (8 * 2 ^ j)
parts j small =
    let e : 64 ≡ (61 - j) + (3 + j) = omega arith in
    ap (λ (n : ℕ). 2 ^ n) e ∙ pow-add 2 (61 - j) (3 + j) ∙ ap (λ (n : ℕ). 2 ^ (61 - j) * n) (pow-add 2 3 j)

pub few_zeros : (len : ℕ) → IsPowerOfTwo len → len ≤ 2 ^ 27 → trailing_zeros w64 len ≤ 61
few_zeros len (j, e) most =
    let small = small_exponent j (let P : ℕ → Type 0 = λ n. n ≤ 2 ^ 27 in subst P e most) in
    rw (e, trailing_zeros-pow j small) (omega arith)

-- a shift gives the top bits
pub top_bits-shift : (len x : ℕ) → IsPowerOfTwo len → len ≤ 2 ^ 27 → x / 2 ^ (61 - trailing_zeros w64 len) ≡ top_bits (8 * len) x
top_bits-shift len x (j, e) most =
    let small = small_exponent j (let P : ℕ → Type 0 = λ n. n ≤ 2 ^ 27 in subst P e most) in
    let pos : 0 < 8 * 2 ^ j = (let h = pow_pos j in omega (arith, h)) in
    let split : 2 ^ 64 / (8 * 2 ^ j) ≡ 2 ^ (61 - j) = ap (λ (n : ℕ). n / (8 * 2 ^ j)) (parts j small) ∙ mul-div_left (2 ^ (61 - j)) pos in
    rw (e, trailing_zeros-pow j small) (ap (λ (n : ℕ). x / n) (sym split))

-- the top bits name a place in the filter
pub top_bits-within : (len x : ℕ) → IsPowerOfTwo len → len ≤ 2 ^ 27 → x < 2 ^ 64 → x / 2 ^ (61 - trailing_zeros w64 len) < 8 * len
top_bits-within len x (j, e) most fits =
    let small = small_exponent j (let P : ℕ → Type 0 = λ n. n ≤ 2 ^ 27 in subst P e most) in
    let bound : x < (8 * 2 ^ j) * 2 ^ (61 - j) = (let h = parts j small in omega (arith, h)) in
    rw (e, trailing_zeros-pow j small) ((div-lt_iff_lt-mul (pow_pos (61 - j))).1 bound)
