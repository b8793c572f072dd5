-- The numbers that a set has after the bit of one more was set in its word.
use Rattle.std.proofs.Common.{ℕ, ◌≡◌, ◌*◌, ◌/◌, ◌%◌, ◌^◌, ◌<◌, Bool, ◌||◌, ◌==◌, ap, sym, ◌∙◌, ⊎_elim, arith, bit_or, w64}
use Rattle.std.specs.Prelude.{if◌then◌else◌}
use Rattle.std.specs.Int.{bit_at}
use Rattle.std.proofs.lemmas.Bool.{cases_eq, eq-eqb, ne_eqb}
use Rattle.std.proofs.lemmas.Nat.Bits.{bit_at_set_same, bit_at_set_other}

-- a word with the bit of a number
abbrev word_with : ℕ → ℕ → ℕ
word_with word n = bit_or word (1 * 2 ^ (n % 64) % 2 ^ 64)

-- whether the bit of a number is set in its word
abbrev is_set : (ℕ → ℕ) → ℕ → Bool
is_set words m = bit_at (words (m / 64)) (m % 64) == 1

-- The word of one block is out, and the bit of a number of that block is set in it: each other number stays.
pub word-with : (old rest : ℕ → ℕ) (block word n : ℕ) → block ≡ n / 64 → ((b : ℕ) → (if b == block then word else rest b) ≡ old b) →
    (m : ℕ) → (bit_at (if m / 64 == block then bit_or word (1 * 2 ^ (n % 64) % 2 ^ 64) else rest (m / 64)) (m % 64) == 1) ≡ ((n == m) || (bit_at (old (m / 64)) (m % 64) == 1))
word-with old rest block word n out told m = ⊎_elim here elsewhere (cases_eq (m / 64) block) where
  elsewhere : (m / 64 ≡ block → ⊥) → (bit_at (if m / 64 == block then word_with word n else rest (m / 64)) (m % 64) == 1) ≡ ((n == m) || is_set old m)
  elsewhere other =
      let ne : n ≡ m → ⊥ = (λ (q : n ≡ m). other (ap (λ (k : ℕ). k / 64) (sym q) ∙ sym out)) in
      let test = ne_eqb (m / 64) block other in
      let stays : rest (m / 64) ≡ old (m / 64) = ap (λ (t : Bool). if t then word else rest (m / 64)) (sym test) ∙ told (m / 64) in
      ap (λ (t : Bool). bit_at (if t then word_with word n else rest (m / 64)) (m % 64) == 1) test
      ∙ ap (λ (w : ℕ). bit_at w (m % 64) == 1) stays
      ∙ sym (ap (λ (t : Bool). t || is_set old m) (ne_eqb n m ne))

  here : m / 64 ≡ block → (bit_at (if m / 64 == block then word_with word n else rest (m / 64)) (m % 64) == 1) ≡ ((n == m) || is_set old m)
  here same =
      let low : n % 64 < 64 = omega arith in
      let test = eq-eqb (m / 64) block same in
      let was : word ≡ old (m / 64) = ap (λ (t : Bool). if t then word else rest (m / 64)) (sym test) ∙ told (m / 64) in
      ap (λ (t : Bool). bit_at (if t then word_with word n else rest (m / 64)) (m % 64) == 1) test
      ∙ ⊎_elim
      (λ (bit : m % 64 ≡ n % 64).
      let eq : n ≡ m = omega (arith, same, out) in
      ap (λ (k : ℕ). bit_at (word_with word n) k == 1) bit
      ∙ ap (λ (k : ℕ). k == 1) (bit_at_set_same w64 word (n % 64) low)
      ∙ sym (ap (λ (t : Bool). t || is_set old m) (eq-eqb n m eq)))
      (λ other.
      let ne : n ≡ m → ⊥ = (λ (q : n ≡ m). other (ap (λ (k : ℕ). k % 64) (sym q))) in
      ap (λ (k : ℕ). k == 1) (bit_at_set_other w64 word (n % 64) low (m % 64) other)
      ∙ ap (λ (k : ℕ). bit_at k (m % 64) == 1) was
      ∙ sym (ap (λ (t : Bool). t || is_set old m) (ne_eqb n m ne)))
      (cases_eq (m % 64) (n % 64))
