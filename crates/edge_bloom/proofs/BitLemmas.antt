-- What writing one bit leaves of a filter's bits.
use Rattle.std.proofs.Common.{ℕ, ◌≡◌, ◌*◌, ◌/◌, ◌%◌, ◌^◌, ◌<◌, Bool, true, false, ◌||◌, ◌==◌, List, length, get_or, refl, ap, sym, ◌∙◌, ⊎_elim, arith, bit_or, w8, get_or-set_same, get_or-set_other}
use Rattle.std.proofs.Math.ListN.{set}
use Rattle.std.proofs.Math.Bool.{or-false}
use Rattle.std.proofs.lemmas.Bool.{cases_eq, eq-eqb, ne_eqb}
use Rattle.std.proofs.lemmas.Nat.Bits.{bit_at_set_same, bit_at_set_other}
use Rattle.std.specs.Int.{bit_at}
use Rattle.edge_bloom.specs.Filters.{is_set}

-- the byte with the bit of a place set
abbrev byte_with : List ℕ → ℕ → ℕ
byte_with xs p = bit_or (get_or xs (p / 8) 0) (1 * 2 ^ (p % 8) % 256)

or-true : (b : Bool) → (b || true) ≡ true
or-true true = refl
or-true false = refl

-- where the bit's byte is written, that bit is set and each other bit of the byte stays
same_byte : (xs : List ℕ) (p b : ℕ) → p / 8 < length xs → b / 8 ≡ p / 8 →
    is_set (set xs (p / 8) (byte_with xs p)) b ≡ is_set xs b || p == b
same_byte xs p b within e =
    let written : get_or (set xs (p / 8) (byte_with xs p)) (b / 8) 0 ≡ byte_with xs p =
    rw e (get_or-set_same xs (p / 8) (byte_with xs p) 0 within) in
    let read : is_set xs b ≡ bit_at (get_or xs (p / 8) 0) (b % 8) == 1 = rw e refl in
    let low : p % 8 < 8 = omega arith in
    ap (λ (n : ℕ). bit_at n (b % 8) == 1) written
    ∙ ⊎_elim
    (λ (same : b % 8 ≡ p % 8).
    let eq : p ≡ b = omega arith in
    ap (λ (k : ℕ). bit_at (byte_with xs p) k == 1) same
    ∙ ap (λ (n : ℕ). n == 1) (bit_at_set_same w8 (get_or xs (p / 8) 0) (p % 8) low)
    ∙ sym (ap (λ (t : Bool). is_set xs b || t) (eq-eqb p b eq) ∙ or-true (is_set xs b)))
    (λ other.
    let ne : p ≡ b → _ = (λ (q : p ≡ b). other (ap (λ (n : ℕ). n % 8) (sym q))) in
    ap (λ (n : ℕ). n == 1) (bit_at_set_other w8 (get_or xs (p / 8) 0) (p % 8) low (b % 8) other)
    ∙ sym read
    ∙ sym (ap (λ (t : Bool). is_set xs b || t) (ne_eqb p b ne) ∙ or-false (is_set xs b)))
    (cases_eq (b % 8) (p % 8))

-- a bit is set, and each other one stays
pub set_bit : (xs : List ℕ) (p b : ℕ) → p / 8 < length xs →
    is_set (set xs (p / 8) (bit_or (get_or xs (p / 8) 0) (1 * 2 ^ (p % 8) % 256))) b ≡ is_set xs b || p == b
set_bit xs p b within =
    ⊎_elim
    (λ (e : b / 8 ≡ p / 8). same_byte xs p b within e)
    (λ other.
    let ne : p ≡ b → _ = (λ (q : p ≡ b). other (ap (λ (n : ℕ). n / 8) (sym q))) in
    ap (λ (n : ℕ). bit_at n (b % 8) == 1) (get_or-set_other xs (p / 8) (b / 8) (byte_with xs p) 0 other)
    ∙ sym (ap (λ (t : Bool). is_set xs b || t) (ne_eqb p b ne) ∙ or-false (is_set xs b)))
    (cases_eq (b / 8) (p / 8))
