-- The bits of a cell are the orders of the free blocks.
use Rattle.std.proofs.Common.{ℕ, zero, suc, ◌≡◌, ◌^◌, ◌<◌, Bool, false, ◌||◌, ◌==◌, bit_or, refl, sym, ap, ◌∙◌, ⊎_elim, arith}
use Rattle.std.specs.Prelude.{max}
use Rattle.std.proofs.lemmas.Bool.{cases_eq, eq-eqb, ne_eqb}
use Rattle.std.proofs.lemmas.Nat.Bits.{bit_at_or, bit_at-lt, bit_at-pow_same, bit_at-pow_other, bit_at-zero}
use Rattle.std.specs.Int.{bit_at}
use Rattle.block_pool.specs.Trees.{Tree, Free, Out, Split}
use Rattle.block_pool.specs.Cells.{has_bit, both_cells, cell_of, has_free}

either : (m n : ℕ) → m < 2 → n < 2 → (max m n == 1) ≡ (m == 1 || n == 1)
either zero zero hm hn = refl
either zero (suc zero) hm hn = refl
either (suc zero) zero hm hn = refl
either (suc zero) (suc zero) hm hn = refl
either zero (suc (suc n)) hm hn = absurd (omega arith)
either (suc zero) (suc (suc n)) hm hn = absurd (omega arith)
either (suc (suc m)) n hm hn = absurd (omega arith)

pub has_bit-or : (a b j : ℕ) → has_bit (bit_or a b) j ≡ (has_bit a j || has_bit b j)
has_bit-or a b j = ap (λ (n : ℕ). n == 1) (bit_at_or a b j) ∙ either (bit_at a j) (bit_at b j) (bit_at-lt a j) (bit_at-lt b j)

has_bit-other : (k j : ℕ) → (j ≡ k → ⊥) → has_bit (2 ^ k) j ≡ false
has_bit-other k j ne = ap (λ (n : ℕ). n == 1) (bit_at-pow_other k j ne)

pub has_bit-pow : (k j : ℕ) → has_bit (2 ^ k) j ≡ (k == j)
has_bit-pow k j =
    ⊎_elim
    (λ (e : k ≡ j). ap (λ (n : ℕ). bit_at (2 ^ k) n == 1) (sym e) ∙ ap (λ (n : ℕ). n == 1) (bit_at-pow_same k) ∙ sym (eq-eqb k j e))
    (λ (ne : k ≡ j → ⊥). has_bit-other k j (λ (e : j ≡ k). ne (sym e)) ∙ sym (ne_eqb k j ne))
    (cases_eq k j)

pub has_bit-both : (a b j : ℕ) → j < 31 → has_bit (both_cells a b) j ≡ (has_bit a j || has_bit b j)
has_bit-both a b j small =
    has_bit-or (2 ^ 31) (bit_or a b) j
    ∙ ap (λ (t : Bool). t || has_bit (bit_or a b) j) (has_bit-other 31 j (λ (e : j ≡ 31). absurd (omega arith)))
    ∙ has_bit-or a b j

-- a cell has the bits of the orders of which its part has a free block
pub has_bit-cell : (o j : ℕ) (tree : Tree) → j < 31 → has_bit (cell_of o tree) j ≡ has_free o j tree
has_bit-cell o j Free small = has_bit-pow o j
has_bit-cell o j Out small = ap (λ (n : ℕ). n == 1) (bit_at-zero j)
has_bit-cell zero j (Split l u) small = has_bit-other 31 j (λ (e : j ≡ 31). absurd (omega arith))
has_bit-cell (suc o) j (Split l u) small =
    has_bit-both (cell_of o l) (cell_of o u) j small
    ∙ ap (λ (t : Bool). t || has_bit (cell_of o u) j) (has_bit-cell o j l small)
    ∙ ap (λ (t : Bool). has_free o j l || t) (has_bit-cell o j u small)
