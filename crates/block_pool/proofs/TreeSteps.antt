-- What the functions of trees are at two halves.
use Rattle.std.proofs.Common.{ℕ, zero, suc, ◌≡◌, ◌+◌, ◌-◌, ◌^◌, ◌<◌, Bool, true, false, ◌||◌, if◌then◌else◌, refl, ap, ◌∙◌, arith}
use Rattle.std.specs.Prelude.{nat_lt}
use Rattle.std.proofs.lemmas.Bool.{ne_eqb}
use Rattle.block_pool.specs.Trees.{Tree, Free, Out, Split}
use Rattle.block_pool.specs.Cells.{has_free, first_unit, taken, is_out_at, given, joined}

pub has_free-split : (own j : ℕ) (l r : Tree) → 0 < own → has_free own j (Split l r) ≡ (has_free (own - 1) j l || has_free (own - 1) j r)
has_free-split zero j l r some = absurd (omega arith)
has_free-split (suc o) j l r some = let e : o ≡ suc o - 1 = omega arith in ap (λ (n : ℕ). has_free n j l || has_free n j r) e

pub taken-split : (own j order : ℕ) (l r : Tree) → 0 < own →
    taken own j order (Split l r) ≡ (if has_free (own - 1) j l then Split (taken (own - 1) j order l) r else Split l (taken (own - 1) j order r))
taken-split zero j order l r some = absurd (omega arith)
taken-split (suc o) j order l r some =
    let e : o ≡ suc o - 1 = omega arith in
    ap (λ (n : ℕ). if has_free n j l then Split (taken n j order l) r else Split l (taken n j order r)) e

pub first_unit-split : (own j : ℕ) (l r : Tree) → 0 < own →
    first_unit own j (Split l r) ≡ (if has_free (own - 1) j l then first_unit (own - 1) j l else 2 ^ (own - 1) + first_unit (own - 1) j r)
first_unit-split zero j l r some = absurd (omega arith)
first_unit-split (suc o) j l r some =
    let e : o ≡ suc o - 1 = omega arith in
    ap (λ (n : ℕ). if has_free n j l then first_unit n j l else 2 ^ n + first_unit n j r) e

pub is_out_at-split : (own order at : ℕ) (l r : Tree) → 0 < own →
    is_out_at own order at (Split l r) ≡ (if nat_lt at (2 ^ (own - 1)) then is_out_at (own - 1) order at l else is_out_at (own - 1) order (at - 2 ^ (own - 1)) r)
is_out_at-split zero order at l r some = absurd (omega arith)
is_out_at-split (suc o) order at l r some =
    let e : o ≡ suc o - 1 = omega arith in
    ap (λ (n : ℕ). if nat_lt at (2 ^ n) then is_out_at n order at l else is_out_at n order (at - 2 ^ n) r) e

pub given-split : (own order at : ℕ) (l r : Tree) → 0 < own →
    given own order at (Split l r) ≡ (if nat_lt at (2 ^ (own - 1)) then joined (given (own - 1) order at l) r else joined l (given (own - 1) order (at - 2 ^ (own - 1)) r))
given-split zero order at l r some = absurd (omega arith)
given-split (suc o) order at l r some =
    let e : o ≡ suc o - 1 = omega arith in
    ap (λ (n : ℕ). if nat_lt at (2 ^ n) then joined (given n order at l) r else joined l (given n order (at - 2 ^ n) r)) e

-- a part has no free block of a greater order
pub has_free-above : (o j : ℕ) (tree : Tree) → o < j → has_free o j tree ≡ false
has_free-above o j Free above = ne_eqb o j (λ (e : o ≡ j). absurd (omega arith))
has_free-above o j Out above = refl
has_free-above zero j (Split l u) above = refl
has_free-above (suc o) j (Split l u) above =
    ap (λ (t : Bool). t || has_free o j u) (has_free-above o j l (omega arith)) ∙ has_free-above o j u (omega arith)

-- of its own order it has one where it is free as a whole
pub has_free-own : (o : ℕ) (tree : Tree) → has_free o o tree ≡ true → tree ≡ Free
has_free-own o Free h = refl
has_free-own o Out h = cc
has_free-own zero (Split l u) h = cc
has_free-own (suc o) (Split l u) h =
    let none : has_free (suc o) (suc o) (Split l u) ≡ false =
    ap (λ (t : Bool). t || has_free o (suc o) u) (has_free-above o (suc o) l (omega arith)) ∙ has_free-above o (suc o) u (omega arith) in
    cc
