-- What taking and giving keep of a tree: that it is cut by halves, and that free halves are joined.
use Rattle.std.proofs.Common.{ℕ, zero, suc, ◌≡◌, ◌-◌, ◌^◌, ◌≤◌, Bool, true, false, ◌&&◌, if◌then◌else◌, refl, ap, ◌∙◌, arith}
use Rattle.std.specs.Prelude.{nat_lt, not}
use Rattle.std.proofs.lemmas.Bool.{and_parts}
use Rattle.block_pool.specs.Trees.{Tree, Free, Out, Split, fits, is_free, is_joined}
use Rattle.block_pool.specs.Cells.{has_free, taken, carved, given, joined}

pub and-intro : (x y : Bool) → x ≡ true → y ≡ true → (x && y) ≡ true
and-intro x y hx hy = ap (λ (t : Bool). t && y) hx ∙ hy

pub fits-carved : (o n : ℕ) → n ≤ o → fits o (carved n) ≡ true
fits-carved o zero h = refl
fits-carved zero (suc n) h = absurd (omega arith)
fits-carved (suc o) (suc n) h = and-intro (fits o (carved n)) true (fits-carved o n (omega arith)) refl

pub joined-carved : (n : ℕ) → is_joined (carved n) ≡ true
joined-carved zero = refl
joined-carved (suc zero) = refl
joined-carved (suc (suc n)) = and-intro (is_joined (carved (suc n))) true (joined-carved (suc n)) refl

pub fits-taken : (o j order : ℕ) (t : Tree) → fits o t ≡ true → fits o (taken o j order t) ≡ true
fits-taken o j order Free h = fits-carved o (o - order) (omega arith)
fits-taken o j order Out h = refl
fits-taken zero j order (Split l u) h = h
fits-taken (suc o) j order (Split l u) h =
    let parts = and_parts (fits o l) (fits o u) h in
    elim (has_free o j l) as (λ t. fits (suc o) (if t then Split (taken o j order l) u else Split l (taken o j order u)) ≡ true) [
      | true ↦ and-intro (fits o (taken o j order l)) (fits o u) (fits-taken o j order l parts.0) parts.1
      | false ↦ and-intro (fits o l) (fits o (taken o j order u)) parts.0 (fits-taken o j order u parts.1)
    ]

carved-is_free : (n : ℕ) → is_free (carved n) ≡ false
carved-is_free zero = refl
carved-is_free (suc n) = refl

-- what a block was taken from is not free as a whole
taken-is_free : (o j order : ℕ) (t : Tree) → is_free (taken o j order t) ≡ false
taken-is_free o j order Free = carved-is_free (o - order)
taken-is_free o j order Out = refl
taken-is_free zero j order (Split l u) = refl
taken-is_free (suc o) j order (Split l u) =
    elim (has_free o j l) as (λ t. is_free (if t then Split (taken o j order l) u else Split l (taken o j order u)) ≡ false) [ true ↦ refl | false ↦ refl ]

not_both_l : (a b : Bool) → a ≡ false → not (a && b) ≡ true
not_both_l a b h = ap (λ (t : Bool). not (t && b)) h

not_both_r : (a b : Bool) → b ≡ false → not (a && b) ≡ true
not_both_r true b h = ap not h
not_both_r false b h = refl

pub joined-taken : (o j order : ℕ) (t : Tree) → is_joined t ≡ true → is_joined (taken o j order t) ≡ true
joined-taken o j order Free h = joined-carved (o - order)
joined-taken o j order Out h = refl
joined-taken zero j order (Split l u) h = h
joined-taken (suc o) j order (Split l u) h =
    let parts = and_parts (not (is_free l && is_free u)) (is_joined l && is_joined u) h in
    let both = and_parts (is_joined l) (is_joined u) parts.1 in
    elim (has_free o j l) as (λ t. is_joined (if t then Split (taken o j order l) u else Split l (taken o j order u)) ≡ true) [
      | true ↦ and-intro _ _ (not_both_l (is_free (taken o j order l)) (is_free u) (taken-is_free o j order l)) (and-intro _ _ (joined-taken o j order l both.0) both.1)
      | false ↦ and-intro _ _ (not_both_r (is_free l) (is_free (taken o j order u)) (taken-is_free o j order u)) (and-intro _ _ both.0 (joined-taken o j order u both.1))
    ]

fits-joined : (o : ℕ) (l u : Tree) → fits o l ≡ true → fits o u ≡ true → fits (suc o) (joined l u) ≡ true
fits-joined o Free Free hl hu = refl
fits-joined o Free Out hl hu = refl
fits-joined o Free (Split a b) hl hu = hu
fits-joined o Out u hl hu = hu
fits-joined o (Split a b) u hl hu = and-intro (fits o (Split a b)) (fits o u) hl hu

pub fits-given : (o order at : ℕ) (t : Tree) → fits o t ≡ true → fits o (given o order at t) ≡ true
fits-given o order at Free h = refl
fits-given o order at Out h = refl
fits-given zero order at (Split l u) h = h
fits-given (suc o) order at (Split l u) h =
    let parts = and_parts (fits o l) (fits o u) h in
    elim (nat_lt at (2 ^ o)) as (λ t. fits (suc o) (if t then joined (given o order at l) u else joined l (given o order (at - 2 ^ o) u)) ≡ true) [
      | true ↦ fits-joined o (given o order at l) u (fits-given o order at l parts.0) parts.1
      | false ↦ fits-joined o l (given o order (at - 2 ^ o) u) parts.0 (fits-given o order (at - 2 ^ o) u parts.1)
    ]

joined-joined : (l u : Tree) → is_joined l ≡ true → is_joined u ≡ true → is_joined (joined l u) ≡ true
joined-joined Free Free hl hu = refl
joined-joined Free Out hl hu = refl
joined-joined Free (Split a b) hl hu = hu
joined-joined Out u hl hu = hu
joined-joined (Split a b) u hl hu = and-intro (is_joined (Split a b)) (is_joined u) hl hu

pub joined-given : (o order at : ℕ) (t : Tree) → is_joined t ≡ true → is_joined (given o order at t) ≡ true
joined-given o order at Free h = refl
joined-given o order at Out h = refl
joined-given zero order at (Split l u) h = h
joined-given (suc o) order at (Split l u) h =
    let parts = and_parts (not (is_free l && is_free u)) (is_joined l && is_joined u) h in
    let both = and_parts (is_joined l) (is_joined u) parts.1 in
    elim (nat_lt at (2 ^ o)) as (λ t. is_joined (if t then joined (given o order at l) u else joined l (given o order (at - 2 ^ o) u)) ≡ true) [
      | true ↦ joined-joined (given o order at l) u (joined-given o order at l both.0) both.1
      | false ↦ joined-joined l (given o order (at - 2 ^ o) u) both.0 (joined-given o order (at - 2 ^ o) u both.1)
    ]
