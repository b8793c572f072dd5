-- The steps of the calls on the cells of an index.
use Rattle.std.proofs.Common.{ℕ, zero, suc, ◌≡◌, ◌+◌, ◌-◌, ◌^◌, ◌<◌, ◌≤◌, Bool, true, false, ◌||◌, bit_or, List, [], ◌∷◌, ◌++◌, length, take, drop, get_or, refl, sym, ap, subst, ◌∙◌, inl, inr, arith, length-drop, length-append}
use Rattle.std.proofs.Math.ListN.{set}
use Rattle.std.proofs.lemmas.Bool.{cases_lt}
use Rattle.std.proofs.lemmas.List.{length-take, set-append_left, set-append_right, get_or_append_left, get_or-append_right}
use borrow.Rule.Slice.PartMut.{put_mid}
use Rattle.block_pool.specs.Cells.{lower_cells, upper_cells, has_bit}
use Rattle.block_pool.specs.Index.{leaves_of, IsIndex}
use Rattle.block_pool.proofs.Bits.{has_bit-or}
use Rattle.block_pool.proofs.Halves.{pow-suc2, read_lower, read_upper, lower_slice, upper_slice, lower-write_lower, upper-write_lower, lower-write_upper, upper-write_upper}
use Rattle.block_pool.proofs.CellSteps.{upper_at, room, room_lower, room_upper}

pub length-leaves : (d : ℕ) (cells : List ℕ) → length (leaves_of d cells) ≡ 2 ^ d
length-leaves zero cells = refl
length-leaves (suc d) cells =
    length-append (leaves_of d (lower_cells d cells)) (leaves_of d (upper_cells d cells))
    ∙ (let a = length-leaves d (lower_cells d cells) in let b = length-leaves d (upper_cells d cells) in let c = pow-suc2 d in omega (arith, a, b, c))

-- the leaves of the two halves
pub leaves-split : (d : ℕ) (cells : List ℕ) → 0 < d → leaves_of d cells ≡ leaves_of (d - 1) (lower_cells (d - 1) cells) ++ leaves_of (d - 1) (upper_cells (d - 1) cells)
leaves-split zero cells some = absurd (omega arith)
leaves-split (suc d) cells some = let e : d ≡ suc d - 1 = omega arith in ap (λ (n : ℕ). leaves_of n (lower_cells n cells) ++ leaves_of n (upper_cells n cells)) e

pub index-split : (d : ℕ) (cells : List ℕ) → 0 < d → IsIndex d cells →
    (get_or cells 0 0 ≡ bit_or (get_or (lower_cells (d - 1) cells) 0 0) (get_or (upper_cells (d - 1) cells) 0 0)) × (IsIndex (d - 1) (lower_cells (d - 1) cells) × IsIndex (d - 1) (upper_cells (d - 1) cells))
index-split zero cells some h = absurd (omega arith)
index-split (suc d) cells some h =
    let e : d ≡ suc d - 1 = omega arith in
    subst (λ (n : ℕ). (get_or cells 0 0 ≡ bit_or (get_or (lower_cells n cells) 0 0) (get_or (upper_cells n cells) 0 0)) × (IsIndex n (lower_cells n cells) × IsIndex n (upper_cells n cells))) e h

index-join : (d : ℕ) (cells : List ℕ) → 0 < d →
    get_or cells 0 0 ≡ bit_or (get_or (lower_cells (d - 1) cells) 0 0) (get_or (upper_cells (d - 1) cells) 0 0) → IsIndex (d - 1) (lower_cells (d - 1) cells) → IsIndex (d - 1) (upper_cells (d - 1) cells) → IsIndex d cells
index-join zero cells some e l u = absurd (omega arith)
index-join (suc d) cells some e l u =
    let k : suc d - 1 ≡ d = omega arith in
    subst (λ (n : ℕ). (get_or cells 0 0 ≡ bit_or (get_or (lower_cells n cells) 0 0) (get_or (upper_cells n cells) 0 0)) × (IsIndex n (lower_cells n cells) × IsIndex n (upper_cells n cells))) k (e, (l, u))

lower-first : (d v : ℕ) (cells : List ℕ) → lower_cells d (set cells 0 v) ≡ lower_cells d cells
lower-first d v [] = refl
lower-first d v (x ∷ xs) = refl

upper-first : (d v : ℕ) (cells : List ℕ) → upper_cells d (set cells 0 v) ≡ upper_cells d cells
upper-first d v [] = refl
upper-first d v (x ∷ xs) = refl

first-first : (v : ℕ) (cells : List ℕ) → 0 < length cells → get_or (set cells 0 v) 0 0 ≡ v
first-first v [] some = absurd (omega arith)
first-first v (x ∷ xs) some = refl

-- cells with these halves, gathered
gathered : (d u : ℕ) (y lower upper : List ℕ) → 0 < d → u ≡ 2 ^ d → u < length y → lower_cells (d - 1) y ≡ lower → upper_cells (d - 1) y ≡ upper → IsIndex (d - 1) lower → IsIndex (d - 1) upper →
    let z : List ℕ = set y 0 (bit_or (get_or y 1 0) (get_or y u 0)) in
    IsIndex d z × (leaves_of d z ≡ leaves_of (d - 1) lower ++ leaves_of (d - 1) upper)
gathered d u y lower upper some e within hl hu il iu =
    let o : ℕ = d - 1 in
    let v : ℕ = bit_or (get_or y 1 0) (get_or y u 0) in
    let z : List ℕ = set y 0 v in
    let zl : lower_cells o z ≡ lower = lower-first o v y ∙ hl in
    let zu : upper_cells o z ≡ upper = upper-first o v y ∙ hu in
    let a : get_or y 1 0 ≡ get_or (lower_cells o z) 0 0 = read_lower o y ∙ ap (λ (c : List ℕ). get_or c 0 0) (sym (lower-first o v y)) in
    let b : get_or y u 0 ≡ get_or (upper_cells o z) 0 0 = read_upper o u y (upper_at d u some e) (omega arith) ∙ ap (λ (c : List ℕ). get_or c 0 0) (sym (upper-first o v y)) in (
      index-join d z some (first-first v y (omega arith) ∙ ap (λ (n : ℕ). bit_or n (get_or y u 0)) a ∙ ap (λ (n : ℕ). bit_or (get_or (lower_cells o z) 0 0) n) b)
          (subst (IsIndex o) (sym zl) il) (subst (IsIndex o) (sym zu) iu),
      leaves-split d z some ∙ ap (λ (c : List ℕ). leaves_of o c ++ leaves_of o (upper_cells o z)) zl ∙ ap (λ (c : List ℕ). leaves_of o lower ++ leaves_of o c) zu,
    )

pub noted_here : (cell at : ℕ) (cells : List ℕ) → 0 < length cells → at < 2 ^ 0 → leaves_of zero (set cells 0 cell) ≡ set (leaves_of zero cells) at cell
noted_here cell at cells some within =
    let z : at ≡ 0 = omega arith in
    ap (λ (n : ℕ). n ∷ []) (first-first cell cells some) ∙ ap (λ (n : ℕ). set (leaves_of zero cells) n cell) (sym z)

pub noted_lower : (d u at cell : ℕ) (cells part : List ℕ) → 0 < d → u ≡ 2 ^ d → 2 ^ (d + 1) ≤ length cells + 1 → length part ≡ length (take (u - 1) (drop 1 cells)) → at < 2 ^ (d - 1) →
    IsIndex d cells → IsIndex (d - 1) part → leaves_of (d - 1) part ≡ set (leaves_of (d - 1) (take (u - 1) (drop 1 cells))) at cell →
    let y : List ℕ = put_mid 1 (u - 1) cells part in
    let z : List ℕ = set y 0 (bit_or (get_or y 1 0) (get_or y u 0)) in
    IsIndex d z × (leaves_of d z ≡ set (leaves_of d cells) at cell)
noted_lower d u at cell cells part some e long count below index ipart leaves =
    let o : ℕ = d - 1 in
    let up = upper_at d u some e in
    let has = room d u cells some e long in
    let fits : length part ≡ u - 1 = (let a = length-take (u - 1) (drop 1 cells) in let b = length-drop 1 cells in omega (arith, a, b, count, has.1)) in
    let within : u ≤ length cells = omega (arith, has.1) in
    let y : List ℕ = put_mid 1 (u - 1) cells part in
    let after = room_lower d u cells part some e long count in
    let g = gathered d u y part (upper_cells o cells) some e after.1 (lower-write_lower o u cells part up within fits) (upper-write_lower o u cells part up within fits) ipart (index-split d cells some index).1.1 in
    let n = length-leaves o (lower_cells o cells) in (
      g.0,
      g.1 ∙ ap (λ (xs : List ℕ). xs ++ leaves_of o (upper_cells o cells)) (leaves ∙ ap (λ (c : List ℕ). set (leaves_of o c) at cell) (lower_slice o u cells up))
          ∙ sym (set-append_left (leaves_of o (lower_cells o cells)) (leaves_of o (upper_cells o cells)) at cell (omega (arith, n)))
          ∙ ap (λ (xs : List ℕ). set xs at cell) (sym (leaves-split d cells some)),
    )

pub noted_upper : (d u half at cell : ℕ) (cells part : List ℕ) → 0 < d → u ≡ 2 ^ d → half ≡ 2 ^ (d - 1) → 2 ^ (d + 1) ≤ length cells + 1 → length part ≡ length (take (length cells - u) (drop u cells)) → half ≤ at →
    IsIndex d cells → IsIndex (d - 1) part → leaves_of (d - 1) part ≡ set (leaves_of (d - 1) (take (length cells - u) (drop u cells))) (at - half) cell →
    let y : List ℕ = put_mid u (length cells - u) cells part in
    let z : List ℕ = set y 0 (bit_or (get_or y 1 0) (get_or y u 0)) in
    IsIndex d z × (leaves_of d z ≡ set (leaves_of d cells) at cell)
noted_upper d u half at cell cells part some e h long count above index ipart leaves =
    let o : ℕ = d - 1 in
    let up = upper_at d u some e in
    let has = room d u cells some e long in
    let within : u ≤ length cells = omega (arith, has.1) in
    let y : List ℕ = put_mid u (length cells - u) cells part in
    let after = room_upper d u cells part some e long count in
    let g = gathered d u y (lower_cells o cells) part some e after.1 (lower-write_upper o u cells part up within) (upper-write_upper o u cells part up within) (index-split d cells some index).1.0 ipart in
    let n = length-leaves o (lower_cells o cells) in (
      g.0,
      g.1 ∙ ap (λ (xs : List ℕ). leaves_of o (lower_cells o cells) ++ xs) (leaves ∙ ap (λ (c : List ℕ). set (leaves_of o c) (at - half) cell) (upper_slice o u cells up))
          ∙ sym (set-append_right (leaves_of o (lower_cells o cells)) (leaves_of o (upper_cells o cells)) half at cell (n ∙ sym h) above)
          ∙ ap (λ (xs : List ℕ). set xs at cell) (sym (leaves-split d cells some)),
    )

-- where the bit is
pub bit_lower : (d order : ℕ) (cells : List ℕ) → has_bit (get_or cells 1 0) order ≡ true → has_bit (get_or (lower_cells (d - 1) cells) 0 0) order ≡ true
bit_lower d order cells h = ap (λ (n : ℕ). has_bit n order) (sym (read_lower (d - 1) cells)) ∙ h

pub bit_upper : (d order : ℕ) (cells : List ℕ) → 0 < d → IsIndex d cells → has_bit (get_or cells 0 0) order ≡ true → has_bit (get_or cells 1 0) order ≡ false → has_bit (get_or (upper_cells (d - 1) cells) 0 0) order ≡ true
bit_upper d order cells some index has none =
    let o : ℕ = d - 1 in
    let both = has_bit-or (get_or (lower_cells o cells) 0 0) (get_or (upper_cells o cells) 0 0) order in
    let no_lower : has_bit (get_or (lower_cells o cells) 0 0) order ≡ false = ap (λ (n : ℕ). has_bit n order) (sym (read_lower o cells)) ∙ none in
    sym (ap (λ (t : Bool). t || has_bit (get_or (upper_cells o cells) 0 0) order) no_lower) ∙ sym both
    ∙ sym (ap (λ (n : ℕ). has_bit n order) (index-split d cells some index).0) ∙ has

-- a cell without a bit has no leaf with it
pub none_below : (d order k : ℕ) (cells : List ℕ) → IsIndex d cells → has_bit (get_or cells 0 0) order ≡ false → k < 2 ^ d → has_bit (get_or (leaves_of d cells) k 0) order ≡ false
none_below zero order zero cells index no_bit within = no_bit
none_below zero order (suc k) cells index no_bit within = absurd (omega arith)
none_below (suc d) order k cells index no_bit within =
    let l : List ℕ = lower_cells d cells in
    let u : List ℕ = upper_cells d cells in
    let both : (has_bit (get_or l 0 0) order || has_bit (get_or u 0 0) order) ≡ false = sym (has_bit-or (get_or l 0 0) (get_or u 0 0) order) ∙ sym (ap (λ (n : ℕ). has_bit n order) index.0) ∙ no_bit in
    let n = length-leaves d l in
    let p = pow-suc2 d in
    elim (cases_lt k (2 ^ d)) [
      | inl below ↦
          ap (λ (c : ℕ). has_bit c order) (get_or_append_left (leaves_of d l) (leaves_of d u) 0 k (omega (arith, n)))
          ∙ none_below d order k l index.1.0 (or_first (has_bit (get_or l 0 0) order) (has_bit (get_or u 0 0) order) both) below
      | inr above ↦
          ap (λ (c : ℕ). has_bit c order) (get_or-append_right (leaves_of d l) (leaves_of d u) (2 ^ d) k 0 n above)
          ∙ none_below d order (k - 2 ^ d) u index.1.1 (or_second (has_bit (get_or l 0 0) order) (has_bit (get_or u 0 0) order) both) (omega (arith, p))
    ]
  where
    or_first : (a b : Bool) → (a || b) ≡ false → a ≡ false
    or_first true b h = h
    or_first false b h = refl

    or_second : (a b : Bool) → (a || b) ≡ false → b ≡ false
    or_second true b h = absurd (let e : ⊥ = (cc) in e)
    or_second false b h = h

twice : (d : ℕ) → 0 < d → 2 ^ d ≡ 2 ^ (d - 1) + 2 ^ (d - 1)
twice d some = let s : d ≡ suc (d - 1) = omega arith in ap (λ (n : ℕ). 2 ^ n) s ∙ pow-suc2 (d - 1)

-- a place in the upper half is within the half
pub place_upper : (d half at : ℕ) → 0 < d → half ≡ 2 ^ (d - 1) → at < 2 ^ d → half ≤ at → at - half < 2 ^ (d - 1)
place_upper d half at some h within above = let t = twice d some in omega (arith, t)

pub place_whole : (d at : ℕ) → 0 < d → at < 2 ^ (d - 1) → at < 2 ^ d
place_whole d at some below = let t = twice d some in omega (arith, t)

pub place_sum : (d half at : ℕ) → 0 < d → half ≡ 2 ^ (d - 1) → at < 2 ^ (d - 1) → half + at < 2 ^ d
place_sum d half at some h below = let t = twice d some in omega (arith, t)

pub index_lower : (d u : ℕ) (cells : List ℕ) → 0 < d → u ≡ 2 ^ d → IsIndex d cells → IsIndex (d - 1) (take (u - 1) (drop 1 cells))
index_lower d u cells some e index = subst (IsIndex (d - 1)) (sym (lower_slice (d - 1) u cells (upper_at d u some e))) (index-split d cells some index).1.0

pub index_upper : (d u : ℕ) (cells : List ℕ) → 0 < d → u ≡ 2 ^ d → IsIndex d cells → IsIndex (d - 1) (take (length cells - u) (drop u cells))
index_upper d u cells some e index = subst (IsIndex (d - 1)) (sym (upper_slice (d - 1) u cells (upper_at d u some e))) (index-split d cells some index).1.1

pub ask_bit_lower : (d u order : ℕ) (cells : List ℕ) → 0 < d → u ≡ 2 ^ d → has_bit (get_or cells 1 0) order ≡ true → has_bit (get_or (take (u - 1) (drop 1 cells)) 0 0) order ≡ true
ask_bit_lower d u order cells some e h =
    ap (λ (c : List ℕ). has_bit (get_or c 0 0) order) (lower_slice (d - 1) u cells (upper_at d u some e)) ∙ bit_lower d order cells h

pub ask_bit_upper : (d u order : ℕ) (cells : List ℕ) → 0 < d → u ≡ 2 ^ d → IsIndex d cells → has_bit (get_or cells 0 0) order ≡ true → has_bit (get_or cells 1 0) order ≡ false →
    has_bit (get_or (take (length cells - u) (drop u cells)) 0 0) order ≡ true
ask_bit_upper d u order cells some e index has none =
    ap (λ (c : List ℕ). has_bit (get_or c 0 0) order) (upper_slice (d - 1) u cells (upper_at d u some e)) ∙ bit_upper d order cells some index has none

-- a leaf of the lower half, and of the upper half, among all
pub leaf_lower : (d u k : ℕ) (cells : List ℕ) → 0 < d → u ≡ 2 ^ d → k < 2 ^ (d - 1) → get_or (leaves_of d cells) k 0 ≡ get_or (leaves_of (d - 1) (take (u - 1) (drop 1 cells))) k 0
leaf_lower d u k cells some e below =
    let n = length-leaves (d - 1) (lower_cells (d - 1) cells) in
    ap (λ (xs : List ℕ). get_or xs k 0) (leaves-split d cells some)
    ∙ get_or_append_left (leaves_of (d - 1) (lower_cells (d - 1) cells)) (leaves_of (d - 1) (upper_cells (d - 1) cells)) 0 k (omega (arith, n))
    ∙ ap (λ (c : List ℕ). get_or (leaves_of (d - 1) c) k 0) (sym (lower_slice (d - 1) u cells (upper_at d u some e)))

pub leaf_upper : (d u half k : ℕ) (cells : List ℕ) → 0 < d → u ≡ 2 ^ d → half ≡ 2 ^ (d - 1) → half ≤ k → get_or (leaves_of d cells) k 0 ≡ get_or (leaves_of (d - 1) (take (length cells - u) (drop u cells))) (k - half) 0
leaf_upper d u half k cells some e h above =
    let n = length-leaves (d - 1) (lower_cells (d - 1) cells) in
    ap (λ (xs : List ℕ). get_or xs k 0) (leaves-split d cells some)
    ∙ get_or-append_right (leaves_of (d - 1) (lower_cells (d - 1) cells)) (leaves_of (d - 1) (upper_cells (d - 1) cells)) half k 0 (n ∙ sym h) above
    ∙ ap (λ (c : List ℕ). get_or (leaves_of (d - 1) c) (k - half) 0) (sym (upper_slice (d - 1) u cells (upper_at d u some e)))

-- before the leaf that was found in the upper half there is none
pub first_upper : (d u half order at : ℕ) (cells : List ℕ) → 0 < d → u ≡ 2 ^ d → half ≡ 2 ^ (d - 1) → IsIndex d cells → has_bit (get_or cells 1 0) order ≡ false →
    ((k : ℕ) → k < at → has_bit (get_or (leaves_of (d - 1) (take (length cells - u) (drop u cells))) k 0) order ≡ false) →
    (k : ℕ) → k < half + at → has_bit (get_or (leaves_of d cells) k 0) order ≡ false
first_upper d u half order at cells some e h index none before k within = elim (cases_lt k half) [
  | inl below ↦
      ap (λ (n : ℕ). has_bit n order) (leaf_lower d u k cells some e (omega arith))
      ∙ none_below (d - 1) order k (take (u - 1) (drop 1 cells)) (index_lower d u cells some e index)
      (ap (λ (c : List ℕ). has_bit (get_or c 0 0) order) (lower_slice (d - 1) u cells (upper_at d u some e)) ∙ ap (λ (n : ℕ). has_bit n order) (sym (read_lower (d - 1) cells)) ∙ none)
      (omega arith)
  | inr above ↦ ap (λ (n : ℕ). has_bit n order) (leaf_upper d u half k cells some e h above) ∙ before (k - half) (omega arith)
]
