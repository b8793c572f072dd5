-- The steps of the calls on cells.
use Rattle.std.proofs.Common.{ℕ, zero, suc, ◌≡◌, ◌+◌, ◌-◌, ◌^◌, ◌<◌, ◌≤◌, List, length, take, drop, get_or, sym, ap, subst, ◌∙◌, arith, length-drop}
use Rattle.std.proofs.Math.ListN.{set}
use Rattle.std.proofs.lemmas.List.{length-take, length-set}
use Rattle.std.proofs.lemmas.Nat.{pow-add, pow_pos}
use borrow.Rule.Slice.PartMut.{put_mid}
use Rattle.block_pool.specs.Trees.{Tree, Free, Split}
use Rattle.block_pool.specs.Cells.{cells_len, lower_cells, upper_cells, both_cells, Holds, carved}
use Rattle.block_pool.proofs.Halves.{pow-suc2, cells_len-suc, lower-write_lower, upper-write_lower, length-write_lower, lower-write_upper, upper-write_upper, length-write_upper, lower-set_upper, upper-set_upper, mended}

pub pow-more : (n : ℕ) → 2 ^ (n + 1) ≡ 2 ^ n + 2 ^ n
pow-more n = grind (arith, pow-add)

-- the upper half of a part begins behind the cells of the lower one
pub upper_at : (own u : ℕ) → 0 < own → u ≡ 2 ^ own → u ≡ suc (cells_len (own - 1))
upper_at own u some e =
    let s : own ≡ suc (own - 1) = omega arith in
    e ∙ ap (λ (n : ℕ). 2 ^ n) s ∙ sym (cells_len-suc (own - 1))

-- both halves have cells
pub room : (own u : ℕ) (cells : List ℕ) → 0 < own → u ≡ 2 ^ own → 2 ^ (own + 1) ≤ length cells + 1 → (1 < u) × (u < length cells)
room own u cells some e long =
    let a = pow-more own in
    let s : own ≡ suc (own - 1) = omega arith in
    let b : 2 ^ own ≡ 2 ^ (own - 1) + 2 ^ (own - 1) = ap (λ (n : ℕ). 2 ^ n) s ∙ pow-suc2 (own - 1) in
    let p = pow_pos (own - 1) in
    (omega (arith, b, p), omega (arith, a, b, p))

-- a half has room for its cells
pub half_long : (own u : ℕ) (part : List ℕ) → 0 < own → u ≡ 2 ^ own → u ≤ length part + 1 → 2 ^ (own - 1 + 1) ≤ length part + 1
half_long own u part some e long = let s : own - 1 + 1 ≡ own = omega arith in let t = ap (λ (n : ℕ). 2 ^ n) s in omega (arith, t)

pub carve_step : (own order u v : ℕ) (cells part : List ℕ) → (own ≡ order → ⊥) → order ≤ own → u ≡ 2 ^ own → 2 ^ (own + 1) ≤ length cells + 1 →
    length part ≡ length (take (u - 1) (drop 1 cells)) → Holds (own - 1) part (carved (own - 1 - order)) → v ≡ 2 ^ (own - 1) →
    let x : List ℕ = set (put_mid 1 (u - 1) cells part) u v in
    Holds own (set x 0 (both_cells (get_or x 1 0) (get_or x u 0))) (carved (own - order))
carve_step own order u v cells part other below e long count held ve =
    let some : 0 < own = omega arith in
    let o : ℕ = own - 1 in
    let s : own ≡ suc o = omega arith in
    let at = upper_at own u some e in
    let has = room own u cells some e long in
    let fits : length part ≡ u - 1 = (let a = length-take (u - 1) (drop 1 cells) in let b = length-drop 1 cells in omega (arith, a, b, count, has.1)) in
    let within : u ≤ length cells = omega (arith, has.1) in
    let y : List ℕ = put_mid 1 (u - 1) cells part in
    let ylen : length y ≡ length cells = length-write_lower u cells part (omega (arith, has.0)) within fits in
    let x : List ℕ = set y u v in
    let xlen : length x ≡ length y = length-set y u v in
    let lower : lower_cells o x ≡ part = lower-set_upper o u v y at (omega (arith, has.1, ylen)) ∙ lower-write_lower o u cells part at within fits in
    let upper : get_or (upper_cells o x) 0 0 ≡ 2 ^ o = upper-set_upper o u v y at (omega (arith, has.1, ylen)) ∙ ve in
    let hl : Holds o (lower_cells o x) (carved (o - order)) = subst (λ (c : List ℕ). Holds o c (carved (o - order))) (sym lower) held in
    let whole = mended o u x (carved (o - order)) Free at (omega (arith, xlen, ylen, within)) hl upper in
    let n : own - order ≡ suc (o - order) = omega arith in
    let z : List ℕ = set x 0 (both_cells (get_or x 1 0) (get_or x u 0)) in
    subst (λ (k : ℕ). Holds own z (carved k)) (sym n) (subst (λ (k : ℕ). Holds k z (Split (carved (o - order)) Free)) (sym s) whole)

-- after a write to the cells of a half both still have cells
pub room_lower : (own u : ℕ) (cells part : List ℕ) → 0 < own → u ≡ 2 ^ own → 2 ^ (own + 1) ≤ length cells + 1 →
    length part ≡ length (take (u - 1) (drop 1 cells)) → (1 < length (put_mid 1 (u - 1) cells part)) × (u < length (put_mid 1 (u - 1) cells part))
room_lower own u cells part some e long count =
    let has = room own u cells some e long in
    let a = length-take (u - 1) (drop 1 cells) in
    let b = length-drop 1 cells in
    let n = length-write_lower u cells part (omega (arith, has.0)) (omega (arith, has.1)) (omega (arith, has.1, a, b, count)) in
    (omega (arith, has.0, has.1, n), omega (arith, has.1, n))

pub room_upper : (own u : ℕ) (cells part : List ℕ) → 0 < own → u ≡ 2 ^ own → 2 ^ (own + 1) ≤ length cells + 1 →
    length part ≡ length (take (length cells - u) (drop u cells)) → (1 < length (put_mid u (length cells - u) cells part)) × (u < length (put_mid u (length cells - u) cells part))
room_upper own u cells part some e long count =
    let has = room own u cells some e long in
    let a = length-take (length cells - u) (drop u cells) in
    let b = length-drop u cells in
    let n = length-write_upper u cells part (omega (arith, has.1)) (omega (arith, has.1, a, b, count)) in
    (omega (arith, has.0, has.1, n), omega (arith, has.1, n))

-- the halves of a part that is cut
pub parts_of : (own : ℕ) (cells : List ℕ) (l r : Tree) → Holds own cells (Split l r) →
    Holds (own - 1) (lower_cells (own - 1) cells) l × Holds (own - 1) (upper_cells (own - 1) cells) r
parts_of zero cells l r held = absurd held
parts_of (suc o) cells l r held =
    let e : o ≡ suc o - 1 = omega arith in
    subst (λ (n : ℕ). Holds n (lower_cells n cells) l × Holds n (upper_cells n cells) r) e held.1

-- the lower half was changed, and the part's cell mended
pub lower_step : (own u : ℕ) (cells part : List ℕ) (l r : Tree) → 0 < own → u ≡ 2 ^ own → 2 ^ (own + 1) ≤ length cells + 1 →
    length part ≡ length (take (u - 1) (drop 1 cells)) → Holds (own - 1) part l → Holds (own - 1) (upper_cells (own - 1) cells) r →
    let y : List ℕ = put_mid 1 (u - 1) cells part in
    Holds own (set y 0 (both_cells (get_or y 1 0) (get_or y u 0))) (Split l r)
lower_step own u cells part l r some e long count hl hr =
    let o : ℕ = own - 1 in
    let s : own ≡ suc o = omega arith in
    let at = upper_at own u some e in
    let has = room own u cells some e long in
    let fits : length part ≡ u - 1 = (let a = length-take (u - 1) (drop 1 cells) in let b = length-drop 1 cells in omega (arith, a, b, count, has.1)) in
    let within : u ≤ length cells = omega (arith, has.1) in
    let y : List ℕ = put_mid 1 (u - 1) cells part in
    let after = room_lower own u cells part some e long count in
    let hl' : Holds o (lower_cells o y) l = subst (λ (c : List ℕ). Holds o c l) (sym (lower-write_lower o u cells part at within fits)) hl in
    let hr' : Holds o (upper_cells o y) r = subst (λ (c : List ℕ). Holds o c r) (sym (upper-write_lower o u cells part at within fits)) hr in
    subst (λ (k : ℕ). Holds k (set y 0 (both_cells (get_or y 1 0) (get_or y u 0))) (Split l r)) (sym s) (mended o u y l r at (omega (arith, after.1)) hl' hr')

-- the upper half was changed, and the part's cell mended
pub upper_step : (own u : ℕ) (cells part : List ℕ) (l r : Tree) → 0 < own → u ≡ 2 ^ own → 2 ^ (own + 1) ≤ length cells + 1 →
    length part ≡ length (take (length cells - u) (drop u cells)) → Holds (own - 1) (lower_cells (own - 1) cells) l → Holds (own - 1) part r →
    let y : List ℕ = put_mid u (length cells - u) cells part in
    Holds own (set y 0 (both_cells (get_or y 1 0) (get_or y u 0))) (Split l r)
upper_step own u cells part l r some e long count hl hr =
    let o : ℕ = own - 1 in
    let s : own ≡ suc o = omega arith in
    let at = upper_at own u some e in
    let has = room own u cells some e long in
    let within : u ≤ length cells = omega (arith, has.1) in
    let y : List ℕ = put_mid u (length cells - u) cells part in
    let after = room_upper own u cells part some e long count in
    let hl' : Holds o (lower_cells o y) l = subst (λ (c : List ℕ). Holds o c l) (sym (lower-write_upper o u cells part at within)) hl in
    let hr' : Holds o (upper_cells o y) r = subst (λ (c : List ℕ). Holds o c r) (sym (upper-write_upper o u cells part at within)) hr in
    subst (λ (k : ℕ). Holds k (set y 0 (both_cells (get_or y 1 0) (get_or y u 0))) (Split l r)) (sym s) (mended o u y l r at (omega (arith, after.1)) hl' hr')
