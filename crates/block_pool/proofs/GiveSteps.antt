-- The steps of giving a block back: at the block, in the lower half, and in the upper half.
use Rattle.std.proofs.Common.{ℕ, zero, suc, ◌≡◌, ◌+◌, ◌-◌, ◌^◌, ◌<◌, ◌≤◌, Bool, true, false, ◌&&◌, ◌==◌, if◌then◌else◌, bit_or, List, [], ◌∷◌, length, take, drop, get_or, IsTrue, refl, sym, ap, subst, ◌∙◌, arith, length-drop}
use Rattle.std.specs.Prelude.{nat_lt}
use Rattle.std.proofs.Math.ListN.{set}
use Rattle.std.proofs.Math.Pow.{pow_mono}
use Rattle.std.proofs.lemmas.Bool.{eqb-true, ne_eqb, and_parts, lt-ltb, le-ltb}
use Rattle.std.proofs.lemmas.List.{length-take}
use Rattle.std.proofs.lemmas.Nat.{pow_pos, le_or_l}
use borrow.Rule.Slice.PartMut.{put_mid}
use Rattle.block_pool.specs.Trees.{Tree, Free, Out, Split}
use Rattle.block_pool.specs.Cells.{lower_cells, upper_cells, both_cells, cell_of, Holds, is_out_at, given, joined}
use Rattle.block_pool.proofs.Halves.{read_lower, read_upper, cell-Holds, lower_slice, upper_slice, lower-write_lower, upper-write_lower, lower-write_upper, upper-write_upper, mended}
use Rattle.block_pool.proofs.CellSteps.{upper_at, room, room_lower, room_upper, parts_of}
use Rattle.block_pool.proofs.TreeSteps.{is_out_at-split, given-split}

-- no block of a greater order is out of a part
pub is_out-above : (o order at : ℕ) (tree : Tree) → o < order → is_out_at o order at tree ≡ false
is_out-above o order at Free above = refl
is_out-above o order at Out above = ap (λ (t : Bool). t && at == 0) (ne_eqb o order (λ (e : o ≡ order). absurd (omega arith)))
is_out-above zero order at (Split l u) above = refl
is_out-above (suc o) order at (Split l u) above =
    elim (nat_lt at (2 ^ o)) as (λ t. (if t then is_out_at o order at l else is_out_at o order (at - 2 ^ o) u) ≡ false) [
      | true ↦ is_out-above o order at l (omega arith)
      | false ↦ is_out-above o order (at - 2 ^ o) u (omega arith)
    ]

-- a block of the part's own order is out where the part is out as a whole
is_out-own : (o at : ℕ) (tree : Tree) → is_out_at o o at tree ≡ true → tree ≡ Out
is_out-own o at Free h = cc
is_out-own o at Out h = refl
is_out-own zero at (Split l u) h = cc
is_out-own (suc o) at (Split l u) h =
    let none : is_out_at (suc o) (suc o) at (Split l u) ≡ false =
    elim (nat_lt at (2 ^ o)) as (λ t. (if t then is_out_at o (suc o) at l else is_out_at o (suc o) (at - 2 ^ o) u) ≡ false) [
      | true ↦ is_out-above o (suc o) at l (omega arith)
      | false ↦ is_out-above o (suc o) (at - 2 ^ o) u (omega arith)
    ] in
    cc

first-set : (v : ℕ) (cells : List ℕ) → 0 < length cells → get_or (set cells 0 v) 0 0 ≡ v
first-set v [] some = absurd (omega arith)
first-set v (x ∷ xs) some = refl

-- the block itself
pub given_here : (own order unit v : ℕ) (cells : List ℕ) (tree : Tree) → own ≡ order → 0 < length cells → v ≡ 2 ^ own → is_out_at own order unit tree ≡ true →
    Holds own (set cells 0 v) (given own order unit tree)
given_here own order unit v cells tree e some is out =
    let whole : tree ≡ Out = is_out-own own unit tree (ap (λ (n : ℕ). is_out_at own n unit tree) e ∙ out) in
    subst (λ (t : Tree). Holds own (set cells 0 v) (given own order unit t)) (sym whole) (first-set v cells some ∙ is)

-- a cell of a part that is not free as a whole is not that of its order
pub cell-Out : (o : ℕ) → cell_of o Out ≡ 2 ^ o → ⊥
cell-Out o e = let p = pow_pos o in absurd (omega (arith, p, e))

pub cell-Split : (o : ℕ) (l u : Tree) → o < 31 → cell_of o (Split l u) ≡ 2 ^ o → ⊥
cell-Split zero l u small e = absurd (omega (arith, e))
cell-Split (suc o) l u small e =
    let below : 2 ^ suc o ≤ 2 ^ 30 = pow_mono (let h : suc o ≤ 30 = omega arith in h) in
    let above : 2 ^ 31 ≤ both_cells (cell_of o l) (cell_of o u) = le_or_l (2 ^ 31) (bit_or (cell_of o l) (cell_of o u)) in
    absurd (omega (arith, below, above, e))

-- what joining makes of the cells of a part
pub record Joins (own u : ℕ) (y now : List ℕ) : Type 0 where
  pub both : (get_or y 1 0 ≡ 2 ^ (own - 1)) × (get_or y u 0 ≡ 2 ^ (own - 1)) → now ≡ set y 0 (2 ^ own)
  pub lower : (get_or y 1 0 ≡ 2 ^ (own - 1) → ⊥) → now ≡ set y 0 (both_cells (get_or y 1 0) (get_or y u 0))
  pub upper : (get_or y u 0 ≡ 2 ^ (own - 1) → ⊥) → now ≡ set y 0 (both_cells (get_or y 1 0) (get_or y u 0))

join_split : (own u : ℕ) (y now : List ℕ) (l r : Tree) → 0 < own → u ≡ 2 ^ own → u < length y → Holds (own - 1) (lower_cells (own - 1) y) l → Holds (own - 1) (upper_cells (own - 1) y) r →
    now ≡ set y 0 (both_cells (get_or y 1 0) (get_or y u 0)) → Holds own now (Split l r)
join_split own u y now l r some e within hl hr is =
    let s : own ≡ suc (own - 1) = omega arith in
    subst (λ (c : List ℕ). Holds own c (Split l r)) (sym is)
    (subst (λ (k : ℕ). Holds k (set y 0 (both_cells (get_or y 1 0) (get_or y u 0))) (Split l r)) (sym s) (mended (own - 1) u y l r (upper_at own u some e) (omega arith) hl hr))

joined_cells : (own u : ℕ) (y now : List ℕ) (l r : Tree) → 0 < own → own ≤ 25 → u ≡ 2 ^ own → u < length y → Joins own u y now →
    Holds (own - 1) (lower_cells (own - 1) y) l → Holds (own - 1) (upper_cells (own - 1) y) r → Holds own now (joined l r)
joined_cells own u y now Free Free some small e within joins hl hr =
    let a = read_lower (own - 1) y ∙ hl in
    let b = read_upper (own - 1) u y (upper_at own u some e) (omega arith) ∙ hr in
    subst (λ (c : List ℕ). get_or c 0 0 ≡ 2 ^ own) (sym (joins.both (a, b))) (first-set (2 ^ own) y (omega arith))
joined_cells own u y now Free Out some small e within joins hl hr =
    let b = read_upper (own - 1) u y (upper_at own u some e) (omega arith) ∙ cell-Holds (own - 1) (upper_cells (own - 1) y) Out hr in
    join_split own u y now Free Out some e within hl hr (joins.upper (λ h. cell-Out (own - 1) (sym b ∙ h)))
joined_cells own u y now Free (Split a c) some small e within joins hl hr =
    let b = read_upper (own - 1) u y (upper_at own u some e) (omega arith) ∙ cell-Holds (own - 1) (upper_cells (own - 1) y) (Split a c) hr in
    join_split own u y now Free (Split a c) some e within hl hr (joins.upper (λ h. cell-Split (own - 1) a c (omega arith) (sym b ∙ h)))
joined_cells own u y now Out r some small e within joins hl hr =
    let a = read_lower (own - 1) y ∙ cell-Holds (own - 1) (lower_cells (own - 1) y) Out hl in
    join_split own u y now Out r some e within hl hr (joins.lower (λ h. cell-Out (own - 1) (sym a ∙ h)))
joined_cells own u y now (Split b c) r some small e within joins hl hr =
    let a = read_lower (own - 1) y ∙ cell-Holds (own - 1) (lower_cells (own - 1) y) (Split b c) hl in
    join_split own u y now (Split b c) r some e within hl hr (joins.lower (λ h. cell-Split (own - 1) b c (omega arith) (sym a ∙ h)))

-- what the call on the lower half asks
pub ask_out_lower : (own order unit u half : ℕ) (cells : List ℕ) (tree : Tree) → (own ≡ order → ⊥) → 0 < own → u ≡ 2 ^ own → half ≡ 2 ^ (own - 1) → unit < half →
    Holds own cells tree → is_out_at own order unit tree ≡ true → (l : Tree) × (Holds (own - 1) (take (u - 1) (drop 1 cells)) l × IsTrue (is_out_at (own - 1) order unit l))
ask_out_lower own order unit u half cells Free other some e h below held out = cc
ask_out_lower own order unit u half cells Out other some e h below held out = absurd (other (eqb-true own order (and_parts (own == order) (unit == 0) out).0))
ask_out_lower own order unit u half cells (Split l r) other some e h below held out =
    let test : nat_lt unit (2 ^ (own - 1)) ≡ true = lt-ltb unit (2 ^ (own - 1)) (omega arith) in (
      l,
      (
        subst (λ (c : List ℕ). Holds (own - 1) c l) (sym (lower_slice (own - 1) u cells (upper_at own u some e))) (parts_of own cells l r held).0,
        sym (is_out_at-split own order unit l r some ∙ ap (λ (t : Bool). if t then is_out_at (own - 1) order unit l else is_out_at (own - 1) order (unit - 2 ^ (own - 1)) r) test) ∙ out,
      ),
    )

pub ask_out_upper : (own order unit u half : ℕ) (cells : List ℕ) (tree : Tree) → (own ≡ order → ⊥) → 0 < own → u ≡ 2 ^ own → half ≡ 2 ^ (own - 1) → half ≤ unit →
    Holds own cells tree → is_out_at own order unit tree ≡ true → (r : Tree) × (Holds (own - 1) (take (length cells - u) (drop u cells)) r × IsTrue (is_out_at (own - 1) order (unit - half) r))
ask_out_upper own order unit u half cells Free other some e h above held out = cc
ask_out_upper own order unit u half cells Out other some e h above held out = absurd (other (eqb-true own order (and_parts (own == order) (unit == 0) out).0))
ask_out_upper own order unit u half cells (Split l r) other some e h above held out =
    let test : nat_lt unit (2 ^ (own - 1)) ≡ false = le-ltb unit (2 ^ (own - 1)) (omega arith) in
    let is = sym (is_out_at-split own order unit l r some ∙ ap (λ (t : Bool). if t then is_out_at (own - 1) order unit l else is_out_at (own - 1) order (unit - 2 ^ (own - 1)) r) test) ∙ out in (
      r,
      (
        subst (λ (c : List ℕ). Holds (own - 1) c r) (sym (upper_slice (own - 1) u cells (upper_at own u some e))) (parts_of own cells l r held).1,
        ap (λ (n : ℕ). is_out_at (own - 1) order (unit - n) r) h ∙ is,
      ),
    )

-- it was given back in the lower half
pub given_lower : (own order unit u half : ℕ) (cells part now : List ℕ) (tree : Tree) → (own ≡ order → ⊥) → 0 < own → own ≤ 25 → u ≡ 2 ^ own → half ≡ 2 ^ (own - 1) → unit < half → 2 ^ (own + 1) ≤ length cells + 1 →
    length part ≡ length (take (u - 1) (drop 1 cells)) → Holds own cells tree → is_out_at own order unit tree ≡ true →
    ((l : Tree) → Holds (own - 1) (take (u - 1) (drop 1 cells)) l → IsTrue (is_out_at (own - 1) order unit l) → Holds (own - 1) part (given (own - 1) order unit l)) →
    Joins own u (put_mid 1 (u - 1) cells part) now → Holds own now (given own order unit tree)
given_lower own order unit u half cells part now Free other some small e h below long count held out step joins = cc
given_lower own order unit u half cells part now Out other some small e h below long count held out step joins = absurd (other (eqb-true own order (and_parts (own == order) (unit == 0) out).0))
given_lower own order unit u half cells part now (Split l r) other some small e h below long count held out step joins =
    let at = upper_at own u some e in
    let has = room own u cells some e long in
    let after = room_lower own u cells part some e long count in
    let fits : length part ≡ u - 1 = (let a = length-take (u - 1) (drop 1 cells) in let b = length-drop 1 cells in omega (arith, a, b, count, has.1)) in
    let within : u ≤ length cells = omega (arith, has.1) in
    let test : nat_lt unit (2 ^ (own - 1)) ≡ true = lt-ltb unit (2 ^ (own - 1)) (omega arith) in
    let parts = parts_of own cells l r held in
    let here = sym (is_out_at-split own order unit l r some ∙ ap (λ (t : Bool). if t then is_out_at (own - 1) order unit l else is_out_at (own - 1) order (unit - 2 ^ (own - 1)) r) test) ∙ out in
    let l' : Tree = given (own - 1) order unit l in
    let hl : Holds (own - 1) part l' = step l (subst (λ (c : List ℕ). Holds (own - 1) c l) (sym (lower_slice (own - 1) u cells at)) parts.0) here in
    let is : given own order unit (Split l r) ≡ joined l' r =
    given-split own order unit l r some ∙ ap (λ (t : Bool). if t then joined l' r else joined l (given (own - 1) order (unit - 2 ^ (own - 1)) r)) test in
    subst (λ (t : Tree). Holds own now t) (sym is)
    (joined_cells own u (put_mid 1 (u - 1) cells part) now l' r some small e after.1 joins
    (subst (λ (c : List ℕ). Holds (own - 1) c l') (sym (lower-write_lower (own - 1) u cells part at within fits)) hl)
    (subst (λ (c : List ℕ). Holds (own - 1) c r) (sym (upper-write_lower (own - 1) u cells part at within fits)) parts.1))

-- it was given back in the upper half
pub given_upper : (own order unit u half : ℕ) (cells part now : List ℕ) (tree : Tree) → (own ≡ order → ⊥) → 0 < own → own ≤ 25 → u ≡ 2 ^ own → half ≡ 2 ^ (own - 1) → half ≤ unit → 2 ^ (own + 1) ≤ length cells + 1 →
    length part ≡ length (take (length cells - u) (drop u cells)) → Holds own cells tree → is_out_at own order unit tree ≡ true →
    ((r : Tree) → Holds (own - 1) (take (length cells - u) (drop u cells)) r → IsTrue (is_out_at (own - 1) order (unit - half) r) → Holds (own - 1) part (given (own - 1) order (unit - half) r)) →
    Joins own u (put_mid u (length cells - u) cells part) now → Holds own now (given own order unit tree)
given_upper own order unit u half cells part now Free other some small e h above long count held out step joins = cc
given_upper own order unit u half cells part now Out other some small e h above long count held out step joins = absurd (other (eqb-true own order (and_parts (own == order) (unit == 0) out).0))
given_upper own order unit u half cells part now (Split l r) other some small e h above long count held out step joins =
    let at = upper_at own u some e in
    let has = room own u cells some e long in
    let after = room_upper own u cells part some e long count in
    let within : u ≤ length cells = omega (arith, has.1) in
    let test : nat_lt unit (2 ^ (own - 1)) ≡ false = le-ltb unit (2 ^ (own - 1)) (omega arith) in
    let parts = parts_of own cells l r held in
    let here = ap (λ (n : ℕ). is_out_at (own - 1) order (unit - n) r) h
    ∙ sym (is_out_at-split own order unit l r some ∙ ap (λ (t : Bool). if t then is_out_at (own - 1) order unit l else is_out_at (own - 1) order (unit - 2 ^ (own - 1)) r) test) ∙ out in
    let r' : Tree = given (own - 1) order (unit - half) r in
    let hr : Holds (own - 1) part r' = step r (subst (λ (c : List ℕ). Holds (own - 1) c r) (sym (upper_slice (own - 1) u cells at)) parts.1) here in
    let is : given own order unit (Split l r) ≡ joined l r' =
    given-split own order unit l r some ∙ ap (λ (t : Bool). if t then joined (given (own - 1) order unit l) r else joined l (given (own - 1) order (unit - 2 ^ (own - 1)) r)) test
    ∙ ap (λ (n : ℕ). joined l (given (own - 1) order (unit - n) r)) (sym h) in
    subst (λ (t : Tree). Holds own now t) (sym is)
    (joined_cells own u (put_mid u (length cells - u) cells part) now l r' some small e after.1 joins
    (subst (λ (c : List ℕ). Holds (own - 1) c l) (sym (lower-write_upper (own - 1) u cells part at within)) parts.0)
    (subst (λ (c : List ℕ). Holds (own - 1) c r') (sym (upper-write_upper (own - 1) u cells part at within)) hr))
