-- The steps of taking a block: at the free block, in the lower half, and in the upper half.
use Rattle.std.proofs.Common.{ℕ, ◌≡◌, ◌+◌, ◌-◌, ◌^◌, ◌<◌, ◌≤◌, Bool, true, false, ◌||◌, if◌then◌else◌, List, length, take, drop, get_or, IsTrue, refl, sym, ap, subst, ◌∙◌, arith, length-drop}
use Rattle.std.proofs.Math.ListN.{set}
use Rattle.std.proofs.lemmas.Bool.{eqb-true}
use Rattle.std.proofs.lemmas.List.{length-take}
use borrow.Rule.Slice.PartMut.{put_mid}
use Rattle.block_pool.specs.Trees.{Tree, Free, Out, Split}
use Rattle.block_pool.specs.Cells.{lower_cells, both_cells, Holds, has_bit, has_free, first_unit, taken, carved}
use Rattle.block_pool.proofs.Halves.{read_lower, cell-Holds, lower_slice, upper_slice}
use Rattle.block_pool.proofs.CellSteps.{pow-more, upper_at, room, half_long, parts_of, lower_step, upper_step}
use Rattle.block_pool.proofs.Bits.{has_bit-cell}
use Rattle.block_pool.proofs.TreeSteps.{has_free-split, taken-split, first_unit-split, has_free-own}

-- the free block itself
pub taken_here : (own from order : ℕ) (now : List ℕ) (tree : Tree) → own ≡ from → has_free own from tree ≡ true → Holds own now (carved (own - order)) → Holds own now (taken own from order tree)
taken_here own from order now tree e has held =
    let own_free : has_free own own tree ≡ true = ap (λ (n : ℕ). has_free own n tree) e ∙ has in
    subst (λ (t : Tree). Holds own now (taken own from order t)) (sym (has_free-own own tree own_free)) held

pub unit_here : (own from : ℕ) (tree : Tree) → own ≡ from → has_free own from tree ≡ true → 0 ≡ first_unit own from tree
unit_here own from tree e has =
    let own_free : has_free own own tree ≡ true = ap (λ (n : ℕ). has_free own n tree) e ∙ has in
    subst (λ (t : Tree). 0 ≡ first_unit own from t) (sym (has_free-own own tree own_free)) refl

-- the bit of the lower half's cell
bit_lower : (own from : ℕ) (cells : List ℕ) (l r : Tree) → from < 31 → Holds own cells (Split l r) → has_bit (get_or cells 1 0) from ≡ has_free (own - 1) from l
bit_lower own from cells l r small held =
    ap (λ (n : ℕ). has_bit n from) (read_lower (own - 1) cells ∙ cell-Holds (own - 1) (lower_cells (own - 1) cells) l (parts_of own cells l r held).0)
    ∙ has_bit-cell (own - 1) from l small

-- where the lower half has none, the upper half has one
in_upper : (own from : ℕ) (cells : List ℕ) (l r : Tree) → 0 < own → from < 31 → Holds own cells (Split l r) → has_free own from (Split l r) ≡ true →
    has_bit (get_or cells 1 0) from ≡ false → has_free (own - 1) from r ≡ true
in_upper own from cells l r some small held has bit =
    let none : has_free (own - 1) from l ≡ false = sym (bit_lower own from cells l r small held) ∙ bit in
    sym (ap (λ (t : Bool). t || has_free (own - 1) from r) none) ∙ sym (has_free-split own from l r some) ∙ has

-- what the call on the lower half asks
pub ask_lower : (own from u : ℕ) (cells : List ℕ) (tree : Tree) → (own ≡ from → ⊥) → 0 < own → from < 31 → u ≡ 2 ^ own → has_bit (get_or cells 1 0) from ≡ true →
    Holds own cells tree → has_free own from tree ≡ true → (l : Tree) × (Holds (own - 1) (take (u - 1) (drop 1 cells)) l × IsTrue (has_free (own - 1) from l))
ask_lower own from u cells Free other some small e bit held has = absurd (other (eqb-true own from has))
ask_lower own from u cells Out other some small e bit held has = cc
ask_lower own from u cells (Split l r) other some small e bit held has = (
  l,
  (
    subst (λ (c : List ℕ). Holds (own - 1) c l) (sym (lower_slice (own - 1) u cells (upper_at own u some e))) (parts_of own cells l r held).0,
    sym (bit_lower own from cells l r small held) ∙ bit,
  ),
)

pub ask_upper : (own from u : ℕ) (cells : List ℕ) (tree : Tree) → (own ≡ from → ⊥) → 0 < own → from < 31 → u ≡ 2 ^ own → has_bit (get_or cells 1 0) from ≡ false →
    Holds own cells tree → has_free own from tree ≡ true → (r : Tree) × (Holds (own - 1) (take (length cells - u) (drop u cells)) r × IsTrue (has_free (own - 1) from r))
ask_upper own from u cells Free other some small e bit held has = absurd (other (eqb-true own from has))
ask_upper own from u cells Out other some small e bit held has = cc
ask_upper own from u cells (Split l r) other some small e bit held has = (
  r,
  (
    subst (λ (c : List ℕ). Holds (own - 1) c r) (sym (upper_slice (own - 1) u cells (upper_at own u some e))) (parts_of own cells l r held).1,
    in_upper own from cells l r some small held has bit,
  ),
)

-- the room that it asks
pub long_lower : (own u : ℕ) (cells : List ℕ) → 0 < own → u ≡ 2 ^ own → 2 ^ (own + 1) ≤ length cells + 1 → 2 ^ (own - 1 + 1) ≤ length (take (u - 1) (drop 1 cells)) + 1
long_lower own u cells some e long =
    let has = room own u cells some e long in
    half_long own u (take (u - 1) (drop 1 cells)) some e (let a = length-take (u - 1) (drop 1 cells) in let b = length-drop 1 cells in omega (arith, a, b, has.0, has.1))

pub long_upper : (own u : ℕ) (cells : List ℕ) → 0 < own → u ≡ 2 ^ own → 2 ^ (own + 1) ≤ length cells + 1 → 2 ^ (own - 1 + 1) ≤ length (take (length cells - u) (drop u cells)) + 1
long_upper own u cells some e long =
    let has = room own u cells some e long in
    let twice : 2 ^ (own + 1) ≡ u + u = pow-more own ∙ ap (λ (n : ℕ). n + n) (sym e) in
    half_long own u (take (length cells - u) (drop u cells)) some e (let a = length-take (length cells - u) (drop u cells) in let b = length-drop u cells in omega (arith, a, b, has.0, has.1, twice))

-- it was taken in the lower half
pub taken_lower : (own from order u : ℕ) (cells part : List ℕ) (tree : Tree) → (own ≡ from → ⊥) → 0 < own → from < 31 → u ≡ 2 ^ own → 2 ^ (own + 1) ≤ length cells + 1 →
    length part ≡ length (take (u - 1) (drop 1 cells)) → has_bit (get_or cells 1 0) from ≡ true → Holds own cells tree → has_free own from tree ≡ true →
    ((l : Tree) → Holds (own - 1) (take (u - 1) (drop 1 cells)) l → IsTrue (has_free (own - 1) from l) → Holds (own - 1) part (taken (own - 1) from order l)) →
    let y : List ℕ = put_mid 1 (u - 1) cells part in
    Holds own (set y 0 (both_cells (get_or y 1 0) (get_or y u 0))) (taken own from order tree)
taken_lower own from order u cells part Free other some small e long count bit held has step = absurd (other (eqb-true own from has))
taken_lower own from order u cells part Out other some small e long count bit held has step = cc
taken_lower own from order u cells part (Split l r) other some small e long count bit held has step =
    let parts = parts_of own cells l r held in
    let here : has_free (own - 1) from l ≡ true = sym (bit_lower own from cells l r small held) ∙ bit in
    let hl = step l (subst (λ (c : List ℕ). Holds (own - 1) c l) (sym (lower_slice (own - 1) u cells (upper_at own u some e))) parts.0) here in
    let y : List ℕ = put_mid 1 (u - 1) cells part in
    let is : taken own from order (Split l r) ≡ Split (taken (own - 1) from order l) r =
    taken-split own from order l r some ∙ ap (λ (t : Bool). if t then Split (taken (own - 1) from order l) r else Split l (taken (own - 1) from order r)) here in
    subst (λ (t : Tree). Holds own (set y 0 (both_cells (get_or y 1 0) (get_or y u 0))) t) (sym is)
    (lower_step own u cells part (taken (own - 1) from order l) r some e long count hl parts.1)

pub unit_lower : (own from u : ℕ) (unit : ℕ) (cells : List ℕ) (tree : Tree) → (own ≡ from → ⊥) → 0 < own → from < 31 → u ≡ 2 ^ own →
    has_bit (get_or cells 1 0) from ≡ true → Holds own cells tree → has_free own from tree ≡ true →
    ((l : Tree) → Holds (own - 1) (take (u - 1) (drop 1 cells)) l → IsTrue (has_free (own - 1) from l) → unit ≡ first_unit (own - 1) from l) →
    unit ≡ first_unit own from tree
unit_lower own from u unit cells Free other some small e bit held has step = absurd (other (eqb-true own from has))
unit_lower own from u unit cells Out other some small e bit held has step = cc
unit_lower own from u unit cells (Split l r) other some small e bit held has step =
    let parts = parts_of own cells l r held in
    let here : has_free (own - 1) from l ≡ true = sym (bit_lower own from cells l r small held) ∙ bit in
    step l (subst (λ (c : List ℕ). Holds (own - 1) c l) (sym (lower_slice (own - 1) u cells (upper_at own u some e))) parts.0) here
    ∙ sym (first_unit-split own from l r some ∙ ap (λ (t : Bool). if t then first_unit (own - 1) from l else 2 ^ (own - 1) + first_unit (own - 1) from r) here)

-- it was taken in the upper half
pub taken_upper : (own from order u : ℕ) (cells part : List ℕ) (tree : Tree) → (own ≡ from → ⊥) → 0 < own → from < 31 → u ≡ 2 ^ own → 2 ^ (own + 1) ≤ length cells + 1 →
    length part ≡ length (take (length cells - u) (drop u cells)) → has_bit (get_or cells 1 0) from ≡ false → Holds own cells tree → has_free own from tree ≡ true →
    ((r : Tree) → Holds (own - 1) (take (length cells - u) (drop u cells)) r → IsTrue (has_free (own - 1) from r) → Holds (own - 1) part (taken (own - 1) from order r)) →
    let y : List ℕ = put_mid u (length cells - u) cells part in
    Holds own (set y 0 (both_cells (get_or y 1 0) (get_or y u 0))) (taken own from order tree)
taken_upper own from order u cells part Free other some small e long count bit held has step = absurd (other (eqb-true own from has))
taken_upper own from order u cells part Out other some small e long count bit held has step = cc
taken_upper own from order u cells part (Split l r) other some small e long count bit held has step =
    let parts = parts_of own cells l r held in
    let none : has_free (own - 1) from l ≡ false = sym (bit_lower own from cells l r small held) ∙ bit in
    let hr = step r (subst (λ (c : List ℕ). Holds (own - 1) c r) (sym (upper_slice (own - 1) u cells (upper_at own u some e))) parts.1) (in_upper own from cells l r some small held has bit) in
    let y : List ℕ = put_mid u (length cells - u) cells part in
    let is : taken own from order (Split l r) ≡ Split l (taken (own - 1) from order r) =
    taken-split own from order l r some ∙ ap (λ (t : Bool). if t then Split (taken (own - 1) from order l) r else Split l (taken (own - 1) from order r)) none in
    subst (λ (t : Tree). Holds own (set y 0 (both_cells (get_or y 1 0) (get_or y u 0))) t) (sym is)
    (upper_step own u cells part l (taken (own - 1) from order r) some e long count parts.0 hr)

pub unit_upper : (own from u : ℕ) (unit half : ℕ) (cells : List ℕ) (tree : Tree) → (own ≡ from → ⊥) → 0 < own → from < 31 → u ≡ 2 ^ own → half ≡ 2 ^ (own - 1) →
    has_bit (get_or cells 1 0) from ≡ false → Holds own cells tree → has_free own from tree ≡ true →
    ((r : Tree) → Holds (own - 1) (take (length cells - u) (drop u cells)) r → IsTrue (has_free (own - 1) from r) → unit ≡ first_unit (own - 1) from r) →
    half + unit ≡ first_unit own from tree
unit_upper own from u unit half cells Free other some small e h bit held has step = absurd (other (eqb-true own from has))
unit_upper own from u unit half cells Out other some small e h bit held has step = cc
unit_upper own from u unit half cells (Split l r) other some small e h bit held has step =
    let parts = parts_of own cells l r held in
    let none : has_free (own - 1) from l ≡ false = sym (bit_lower own from cells l r small held) ∙ bit in
    let at = step r (subst (λ (c : List ℕ). Holds (own - 1) c r) (sym (upper_slice (own - 1) u cells (upper_at own u some e))) parts.1) (in_upper own from cells l r some small held has bit) in
    ap (λ (n : ℕ). n + unit) h ∙ ap (λ (n : ℕ). 2 ^ (own - 1) + n) at
    ∙ sym (first_unit-split own from l r some ∙ ap (λ (t : Bool). if t then first_unit (own - 1) from l else 2 ^ (own - 1) + first_unit (own - 1) from r) none)
