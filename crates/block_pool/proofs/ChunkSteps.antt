-- A chunk after its cells were written.
use Rattle.std.proofs.Common.{ℕ, zero, suc, ◌≡◌, ◌^◌, ◌<◌, ◌≤◌, Bool, true, false, ◌==◌, if◌then◌else◌, List, [], ◌∷◌, ◌++◌, length, take, drop, get_or, refl, sym, ap, subst, ◌∙◌, inl, inr, arith, Vec, vec_len, append-nil}
use Rattle.std.specs.Vec.{with_items}
use Rattle.std.proofs.lemmas.Bool.{cases_lt, eq-eqb, ne_eqb}
use Rattle.std.proofs.lemmas.List.{nil_from_length, take_all, length-drop}
use Rattle.std.proofs.lemmas.Nat.{pow_pos, le_or_l}
use Rattle.block_pool.specs.Trees.{Tree, Free, Out, Split, fits, is_joined}
use Rattle.block_pool.specs.Cells.{lower_cells, upper_cells, both_cells, cell_of, Holds, tree_of, has_free, is_out_at}
use Rattle.block_pool.specs.Pools.{ChunkContent, IsChunk}
use Rattle.block_pool.specs.Kept.{IsKept}
use Rattle.block_pool.specs.declared.chunk.Chunk.TheInside.{Inside}
use Rattle.block_pool.proofs.TreeSteps.{has_free-above}
use Rattle.block_pool.proofs.GiveSteps.{is_out-above, cell-Split}

-- cells hold one tree, which is read from them
pub tree_of-Holds : (o : ℕ) (cells : List ℕ) (tree : Tree) → o < 31 → Holds o cells tree → tree_of o cells ≡ tree
tree_of-Holds zero cells Free small h =
    ap (λ (t : Bool). if t then Out else Free) (ap (λ (n : ℕ). n == 0) h)
tree_of-Holds (suc o) cells Free small h =
    let p = pow_pos (suc o) in
    let some : (get_or cells 0 0 == 0) ≡ false = ne_eqb (get_or cells 0 0) 0 (λ (e : get_or cells 0 0 ≡ 0). absurd (omega (arith, h, p, e))) in
    let whole : (get_or cells 0 0 == 2 ^ suc o) ≡ true = eq-eqb (get_or cells 0 0) (2 ^ suc o) h in
    ap (λ (t : Bool). if t then Out else if get_or cells 0 0 == 2 ^ suc o then Free else Split (tree_of o (lower_cells o cells)) (tree_of o (upper_cells o cells))) some
    ∙ ap (λ (t : Bool). if t then Free else Split (tree_of o (lower_cells o cells)) (tree_of o (upper_cells o cells))) whole
tree_of-Holds zero cells Out small h = ap (λ (t : Bool). if t then Out else Free) (eq-eqb (get_or cells 0 0) 0 h)
tree_of-Holds (suc o) cells Out small h =
    ap (λ (t : Bool). if t then Out else if get_or cells 0 0 == 2 ^ suc o then Free else Split (tree_of o (lower_cells o cells)) (tree_of o (upper_cells o cells))) (eq-eqb (get_or cells 0 0) 0 h)
tree_of-Holds zero cells (Split l u) small h = absurd h
tree_of-Holds (suc o) cells (Split l u) small h =
    let above : 2 ^ 31 ≤ both_cells (cell_of o l) (cell_of o u) = le_or_l (2 ^ 31) _ in
    let some : (get_or cells 0 0 == 0) ≡ false = ne_eqb (get_or cells 0 0) 0 (λ (e : get_or cells 0 0 ≡ 0). absurd (omega (arith, h.0, above, e))) in
    let cut : (get_or cells 0 0 == 2 ^ suc o) ≡ false = ne_eqb (get_or cells 0 0) (2 ^ suc o) (λ (e : get_or cells 0 0 ≡ 2 ^ suc o). cell-Split (suc o) l u small (sym h.0 ∙ e)) in
    let lower = tree_of-Holds o (lower_cells o cells) l (omega arith) h.1.0 in
    let upper = tree_of-Holds o (upper_cells o cells) u (omega arith) h.1.1 in
    ap (λ (t : Bool). if t then Out else if get_or cells 0 0 == 2 ^ suc o then Free else Split (tree_of o (lower_cells o cells)) (tree_of o (upper_cells o cells))) some
    ∙ ap (λ (t : Bool). if t then Free else Split (tree_of o (lower_cells o cells)) (tree_of o (upper_cells o cells))) cut
    ∙ ap (λ (t : Tree). Split t (tree_of o (upper_cells o cells))) lower
    ∙ ap (λ (t : Tree). Split l t) upper

-- a free block, and one that is out, is of no greater order than the part
pub free_below : (o j : ℕ) (tree : Tree) → has_free o j tree ≡ true → j ≤ o
free_below o j tree h = elim (cases_lt o j) [
  | inl above ↦ let none = has_free-above o j tree above in let no_such : false ≡ true = sym none ∙ h in absurd (let e : ⊥ = (cc) in e)
  | inr below ↦ below
]

pub out_below : (o order at : ℕ) (tree : Tree) → is_out_at o order at tree ≡ true → order ≤ o
out_below o order at tree h = elim (cases_lt o order) [
  | inl above ↦ let none = is_out-above o order at tree above in let no_such : false ≡ true = sym none ∙ h in absurd (let e : ⊥ = (cc) in e)
  | inr below ↦ below
]

-- cells that were written to a vector as many as it had
pub items-with_items : {Z : Type 0} (v : Vec ℕ Z) (ws : List ℕ) → length ws ≡ vec_len v → length v.items ≡ vec_len v → (with_items v ws).items ≡ ws
items-with_items v ws e long =
    let none : drop (length ws) v.items ≡ [] = nil_from_length (drop (length ws) v.items) (let h = length-drop (length ws) v.items in omega (arith, h, e, long)) in
    ap (λ (r : List ℕ). take v.len (ws ++ r)) none ∙ ap (take v.len) (append-nil ws) ∙ take_all v.len ws (omega (arith, e))

-- the chunk with other cells
abbrev with_cells : Inside → List ℕ → Inside
with_cells a ws = record { order = a.order; bytes = a.bytes; cells = with_items a.cells ws }

abbrev view_of : Inside → ChunkContent
view_of a = record { order = a.order; bytes = a.bytes.items; tree = tree_of a.order a.cells.items }

pub kept_with : (a : Inside) (ws : List ℕ) (tree : Tree) → IsKept a → length ws ≡ vec_len a.cells → Holds a.order ws tree → fits a.order tree ≡ true → is_joined tree ≡ true →
    IsKept (with_cells a ws) × ((view_of (with_cells a ws) ≡ record { order = a.order; bytes = a.bytes.items; tree = tree }) × IsChunk (view_of (with_cells a ws)))
kept_with a ws tree kept e held cut joined =
    let within : a.order ≤ 25 = kept.within in
    let items : (with_items a.cells ws).items ≡ ws = items-with_items a.cells ws e (sym a.cells.ok.0) in
    let read : tree_of a.order (with_items a.cells ws).items ≡ tree = ap (tree_of a.order) items ∙ tree_of-Holds a.order ws tree (omega arith) held in
    let cut' = ap (fits a.order) read ∙ cut in
    let joined' = ap is_joined read ∙ joined in (
      record {
        within = kept.within;
        long = kept.long;
        cells = kept.cells;
        holds = subst (λ (t : Tree). Holds a.order (with_items a.cells ws).items t) (sym read) (subst (λ (c : List ℕ). Holds a.order c tree) (sym items) held);
        cut = cut';
        joined = joined';
      },
      (
        ap (λ (t : Tree). record { order = a.order; bytes = a.bytes.items; tree = t }) read,
        record { within = kept.within; long = kept.long; cut = cut'; joined = joined' },
      ),
    )

-- the first element, whatever stands for none
pub first-at : (xs : List ℕ) (d e : ℕ) → 0 < length xs → get_or xs 0 d ≡ get_or xs 0 e
first-at [] d e some = absurd (omega arith)
first-at (x ∷ xs) d e some = refl
