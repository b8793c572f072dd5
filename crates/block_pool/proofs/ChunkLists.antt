-- The blocks of a list of chunks, when one chunk of it was changed.
use Rattle.std.proofs.Common.{ℕ, zero, suc, ◌≡◌, ◌+◌, ◌<◌, ◌≤◌, Bool, true, false, ◌&&◌, ◌||◌, ◌==◌, List, [], ◌∷◌, length, get_or, refl, sym, ap, subst, ◌∙◌, arith}
use Rattle.std.specs.Prelude.{nat_lt, All}
use Rattle.std.specs.List.{list_any, list_all}
use Rattle.std.proofs.Math.ListN.{set}
use Rattle.std.proofs.Math.Bool.{or-false}
use Rattle.std.proofs.lemmas.Bool.{lt-ltb}
use Rattle.std.proofs.lemmas.List.Folds.{list_any-append, list_all-append}
use Rattle.block_pool.specs.Blocks.{Area, len_of, HasOneMore}
use Rattle.block_pool.specs.Trees.{Tree, Free, Out, Split, free_of, out_of}
use Rattle.block_pool.specs.Cells.{has_bit, cell_of, has_free}
use Rattle.block_pool.specs.Cuts.{IsCut}
use Rattle.block_pool.specs.Pools.{ChunkContent, IsChunk, free_from, out_from, shapes}
use Rattle.block_pool.specs.KeptPool.{cells_of}
use Rattle.block_pool.proofs.Bits.{has_bit-cell}
use Rattle.block_pool.proofs.TreeLists.{more_front, more_back, cut_front, cut_back, none_of}

-- a part has a free block of an order where its list has one
pub has_free-listed : (o j c s : ℕ) (t : Tree) → has_free o j t ≡ list_any (λ (g : Area). g.order == j) (free_of c o s t)
has_free-listed o j c s Free = sym (or-false (o == j))
has_free-listed o j c s Out = refl
has_free-listed zero j c s (Split l u) = refl
has_free-listed (suc o) j c s (Split l u) =
    ap (λ (t : Bool). t || has_free o j u) (has_free-listed o j c s l)
    ∙ ap (λ (t : Bool). list_any (λ (g : Area). g.order == j) (free_of c o s l) || t) (has_free-listed o j c (s + len_of o) u)
    ∙ sym (list_any-append (λ (g : Area). g.order == j) (free_of c o s l) (free_of c o (s + len_of o) u))

-- the bits of the cells tell of which orders there are free blocks
pub any_free : (n j : ℕ) (xs : List ChunkContent) → j < 31 → list_any (λ c. has_bit c j) (cells_of xs) ≡ list_any (λ (g : Area). g.order == j) (free_from n xs)
any_free n j [] small = refl
any_free n j (x ∷ xs) small =
    ap (λ (t : Bool). t || list_any (λ c. has_bit c j) (cells_of xs)) (has_bit-cell x.order j x.tree small ∙ has_free-listed x.order j n 0 x.tree)
    ∙ ap (λ (t : Bool). list_any (λ (g : Area). g.order == j) (free_of n x.order 0 x.tree) || t) (any_free (suc n) j xs small)
    ∙ sym (list_any-append (λ (g : Area). g.order == j) (free_of n x.order 0 x.tree) (free_from (suc n) xs))

-- what is free after one chunk was cut
pub free_from-set : (f : Area) (order n k : ℕ) (xs : List ChunkContent) (d x : ChunkContent) → k < length xs →
    ((j : ℕ) → j < k → has_free (get_or xs j d).order f.order (get_or xs j d).tree ≡ false) →
    IsCut f order (free_of (n + k) (get_or xs k d).order 0 (get_or xs k d).tree) (free_of (n + k) x.order 0 x.tree) →
    IsCut f order (free_from n xs) (free_from n (set xs k x))
free_from-set f order n k [] d x within before cut = absurd (omega arith)
free_from-set f order n zero (y ∷ xs) d x within before cut =
    let e : n + 0 ≡ n = omega arith in
    cut_front f order (free_of n y.order 0 y.tree) (free_of n x.order 0 x.tree) (free_from (suc n) xs) (subst (λ (m : ℕ). IsCut f order (free_of m y.order 0 y.tree) (free_of m x.order 0 x.tree)) e cut)
free_from-set f order n (suc k) (y ∷ xs) d x within before cut =
    let e : n + suc k ≡ suc n + k = omega arith in
    cut_back f order (free_from (suc n) xs) (free_from (suc n) (set xs k x)) (free_of n y.order 0 y.tree) (none_of y.order f.order n 0 y.tree (before 0 (omega arith)))
    (free_from-set f order (suc n) k xs d x (omega arith) (λ j h. before (suc j) (omega arith))
    (subst (λ (m : ℕ). IsCut f order (free_of m (get_or xs k d).order 0 (get_or xs k d).tree) (free_of m x.order 0 x.tree)) e cut))

-- what is out after one chunk gave one block more, or one less
pub out_from-more : (b : Area) (n k : ℕ) (xs : List ChunkContent) (d x : ChunkContent) → k < length xs →
    HasOneMore b (out_of (n + k) (get_or xs k d).order 0 (get_or xs k d).tree) (out_of (n + k) x.order 0 x.tree) → HasOneMore b (out_from n xs) (out_from n (set xs k x))
out_from-more b n k [] d x within more = absurd (omega arith)
out_from-more b n zero (y ∷ xs) d x within more =
    let e : n + 0 ≡ n = omega arith in
    more_front b (out_of n y.order 0 y.tree) (out_of n x.order 0 x.tree) (out_from (suc n) xs) (subst (λ (m : ℕ). HasOneMore b (out_of m y.order 0 y.tree) (out_of m x.order 0 x.tree)) e more)
out_from-more b n (suc k) (y ∷ xs) d x within more =
    let e : n + suc k ≡ suc n + k = omega arith in
    more_back b (out_from (suc n) xs) (out_from (suc n) (set xs k x)) (out_of n y.order 0 y.tree)
    (out_from-more b (suc n) k xs d x (omega arith) (subst (λ (m : ℕ). HasOneMore b (out_of m (get_or xs k d).order 0 (get_or xs k d).tree) (out_of m x.order 0 x.tree)) e more))

pub out_from-less : (b : Area) (n k : ℕ) (xs : List ChunkContent) (d x : ChunkContent) → k < length xs →
    HasOneMore b (out_of (n + k) x.order 0 x.tree) (out_of (n + k) (get_or xs k d).order 0 (get_or xs k d).tree) → HasOneMore b (out_from n (set xs k x)) (out_from n xs)
out_from-less b n k [] d x within more = absurd (omega arith)
out_from-less b n zero (y ∷ xs) d x within more =
    let e : n + 0 ≡ n = omega arith in
    more_front b (out_of n x.order 0 x.tree) (out_of n y.order 0 y.tree) (out_from (suc n) xs) (subst (λ (m : ℕ). HasOneMore b (out_of m x.order 0 x.tree) (out_of m y.order 0 y.tree)) e more)
out_from-less b n (suc k) (y ∷ xs) d x within more =
    let e : n + suc k ≡ suc n + k = omega arith in
    more_back b (out_from (suc n) (set xs k x)) (out_from (suc n) xs) (out_of n y.order 0 y.tree)
    (out_from-less b (suc n) k xs d x (omega arith) (subst (λ (m : ℕ). HasOneMore b (out_of m x.order 0 x.tree) (out_of m (get_or xs k d).order 0 (get_or xs k d).tree)) e more))

-- a chunk of the same order and bytes leaves the shapes
pub shapes-set : (k : ℕ) (xs : List ChunkContent) (d x : ChunkContent) → x.order ≡ (get_or xs k d).order → x.bytes ≡ (get_or xs k d).bytes → shapes (set xs k x) ≡ shapes xs
shapes-set k [] d x o b = refl
shapes-set zero (y ∷ xs) d x o b = ap (λ (n : ℕ). (n, x.bytes) ∷ shapes xs) o ∙ ap (λ (s : List ℕ). (y.order, s) ∷ shapes xs) b
shapes-set (suc k) (y ∷ xs) d x o b = ap (λ (s : List (ℕ × List ℕ)). (y.order, y.bytes) ∷ s) (shapes-set k xs d x o b)

pub cells-set : (k : ℕ) (xs : List ChunkContent) (x : ChunkContent) → cells_of (set xs k x) ≡ set (cells_of xs) k (cell_of x.order x.tree)
cells-set k [] x = refl
cells-set zero (y ∷ xs) x = refl
cells-set (suc k) (y ∷ xs) x = ap (λ (s : List ℕ). cell_of y.order y.tree ∷ s) (cells-set k xs x)

pub cell-at : (k : ℕ) (xs : List ChunkContent) (d : ChunkContent) → k < length xs → get_or (cells_of xs) k 0 ≡ cell_of (get_or xs k d).order (get_or xs k d).tree
cell-at k [] d within = absurd (omega arith)
cell-at zero (y ∷ xs) d within = refl
cell-at (suc k) (y ∷ xs) d within = cell-at k xs d (omega arith)

pub length-cells : (xs : List ChunkContent) → length (cells_of xs) ≡ length xs
length-cells [] = refl
length-cells (x ∷ xs) = ap suc (length-cells xs)

-- the free blocks of a chunk are of no greater order than the chunk
free_orders : (o c s : ℕ) (t : Tree) → o ≤ 25 → list_all (λ (g : Area). nat_lt g.order 26) (free_of c o s t) ≡ true
free_orders o c s Free small = ap (λ (t : Bool). t && true) (lt-ltb o 26 (omega arith))
free_orders o c s Out small = refl
free_orders zero c s (Split l u) small = refl
free_orders (suc o) c s (Split l u) small =
    list_all-append (λ (g : Area). nat_lt g.order 26) (free_of c o s l) (free_of c o (s + len_of o) u)
    ∙ ap (λ (t : Bool). t && list_all (λ (g : Area). nat_lt g.order 26) (free_of c o (s + len_of o) u)) (free_orders o c s l (omega arith))
    ∙ free_orders o c (s + len_of o) u (omega arith)

pub all_orders : (n : ℕ) (xs : List ChunkContent) → All IsChunk xs → list_all (λ (g : Area). nat_lt g.order 26) (free_from n xs) ≡ true
all_orders n [] all = refl
all_orders n (x ∷ xs) all =
    list_all-append (λ (g : Area). nat_lt g.order 26) (free_of n x.order 0 x.tree) (free_from (suc n) xs)
    ∙ ap (λ (t : Bool). t && list_all (λ (g : Area). nat_lt g.order 26) (free_from (suc n) xs)) (free_orders x.order n 0 x.tree (all 0 x (omega arith)).within)
    ∙ all_orders (suc n) xs (λ k d h. all (suc k) d (omega arith))
