-- What a write to the cell of a part, or to the cells of one half, leaves of the others.
use Rattle.std.proofs.Common.{ℕ, zero, suc, ◌≡◌, ◌+◌, ◌-◌, ◌^◌, ◌<◌, ◌≤◌, List, [], ◌∷◌, ◌++◌, length, take, drop, get_or, sym, ap, subst, ◌∙◌, arith, append-nil, drop-drop, length-drop, length-append}
use Rattle.std.proofs.Math.ListN.{set}
use Rattle.std.proofs.lemmas.List.{take_all, nil_from_length, length-take, get_or-drop, get_or-take, drop-set, take-set-le}
use Rattle.std.proofs.Math.Seq.{take-append_seam, drop-append_seam}
use Rattle.std.proofs.lemmas.Nat.{pow-add, pow_pos}
use borrow.Rule.Slice.PartMut.{put_mid, post_of}
use Rattle.block_pool.specs.Trees.{Tree, Free, Out, Split}
use Rattle.block_pool.specs.Cells.{cells_len, lower_cells, upper_cells, both_cells, cell_of, Holds}

pub pow-suc2 : (o : ℕ) → 2 ^ suc o ≡ 2 ^ o + 2 ^ o
pow-suc2 o = grind (arith, pow-add)

-- a part of an order has one cell less than twice its units
pub cells_len-suc : (o : ℕ) → suc (cells_len o) ≡ 2 ^ suc o
cells_len-suc o = let h = pow_pos (suc o) in omega (arith, h)

pub some_cells : (o : ℕ) → 0 < cells_len o
some_cells o = let h = pow_pos o in let e = pow-suc2 o in omega (arith, h, e)

-- no cell is behind the last
behind : (n : ℕ) (xs : List ℕ) → post_of n (length xs - n) xs ≡ []
behind n xs = nil_from_length (drop (length xs - n) (drop n xs)) (let a = length-drop (length xs - n) (drop n xs) in let b = length-drop n xs in omega (arith, a, b))

-- the cells of the lower half, written
pub lower-write_lower : (o u : ℕ) (cells part : List ℕ) → u ≡ suc (cells_len o) → u ≤ length cells → length part ≡ u - 1 →
    lower_cells o (put_mid 1 (u - 1) cells part) ≡ part
lower-write_lower o u [] part e within long = absurd (omega arith)
lower-write_lower o u (x ∷ xs) part e within long =
    let m : length part ≡ cells_len o = omega arith in
    subst (λ (n : ℕ). take n (part ++ drop (u - 1) xs) ≡ part) m (take-append_seam part (drop (u - 1) xs))

pub upper-write_lower : (o u : ℕ) (cells part : List ℕ) → u ≡ suc (cells_len o) → u ≤ length cells → length part ≡ u - 1 →
    upper_cells o (put_mid 1 (u - 1) cells part) ≡ upper_cells o cells
upper-write_lower o u [] part e within long = absurd (omega arith)
upper-write_lower o u (x ∷ xs) part e within long =
    let m : length part ≡ cells_len o = omega arith in
    let k : u - 1 ≡ cells_len o = omega arith in
    subst (λ (n : ℕ). drop n (part ++ drop (u - 1) xs) ≡ drop (u - 1) xs) m (drop-append_seam part (drop (u - 1) xs))
    ∙ ap (λ (n : ℕ). drop n xs) k

pub length-write_lower : (u : ℕ) (cells part : List ℕ) → 0 < u → u ≤ length cells → length part ≡ u - 1 → length (put_mid 1 (u - 1) cells part) ≡ length cells
length-write_lower u [] part some within long = absurd (omega arith)
length-write_lower u (x ∷ xs) part some within long =
    let a = length-append part (drop (u - 1) xs) in let b = length-drop (u - 1) xs in omega (arith, a, b)

-- the cells of the upper half, written
upper_put : (m x : ℕ) (xs part : List ℕ) → put_mid (suc m) (length (x ∷ xs) - suc m) (x ∷ xs) part ≡ x ∷ (take m xs ++ part)
upper_put m x xs part =
    ap (λ (r : List ℕ). x ∷ (take m xs ++ (part ++ r))) (behind (suc m) (x ∷ xs)) ∙ ap (λ (r : List ℕ). x ∷ (take m xs ++ r)) (append-nil part)

pub lower-write_upper : (o u : ℕ) (cells part : List ℕ) → u ≡ suc (cells_len o) → u ≤ length cells →
    lower_cells o (put_mid u (length cells - u) cells part) ≡ lower_cells o cells
lower-write_upper o u [] part e within = absurd (omega arith)
lower-write_upper o u (x ∷ xs) part e within =
    let count : length (take (cells_len o) xs) ≡ cells_len o = (let h = length-take (cells_len o) xs in omega (arith, h)) in
    ap (λ (n : ℕ). lower_cells o (put_mid n (length (x ∷ xs) - n) (x ∷ xs) part)) e
    ∙ ap (lower_cells o) (upper_put (cells_len o) x xs part)
    ∙ subst (λ (n : ℕ). take n (take (cells_len o) xs ++ part) ≡ take (cells_len o) xs) count (take-append_seam (take (cells_len o) xs) part)

pub upper-write_upper : (o u : ℕ) (cells part : List ℕ) → u ≡ suc (cells_len o) → u ≤ length cells →
    upper_cells o (put_mid u (length cells - u) cells part) ≡ part
upper-write_upper o u [] part e within = absurd (omega arith)
upper-write_upper o u (x ∷ xs) part e within =
    let count : length (take (cells_len o) xs) ≡ cells_len o = (let h = length-take (cells_len o) xs in omega (arith, h)) in
    ap (λ (n : ℕ). upper_cells o (put_mid n (length (x ∷ xs) - n) (x ∷ xs) part)) e
    ∙ ap (upper_cells o) (upper_put (cells_len o) x xs part)
    ∙ subst (λ (n : ℕ). drop n (take (cells_len o) xs ++ part) ≡ part) count (drop-append_seam (take (cells_len o) xs) part)

pub length-write_upper : (u : ℕ) (cells part : List ℕ) → u ≤ length cells → length part ≡ length cells - u → length (put_mid u (length cells - u) cells part) ≡ length cells
length-write_upper u cells part within long =
    ap (λ (r : List ℕ). length (take u cells ++ (part ++ r))) (behind u cells) ∙ ap (λ (r : List ℕ). length (take u cells ++ r)) (append-nil part)
    ∙ (let a = length-append (take u cells) part in let b = length-take u cells in omega (arith, a, b))

-- one cell of the upper half, written
pub lower-set_upper : (o u v : ℕ) (cells : List ℕ) → u ≡ suc (cells_len o) → u < length cells → lower_cells o (set cells u v) ≡ lower_cells o cells
lower-set_upper o u v [] e within = absurd (omega arith)
lower-set_upper o u v (x ∷ xs) e within =
    ap (λ (n : ℕ). lower_cells o (set (x ∷ xs) n v)) e ∙ take-set-le (cells_len o) xs (cells_len o) v (omega arith)

pub upper-set_upper : (o u v : ℕ) (cells : List ℕ) → u ≡ suc (cells_len o) → u < length cells → get_or (upper_cells o (set cells u v)) 0 0 ≡ v
upper-set_upper o u v [] e within = absurd (omega arith)
upper-set_upper o u v (x ∷ xs) e within =
    ap (λ (n : ℕ). get_or (upper_cells o (set (x ∷ xs) n v)) 0 0) e
    ∙ ap (λ (r : List ℕ). get_or r 0 0) (drop-set xs (cells_len o) v (omega arith))

-- the first cells of the halves, read
pub read_lower : (o : ℕ) (cells : List ℕ) → get_or cells 1 0 ≡ get_or (lower_cells o cells) 0 0
read_lower o [] = sym (ap (λ (r : List ℕ). get_or r 0 0) (nil_from_length (take (cells_len o) []) (let h = length-take {A = ℕ} (cells_len o) [] in omega (arith, h))))
read_lower o (x ∷ xs) = sym (get_or-take (cells_len o) xs 0 0 (some_cells o))

pub read_upper : (o u : ℕ) (cells : List ℕ) → u ≡ suc (cells_len o) → u ≤ length cells → get_or cells u 0 ≡ get_or (upper_cells o cells) 0 0
read_upper o u [] e within = absurd (omega arith)
read_upper o u (x ∷ xs) e within =
    ap (λ (n : ℕ). get_or (x ∷ xs) n 0) e ∙ sym (get_or-drop (cells_len o) xs 0 0 ∙ ap (λ (n : ℕ). get_or xs n 0) (omega arith))

-- the slices that the code takes are the cells of the halves
pub lower_slice : (o u : ℕ) (cells : List ℕ) → u ≡ suc (cells_len o) → take (u - 1) (drop 1 cells) ≡ lower_cells o cells
lower_slice o u cells e = let k : u - 1 ≡ cells_len o = omega arith in ap (λ (n : ℕ). take n (drop 1 cells)) k

pub upper_slice : (o u : ℕ) (cells : List ℕ) → u ≡ suc (cells_len o) → take (length cells - u) (drop u cells) ≡ upper_cells o cells
upper_slice o u cells e =
    take_all (length cells - u) (drop u cells) (let h = length-drop u cells in omega (arith, h))
    ∙ (let k : u ≡ 1 + cells_len o = omega arith in ap (λ (n : ℕ). drop n cells) k)
    ∙ sym (drop-drop (cells_len o) 1 cells)

-- the cells of a tree begin with its cell
pub cell-Holds : (o : ℕ) (cells : List ℕ) (tree : Tree) → Holds o cells tree → get_or cells 0 0 ≡ cell_of o tree
cell-Holds o cells Free h = h
cell-Holds o cells Out h = h
cell-Holds zero cells (Split l u) h = absurd h
cell-Holds (suc o) cells (Split l u) h = h.0

set_first : (o v : ℕ) (cells : List ℕ) (l u : Tree) → 0 < length cells → v ≡ cell_of (suc o) (Split l u) → Holds o (lower_cells o cells) l → Holds o (upper_cells o cells) u →
    Holds (suc o) (set cells 0 v) (Split l u)
set_first o v [] l u some e hl hu = absurd (omega arith)
set_first o v (x ∷ xs) l u some e hl hu = (e, (hl, hu))

-- the cell of a part that is cut, mended by those of its halves
pub mended : (o up : ℕ) (cells : List ℕ) (l u : Tree) → up ≡ suc (cells_len o) → up ≤ length cells → Holds o (lower_cells o cells) l → Holds o (upper_cells o cells) u →
    Holds (suc o) (set cells 0 (both_cells (get_or cells 1 0) (get_or cells up 0))) (Split l u)
mended o up cells l u e within hl hu =
    let a : get_or cells 1 0 ≡ cell_of o l = read_lower o cells ∙ cell-Holds o (lower_cells o cells) l hl in
    let b : get_or cells up 0 ≡ cell_of o u = read_upper o up cells e within ∙ cell-Holds o (upper_cells o cells) u hu in
    set_first o (both_cells (get_or cells 1 0) (get_or cells up 0)) cells l u (omega arith)
    (ap (λ (n : ℕ). both_cells n (get_or cells up 0)) a ∙ ap (λ (n : ℕ). both_cells (cell_of o l) n) b) hl hu
