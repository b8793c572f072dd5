-- An index by its leaves: which bits its first cell has, and what a level more makes of it.
use Rattle.std.proofs.Common.{ℕ, zero, suc, ◌≡◌, ◌+◌, ◌-◌, ◌^◌, ◌<◌, ◌≤◌, Bool, false, ◌||◌, bit_or, List, [], ◌∷◌, ◌++◌, length, take, drop, get_or, refl, sym, ap, subst, ◌∙◌, inl, inr, arith, length-append, Vec, vec_len, Global}
use Rattle.std.specs.Prelude.{replicate}
use Rattle.std.specs.List.{list_any}
use Rattle.std.specs.Vec.{with_items}
use Rattle.std.specs.Int.Bits.{or_zero_r}
use Rattle.std.proofs.Math.ListN.{set}
use Rattle.std.proofs.Math.Bool.{or-false}
use Rattle.std.proofs.Math.Seq.{take-append_seam, drop-append_seam, take-set-lt}
use Rattle.std.proofs.lemmas.Bool.{cases_lt}
use Rattle.std.proofs.lemmas.List.{length-take, take-append-le, take_more_set, get_or-take, get_or-drop, get_or_past, get_or_append_left, get_or-append_right, get_or-set_other, length-replicate, get_or-replicate}
use Rattle.std.proofs.lemmas.List.Folds.{list_any-append}
use Rattle.std.proofs.lemmas.Nat.{pow_pos}
use Rattle.std.proofs.Math.Pow.{pow_mono}
use Rattle.std.proofs.lemmas.Nat.Bits.{bit_at-zero}
use Rattle.block_pool.specs.Cells.{cells_len, lower_cells, upper_cells, has_bit}
use Rattle.block_pool.specs.Index.{leaves_of, IsIndex}
use Rattle.block_pool.specs.KeptIndex.{noted, IsKeptIndex}
use Rattle.block_pool.specs.declared.index.Index.TheInside.{Inside}
use Rattle.block_pool.proofs.Bits.{has_bit-or}
use Rattle.block_pool.proofs.Halves.{cells_len-suc}
use Rattle.block_pool.proofs.CellSteps.{pow-more}
use Rattle.block_pool.proofs.IndexSteps.{length-leaves}
use Rattle.block_pool.proofs.ChunkSteps.{items-with_items}

-- the first cell has the bits of all leaves
pub root_bits : (d order : ℕ) (cells : List ℕ) → IsIndex d cells → has_bit (get_or cells 0 0) order ≡ list_any (λ c. has_bit c order) (leaves_of d cells)
root_bits zero order cells index = sym (or-false (has_bit (get_or cells 0 0) order))
root_bits (suc d) order cells index =
    let l : List ℕ = lower_cells d cells in
    let u : List ℕ = upper_cells d cells in
    ap (λ (n : ℕ). has_bit n order) index.0 ∙ has_bit-or (get_or l 0 0) (get_or u 0 0) order
    ∙ ap (λ (t : Bool). t || has_bit (get_or u 0 0) order) (root_bits d order l index.1.0)
    ∙ ap (λ (t : Bool). list_any (λ c. has_bit c order) (leaves_of d l) || t) (root_bits d order u index.1.1)
    ∙ sym (list_any-append (λ c. has_bit c order) (leaves_of d l) (leaves_of d u))

no_bit : (order : ℕ) → has_bit 0 order ≡ false
no_bit order = ap (λ (n : ℕ). lib.Dec.eqb n 1) (bit_at-zero order)

-- zeros have no bit
any-blank : (order : ℕ) (xs : List ℕ) → ((k : ℕ) → get_or xs k 0 ≡ 0) → list_any (λ c. has_bit c order) xs ≡ false
any-blank order [] blank = refl
any-blank order (x ∷ xs) blank =
    ap (λ (n : ℕ). has_bit n order || list_any (λ c. has_bit c order) xs) (blank 0)
    ∙ ap (λ (t : Bool). t || list_any (λ c. has_bit c order) xs) (no_bit order)
    ∙ any-blank order xs (λ k. blank (suc k))

any-take : (order n : ℕ) (xs : List ℕ) → ((k : ℕ) → n ≤ k → get_or xs k 0 ≡ 0) → list_any (λ c. has_bit c order) xs ≡ list_any (λ c. has_bit c order) (take n xs)
any-take order n [] blank = elim n as (λ m. false ≡ list_any (λ c. has_bit c order) (take m [])) [ zero ↦ refl | suc m ↦ refl ]
any-take order zero (x ∷ xs) blank = any-blank order (x ∷ xs) (λ k. blank k (omega arith))
any-take order (suc n) (x ∷ xs) blank =
    ap (λ (t : Bool). has_bit x order || t) (any-take order n xs (λ k h. blank (suc k) (omega arith)))

-- what the first cell tells of the noted cells
pub root_noted : (a : Inside) (order : ℕ) → IsKeptIndex a → has_bit (get_or a.cells.items 0 0) order ≡ list_any (λ c. has_bit c order) (noted a)
root_noted a order kept = root_bits a.depth order a.cells.items kept.index ∙ any-take order a.len (leaves_of a.depth a.cells.items) kept.blank

-- cells of zeros
pub blank_index : (d : ℕ) (cells : List ℕ) → ((k : ℕ) → get_or cells k 0 ≡ 0) → IsIndex d cells × ((k : ℕ) → get_or (leaves_of d cells) k 0 ≡ 0)
blank_index zero cells blank = (tt, λ k. elim k as (λ j. get_or (get_or cells 0 0 ∷ []) j 0 ≡ 0) [ zero ↦ blank 0 | suc j ↦ refl ])
blank_index (suc d) cells blank =
    let l : List ℕ = lower_cells d cells in
    let u : List ℕ = upper_cells d cells in
    let rest : (k : ℕ) → get_or (drop 1 cells) k 0 ≡ 0 = λ k. get_or-drop 1 cells k 0 ∙ blank (1 + k) in
    let bl : (k : ℕ) → get_or l k 0 ≡ 0 = λ k. taken_blank (cells_len d) (drop 1 cells) k rest in
    let bu : (k : ℕ) → get_or u k 0 ≡ 0 = λ k. get_or-drop (cells_len d) (drop 1 cells) k 0 ∙ rest (cells_len d + k) in
    let il = blank_index d l bl in
    let iu = blank_index d u bu in
    let zeros : bit_or (get_or l 0 0) (get_or u 0 0) ≡ 0 = ap (λ (n : ℕ). bit_or n (get_or u 0 0)) (bl 0) ∙ ap (λ (n : ℕ). bit_or 0 n) (bu 0) ∙ or_zero_r 0 in
    ((blank 0 ∙ sym zeros, (il.0, iu.0)), λ k. joined_blank (leaves_of d l) (leaves_of d u) k il.1 iu.1)
  where
    taken_blank : (n : ℕ) (xs : List ℕ) (k : ℕ) → ((j : ℕ) → get_or xs j 0 ≡ 0) → get_or (take n xs) k 0 ≡ 0
    taken_blank n xs k blank = elim (cases_lt k n) [
      | inl below ↦ get_or-take n xs k 0 below ∙ blank k
      | inr above ↦ get_or_past (take n xs) k 0 (omega (arith, length-take n xs))
    ]

    joined_blank : (xs ys : List ℕ) (k : ℕ) → ((j : ℕ) → get_or xs j 0 ≡ 0) → ((j : ℕ) → get_or ys j 0 ≡ 0) → get_or (xs ++ ys) k 0 ≡ 0
    joined_blank xs ys k bx by_ = elim (cases_lt k (length xs)) [
      | inl below ↦ get_or_append_left xs ys 0 k below ∙ bx k
      | inr above ↦ get_or-append_right xs ys (length xs) k 0 refl above ∙ by_ (k - length xs)
    ]

-- the cells of one level more
abbrev pub more_cells : List ℕ → List ℕ
more_cells cells = get_or cells 0 0 ∷ (cells ++ replicate (length cells) 0)

pub deeper_index : (d : ℕ) (cells : List ℕ) → length cells + 1 ≡ 2 ^ (d + 1) → IsIndex d cells →
    IsIndex (d + 1) (more_cells cells) × (leaves_of (d + 1) (more_cells cells) ≡ leaves_of d cells ++ leaves_of d (replicate (length cells) 0))
deeper_index d cells long index =
    let zeros : List ℕ = replicate (length cells) 0 in
    let n : length cells ≡ cells_len d = (let h = cells_len-suc d in let e : d + 1 ≡ suc d = omega arith in let p = ap (λ (k : ℕ). 2 ^ k) e in omega (arith, h, p, long)) in
    let lower : lower_cells d (more_cells cells) ≡ cells = subst (λ (k : ℕ). take k (cells ++ zeros) ≡ cells) n (take-append_seam cells zeros) in
    let upper : upper_cells d (more_cells cells) ≡ zeros = subst (λ (k : ℕ). drop k (cells ++ zeros) ≡ zeros) n (drop-append_seam cells zeros) in
    let blank : (k : ℕ) → get_or zeros k 0 ≡ 0 = λ k. zero_at (length cells) k in
    let z = blank_index d zeros blank in
    let root : get_or cells 0 0 ≡ bit_or (get_or (lower_cells d (more_cells cells)) 0 0) (get_or (upper_cells d (more_cells cells)) 0 0) =
    sym (ap (λ (c : List ℕ). bit_or (get_or c 0 0) (get_or (upper_cells d (more_cells cells)) 0 0)) lower ∙ ap (λ (c : List ℕ). bit_or (get_or cells 0 0) (get_or c 0 0)) upper
    ∙ ap (λ (k : ℕ). bit_or (get_or cells 0 0) k) (blank 0) ∙ or_zero_r (get_or cells 0 0)) in
    let e : suc d ≡ d + 1 = omega arith in
    subst (λ (k : ℕ). IsIndex k (more_cells cells) × (leaves_of k (more_cells cells) ≡ leaves_of d cells ++ leaves_of d zeros)) e (
      (root, (subst (IsIndex d) (sym lower) index, subst (IsIndex d) (sym upper) z.0)),
      ap (λ (c : List ℕ). leaves_of d c ++ leaves_of d (upper_cells d (more_cells cells))) lower ∙ ap (λ (c : List ℕ). leaves_of d cells ++ leaves_of d c) upper,
    )
  where
    zero_at : (n k : ℕ) → get_or {A = ℕ} (replicate n 0) k 0 ≡ 0
    zero_at n k = elim (cases_lt k n) [
      | inl below ↦ get_or-replicate n k 0 0 below
      | inr above ↦ get_or_past (replicate n 0) k 0 (let h = length-replicate {A = ℕ} n 0 in omega (arith, h))
    ]

-- a leaf that was set, one behind those that were noted
pub take-noted : (n : ℕ) (leaves now : List ℕ) (cell : ℕ) → n < length leaves → now ≡ set leaves n cell → take (n + 1) now ≡ take n leaves ++ cell ∷ []
take-noted n leaves now cell within is = ap (take (n + 1)) is ∙ take_more_set leaves n cell within

pub blank-noted : (n : ℕ) (leaves now : List ℕ) (cell : ℕ) → now ≡ set leaves n cell → ((k : ℕ) → n ≤ k → get_or leaves k 0 ≡ 0) → (k : ℕ) → n + 1 ≤ k → get_or now k 0 ≡ 0
blank-noted n leaves now cell is blank k h =
    ap (λ (xs : List ℕ). get_or xs k 0) is ∙ get_or-set_other leaves n k cell 0 (λ (e : k ≡ n). absurd (omega arith)) ∙ blank k (omega arith)

-- the leaves of one level more: those of before, and zeros
pub deeper_leaves : (a : Inside) → IsKeptIndex a → 0 < a.len → a.len ≡ 2 ^ a.depth →
    (take a.len (leaves_of (a.depth + 1) (more_cells a.cells.items)) ≡ noted a) × ((k : ℕ) → a.len ≤ k → get_or (leaves_of (a.depth + 1) (more_cells a.cells.items)) k 0 ≡ 0)
deeper_leaves a kept some full =
    let cells : List ℕ = a.cells.items in
    let long : length cells + 1 ≡ 2 ^ (a.depth + 1) = ap (λ (n : ℕ). n + 1) (sym a.cells.ok.0) ∙ kept.long some in
    let zeros : List ℕ = replicate (length cells) 0 in
    let d = deeper_index a.depth cells long kept.index in
    let n : length (leaves_of a.depth cells) ≡ a.len = length-leaves a.depth cells ∙ sym full in
    let z = blank_index a.depth zeros (λ k. zeros_at (length cells) k) in (
      ap (take a.len) d.1 ∙ take-append-le a.len (leaves_of a.depth cells) (leaves_of a.depth zeros) (omega (arith, n)),
      λ k h. ap (λ (xs : List ℕ). get_or xs k 0) d.1 ∙ get_or-append_right (leaves_of a.depth cells) (leaves_of a.depth zeros) a.len k 0 n h ∙ z.1 (k - a.len),
    )
  where
    zeros_at : (n k : ℕ) → get_or {A = ℕ} (replicate n 0) k 0 ≡ 0
    zeros_at n k = elim (cases_lt k n) [
      | inl below ↦ get_or-replicate n k 0 0 below
      | inr above ↦ get_or_past (replicate n 0) k 0 (let h = length-replicate {A = ℕ} n 0 in omega (arith, h))
    ]

pub length-noted : (a : Inside) → IsKeptIndex a → length (noted a) ≡ a.len
length-noted a kept =
    let n = length-leaves a.depth a.cells.items in let t = length-take a.len (leaves_of a.depth a.cells.items) in let l = kept.len in omega (arith, n, t, l)

-- an index of fewer than 2^32 cells that is full has room for a level more
pub shallow : (a : Inside) → IsKeptIndex a → length (noted a) < 2 ^ 32 → a.len ≡ 2 ^ a.depth → a.depth + 1 ≤ 32
shallow a kept few full = elim (cases_lt a.depth 32) [
  | inl below ↦ omega arith
  | inr above ↦ let p : 2 ^ 32 ≤ 2 ^ a.depth = pow_mono above in let n = length-noted a kept in absurd (omega (arith, p, n, few, full))
]

pub kept_deeper : (a : Inside) (v : Vec ℕ Global) (now start : List ℕ) (cell : ℕ) → IsKeptIndex a → 0 < a.len → length (noted a) < 2 ^ 32 → a.len ≡ 2 ^ a.depth →
    start ≡ more_cells a.cells.items → v.items ≡ start → length now ≡ vec_len v → IsIndex (a.depth + 1) now → leaves_of (a.depth + 1) now ≡ set (leaves_of (a.depth + 1) start) a.len cell →
    let b : Inside = record { cells = with_items v now; depth = a.depth + 1; len = a.len + 1 } in
    IsKeptIndex b × (noted b ≡ noted a ++ cell ∷ [])
kept_deeper a v now start cell kept some few full is vis count index leaves =
    let d : ℕ = a.depth + 1 in
    let before = deeper_leaves a kept some full in
    let startl : leaves_of d start ≡ leaves_of d (more_cells a.cells.items) = ap (leaves_of d) is in
    let items : (with_items v now).items ≡ now = items-with_items v now count (sym v.ok.0) in
    let within : a.len < 2 ^ d = (let p = pow-more a.depth in let q = pow_pos a.depth in omega (arith, p, q, full)) in
    let set_is : leaves_of d now ≡ set (leaves_of d (more_cells a.cells.items)) a.len cell = leaves ∙ ap (λ (xs : List ℕ). set xs a.len cell) startl in
    let room : a.len < length (leaves_of d (more_cells a.cells.items)) = (let n = length-leaves d (more_cells a.cells.items) in omega (arith, n, within)) in
    let long : length (more_cells a.cells.items) + 1 ≡ 2 ^ (d + 1) = (let n = length-append a.cells.items (replicate (length a.cells.items) 0) in let z = length-replicate {A = ℕ} (length a.cells.items) 0 in
    let l = kept.long some in let o = a.cells.ok.0 in let p = pow-more d in omega (arith, n, z, l, o, p)) in (
      record {
        depth = shallow a kept few full;
        index = subst (IsIndex d) (sym items) index;
        len = omega (arith, within);
        long = λ _. (let n = ap length (vis ∙ is) in let o = v.ok.0 in omega (arith, n, o, long));
        blank = λ k h. ap (λ (xs : List ℕ). get_or (leaves_of d xs) k 0) items ∙ blank-noted a.len (leaves_of d (more_cells a.cells.items)) (leaves_of d now) cell set_is before.1 k h;
      },
      ap (λ (xs : List ℕ). take (a.len + 1) (leaves_of d xs)) items
          ∙ take-noted a.len (leaves_of d (more_cells a.cells.items)) (leaves_of d now) cell room set_is
          ∙ ap (λ (xs : List ℕ). xs ++ cell ∷ []) before.0,
    )

pub pushed_here : (a : Inside) (now : List ℕ) (cell : ℕ) → IsKeptIndex a → 0 < a.len → a.len < 2 ^ a.depth → length now ≡ vec_len a.cells → leaves_of a.depth now ≡ set (leaves_of a.depth a.cells.items) a.len cell →
    noted (record { cells = with_items a.cells now; depth = a.depth; len = a.len + 1 }) ≡ noted a ++ cell ∷ []
pushed_here a now cell kept some within count leaves =
    let items : (with_items a.cells now).items ≡ now = items-with_items a.cells now count (sym a.cells.ok.0) in
    let room : a.len < length (leaves_of a.depth a.cells.items) = (let n = length-leaves a.depth a.cells.items in omega (arith, n, within)) in
    ap (λ (xs : List ℕ). take (a.len + 1) (leaves_of a.depth xs)) items ∙ take-noted a.len (leaves_of a.depth a.cells.items) (leaves_of a.depth now) cell room leaves

pub set_noted : (a : Inside) (now : List ℕ) (at cell : ℕ) → IsKeptIndex a → at < a.len → length now ≡ vec_len a.cells → leaves_of a.depth now ≡ set (leaves_of a.depth a.cells.items) at cell →
    noted (record { cells = with_items a.cells now; depth = a.depth; len = a.len }) ≡ set (noted a) at cell
set_noted a now at cell kept within count leaves =
    let items : (with_items a.cells now).items ≡ now = items-with_items a.cells now count (sym a.cells.ok.0) in
    ap (λ (xs : List ℕ). take a.len (leaves_of a.depth xs)) items ∙ ap (take a.len) leaves ∙ take-set-lt a.len (leaves_of a.depth a.cells.items) at cell within

-- an index of some cells has a first one
pub room_cells : (a : Inside) → IsKeptIndex a → 0 < a.len → 0 < length a.cells.items
room_cells a kept some = let l = kept.long some in let o = a.cells.ok.0 in let p = pow-more a.depth in let q = pow_pos a.depth in omega (arith, l, o, p, q)
