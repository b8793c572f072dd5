-- Which free block is chosen, and what the pool is in which it is looked for.
use Rattle.std.proofs.Common.{ℕ, suc, ◌≡◌, ◌<◌, ◌≤◌, Bool, true, false, ◌&&◌, ◌||◌, ◌==◌, if◌then◌else◌, List, [], ◌∷◌, ◌++◌, refl, sym, ap, subst, ◌∙◌, inl, inr, arith}
use Rattle.std.specs.Prelude.{nat_lt, nat_le, max}
use Rattle.std.specs.List.{list_any, list_all}
use Rattle.std.proofs.lemmas.Bool.{cases_lt, eqb-true, eq-eqb, lt-ltb, le-ltb, and_parts}
use Rattle.std.proofs.lemmas.Bool.Decides.{nat_tests}
use Rattle.std.proofs.lemmas.List.Folds.{list_any-append, list_all-append}
use Rattle.block_pool.specs.Blocks.{Area, HasOneMore}
use Rattle.block_pool.specs.Trees.{free_of, out_of}
use Rattle.block_pool.specs.Cells.{has_bit}
use Rattle.block_pool.specs.Cuts.{CutsFirst}
use Rattle.block_pool.specs.Pools.{ChunkContent, Takes, free_from, out_from, free_blocks, out_blocks, fresh_chunk, has_room, ready, shared_order}
use Rattle.block_pool.specs.KeptPool.{cells_of}
use Rattle.block_pool.proofs.ChunkLists.{any_free}

or_first : (a b : Bool) → (a || b) ≡ false → a ≡ false
or_first true b h = h
or_first false b h = refl

or_second : (a b : Bool) → (a || b) ≡ false → b ≡ false
or_second true b h = absurd (let e : ⊥ = (cc) in e)
or_second false b h = h

le_test : (m n : ℕ) → m ≤ n → nat_le m n ≡ true
le_test m n h = grind (arith, nat_tests)

le_test_no : (m n : ℕ) → n < m → nat_le m n ≡ false
le_test_no m n h = grind (arith, nat_tests)

le_test-true : (m n : ℕ) → nat_le m n ≡ true → m ≤ n
le_test-true m n h = elim (cases_lt n m) [
  | inl below ↦ let none = le_test_no m n below in absurd (let e : ⊥ = (cc) in e)
  | inr above ↦ above
]

lt_test-true : (m n : ℕ) → nat_lt m n ≡ true → m < n
lt_test-true m n h = elim (cases_lt m n) [
  | inl below ↦ below
  | inr above ↦ let none = le-ltb m n above in absurd (let e : ⊥ = (cc) in e)
]

-- the index tells of which orders there are free blocks
pub bits : (items : List ChunkContent) (index : List ℕ) (j : ℕ) → index ≡ cells_of items → j < 31 → list_any (λ c. has_bit c j) index ≡ list_any (λ (g : Area). g.order == j) (free_from 0 items)
bits items index j is small = ap (λ (xs : List ℕ). list_any (λ c. has_bit c j) xs) is ∙ any_free 0 j items small

-- where there is none of any order from one on, none is large enough
pub none_large : (order : ℕ) (xs : List Area) → list_all (λ (g : Area). nat_lt g.order 26) xs ≡ true → ((i : ℕ) → order ≤ i → i < 26 → list_any (λ (g : Area). g.order == i) xs ≡ false) →
    list_any (λ (g : Area). nat_le order g.order) xs ≡ false
none_large order [] small none = refl
none_large order (x ∷ xs) small none =
    let parts = and_parts (nat_lt x.order 26) (list_all (λ (g : Area). nat_lt g.order 26) xs) small in
    let rest = none_large order xs parts.1 (λ i a b. or_second (x.order == i) (list_any (λ (g : Area). g.order == i) xs) (none i a b)) in
    elim (cases_lt x.order order) [
      | inl below ↦ ap (λ (t : Bool). t || list_any (λ (g : Area). nat_le order g.order) xs) (le_test_no order x.order below) ∙ rest
      | inr above ↦
          let here = or_first (x.order == x.order) (list_any (λ (g : Area). g.order == x.order) xs) (none x.order above (lt_test-true x.order 26 parts.0)) in
          let same = eq-eqb x.order x.order refl in
          absurd (let e : ⊥ = (cc) in e)
    ]

-- where there is none of any order between, each that is large enough is as large as the one
pub all_as_large : (order from : ℕ) (xs : List Area) → ((i : ℕ) → order ≤ i → i < from → list_any (λ (g : Area). g.order == i) xs ≡ false) →
    list_all (λ (g : Area). nat_lt g.order order || nat_le from g.order) xs ≡ true
all_as_large order from [] none = refl
all_as_large order from (x ∷ xs) none =
    let rest = all_as_large order from xs (λ i a b. or_second (x.order == i) (list_any (λ (g : Area). g.order == i) xs) (none i a b)) in
    let here : (nat_lt x.order order || nat_le from x.order) ≡ true = elim (cases_lt x.order order) [
      | inl below ↦ ap (λ (t : Bool). t || nat_le from x.order) (lt-ltb x.order order below)
      | inr above ↦ elim (cases_lt x.order from) [
        | inl between ↦
            let no_here = or_first (x.order == x.order) (list_any (λ (g : Area). g.order == x.order) xs) (none x.order above between) in
            let same = eq-eqb x.order x.order refl in
            absurd (let e : ⊥ = (cc) in e)
        | inr large ↦ ap (λ (t : Bool). t || nat_le from x.order) (le-ltb x.order order above) ∙ le_test from x.order large
      ]
    ] in
    ap (λ (t : Bool). t && list_all (λ (g : Area). nat_lt g.order order || nat_le from g.order) xs) here ∙ rest

-- one of an order is large enough
any_large : (order from : ℕ) (xs : List Area) → order ≤ from → list_any (λ (g : Area). g.order == from) xs ≡ true → list_any (λ (g : Area). nat_le order g.order) xs ≡ true
any_large order from [] below h = h
any_large order from (x ∷ xs) below h =
    elim (x.order == from) as (λ t. (x.order == from) ≡ t → (t || list_any (λ (g : Area). g.order == from) xs) ≡ true → (nat_le order x.order || list_any (λ (g : Area). nat_le order g.order) xs) ≡ true) [
      | true ↦ λ e k. ap (λ (t : Bool). t || list_any (λ (g : Area). nat_le order g.order) xs) (le_test order x.order (let q = eqb-true x.order from e in omega arith))
      | false ↦ λ e k. or_true (nat_le order x.order) (list_any (λ (g : Area). nat_le order g.order) xs) (any_large order from xs below k)
    ] refl h
  where
    or_true : (a b : Bool) → b ≡ true → (a || b) ≡ true
    or_true true b h = refl
    or_true false b h = h

-- a block was taken from the pool in which it was looked for
taken_from : (order from : ℕ) (old : List ChunkContent) (b : Area) (new : List ChunkContent) → CutsFirst from order (ready order old) b new → order ≤ from →
    list_all (λ (g : Area). nat_lt g.order order || nat_le from g.order) (free_blocks (ready order old)) ≡ true → out_blocks (ready order old) ≡ out_blocks old → Takes order old b new
taken_from order from old b new cut below least out = record {
  chosen = cut.chosen;
  before = cut.free.before;
  after = cut.free.after;
  free_before = cut.free.old_is;
  is_chosen = record {
    large = (let e = cut.of_order in omega (arith, e));
    smallest = subst (λ (k : ℕ). list_all (λ (g : Area). nat_lt g.order order || nat_le k g.order) (cut.free.before ++ cut.chosen ∷ cut.free.after) ≡ true) (sym cut.of_order)
        (subst (λ (xs : List Area). list_all (λ (g : Area). nat_lt g.order order || nat_le from g.order) xs ≡ true) cut.free.old_is least);
    first = cut.free.first;
  };
  block = cut.block;
  free_after = cut.free.new_is;
  out = subst (λ (xs : List Area). HasOneMore b xs (out_blocks new)) out cut.out;
  shapes = cut.kept;
}

-- where a free block was large enough
pub taken_there : (order from : ℕ) (old : List ChunkContent) (b : Area) (new : List ChunkContent) → CutsFirst from order old b new → order ≤ from → list_any (λ (g : Area). g.order == from) (free_blocks old) ≡ true →
    ((i : ℕ) → order ≤ i → i < from → list_any (λ (g : Area). g.order == i) (free_blocks old) ≡ false) → Takes order old b new
taken_there order from old b new cut below has none =
    let same : ready order old ≡ old = ap (λ (t : Bool). if t then old else old ++ (fresh_chunk (max order shared_order) ∷ [])) (any_large order from (free_blocks old) below has) in
    taken_from order from old b new (subst (λ (xs : List ChunkContent). CutsFirst from order xs b new) (sym same) cut) below
    (subst (λ (xs : List ChunkContent). list_all (λ (g : Area). nat_lt g.order order || nat_le from g.order) (free_blocks xs) ≡ true) (sym same) (all_as_large order from (free_blocks old) none))
    (ap out_blocks same)

-- a free chunk more
out-fresh : (n order : ℕ) (xs : List ChunkContent) → out_from n (xs ++ fresh_chunk order ∷ []) ≡ out_from n xs
out-fresh n order [] = refl
out-fresh n order (x ∷ xs) = ap (λ (ys : List Area). out_of n x.order 0 x.tree ++ ys) (out-fresh (suc n) order xs)

pub any-fresh : (n order : ℕ) (xs : List ChunkContent) → list_any (λ (g : Area). g.order == order) (free_from n (xs ++ fresh_chunk order ∷ [])) ≡ true
any-fresh n order [] = ap (λ (t : Bool). t || false) (eq-eqb order order refl)
any-fresh n order (x ∷ xs) =
    list_any-append (λ (g : Area). g.order == order) (free_of n x.order 0 x.tree) (free_from (suc n) (xs ++ fresh_chunk order ∷ []))
    ∙ ap (λ (t : Bool). list_any (λ (g : Area). g.order == order) (free_of n x.order 0 x.tree) || t) (any-fresh (suc n) order xs) ∙ or_true' (list_any (λ (g : Area). g.order == order) (free_of n x.order 0 x.tree))
  where
    or_true' : (a : Bool) → (a || true) ≡ true
    or_true' true = refl
    or_true' false = refl

small_all : (order from : ℕ) (xs : List Area) → list_any (λ (g : Area). nat_le order g.order) xs ≡ false → list_all (λ (g : Area). nat_lt g.order order || nat_le from g.order) xs ≡ true
small_all order from [] none = refl
small_all order from (x ∷ xs) none =
    let no_here = or_first (nat_le order x.order) (list_any (λ (g : Area). nat_le order g.order) xs) none in
    let rest = small_all order from xs (or_second (nat_le order x.order) (list_any (λ (g : Area). nat_le order g.order) xs) none) in
    let small : nat_lt x.order order ≡ true = elim (cases_lt x.order order) [
      | inl below ↦ lt-ltb x.order order below
      | inr above ↦ let yes = le_test order x.order above in absurd (let e : ⊥ = (cc) in e)
    ] in
    ap (λ (t : Bool). (t || nat_le from x.order) && list_all (λ (g : Area). nat_lt g.order order || nat_le from g.order) xs) small ∙ rest

all-fresh : (p : Area → Bool) (n order : ℕ) (xs : List ChunkContent) → list_all p (free_from n xs) ≡ true → ((c : ℕ) → p (record { chunk = c; start = 0; order = order }) ≡ true) →
    list_all p (free_from n (xs ++ fresh_chunk order ∷ [])) ≡ true
all-fresh p n order [] all here = ap (λ (t : Bool). t && true) (here n)
all-fresh p n order (x ∷ xs) all here =
    let parts = and_parts (list_all p (free_of n x.order 0 x.tree)) (list_all p (free_from (suc n) xs)) (sym (list_all-append p (free_of n x.order 0 x.tree) (free_from (suc n) xs)) ∙ all) in
    list_all-append p (free_of n x.order 0 x.tree) (free_from (suc n) (xs ++ fresh_chunk order ∷ []))
    ∙ ap (λ (t : Bool). t && list_all p (free_from (suc n) (xs ++ fresh_chunk order ∷ []))) parts.0 ∙ all-fresh p (suc n) order xs parts.1 here

-- where a chunk was added
pub taken_fresh : (order from : ℕ) (old : List ChunkContent) (b : Area) (new : List ChunkContent) → from ≡ max order shared_order → order ≤ from → has_room order old ≡ false →
    CutsFirst from order (old ++ fresh_chunk from ∷ []) b new → Takes order old b new
taken_fresh order from old b new is below none cut =
    let same : ready order old ≡ old ++ fresh_chunk from ∷ [] =
    ap (λ (t : Bool). if t then old else old ++ (fresh_chunk (max order shared_order) ∷ [])) none ∙ ap (λ (k : ℕ). old ++ (fresh_chunk k ∷ [])) (sym is) in
    let each : list_all (λ (g : Area). nat_lt g.order order || nat_le from g.order) (free_blocks (old ++ fresh_chunk from ∷ [])) ≡ true =
    all-fresh (λ (g : Area). nat_lt g.order order || nat_le from g.order) 0 from old (small_all order from (free_blocks old) none)
    (λ c. ap (λ (t : Bool). nat_lt from order || t) (le_test from from (omega arith)) ∙ or_true'' (nat_lt from order)) in
    taken_from order from old b new (subst (λ (xs : List ChunkContent). CutsFirst from order xs b new) (sym same) cut) below
    (subst (λ (xs : List ChunkContent). list_all (λ (g : Area). nat_lt g.order order || nat_le from g.order) (free_blocks xs) ≡ true) (sym same) each)
    (ap out_blocks same ∙ out-fresh 0 from old)
  where
    or_true'' : (a : Bool) → (a || true) ≡ true
    or_true'' true = refl
    or_true'' false = refl
