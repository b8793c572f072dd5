-- The steps of taking from a pool and of giving back to it.
use Rattle.std.proofs.Common.{ℕ, zero, suc, ◌≡◌, ◌+◌, ◌-◌, ◌*◌, ◌/◌, ◌^◌, ◌<◌, ◌≤◌, Bool, true, false, ◌&&◌, if◌then◌else◌, List, [], ◌∷◌, ◌++◌, length, take, drop, get_or, refl, sym, ap, subst, ◌∙◌, inl, inr, arith}
use Rattle.std.specs.Prelude.{nat_lt, Contains, All}
use Rattle.std.proofs.Math.ListN.{set}
use Rattle.std.proofs.lemmas.Bool.{cases_lt, eq-eqb, lt-ltb, le-ltb}
use Rattle.std.proofs.lemmas.List.{set-get_or, length-take, length-drop, length-append}
use Rattle.std.proofs.lemmas.List.Elements.{Contains-append_cases}
use Rattle.std.proofs.lemmas.Nat.{pow_pos}
use Rattle.std.proofs.Math.Pow.{pow_mono}
use Rattle.block_pool.specs.Blocks.{Area, len_of, area_end, HasOneMore}
use Rattle.block_pool.specs.Trees.{Tree, Free, Out, Split, free_of, out_of}
use Rattle.block_pool.specs.Cells.{has_bit, cell_of, has_free, first_unit, taken, is_out_at, given}
use Rattle.block_pool.specs.Cuts.{IsCut, CutsFirst}
use Rattle.block_pool.specs.Pools.{ChunkContent, IsChunk, out_from, shapes, with_part}
use Rattle.block_pool.specs.KeptPool.{cells_of}
use Rattle.block_pool.proofs.Bits.{has_bit-cell}
use Rattle.block_pool.proofs.Halves.{pow-suc2}
use Rattle.block_pool.proofs.TreeLists.{area, free_of-taken, out_of-taken, out_of-given}
use Rattle.block_pool.proofs.ChunkLists.{free_from-set, out_from-more, out_from-less, shapes-set, cell-at, cells-set}

-- the bit of a chunk in the index
pub has_at : (items : List ChunkContent) (index : List ℕ) (k from : ℕ) (d : ChunkContent) (b : Bool) → index ≡ cells_of items → k < length items → from < 31 → has_bit (get_or index k 0) from ≡ b →
    has_free (get_or items k d).order from (get_or items k d).tree ≡ b
has_at items index k from d b is within small bit =
    sym (has_bit-cell (get_or items k d).order from (get_or items k d).tree small)
    ∙ ap (λ (n : ℕ). has_bit n from) (sym (cell-at k items d within)) ∙ ap (λ (xs : List ℕ). has_bit (get_or xs k 0) from) (sym is) ∙ bit

-- taken from the first chunk with a free block of the order
pub cut_done : (items : List ChunkContent) (k from order unit : ℕ) (d x : ChunkContent) → k < length items → order ≤ from → d ≡ get_or items k d → has_free d.order from d.tree ≡ true →
    ((j : ℕ) → j < k → has_free (get_or items j d).order from (get_or items j d).tree ≡ false) →
    x ≡ record { order = d.order; bytes = d.bytes; tree = taken d.order from order d.tree } → unit ≡ first_unit d.order from d.tree →
    CutsFirst from order items (record { chunk = k; start = 64 * unit; order = order }) (set items k x)
cut_done items k from order unit d x within below is has before xis uis =
    let start : ℕ = 64 * first_unit d.order from d.tree in
    let chunk : 0 + k ≡ k = omega arith in
    let at : 0 + start ≡ start = omega arith in
    let free : IsCut (area k start from) order (free_of (0 + k) d.order 0 d.tree) (free_of (0 + k) x.order 0 x.tree) =
    subst (λ (y : ChunkContent). IsCut (area k start from) order (free_of (0 + k) d.order 0 d.tree) (free_of (0 + k) y.order 0 y.tree)) (sym xis)
    (subst (λ (n : ℕ). IsCut (area n start from) order (free_of (0 + k) d.order 0 d.tree) (free_of (0 + k) d.order 0 (taken d.order from order d.tree))) chunk
    (subst (λ (n : ℕ). IsCut (area (0 + k) n from) order (free_of (0 + k) d.order 0 d.tree) (free_of (0 + k) d.order 0 (taken d.order from order d.tree))) at
    (free_of-taken d.order from order (0 + k) 0 d.tree below has))) in
    let out : HasOneMore (area k start order) (out_of (0 + k) d.order 0 d.tree) (out_of (0 + k) x.order 0 x.tree) =
    subst (λ (y : ChunkContent). HasOneMore (area k start order) (out_of (0 + k) d.order 0 d.tree) (out_of (0 + k) y.order 0 y.tree)) (sym xis)
    (subst (λ (n : ℕ). HasOneMore (area n start order) (out_of (0 + k) d.order 0 d.tree) (out_of (0 + k) d.order 0 (taken d.order from order d.tree))) chunk
    (subst (λ (n : ℕ). HasOneMore (area (0 + k) n order) (out_of (0 + k) d.order 0 d.tree) (out_of (0 + k) d.order 0 (taken d.order from order d.tree))) at
    (out_of-taken d.order from order (0 + k) 0 d.tree below has))) in
    let name : area k start order ≡ record { chunk = k; start = 64 * unit; order = order } = ap (λ (n : ℕ). area k (64 * n) order) (sym uis) in
    record {
      chosen = area k start from;
      of_order = refl;
      free = free_from-set (area k start from) order 0 k items d x within before (subst (λ (y : ChunkContent). IsCut (area k start from) order (free_of (0 + k) y.order 0 y.tree) (free_of (0 + k) x.order 0 x.tree)) is free);
      block = sym name;
      out = subst (λ (b : Area). HasOneMore b (out_from 0 items) (out_from 0 (set items k x))) name
          (out_from-more (area k start order) 0 k items d x within (subst (λ (y : ChunkContent). HasOneMore (area k start order) (out_of (0 + k) y.order 0 y.tree) (out_of (0 + k) x.order 0 x.tree)) is out));
      kept = shapes-set k items d x (ap (λ (y : ChunkContent). y.order) xis ∙ ap (λ (y : ChunkContent). y.order) is) (ap (λ (y : ChunkContent). y.bytes) xis ∙ ap (λ (y : ChunkContent). y.bytes) is);
    }

-- given back to its chunk
pub give_done : (items : List ChunkContent) (k order unit : ℕ) (d x : ChunkContent) → k < length items → d ≡ get_or items k d → is_out_at d.order order unit d.tree ≡ true →
    x ≡ record { order = d.order; bytes = d.bytes; tree = given d.order order unit d.tree } →
    HasOneMore (area k (64 * unit) order) (out_from 0 (set items k x)) (out_from 0 items) × (shapes (set items k x) ≡ shapes items)
give_done items k order unit d x within is out xis =
    let chunk : 0 + k ≡ k = omega arith in
    let at : 0 + 64 * unit ≡ 64 * unit = omega arith in
    let more : HasOneMore (area k (64 * unit) order) (out_of (0 + k) x.order 0 x.tree) (out_of (0 + k) d.order 0 d.tree) =
    subst (λ (y : ChunkContent). HasOneMore (area k (64 * unit) order) (out_of (0 + k) y.order 0 y.tree) (out_of (0 + k) d.order 0 d.tree)) (sym xis)
    (subst (λ (n : ℕ). HasOneMore (area n (64 * unit) order) (out_of (0 + k) d.order 0 (given d.order order unit d.tree)) (out_of (0 + k) d.order 0 d.tree)) chunk
    (subst (λ (n : ℕ). HasOneMore (area (0 + k) n order) (out_of (0 + k) d.order 0 (given d.order order unit d.tree)) (out_of (0 + k) d.order 0 d.tree)) at
    (out_of-given d.order order unit (0 + k) 0 d.tree out))) in (
      out_from-less (area k (64 * unit) order) 0 k items d x within (subst (λ (y : ChunkContent). HasOneMore (area k (64 * unit) order) (out_of (0 + k) x.order 0 x.tree) (out_of (0 + k) y.order 0 y.tree)) is more),
      shapes-set k items d x (ap (λ (y : ChunkContent). y.order) xis ∙ ap (λ (y : ChunkContent). y.order) is) (ap (λ (y : ChunkContent). y.bytes) xis ∙ ap (λ (y : ChunkContent). y.bytes) is),
    )

-- A block that is out of a part: where it is.
pub record IsFound (o c s : ℕ) (t : Tree) (b : Area) : Type 0 where
  pub unit : ℕ
  pub start : b.start ≡ s + 64 * unit
  pub room : unit + 2 ^ b.order ≤ 2 ^ o
  pub out : is_out_at o b.order unit t ≡ true
  pub chunk : b.chunk ≡ c

pub found_in : (o c s : ℕ) (t : Tree) (b : Area) → Contains (out_of c o s t) b → IsFound o c s t b
found_in o c s Free b has = absurd (omega (arith, has.1))
found_in o c s Out b has =
    let first : has.0 ≡ 0 = (let h = has.1 in omega (arith, h)) in
    let e : area c s o ≡ b = subst (λ (k : ℕ). get_or (area c s o ∷ []) k b ≡ b) first has.2 in
    record {
      unit = 0;
      start = ap (λ (a : Area). a.start) (sym e) ∙ omega arith;
      room = (let q = ap (λ (a : Area). 2 ^ a.order) e in omega (arith, q));
      out = ap (λ (t : Bool). t && true) (eq-eqb o b.order (ap (λ (a : Area). a.order) e));
      chunk = ap (λ (a : Area). a.chunk) (sym e);
    }
found_in zero c s (Split l u) b has = absurd (omega (arith, has.1))
found_in (suc o) c s (Split l u) b has = elim (Contains-append_cases (out_of c o s l) (out_of c o (s + len_of o) u) b has) [
  | inl h ↦
      let f = found_in o c s l b h in
      let p = pow-suc2 o in
      let q = pow_pos b.order in
      let test : nat_lt f.unit (2 ^ o) ≡ true = lt-ltb f.unit (2 ^ o) (omega (arith, q, f.room)) in
      record {
        unit = f.unit;
        start = f.start;
        room = omega (arith, p, f.room);
        out = ap (λ (t : Bool). if t then is_out_at o b.order f.unit l else is_out_at o b.order (f.unit - 2 ^ o) u) test ∙ f.out;
        chunk = f.chunk;
      }
  | inr h ↦
      let f = found_in o c (s + len_of o) u b h in
      let p = pow-suc2 o in
      let test : nat_lt (2 ^ o + f.unit) (2 ^ o) ≡ false = le-ltb (2 ^ o + f.unit) (2 ^ o) (omega arith) in
      let e : 2 ^ o + f.unit - 2 ^ o ≡ f.unit = omega arith in
      record {
        unit = 2 ^ o + f.unit;
        start = f.start ∙ omega arith;
        room = omega (arith, p, f.room);
        out = ap (λ (t : Bool). if t then is_out_at o b.order (2 ^ o + f.unit) l else is_out_at o b.order (2 ^ o + f.unit - 2 ^ o) u) test ∙ ap (λ (k : ℕ). is_out_at o b.order k u) e ∙ f.out;
        chunk = f.chunk;
      }
]

-- A block that is out of a pool: in which chunk, and where there.
pub record IsFoundAmong (n : ℕ) (xs : List ChunkContent) (b : Area) : Type 0 where
  pub place : ℕ
  pub within : place < length xs
  pub chunk : b.chunk ≡ n + place
  pub found : (d : ChunkContent) → IsFound (get_or xs place d).order (n + place) 0 (get_or xs place d).tree b

pub found_among : (n : ℕ) (xs : List ChunkContent) (b : Area) → Contains (out_from n xs) b → IsFoundAmong n xs b
found_among n [] b has = absurd (omega (arith, has.1))
found_among n (x ∷ xs) b has = elim (Contains-append_cases (out_of n x.order 0 x.tree) (out_from (suc n) xs) b has) [
  | inl h ↦
      let f = found_in x.order n 0 x.tree b h in
      let e : n ≡ n + 0 = omega arith in
      record {
        place = 0;
        within = omega arith;
        chunk = f.chunk ∙ e;
        found = λ d. subst (λ (m : ℕ). IsFound x.order m 0 x.tree b) e f;
      }
  | inr h ↦
      let f = found_among (suc n) xs b h in
      let e : suc n + f.place ≡ n + suc f.place = omega arith in
      record {
        place = suc f.place;
        within = (let w = f.within in omega (arith, w));
        chunk = f.chunk ∙ e;
        found = λ d. subst (λ (m : ℕ). IsFound (get_or xs f.place d).order m 0 (get_or xs f.place d).tree b) e (f.found d);
      }
]

units : (u : ℕ) → (0 + 64 * u) / 64 ≡ u
units u = omega arith

-- what is known of a block that is out of a pool
pub record IsOut (items : List ChunkContent) (b : Area) : Type 0 where
  pub within : b.chunk < length items
  pub out : (d : ChunkContent) → is_out_at (get_or items b.chunk d).order b.order (b.start / 64) (get_or items b.chunk d).tree ≡ true
  pub start : b.start ≡ 64 * (b.start / 64)
  pub room : (d : ChunkContent) → b.start + len_of b.order ≤ len_of (get_or items b.chunk d).order

pub out_known : (items : List ChunkContent) (b : Area) → Contains (out_from 0 items) b → IsOut items b
out_known items b has =
    let f = found_among 0 items b has in
    let none : ChunkContent = record { order = 0; bytes = []; tree = Free } in
    let chunk : f.place ≡ b.chunk = (let c = f.chunk in omega (arith, c)) in
    let at : (d : ChunkContent) → b.start / 64 ≡ (f.found d).unit = λ d. ap (λ (n : ℕ). n / 64) ((f.found d).start) ∙ units (f.found d).unit in
    record {
      within = (let w = f.within in omega (arith, w, chunk));
      out = λ d. subst (λ (k : ℕ). is_out_at (get_or items k d).order b.order (b.start / 64) (get_or items k d).tree ≡ true) chunk
          (ap (λ (n : ℕ). is_out_at (get_or items f.place d).order b.order n (get_or items f.place d).tree) (at d) ∙ (f.found d).out);
      start = (let s = (f.found none).start in let a = at none in omega (arith, s, a));
      room = λ d. subst (λ (k : ℕ). b.start + len_of b.order ≤ len_of (get_or items k d).order) chunk (let s = (f.found d).start in let r = (f.found d).room in omega (arith, s, r));
    }

-- the block as its parts were read
pub out_at : (items : List ChunkContent) (b : Area) (k order start : ℕ) (d : ChunkContent) → IsOut items b → k ≡ b.chunk → order ≡ b.order → start ≡ b.start → d ≡ get_or items k d →
    is_out_at d.order order (start / 64) d.tree ≡ true
out_at items b k order start d known ek eo es is =
    subst (λ (x : ChunkContent). is_out_at x.order order (start / 64) x.tree ≡ true) (sym is)
    (ap (λ (n : ℕ). is_out_at (get_or items n d).order order (start / 64) (get_or items n d).tree) ek
    ∙ ap (λ (n : ℕ). is_out_at (get_or items b.chunk d).order n (start / 64) (get_or items b.chunk d).tree) eo
    ∙ ap (λ (n : ℕ). is_out_at (get_or items b.chunk d).order b.order (n / 64) (get_or items b.chunk d).tree) es
    ∙ known.out d)

pub give_named : (items : List ChunkContent) (b : Area) (k order start : ℕ) (d x : ChunkContent) → IsOut items b → k ≡ b.chunk → order ≡ b.order → start ≡ b.start → d ≡ get_or items k d →
    x ≡ record { order = d.order; bytes = d.bytes; tree = given d.order order (start / 64) d.tree } →
    HasOneMore b (out_from 0 (set items k x)) (out_from 0 items) × (shapes (set items k x) ≡ shapes items)
give_named items b k order start d x known ek eo es is xis =
    let within : k < length items = (let w = known.within in omega (arith, w, ek)) in
    let done = give_done items k order (start / 64) d x within is (out_at items b k order start d known ek eo es is) xis in
    let at : 64 * (start / 64) ≡ b.start = ap (λ (n : ℕ). 64 * (n / 64)) es ∙ sym known.start in
    let name : area k (64 * (start / 64)) order ≡ b = ap (λ (n : ℕ). area k n order) at ∙ ap (λ (n : ℕ). area n b.start order) ek ∙ ap (λ (n : ℕ). area b.chunk b.start n) eo in
    (subst (λ (a : Area). HasOneMore a (out_from 0 (set items k x)) (out_from 0 items)) name done.0, done.1)

-- a block that is out lies in its chunk
pub fits_in : (items : List ChunkContent) (b : Area) → All IsChunk items → IsOut items b → (b.order < 64) × ((area_end b ≤ 64 * 2 ^ 25) × ((d : ChunkContent) → area_end b ≤ length (get_or items b.chunk d).bytes))
fits_in items b all known =
    let none : ChunkContent = record { order = 0; bytes = []; tree = Free } in
    let small : (get_or items b.chunk none).order ≤ 25 = (all b.chunk none known.within).within in
    let p : 2 ^ (get_or items b.chunk none).order ≤ 2 ^ 25 = pow_mono small in
    let room = known.room none in
    let few : b.order < 64 = elim (cases_lt b.order 64) [
      | inl below ↦ below
      | inr above ↦ let q : 2 ^ 64 ≤ 2 ^ b.order = pow_mono above in absurd (omega (arith, p, q, room))
    ] in
    (few, (omega (arith, p, room), λ d. (let r = known.room d in let l = (all b.chunk d known.within).long in omega (arith, r, l))))

pub known_fits : (items now : List ChunkContent) (b : Area) → items ≡ now → All IsChunk items → Contains (out_from 0 now) b →
    (b.chunk < length now) × ((b.order < 64) × ((area_end b ≤ 64 * 2 ^ 25) × ((d : ChunkContent) → area_end b ≤ length (get_or now b.chunk d).bytes)))
known_fits items now b is all has =
    let all' : All IsChunk now = subst (λ (xs : List ChunkContent). All IsChunk xs) is all in
    let known = out_known now b has in
    (known.within, fits_in now b all' known)

-- an element, whatever stands for none
pub at-any : (xs : List ChunkContent) (k : ℕ) (d e : ChunkContent) → k < length xs → get_or xs k d ≡ get_or xs k e
at-any [] k d e within = absurd (omega arith)
at-any (x ∷ xs) zero d e within = refl
at-any (x ∷ xs) (suc k) d e within = at-any xs k d e (omega arith)

-- bytes that were written are as many as before
pub length-with_part : (bytes : List ℕ) (start : ℕ) (part : List ℕ) → length (with_part bytes start part) ≡ length bytes
length-with_part bytes start part =
    let written : List ℕ = take start bytes ++ (part ++ drop (length part) (drop start bytes)) in
    let a = length-take (length bytes) (written ++ drop (length written) bytes) in
    let b = length-append written (drop (length written) bytes) in
    let c = length-drop (length written) bytes in
    omega (arith, a, b, c)

-- the index stays where only bytes of a chunk were written
pub cells-written : (k : ℕ) (items : List ChunkContent) (d x : ChunkContent) → k < length items → x.order ≡ (get_or items k d).order → x.tree ≡ (get_or items k d).tree → cells_of (set items k x) ≡ cells_of items
cells-written k items d x within o t =
    cells-set k items x ∙ ap (λ (n : ℕ). set (cells_of items) k n) (ap (λ (n : ℕ). cell_of n x.tree) o ∙ ap (cell_of (get_or items k d).order) t ∙ sym (cell-at k items d within))
    ∙ set-get_or (cells_of items) k 0
