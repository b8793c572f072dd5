-- What a write to one block leaves of a pool.
use Rattle.std.proofs.Common.{ℕ, zero, suc, ◌≡◌, ◌+◌, ◌-◌, ◌≤◌, true, false, List, [], ◌∷◌, ◌++◌, length, take, drop, get_or, refl, sym, ap, ◌∙◌, inl, inr, arith, append_assoc, append-nil, drop-drop, length-drop, length-append}
use Rattle.std.specs.Prelude.{nat_le, Contains, All, slice_range}
use Rattle.std.proofs.Math.ListN.{set}
use Rattle.std.proofs.Math.Seq.{take-append_seam, drop-append-add}
use Rattle.std.proofs.lemmas.Bool.{cases_eq, eq-eqb}
use Rattle.std.proofs.lemmas.Bool.Decides.{nat_tests}
use Rattle.std.proofs.lemmas.List.{length-take, take-append-drop, take-append-le, drop-append-le, take_all, nil_from_length, get_or-set_same, get_or-set_other}
use Rattle.block_pool.specs.Blocks.{Area, len_of, area_end, are_apart}
use Rattle.block_pool.specs.Trees.{Free, free_of, out_of}
use Rattle.block_pool.specs.Pools.{ChunkContent, IsChunk, free_from, out_from, bytes_of, chunk_at, with_bytes, with_part}
use Rattle.block_pool.proofs.PoolSteps.{fits_in, out_known}

abbrev pub none : ChunkContent
none = record { order = 0; bytes = []; tree = Free }

-- a write that fits is the bytes before, those written, and the bytes behind
pub with_part-fits : (bytes : List ℕ) (start : ℕ) (part : List ℕ) → start + length part ≤ length bytes → with_part bytes start part ≡ take start bytes ++ (part ++ drop (start + length part) bytes)
with_part-fits bytes start part fits =
    let written : List ℕ = take start bytes ++ (part ++ drop (length part) (drop start bytes)) in
    let a = length-append (take start bytes) (part ++ drop (length part) (drop start bytes)) in
    let b = length-append part (drop (length part) (drop start bytes)) in
    let c = length-take start bytes in
    let d = length-drop (length part) (drop start bytes) in
    let e = length-drop start bytes in
    let long : length written ≡ length bytes = omega (arith, a, b, c, d, e) in
    let rest : drop (length written) bytes ≡ [] = nil_from_length (drop (length written) bytes) (let h = length-drop (length written) bytes in omega (arith, h, long)) in
    ap (λ (r : List ℕ). take (length bytes) (written ++ r)) rest ∙ ap (take (length bytes)) (append-nil written) ∙ take_all (length bytes) written (omega (arith, long))
    ∙ ap (λ (r : List ℕ). take start bytes ++ (part ++ r)) (drop-drop (length part) start bytes)

-- a range in the front
pub range-front : (front rest : List ℕ) (x y : ℕ) → x ≤ y → y ≤ length front → slice_range (front ++ rest) x y ≡ take (y - x) (drop x front)
range-front front rest x y order within =
    ap (take (y - x)) (drop-append-le x front rest (omega arith)) ∙ take-append-le (y - x) (drop x front) rest (let h = length-drop x front in omega (arith, h))

-- a range behind the front
range-behind : (front rest : List ℕ) (x y n : ℕ) → n ≡ length front → n ≤ x → slice_range (front ++ rest) x y ≡ take (y - x) (drop (x - n) rest)
range-behind front rest x y n e after =
    let s : x ≡ length front + (x - n) = omega arith in
    ap (take (y - x)) (ap (λ (k : ℕ). drop k (front ++ rest)) s ∙ drop-append-add front rest (x - n))

below : (bytes part : List ℕ) (start x y : ℕ) → start + length part ≤ length bytes → x ≤ y → y ≤ start → slice_range (with_part bytes start part) x y ≡ slice_range bytes x y
below bytes part start x y fits order before =
    let n : length (take start bytes) ≡ start = (let h = length-take start bytes in omega (arith, h)) in
    ap (λ (r : List ℕ). slice_range r x y) (with_part-fits bytes start part fits)
    ∙ range-front (take start bytes) (part ++ drop (start + length part) bytes) x y order (omega (arith, n))
    ∙ sym (range-front (take start bytes) (drop start bytes) x y order (omega (arith, n)))
    ∙ ap (λ (r : List ℕ). slice_range r x y) (take-append-drop start bytes)

above : (bytes part : List ℕ) (start x y : ℕ) → start + length part ≤ length bytes → start + length part ≤ x → slice_range (with_part bytes start part) x y ≡ slice_range bytes x y
above bytes part start x y fits after =
    let e : ℕ = start + length part in
    let front : List ℕ = take start bytes ++ part in
    let n : e ≡ length front = (let h = length-take start bytes in let g = length-append (take start bytes) part in omega (arith, h, g)) in
    let m : e ≡ length (take e bytes) = (let h = length-take e bytes in omega (arith, h)) in
    ap (λ (r : List ℕ). slice_range r x y) (with_part-fits bytes start part fits ∙ sym (append_assoc (take start bytes) part (drop e bytes)))
    ∙ range-behind front (drop e bytes) x y e n after
    ∙ sym (range-behind (take e bytes) (drop e bytes) x y e m after)
    ∙ ap (λ (r : List ℕ). slice_range r x y) (take-append-drop e bytes)

there : (bytes part : List ℕ) (start : ℕ) → start + length part ≤ length bytes → slice_range (with_part bytes start part) start (start + length part) ≡ part
there bytes part start fits =
    let n : start ≡ length (take start bytes) = (let h = length-take start bytes in omega (arith, h)) in
    let z : start - start ≡ 0 = omega arith in
    let k : start + length part - start ≡ length part = omega arith in
    ap (λ (r : List ℕ). slice_range r start (start + length part)) (with_part-fits bytes start part fits)
    ∙ range-behind (take start bytes) (part ++ drop (start + length part) bytes) start (start + length part) start n (omega arith)
    ∙ ap (λ (j : ℕ). take (start + length part - start) (drop j (part ++ drop (start + length part) bytes))) z
    ∙ ap (λ (j : ℕ). take j (part ++ drop (start + length part) bytes)) k
    ∙ take-append_seam part (drop (start + length part) bytes)

pub written_there : (pool : List ChunkContent) (b : Area) (part : List ℕ) → All IsChunk pool → Contains (out_from 0 pool) b → length part ≡ len_of b.order → bytes_of (with_bytes pool b.chunk b.start part) b ≡ part
written_there pool b part all out long =
    let known = out_known pool b out in
    let fits = (fits_in pool b all known).1.1 none in
    let room : b.start + length part ≤ length (chunk_at pool b.chunk).bytes = omega (arith, fits, long) in
    let to : area_end b ≡ b.start + length part = omega (arith, long) in
    ap (λ (x : ChunkContent). slice_range x.bytes b.start (area_end b)) (get_or-set_same pool b.chunk (record (chunk_at pool b.chunk) { bytes = with_part (chunk_at pool b.chunk).bytes b.start part }) none known.within)
    ∙ ap (λ (k : ℕ). slice_range (with_part (chunk_at pool b.chunk).bytes b.start part) b.start k) to
    ∙ there (chunk_at pool b.chunk).bytes part b.start room

apart_cases : (a b : Area) → are_apart a b ≡ true → a.chunk ≡ b.chunk → nat_le (area_end b) a.start ≡ false → area_end a ≤ b.start
apart_cases a b apart same after =
    let e = eq-eqb a.chunk b.chunk same in grind (arith, nat_tests)

apart_after : (a b : Area) → nat_le (area_end b) a.start ≡ true → area_end b ≤ a.start
apart_after a b h = grind (arith, nat_tests)

pub written_apart : (pool : List ChunkContent) (a b : Area) (part : List ℕ) → All IsChunk pool → Contains (out_from 0 pool) b → length part ≡ len_of b.order → are_apart a b ≡ true →
    bytes_of (with_bytes pool b.chunk b.start part) a ≡ bytes_of pool a
written_apart pool a b part all out long apart =
    let x : ChunkContent = record (chunk_at pool b.chunk) { bytes = with_part (chunk_at pool b.chunk).bytes b.start part } in
    elim (cases_eq a.chunk b.chunk) [
      | inr other ↦ ap (λ (y : ChunkContent). slice_range y.bytes a.start (area_end a)) (get_or-set_other pool b.chunk a.chunk x none other)
      | inl same ↦
          let known = out_known pool b out in
          let fits = (fits_in pool b all known).1.1 none in
          let room : b.start + length part ≤ length (chunk_at pool b.chunk).bytes = omega (arith, fits, long) in
          let here : get_or (set pool b.chunk x) a.chunk none ≡ x = ap (λ (k : ℕ). get_or (set pool b.chunk x) k none) same ∙ get_or-set_same pool b.chunk x none known.within in
          let was : (chunk_at pool a.chunk).bytes ≡ (chunk_at pool b.chunk).bytes = ap (λ (k : ℕ). (chunk_at pool k).bytes) same in
          let kept : slice_range x.bytes a.start (area_end a) ≡ slice_range (chunk_at pool b.chunk).bytes a.start (area_end a) =
          elim (nat_le (area_end b) a.start) as (λ t. nat_le (area_end b) a.start ≡ t → slice_range x.bytes a.start (area_end a) ≡ slice_range (chunk_at pool b.chunk).bytes a.start (area_end a)) [
            | true ↦ λ h. let after = apart_after a b h in above (chunk_at pool b.chunk).bytes part b.start a.start (area_end a) room (omega (arith, after, long))
            | false ↦ λ h. below (chunk_at pool b.chunk).bytes part b.start a.start (area_end a) room (omega arith) (apart_cases a b apart same h)
          ] refl in
          ap (λ (y : ChunkContent). slice_range y.bytes a.start (area_end a)) here ∙ kept ∙ ap (λ (r : List ℕ). slice_range r a.start (area_end a)) (sym was)
    ]

pub out-written : (n c : ℕ) (pool : List ChunkContent) (bytes : List ℕ) → out_from n (set pool c (record (get_or pool c none) { bytes = bytes })) ≡ out_from n pool
out-written n c [] bytes = refl
out-written n zero (x ∷ xs) bytes = refl
out-written n (suc c) (x ∷ xs) bytes = ap (λ (ys : List Area). out_of n x.order 0 x.tree ++ ys) (out-written (suc n) c xs bytes)

pub free-written : (n c : ℕ) (pool : List ChunkContent) (bytes : List ℕ) → free_from n (set pool c (record (get_or pool c none) { bytes = bytes })) ≡ free_from n pool
free-written n c [] bytes = refl
free-written n zero (x ∷ xs) bytes = refl
free-written n (suc c) (x ∷ xs) bytes = ap (λ (ys : List Area). free_of n x.order 0 x.tree ++ ys) (free-written (suc n) c xs bytes)

-- a range in the first bytes is one of all
pub range-first : (bytes : List ℕ) (n x y : ℕ) → x ≤ y → y ≤ n → n ≤ length bytes → slice_range (take n bytes) x y ≡ slice_range bytes x y
range-first bytes n x y order within fits =
    let long : length (take n bytes) ≡ n = (let h = length-take n bytes in omega (arith, h)) in
    sym (ap (λ (r : List ℕ). slice_range r x y) (sym (take-append-drop n bytes)) ∙ range-front (take n bytes) (drop n bytes) x y order (omega (arith, long)))
