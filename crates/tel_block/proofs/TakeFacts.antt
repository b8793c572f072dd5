-- What a block taken and a block given back leave of a pool.
use Rattle.std.proofs.Common.{◌≡◌, ℕ, zero, suc, ◌<◌, Bool, true, false, List, [], ◌∷◌, ◌++◌, length, map, get_or, refl, sym, ap, subst, ◌∙◌, arith, max}
use Rattle.std.specs.Prelude.{if◌then◌else◌, All, Contains, IsPermutation, slice_range}
use Rattle.std.specs.List.{list_all}
use Rattle.std.proofs.lemmas.Bool.{and_parts}
use Rattle.std.proofs.lemmas.Bool.Decides.{nat_tests}
use Rattle.std.proofs.lemmas.List.{get_or_append_left, map-append}
use Rattle.std.proofs.lemmas.Nat.{pow_pos}
use Rattle.std.proofs.lemmas.List.Folds.{list_all-append}
use Rattle.std.proofs.lemmas.List.Sums.{AllPass-from_list_all}
use Rattle.std.proofs.lemmas.List.Sorted.{IsPermutation-middle}
use Rattle.edge_log.specs.Rooms.{Block, AreApart, TakesNew}
use Rattle.edge_log.specs.Rooms as rooms
use Rattle.block_pool.specs.Blocks.{Area, area_end, are_apart, HasOneMore}
use Rattle.block_pool.specs.Pools.{ChunkContent, IsChunk, Takes, KeepsOutBut, are_all_apart, chunk_at, bytes_of, out_blocks, shapes, ready, has_room, fresh_chunk, shared_order}
use Rattle.block_pool.proofs.ApartFacts.{all_apart}
use Rattle.block_pool.proofs.OutFacts.{more_has, more_keeps}
use Rattle.block_pool.proofs.PoolSteps.{out_known}
use Rattle.tel_block.specs.Places.{block_of, blocks_of, LiesIn, KeepsBut, KeepsAll}

-- the bytes of a chunk, from the shapes
shape-at : (pool : List ChunkContent) (c : ℕ) → (chunk_at pool c).bytes ≡ (get_or (shapes pool) c (0, [])).1
shape-at [] c = refl
shape-at (x ∷ xs) zero = refl
shape-at (x ∷ xs) (suc c) = shape-at xs c

bytes-same : (old new : List ChunkContent) (a : Area) → shapes new ≡ shapes old → bytes_of new a ≡ bytes_of old a
bytes-same old new a same =
    let chunk : (chunk_at new a.chunk).bytes ≡ (chunk_at old a.chunk).bytes =
    shape-at new a.chunk ∙ ap (λ (xs : List (ℕ × List ℕ)). (get_or xs a.chunk (0, [])).1) same ∙ sym (shape-at old a.chunk) in
    ap (λ (bytes : List ℕ). slice_range bytes a.start (area_end a)) chunk

bytes-ready : (order : ℕ) (old : List ChunkContent) (a : Area) → a.chunk < length old → bytes_of (ready order old) a ≡ bytes_of old a
bytes-ready order old a within = by_room (has_room order old)
  where
    by_room : (b : Bool) → bytes_of (if b then old else old ++ (fresh_chunk (max order shared_order) ∷ [])) a ≡ bytes_of old a
    by_room true = refl
    by_room false = ap (λ (x : ChunkContent). slice_range x.bytes a.start (area_end a)) (get_or_append_left old (fresh_chunk (max order shared_order) ∷ []) _ a.chunk within)

-- a block that was taken is out, and the blocks that were out are, with their bytes
pub taken-lies : (order : ℕ) (old : List ChunkContent) (b : Area) (new : List ChunkContent) → Takes order old b new → All IsChunk new → LiesIn b new
taken-lies order old b new takes whole = record { out = more_has b (out_blocks old) (out_blocks new) takes.out; whole = whole }

pub taken-keeps : (order : ℕ) (old : List ChunkContent) (b : Area) (new : List ChunkContent) → Takes order old b new → All IsChunk new → KeepsAll old new
taken-keeps order old b new takes whole a lies = (
  record { out = more_keeps b (out_blocks old) (out_blocks new) takes.out a lies.out; whole = whole },
  bytes-same (ready order old) new a takes.shapes ∙ bytes-ready order old a (out_known old a lies.out).within,
)

are_apart-sym : (a b : Area) → are_apart a b ≡ true → are_apart b a ≡ true
are_apart-sym a b apart = grind (arith, nat_tests, apart)

-- all blocks are apart from one that stands among them
others-behind : (b : Area) (after : List Area) → list_all (are_apart b) after ≡ true → list_all (λ a. are_apart a b) after ≡ true
others-behind b [] apart = refl
others-behind b (x ∷ xs) apart =
    let both = and_parts (are_apart b x) (list_all (are_apart b) xs) apart in
    grind (arith, are_apart-sym b x both.0, others-behind b xs both.1)

others-apart : (before after : List Area) (b : Area) → are_all_apart (before ++ b ∷ after) ≡ true → list_all (λ a. are_apart a b) (before ++ after) ≡ true
others-apart [] after b apart = others-behind b after (and_parts (list_all (are_apart b) after) (are_all_apart after) apart).0
others-apart (x ∷ before) after b apart =
    let both = and_parts (list_all (are_apart x) (before ++ b ∷ after)) (are_all_apart (before ++ b ∷ after)) apart in
    let parts = and_parts (list_all (are_apart x) before) (list_all (are_apart x) (b ∷ after)) (sym (list_all-append (are_apart x) before (b ∷ after)) ∙ both.0) in
    let here = (and_parts (are_apart x b) (list_all (are_apart x) after) parts.1).0 in
    grind (arith, here, others-apart before after b both.1)

taken-others : (order : ℕ) (old : List ChunkContent) (b : Area) (new : List ChunkContent) → Takes order old b new → list_all (λ a. are_apart a b) (out_blocks old) ≡ true
taken-others order old b new takes =
    let more = takes.out in
    let all : are_all_apart (more.before ++ b ∷ more.after) ≡ true = subst (λ (xs : List Area). are_all_apart xs ≡ true) more.new_is (all_apart 0 new) in
    ap (list_all (λ a. are_apart a b)) more.old_is ∙ others-apart more.before more.after b all

pub taken-apart : (order : ℕ) (old : List ChunkContent) (b : Area) (new : List ChunkContent) → Takes order old b new → (a : Area) → Contains (out_blocks old) a → are_apart a b ≡ true
taken-apart order old b new takes a has =
    subst (λ (x : Area). are_apart x b ≡ true) has.2 (AllPass-from_list_all (λ a. are_apart a b) (out_blocks old) (taken-others order old b new takes) has.0 a has.1)

room-apart : (a b : Area) → are_apart a b ≡ true → rooms.are_apart (block_of a) (block_of b) ≡ true
room-apart a b apart = grind (arith, nat_tests, apart)

rooms-apart : (b : Area) (xs : List Area) → list_all (λ a. are_apart a b) xs ≡ true → AreApart (map block_of xs) (block_of b ∷ [])
rooms-apart b [] apart = refl
rooms-apart b (x ∷ xs) apart =
    let both = and_parts (are_apart x b) (list_all (λ a. are_apart a b) xs) apart in
    grind (arith, room-apart x b both.0, rooms-apart b xs both.1)

-- one block more, among the blocks of a room
more-blocks : (b : Area) (old new : List Area) → HasOneMore b old new → IsPermutation (map block_of new) (block_of b ∷ map block_of old)
more-blocks b old new more =
    let front : map block_of new ≡ map block_of more.before ++ block_of b ∷ map block_of more.after = ap (map block_of) more.new_is ∙ map-append block_of more.before (b ∷ more.after) in
    let back : map block_of old ≡ map block_of more.before ++ map block_of more.after = ap (map block_of) more.old_is ∙ map-append block_of more.before more.after in
    subst (λ (xs : List Block). IsPermutation xs (block_of b ∷ map block_of old)) (sym front)
    (subst (λ (xs : List Block). IsPermutation (map block_of more.before ++ block_of b ∷ map block_of more.after) (block_of b ∷ xs)) (sym back)
    (IsPermutation-middle (map block_of more.before) (block_of b) (map block_of more.after)))

pub taken-new : (order : ℕ) (old : List ChunkContent) (b : Area) (new : List ChunkContent) → Takes order old b new → TakesNew (blocks_of old) (blocks_of new) (block_of b ∷ [])
taken-new order old b new takes = record {
  apart = rooms-apart b (out_blocks old) (taken-others order old b new takes);
  out = more-blocks b (out_blocks old) (out_blocks new) takes.out;
}

-- a new block is written, and the others keep what they had
pub fresh-keeps : (order : ℕ) (old : List ChunkContent) (b : Area) (mid new : List ChunkContent) → Takes order old b mid → All IsChunk mid → KeepsBut b mid new → KeepsAll old new
fresh-keeps order old b mid new takes whole keeps a lies =
    let first = taken-keeps order old b mid takes whole a lies in
    let second = keeps a first.0 (taken-apart order old b mid takes a lies.out) in
    (second.0, second.1 ∙ first.1)

-- a block is not apart from itself
not-own : (b : Area) → are_apart b b ≡ true → ⊥
not-own b apart =
    let long = pow_pos b.order in
    grind (arith, nat_tests, apart, long)

pub given-keeps : (b : Area) (old new : List ChunkContent) → KeepsOutBut b old new → shapes new ≡ shapes old → All IsChunk new → KeepsBut b old new
given-keeps b old new keeps same whole a lies apart = (
  record { out = keeps a lies.out (λ is. not-own b (subst (λ (x : Area). are_apart x b ≡ true) is apart)); whole = whole },
  bytes-same old new a same,
)

pub given-blocks : (b : Area) (old new : List ChunkContent) → HasOneMore b (out_blocks new) (out_blocks old) → IsPermutation (blocks_of old) (block_of b ∷ blocks_of new)
given-blocks b old new more = more-blocks b (out_blocks new) (out_blocks old) more
