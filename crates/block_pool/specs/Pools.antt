-- What a pool shows: its chunks, and how each is cut.
use Rattle.std.specs.Prelude.{ℕ, suc, ◌≡◌, ◌-◌, ◌≤◌, Bool, true, ◌&&◌, ◌||◌, not, ◌==◌, nat_lt, nat_le, max, if◌then◌else◌, IsTrue, Contains, List, [], ◌∷◌, ◌++◌, length, map, replicate, slice_range, slice_index_or, slice_set, take, drop}
use Rattle.std.specs.List.{list_any, list_all}
use Rattle.block_pool.specs.Blocks.{Area, len_of, area_end, are_apart, upper_halves, HasOneMore}
use Rattle.block_pool.specs.Trees.{Tree, Free, fits, free_of, out_of, is_joined}

-- the orders of the largest block, and of a chunk that several blocks share
abbrev pub order_most : ℕ
order_most = 25

abbrev pub shared_order : ℕ
shared_order = 14

-- a chunk: its order, its bytes, and how it is cut
pub record ChunkContent : Type 0 where
  pub order : ℕ
  pub bytes : List ℕ
  pub tree : Tree

-- A chunk is as long as its order says, is cut by halves, and its free halves are joined.
pub record IsChunk (x : ChunkContent) : Type 0 where
  pub within : x.order ≤ order_most
  pub long : length x.bytes ≡ len_of x.order
  pub cut : IsTrue (fits x.order x.tree)
  pub joined : IsTrue (is_joined x.tree)

-- the free blocks of chunks that are numbered from c on, chunk by chunk, and in a chunk by their starts
abbrev pub free_from : ℕ → List ChunkContent → List Area
free_from c [] = []
free_from c (x ∷ xs) = free_of c x.order 0 x.tree ++ free_from (suc c) xs

abbrev pub out_from : ℕ → List ChunkContent → List Area
out_from c [] = []
out_from c (x ∷ xs) = out_of c x.order 0 x.tree ++ out_from (suc c) xs

-- the free blocks of a pool, and those that are out of it
abbrev pub free_blocks : List ChunkContent → List Area
free_blocks pool = free_from 0 pool

abbrev pub out_blocks : List ChunkContent → List Area
out_blocks pool = out_from 0 pool

-- chunks without how they are cut
abbrev pub shapes : List ChunkContent → List (ℕ × List ℕ)
shapes pool = map (λ x. (x.order, x.bytes)) pool

-- a chunk of an order that is one free block, with zeros
abbrev pub fresh_chunk : ℕ → ChunkContent
fresh_chunk order = record { order = order; bytes = replicate (len_of order) 0; tree = Free }

-- a free block is large enough
abbrev pub has_room : ℕ → List ChunkContent → Bool
has_room order pool = list_any (λ g. nat_le order g.order) (free_blocks pool)

-- The pool in which a block of an order is looked for: where no free block is large enough, with one chunk more.
abbrev pub ready : ℕ → List ChunkContent → List ChunkContent
ready order pool = if has_room order pool then pool else pool ++ (fresh_chunk (max order shared_order) ∷ [])

-- The free block that is used for an order: of the smallest order that is large enough, and of these the first in the order of chunks and starts. `before` and `after` are the free blocks before and after it.
pub record IsChosen (order : ℕ) (f : Area) (before after : List Area) : Type 0 where
  pub large : order ≤ f.order
  pub smallest : IsTrue (list_all (λ g. nat_lt g.order order || nat_le f.order g.order) (before ++ f ∷ after))
  pub first : IsTrue (list_all (λ g. not (g.order == f.order)) before)

-- A block of an order was taken: the lowest part of the free block that is chosen, whose upper halves are free now.
pub record Takes (order : ℕ) (old : List ChunkContent) (b : Area) (new : List ChunkContent) : Type 0 where
  pub chosen : Area
  pub before : List Area
  pub after : List Area
  pub free_before : free_blocks (ready order old) ≡ before ++ chosen ∷ after
  pub is_chosen : IsChosen order chosen before after
  pub block : b ≡ record { chunk = chosen.chunk; start = chosen.start; order = order }
  pub free_after : free_blocks new ≡ before ++ (upper_halves chosen.chunk chosen.start order (chosen.order - order) ++ after)
  pub out : HasOneMore b (out_blocks old) (out_blocks new)
  pub shapes : shapes new ≡ shapes (ready order old)

-- Each block that was out is out.
abbrev pub KeepsOut : List ChunkContent → List ChunkContent → Type 0
KeepsOut old new = (a : Area) → Contains (out_blocks old) a → Contains (out_blocks new) a

-- Each block but one that was out is out.
abbrev pub KeepsOutBut : Area → List ChunkContent → List ChunkContent → Type 0
KeepsOutBut b old new = (a : Area) → Contains (out_blocks old) a → (a ≡ b → ⊥) → Contains (out_blocks new) a

-- the chunk of a number; past the last one an empty one
abbrev pub chunk_at : List ChunkContent → ℕ → ChunkContent
chunk_at pool c = slice_index_or pool c (record { order = 0; bytes = []; tree = Free })

-- the bytes of a block
abbrev pub bytes_of : List ChunkContent → Area → List ℕ
bytes_of pool b = slice_range (chunk_at pool b.chunk).bytes b.start (area_end b)

-- the bytes, where those from a place on are others; there are as many as before
abbrev pub with_part : List ℕ → ℕ → List ℕ → List ℕ
with_part bytes start part =
    let written = take start bytes ++ (part ++ drop (length part) (drop start bytes)) in
    take (length bytes) (written ++ drop (length written) bytes)

-- the pool, where the bytes of a chunk from a place on are others
abbrev pub with_bytes : List ChunkContent → ℕ → ℕ → List ℕ → List ChunkContent
with_bytes pool c start part = slice_set pool c (record (chunk_at pool c) { bytes = with_part (chunk_at pool c).bytes start part })

-- each two of the blocks are apart
abbrev pub are_all_apart : List Area → Bool
are_all_apart [] = true
are_all_apart (x ∷ xs) = list_all (are_apart x) xs && are_all_apart xs
