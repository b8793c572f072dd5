-- Logs in the blocks of a pool.
use Rattle.std.specs.Prelude.{◌≡◌, ℕ, ◌≤◌, List, [], ◌∷◌, map, All, Contains, IsTrue}
use Rattle.edge_log.specs.Contents.{LogContent, empty_content}
use Rattle.edge_log.specs.Rooms.{Block, AreApart, TakesNew}
use Rattle.block_pool.specs.Blocks.{Area, are_apart}
use Rattle.block_pool.specs.Pools.{ChunkContent, IsChunk, out_blocks, bytes_of}
use Rattle.tel_block.specs.declared.log.TelBlock.{TelBlock}
use Rattle.tel_block.specs.declared.old.OldBlock.{OldBlock}
use Rattle.tel_block.specs.Logs.{content_in, old_content_in, limit_of, spare_of, MayEnd, IsLog, IsOld}

-- a block of a pool, as a block of a room
abbrev pub block_of : Area → Block
block_of a = record { chunk = a.chunk; start = a.start; order = a.order }

abbrev pub blocks_of : List ChunkContent → List Block
blocks_of pool = map block_of (out_blocks pool)

abbrev pub footprint_of : TelBlock → List Block
footprint_of log = block_of log.block ∷ []

abbrev pub old_footprint_of : OldBlock → List Block
old_footprint_of old = block_of old.block ∷ []

abbrev pub content_of : TelBlock → List ChunkContent → LogContent
content_of log pool = content_in log (bytes_of pool log.block)

abbrev pub old_content_of : OldBlock → List ChunkContent → LogContent
old_content_of old pool = old_content_in old (bytes_of pool old.block)

-- A block is out of a pool.
pub record LiesIn (b : Area) (pool : List ChunkContent) : Type 0 where
  pub out : Contains (out_blocks pool) b
  pub whole : All IsChunk pool

-- A log stands in a pool: its block is out, and has the log's bytes.
pub record StandsIn (log : TelBlock) (pool : List ChunkContent) : Type 0 where
  pub lies : LiesIn log.block pool
  pub is_log : IsLog log (bytes_of pool log.block)

pub record OldStandsIn (old : OldBlock) (pool : List ChunkContent) : Type 0 where
  pub lies : LiesIn old.block pool
  pub is_old : IsOld old (bytes_of pool old.block)

-- Each block that is out of one pool, but this one, is out of another, with the same bytes.
abbrev pub KeepsBut : Area → List ChunkContent → List ChunkContent → Type 0
KeepsBut b old new =
    (a : Area) → LiesIn a old → IsTrue (are_apart a b) → LiesIn a new × (bytes_of new a ≡ bytes_of old a)

-- Each block that is out of one pool is out of another, with the same bytes.
abbrev pub KeepsAll : List ChunkContent → List ChunkContent → Type 0
KeepsAll old new = (a : Area) → LiesIn a old → LiesIn a new × (bytes_of new a ≡ bytes_of old a)

-- A log without entries lies in a new block with room for an entry of a size, and may grow to a limit.
pub record LogBegins (size most : ℕ) (log : TelBlock) (before after : List ChunkContent) : Type 0 where
  pub stands : StandsIn log after
  pub empty : content_of log after ≡ empty_content
  pub limit : limit_of log ≡ most
  pub has_room : size ≤ spare_of log
  pub may_end : MayEnd log
  pub taken : TakesNew (blocks_of before) (blocks_of after) (footprint_of log)
  pub keeps : KeepsAll before after

-- A log moved to a new block with room for an entry of a size, and what it was is handed out.
pub record Moves (size : ℕ) (log new : TelBlock) (out : OldBlock) (before after : List ChunkContent) : Type 0 where
  pub stands : StandsIn new after
  pub content : content_of new after ≡ content_of log before
  pub limit : limit_of new ≡ limit_of log
  pub has_room : size ≤ spare_of new
  pub may_end : MayEnd log → MayEnd new
  pub old_stands : OldStandsIn out after
  pub old_content : old_content_of out after ≡ content_of log before
  pub old_block : out.block ≡ log.block
  pub apart : AreApart (old_footprint_of out) (footprint_of new)
  pub taken : TakesNew (blocks_of before) (blocks_of after) (footprint_of new)
  pub keeps : KeepsAll before after
