-- What a write, a block taken and a block given back leave of the blocks that are out of a pool.
use Rattle.std.proofs.Common.{◌≡◌, ℕ, ◌<◌, true, List, [], ◌∷◌, length, map, refl, sym, ap, subst, ◌∙◌, arith}
use Rattle.std.specs.Prelude.{All, Contains}
use Rattle.std.proofs.lemmas.Bool.Decides.{nat_tests}
use Rattle.std.proofs.lemmas.List.Elements.{All-set}
use Rattle.edge_log.specs.Rooms.{Block, AreApart, KeepsLogs, KeepsOlds}
use Rattle.edge_log.proofs.BlockLemmas.{apart_at}
use Rattle.block_pool.specs.Blocks.{Area, len_of, area_end, are_apart}
use Rattle.block_pool.specs.Pools.{ChunkContent, IsChunk, chunk_at, with_part, with_bytes, bytes_of, out_blocks}
use Rattle.block_pool.proofs.PoolSteps.{out_known, fits_in, length-with_part}
use Rattle.block_pool.proofs.TransferFacts.{range-long}
use Rattle.block_pool.proofs.WriteFacts.{none}
use Rattle.block_pool.proofs.WriteFacts.{written_there, written_apart, out-written}
use Rattle.tel_block.specs.declared.log.TelBlock.{TelBlock}
use Rattle.tel_block.specs.declared.old.OldBlock.{OldBlock}
use Rattle.tel_block.specs.Logs.{spare_of, IsLog, content_in, IsOld, old_content_in}
use Rattle.tel_block.specs.Places.{block_of, blocks_of, footprint_of, old_footprint_of, content_of, old_content_of, LiesIn, StandsIn, OldStandsIn, KeepsBut, KeepsAll}

-- a write leaves the chunks whole
whole-written : (pool : List ChunkContent) (b : Area) (part : List ℕ) → LiesIn b pool → All IsChunk (with_bytes pool b.chunk b.start part)
whole-written pool b part lies =
    let within : b.chunk < length pool = (out_known pool b lies.out).within in
    let x : ChunkContent = chunk_at pool b.chunk in
    let was : IsChunk x = lies.whole b.chunk _ within in
    All-set IsChunk pool b.chunk (record x { bytes = with_part x.bytes b.start part })
    (record { within = was.within; long = length-with_part x.bytes b.start part ∙ was.long; cut = was.cut; joined = was.joined }) lies.whole

-- the same blocks are out
pub out-same : (pool : List ChunkContent) (b : Area) (part : List ℕ) → out_blocks (with_bytes pool b.chunk b.start part) ≡ out_blocks pool
out-same pool b part = out-written 0 b.chunk pool (with_part (chunk_at pool b.chunk).bytes b.start part)

pub blocks-same : (pool : List ChunkContent) (b : Area) (part : List ℕ) → blocks_of (with_bytes pool b.chunk b.start part) ≡ blocks_of pool
blocks-same pool b part = ap (map block_of) (out-same pool b part)

lies-written : (pool : List ChunkContent) (a b : Area) (part : List ℕ) → LiesIn b pool → LiesIn a pool → LiesIn a (with_bytes pool b.chunk b.start part)
lies-written pool a b part lies there = record {
  out = subst (λ (xs : List Area). Contains xs a) (sym (out-same pool b part)) there.out;
  whole = whole-written pool b part lies;
}

-- what was written to a block stands there
pub written-lies : (pool : List ChunkContent) (b : Area) (part : List ℕ) → LiesIn b pool → LiesIn b (with_bytes pool b.chunk b.start part)
written-lies pool b part lies = lies-written pool b b part lies lies

pub written-bytes : (pool : List ChunkContent) (b : Area) (part : List ℕ) → LiesIn b pool → length part ≡ len_of b.order → bytes_of (with_bytes pool b.chunk b.start part) b ≡ part
written-bytes pool b part lies long = written_there pool b part lies.whole lies.out long

-- and the blocks that are apart from it have the bytes that they had
pub written-keeps : (pool : List ChunkContent) (b : Area) (part : List ℕ) → LiesIn b pool → length part ≡ len_of b.order → KeepsBut b pool (with_bytes pool b.chunk b.start part)
written-keeps pool b part lies long a there apart = (lies-written pool a b part lies there, written_apart pool a b part lies.whole lies.out long apart)

-- blocks of a room are apart as blocks of the pool are
area-apart : (a b : Area) → AreApart (block_of b ∷ []) (block_of a ∷ []) → are_apart a b ≡ true
area-apart a b apart =
    let here = apart_at (block_of b ∷ []) (block_of a ∷ []) apart 0 0 (block_of b) (block_of a) (omega arith) (omega arith) in
    grind (arith, nat_tests, here)

-- Where the blocks apart from one keep their bytes, the logs in them keep their contents, and so do the Olds.
stays : (log : TelBlock) (old new : List ChunkContent) → StandsIn log old → LiesIn log.block new → bytes_of new log.block ≡ bytes_of old log.block → StandsIn log new × (content_of log new ≡ content_of log old) × (spare_of log ≡ spare_of log)
stays log old new stands lies same =
    (record { lies = lies; is_log = subst (λ (bytes : List ℕ). IsLog log bytes) (sym same) stands.is_log }, ap (content_in log) same, refl)

old-stays : (x : OldBlock) (old new : List ChunkContent) → OldStandsIn x old → LiesIn x.block new → bytes_of new x.block ≡ bytes_of old x.block → OldStandsIn x new × (old_content_of x new ≡ old_content_of x old)
old-stays x old new stands lies same =
    (record { lies = lies; is_old = subst (λ (bytes : List ℕ). IsOld x bytes) (sym same) stands.is_old }, ap (old_content_in x) same)

pub keeps-logs : (b : Area) (old new : List ChunkContent) → KeepsBut b old new → KeepsLogs StandsIn footprint_of content_of (λ log _. spare_of log) (block_of b ∷ []) old new
keeps-logs b old new keeps log stands apart = let kept = keeps log.block stands.lies (area-apart log.block b apart) in stays log old new stands kept.0 kept.1

pub keeps-olds : (b : Area) (old new : List ChunkContent) → KeepsBut b old new → KeepsOlds OldStandsIn old_footprint_of old_content_of (block_of b ∷ []) old new
keeps-olds b old new keeps x stands apart = let kept = keeps x.block stands.lies (area-apart x.block b apart) in old-stays x old new stands kept.0 kept.1

-- where all blocks keep their bytes, all logs do
pub keeps-all-logs : (blocks : List Block) (old new : List ChunkContent) → KeepsAll old new → KeepsLogs StandsIn footprint_of content_of (λ log _. spare_of log) blocks old new
keeps-all-logs blocks old new keeps log stands _ = let kept = keeps log.block stands.lies in stays log old new stands kept.0 kept.1

pub keeps-all-olds : (blocks : List Block) (old new : List ChunkContent) → KeepsAll old new → KeepsOlds OldStandsIn old_footprint_of old_content_of blocks old new
keeps-all-olds blocks old new keeps x stands _ = let kept = keeps x.block stands.lies in old-stays x old new stands kept.0 kept.1

pub keeps-none : (pool : List ChunkContent) → KeepsAll pool pool
keeps-none pool a lies = (lies, refl)

-- how long a block is
pub length-block : (pool : List ChunkContent) (b : Area) → LiesIn b pool → length (bytes_of pool b) ≡ len_of b.order
length-block pool b lies =
    let fits = (fits_in pool b lies.whole (out_known pool b lies.out)).1.1 none in
    let long = range-long (chunk_at pool b.chunk).bytes b.start (area_end b) (omega arith) fits in
    omega (arith, long)
