-- A log in the pool in which its block was written.
use Rattle.std.proofs.Common.{◌≡◌, ℕ, ◌+◌, ◌-◌, ◌*◌, ◌^◌, ◌<◌, ◌≤◌, List, [], ◌∷◌, length, map, sym, ap, subst, ◌∙◌, arith}
use Rattle.std.specs.Global.{Vec}
use Rattle.std.specs.Prelude.{All, Contains, Result, Ok, Err, OnErr}
use Rattle.std.proofs.Math.ListN.{get_or-map}
use Rattle.std.proofs.lemmas.List.{length-map}
use Rattle.std.proofs.lemmas.List.Elements.{All-cons}
use Rattle.edge_log.specs.Entries.{Entry, sizes, payload_sum, kept}
use Rattle.edge_log.specs.Places.{oldest}
use Rattle.edge_log.proofs.PlaceLemmas.{oldest_all}
use Rattle.edge_log.proofs.EntryLemmas.{sizes-payloads, sizes-kept}
use Rattle.block_layout.specs.Blocks.{HoldsEntries}
use Rattle.block_writing.specs.declared.fill.Fill.{Fill}
use Rattle.edge_log.specs.Contents.{Fits}
use Rattle.edge_log.specs.Rooms.{Block, AreApart, AreAmong, TakesNew}
use Rattle.edge_log.proofs.BlockLemmas.{apart_among}
use Rattle.block_pool.specs.Blocks.{Area, len_of}
use Rattle.block_pool.specs.Pools.{ChunkContent, IsChunk, Takes, out_blocks, with_bytes, bytes_of}
use Rattle.tel_block.specs.declared.log.TelBlock.{TelBlock}
use Rattle.tel_block.specs.declared.old.OldBlock.{OldBlock}
use Rattle.tel_block.specs.Logs.{used_by, entries_of, IsFillOf, IsReached, limit_of, spare_of, MayEnd, IsLog, IsOld, content_in, old_content_in}
use Rattle.block_layout.specs.Sizes.{block_len, props_start}
use Rattle.tel_block.specs.Places.{block_of, blocks_of, footprint_of, old_footprint_of, content_of, LiesIn, StandsIn, OldStandsIn, KeepsAll, Moves}
use Rattle.tel_block.proofs.LogFacts.{count, small, sizes-used}
use Rattle.tel_block.proofs.RoomFacts.{written-lies, written-bytes, written-keeps, blocks-same}
use Rattle.tel_block.proofs.TakeFacts.{taken-lies, taken-new, fresh-keeps}

bytes-here : (log : TelBlock) (b : Area) (pool : List ChunkContent) (part : List ℕ) → LiesIn b pool → log.block ≡ b → length part ≡ len_of b.order → bytes_of (with_bytes pool b.chunk b.start part) log.block ≡ part
bytes-here log b pool part lies same long = ap (bytes_of (with_bytes pool b.chunk b.start part)) same ∙ written-bytes pool b part lies long

pub stands-written : (log : TelBlock) (b : Area) (pool : List ChunkContent) (part : List ℕ) → LiesIn b pool → log.block ≡ b → length part ≡ len_of b.order → IsLog log part → StandsIn log (with_bytes pool b.chunk b.start part)
stands-written log b pool part lies same long is = record {
  lies = subst (λ (a : Area). LiesIn a (with_bytes pool b.chunk b.start part)) (sym same) (written-lies pool b part lies);
  is_log = subst (λ (bytes : List ℕ). IsLog log bytes) (sym (bytes-here log b pool part lies same long)) is;
}

pub content-written : (log : TelBlock) (b : Area) (pool : List ChunkContent) (part : List ℕ) → LiesIn b pool → log.block ≡ b → length part ≡ len_of b.order → content_of log (with_bytes pool b.chunk b.start part) ≡ content_in log part
content-written log b pool part lies same long = ap (content_in log) (bytes-here log b pool part lies same long)

-- A block was taken and written, and a log lies in it.
pub record Placed (old new : List ChunkContent) (log : TelBlock) (part : List ℕ) : Type 0 where
  pub stands : StandsIn log new
  pub content : content_of log new ≡ content_in log part
  pub taken : TakesNew (blocks_of old) (blocks_of new) (footprint_of log)
  pub keeps : KeepsAll old new

pub placed : (order : ℕ) (old : List ChunkContent) (b : Area) (mid : List ChunkContent) (log : TelBlock) (part : List ℕ) → Takes order old b mid → All IsChunk mid → length part ≡ len_of b.order → log.block ≡ b → IsLog log part →
    Placed old (with_bytes mid b.chunk b.start part) log part
placed order old b mid log part takes whole long same is =
    let new : List ChunkContent = with_bytes mid b.chunk b.start part in
    let lies : LiesIn b mid = taken-lies order old b mid takes whole in
    let first : TakesNew (blocks_of old) (blocks_of mid) (block_of b ∷ []) = taken-new order old b mid takes in
    let second : TakesNew (blocks_of old) (blocks_of new) (block_of b ∷ []) = subst (λ (bs : List Block). TakesNew (blocks_of old) bs (block_of b ∷ [])) (sym (blocks-same mid b part)) first in
    record {
      stands = stands-written log b mid part lies same long is;
      content = content-written log b mid part lies same long;
      taken = subst (λ (a : Area). TakesNew (blocks_of old) (blocks_of new) (block_of a ∷ [])) (sym same) second;
      keeps = fresh-keeps order old b mid new takes whole (written-keeps mid b part lies long);
    }

pub taken-order : (order : ℕ) (old : List ChunkContent) (b : Area) (mid : List ChunkContent) → Takes order old b mid → b.order ≡ order
taken-order order old b mid takes = ap (λ (a : Area). a.order) takes.block

-- a log keeps within its limit, and what it has room for would too
pub log-fits : (log : TelBlock) (pool : List ChunkContent) → StandsIn log pool → Fits (limit_of log) (content_of log pool) × (sizes (content_of log pool).entries + spare_of log ≤ limit_of log)
log-fits log pool stands =
    let bytes : List ℕ = bytes_of pool log.block in
    let is = stands.is_log in
    let n = count log.block.order log.fill bytes in
    let s = sizes-used log.block.order log.fill log.committed log.epoch bytes is.filled in
    let w = is.within in
    let c = is.filled.within in
    (record { committed = omega (arith, n, c); within = omega (arith, s, w); bounded = is.bounded }, omega (arith, s, w))

contains-block : (xs : List Area) (a : Area) → Contains xs a → Contains (map block_of xs) (block_of a)
contains-block xs a has =
    (has.0, (let h = has.1 in let n = length-map xs block_of in omega (arith, h, n)), get_or-map block_of xs has.0 a ∙ ap block_of has.2)

among-blocks : (a : Area) (pool : List ChunkContent) → LiesIn a pool → AreAmong (block_of a ∷ []) (blocks_of pool)
among-blocks a pool lies = All-cons (λ b. Contains (blocks_of pool) b) (block_of a) [] (contains-block (out_blocks pool) a lies.out) (λ k d h. absurd (omega (arith, h)))

-- it lies in a block that is out
pub log-out : (log : TelBlock) (pool : List ChunkContent) → StandsIn log pool → AreAmong (footprint_of log) (blocks_of pool)
log-out log pool stands = among-blocks log.block pool stands.lies

pub old-out : (old : OldBlock) (pool : List ChunkContent) → OldStandsIn old pool → AreAmong (old_footprint_of old) (blocks_of pool)
old-out old pool stands = among-blocks old.block pool stands.lies

-- What moving a log to a block that was taken makes of it.
pub record MovedTo (size order : ℕ) (log new : TelBlock) (out : OldBlock) (b : Area) (from part : List ℕ) : Type 0 where
  pub block : new.block ≡ b
  pub is_log : IsLog new part
  pub content : content_in new part ≡ content_in log from
  pub fill : new.fill ≡ log.fill
  pub limit : limit_of new ≡ limit_of log
  pub may_end : MayEnd log → MayEnd new
  pub is_old : IsOld out from
  pub old_content : old_content_in out from ≡ content_in log from
  pub old_block : out.block ≡ log.block
  pub within : used_by log.fill + size ≤ log.most
  pub room : used_by log.fill + size ≤ block_len order - props_start order

has-room : (size order : ℕ) (log new : TelBlock) → new.block.order ≡ order → new.fill ≡ log.fill → new.most ≡ log.most → used_by log.fill + size ≤ log.most → used_by log.fill + size ≤ block_len order - props_start order → size ≤ spare_of new
has-room size order log new o f m within room =
    let e = ap used_by f in
    let p = ap (λ (k : ℕ). block_len k - props_start k) o in
    omega (arith, e, p, m, within, room)

pub moves : (size order : ℕ) (old : List ChunkContent) (b : Area) (mid : List ChunkContent) (log new : TelBlock) (out : OldBlock) (from part : List ℕ) → StandsIn log old → Takes order old b mid → All IsChunk mid → length part ≡ len_of b.order →
    from ≡ bytes_of old log.block → MovedTo size order log new out b from part → Moves size log new out old (with_bytes mid b.chunk b.start part)
moves size order old b mid log new out from part stands takes whole long is moved =
    let after : List ChunkContent = with_bytes mid b.chunk b.start part in
    let p = placed order old b mid new part takes whole long moved.block moved.is_log in
    let kept = p.keeps log.block stands.lies in
    let here : from ≡ bytes_of after out.block = is ∙ sym kept.1 ∙ ap (bytes_of after) (sym moved.old_block) in
    let out_of_old : AreApart (block_of log.block ∷ []) (footprint_of new) = apart_among (block_of log.block ∷ []) (blocks_of old) (footprint_of new) (log-out log old stands) p.taken.apart in
    record {
      stands = p.stands;
      content = p.content ∙ moved.content ∙ ap (content_in log) is;
      limit = moved.limit;
      has_room = has-room size order log new (ap (λ (a : Area). a.order) moved.block ∙ taken-order order old b mid takes) moved.fill moved.limit moved.within moved.room;
      may_end = moved.may_end;
      old_stands = record { lies = subst (λ (a : Area). LiesIn a after) (sym moved.old_block) kept.0; is_old = subst (λ (bytes : List ℕ). IsOld out bytes) here moved.is_old };
      old_content = ap (old_content_in out) (sym here) ∙ moved.old_content ∙ ap (content_in log) is;
      old_block = moved.old_block;
      apart = subst (λ (a : Area). AreApart (block_of a ∷ []) (footprint_of new)) (sym moved.old_block) out_of_old;
      taken = p.taken;
      keeps = p.keeps;
    }

-- other memory for the same notes changes nothing
pub renoted : (log : TelBlock) (v : Vec ℕ) (pool : List ChunkContent) → StandsIn log pool → v.items ≡ log.noted.items → StandsIn (record log { noted = v }) pool
renoted log v pool stands same =
    let is = stands.is_log in
    record {
      lies = stands.lies;
      is_log = record {
        filled = is.filled;
        settled = is.settled;
        noted = subst (λ (ns : List ℕ). All (λ n. n < log.settled) ns) (sym same) is.noted;
        reached = subst (λ (ns : List ℕ). IsReached ns log.settled (entries_of log.block.order log.fill (bytes_of pool log.block))) (sym same) is.reached;
        dated = is.dated;
        within = is.within;
        bounded = is.bounded;
        indexed = is.indexed;
        index_room = is.index_room;
      };
    }

-- how much the entries of a log take
pub used-sizes : (log : TelBlock) (pool : List ChunkContent) → StandsIn log pool → sizes (content_of log pool).entries ≡ used_by log.fill
used-sizes log pool stands = sizes-used log.block.order log.fill log.committed log.epoch (bytes_of pool log.block) stands.is_log.filled

-- What is read of a log's bytes for a copy of it.
pub record Readable (n : ℕ) (bytes : List ℕ) : Type 0 where
  pub rows : 28 * n ≤ length bytes
  pub holds : (start : ℕ) × (xs : List Entry) × (HoldsEntries start xs bytes × (n ≤ length xs) × (payload_sum xs < 2 ^ 32))

pub readable : (log : TelBlock) (n : ℕ) (bytes : List ℕ) → IsLog log bytes → n ≤ log.fill.entries → Readable n bytes
readable log n bytes is within =
    let xs : List Entry = entries_of log.block.order log.fill bytes in
    let s = small log.block.order log.fill log.committed log.epoch bytes is.filled in
    let rows = s.rows in
    let len = count log.block.order log.fill bytes in
    let sum = is.filled.props in
    let used = is.within in
    let most = is.bounded in
    record {
      rows = omega (arith, rows, within);
      holds = (props_start log.block.order, xs, (is.filled.block.entries, omega (arith, len, within), omega (arith, sum, used, most)));
    }

-- what is kept of all entries takes no more than these
pub kept-all : (log : TelBlock) (h : ℕ) (f : Fill) (bytes : List ℕ) → IsFillOf f (kept h (oldest log.fill.entries (entries_of log.block.order log.fill bytes))) → IsFillOf f (kept h (entries_of log.block.order log.fill bytes))
kept-all log h f bytes is =
    let xs : List Entry = entries_of log.block.order log.fill bytes in
    let len = count log.block.order log.fill bytes in
    subst (λ (ys : List Entry). IsFillOf f (kept h ys)) (oldest_all xs log.fill.entries (omega (arith, len))) is

pub kept-used : (log : TelBlock) (h : ℕ) (f : Fill) (bytes : List ℕ) → IsLog log bytes → IsFillOf f (kept h (entries_of log.block.order log.fill bytes)) → used_by f ≤ 2 ^ 30
kept-used log h f bytes is fill =
    let xs : List Entry = entries_of log.block.order log.fill bytes in
    let e = fill.entries in
    let p = fill.props in
    let s = sizes-payloads (kept h xs) in
    let k = sizes-kept h xs in
    let x = sizes-used log.block.order log.fill log.committed log.epoch bytes is.filled in
    let used = is.within in
    let most = is.bounded in
    omega (arith, e, p, s, k, x, used, most)

-- what holds anyway holds of an error
pub on-err : {T E : Type 0} (r : Result T E) (P : Type 0) → P → OnErr r P
on-err (Ok x) P p = tt
on-err (Err e) P p = p
