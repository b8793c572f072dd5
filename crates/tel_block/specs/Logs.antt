-- What a log in a block shows of the block's bytes, and when these bytes are its own.
use Rattle.std.specs.Prelude.{◌≡◌, ℕ, ◌+◌, ◌-◌, ◌*◌, ◌<◌, ◌≤◌, Bool, ◌||◌, min, nat_le, true, IsTrue, List, [], ◌∷◌, length, Option, Some, None, All, vec_len, vec_capacity}
use Rattle.std.specs.List.{AllByRecursion}
use Rattle.graph_model.specs.Records.{list_most}
use Rattle.stamps.specs.declared.stamp.Stamp.{Stamp}
use Rattle.stamps.specs.Stamps.{Nobody, counts, is_private, is_by}
use Rattle.edge_log.specs.Entries.{Entry, payload_sum}
use Rattle.edge_log.specs.Places.{oldest}
use Rattle.edge_log.specs.Contents.{LogContent}
use Rattle.tel_entry.specs.declared.header.Header.{Header}
use Rattle.tel_entry.specs.Layouts.{entry_len}
use Rattle.block_layout.specs.Sizes.{block_len, props_start}
use Rattle.block_layout.specs.Blocks.{IsBlock}
use Rattle.block_layout.specs.Reads.{entries_in}
use Rattle.block_reading.specs.Past.{is_past}
use Rattle.block_writing.specs.declared.fill.Fill.{Fill}
use Rattle.block_writing.specs.Changed.{is_among}
use Rattle.block_index.specs.Indexed.{Indexes, HasRoom, most_in}
use Rattle.tel_block.specs.declared.log.TelBlock.{TelBlock}
use Rattle.tel_block.specs.declared.old.OldBlock.{OldBlock}

-- the entries in the bytes of a block of an order, with so much in it
abbrev pub entries_of : ℕ → Fill → List ℕ → List Entry
entries_of order fill bytes = entries_in (props_start order) fill.entries fill.props bytes

-- so many entries there are, and so many bytes of payloads
pub record IsFillOf (fill : Fill) (xs : List Entry) : Type 0 where
  pub entries : length xs ≡ fill.entries
  pub props : payload_sum xs ≡ fill.props

-- how many bytes the entries and their payloads take
abbrev pub used_by : Fill → ℕ
used_by fill = entry_len * fill.entries + fill.props

-- how many bytes of a block of an order are free
abbrev pub free_in : ℕ → Fill → ℕ
free_in order fill = block_len order - props_start order - used_by fill

abbrev pub content_in : TelBlock → List ℕ → LogContent
content_in log bytes = record {
  entries = entries_of log.block.order log.fill bytes;
  committed = log.committed.entries;
  epoch = log.epoch;
}

abbrev pub old_content_in : OldBlock → List ℕ → LogContent
old_content_in old bytes = record {
  entries = entries_of old.block.order old.fill bytes;
  committed = old.committed;
  epoch = old.epoch;
}

-- what a log was, once it moved away from its block
abbrev pub old_of : TelBlock → OldBlock
old_of log = record { block = log.block; fill = log.fill; committed = log.committed.entries; epoch = log.epoch }

-- the limit on the sum of its entries' sizes
abbrev pub limit_of : TelBlock → ℕ
limit_of log = log.most

-- how large an entry may be that the limit allows, and for which the block has room
abbrev pub spare_of : TelBlock → ℕ
spare_of log = min (log.most - used_by log.fill) (free_in log.block.order log.fill)

-- there is memory to note one more end stamp
abbrev pub MayEnd : TelBlock → Type 0
MayEnd log = vec_len log.noted < vec_capacity log.noted

-- The bytes are a block of this order with so much in it, whose header has these numbers of what is committed.
pub record IsFilled (order : ℕ) (fill committed : Fill) (epoch : ℕ) (bytes : List ℕ) : Type 0 where
  pub header : Header
  pub filter : List ℕ
  pub block : IsBlock order header filter (entries_of order fill bytes) bytes
  pub props : payload_sum (entries_of order fill bytes) ≡ fill.props
  pub header_entries : header.entries ≡ committed.entries
  pub header_props : header.props ≡ committed.props
  pub header_epoch : header.epoch ≡ epoch
  pub within : committed.entries ≤ fill.entries
  pub committed_props : committed.props ≡ payload_sum (oldest committed.entries (entries_of order fill bytes))

-- a stamp is private: to a transaction, or to anybody
abbrev pub is_stamp_to : Option ℕ → Stamp → Bool
is_stamp_to None s = is_private s
is_stamp_to (Some t) s = is_by t s

-- an entry has a stamp that is
abbrev pub is_private_to : Option ℕ → Entry → Bool
is_private_to of x = is_stamp_to of x.created || is_stamp_to of x.ended

-- Each entry with a private stamp stands at a noted place, or from a place on.
abbrev pub IsReached : List ℕ → ℕ → List Entry → Type 0
IsReached noted from [] = Unit {0}
IsReached noted from (x ∷ xs) =
    (IsTrue (is_private_to None x) → IsTrue (nat_le from (length xs) || is_among noted (length xs)))
    × IsReached noted from xs

-- An entry began privately or at an epoch at most `latest`, and ended so where it has ended.
pub record IsDated (latest : ℕ) (x : Entry) : Type 0 where
  pub created : (is_private x.created || counts x.created latest Nobody) ≡ true
  pub ended : (is_private x.ended || is_past latest x.ended) ≡ true

abbrev pub AreDated : ℕ → List Entry → Type 0
AreDated latest xs = AllByRecursion (IsDated latest) xs

-- These bytes of its block are a log's: it knows how much is in them, where private stamps stand and which epoch is the latest, it keeps within its limit, and its index is one of its entries.
pub record IsLog (log : TelBlock) (bytes : List ℕ) : Type 0 where
  pub filled : IsFilled log.block.order log.fill log.committed log.epoch bytes
  pub settled : log.settled ≤ log.committed.entries
  pub noted : All (λ n. n < log.settled) log.noted.items
  pub reached : IsReached log.noted.items log.settled (entries_of log.block.order log.fill bytes)
  pub dated : AreDated log.latest (entries_of log.block.order log.fill bytes)
  pub within : used_by log.fill ≤ log.most
  pub bounded : log.most ≤ list_most
  pub indexed : Indexes log.index (entries_of log.block.order log.fill bytes)
  pub index_room : HasRoom (most_in log.block.order) log.index

-- The same of a log that takes no further entry.
abbrev pub IsOld : OldBlock → List ℕ → Type 0
IsOld old bytes = (committed : Fill) × IsFilled old.block.order old.fill committed old.epoch bytes
