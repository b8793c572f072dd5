-- What a log knows of its bytes, and when others are its own.
use Rattle.std.proofs.Common.{◌≡◌, ℕ, ◌+◌, ◌*◌, ◌^◌, ◌<◌, ◌≤◌, List, [], ◌∷◌, length, sym, ap, subst, ◌∙◌, arith}
use Rattle.std.specs.Prelude.{Bool, true, false, if◌then◌else◌, All}
use Rattle.stamps.specs.Stamps.{Nobody, counts}
use Rattle.std.proofs.Math.Pow.{pow_mono}
use Rattle.graph_model.specs.Records.{list_most}
use Rattle.edge_log.specs.Entries.{Entry, payload_sum, sizes, kept}
use Rattle.edge_log.specs.Places.{oldest, IsPlaceIn}
use Rattle.edge_log.proofs.PlaceLemmas.{oldest_all}
use Rattle.edge_log.proofs.EntryLemmas.{payloads-oldest, sizes-payloads}
use Rattle.tel_entry.specs.declared.header.Header.{Header}
use Rattle.block_layout.specs.Sizes.{block_len, props_start}
use Rattle.block_layout.specs.Blocks.{IsBlock}
use Rattle.block_layout.specs.Reads.{entries_in}
use Rattle.block_layout.proofs.Raw.{read_back}
use Rattle.block_reading.proofs.BelowLemmas.{length-entries_in}
use Rattle.block_writing.specs.declared.fill.Fill.{Fill}
use Rattle.block_index.specs.Indexed.{Indexes, HasRoom, most_in}
use Rattle.tel_block.specs.declared.log.TelBlock.{TelBlock}
use Rattle.tel_block.specs.Logs.{entries_of, used_by, IsFilled, IsReached, AreDated, IsLog}

pub count : (order : ℕ) (fill : Fill) (bytes : List ℕ) → length (entries_of order fill bytes) ≡ fill.entries
count order fill bytes = length-entries_in (props_start order) fill.entries fill.props bytes

-- the entries that a block spells are read from it
pub spelled : (order : ℕ) (fill : Fill) (h : Header) (f : List ℕ) (ys : List Entry) (bytes : List ℕ) → IsBlock order h f ys bytes → length ys ≡ fill.entries → payload_sum ys ≡ fill.props →
    entries_of order fill bytes ≡ ys
spelled order fill h f ys bytes block n p =
    ap (λ (k : ℕ). entries_in (props_start order) k fill.props bytes) (sym n)
    ∙ ap (λ (k : ℕ). entries_in (props_start order) (length ys) k bytes) (sym p) ∙ read_back (props_start order) ys bytes block.entries

-- How much is in a block of these entries, and how much of it is committed.
pub record Counts (order : ℕ) (fill committed : Fill) (epoch : ℕ) (h : Header) (f : List ℕ) (ys : List Entry) (bytes : List ℕ) : Type 0 where
  pub block : IsBlock order h f ys bytes
  pub entries : length ys ≡ fill.entries
  pub props : payload_sum ys ≡ fill.props
  pub header_entries : h.entries ≡ committed.entries
  pub header_props : h.props ≡ committed.props
  pub header_epoch : h.epoch ≡ epoch
  pub within : committed.entries ≤ fill.entries
  pub committed_props : committed.props ≡ payload_sum (oldest committed.entries ys)

pub filled : (order : ℕ) (fill committed : Fill) (epoch : ℕ) (h : Header) (f : List ℕ) (ys : List Entry) (bytes : List ℕ) → Counts order fill committed epoch h f ys bytes → IsFilled order fill committed epoch bytes
filled order fill committed epoch h f ys bytes counts =
    let same : ys ≡ entries_of order fill bytes = sym (spelled order fill h f ys bytes counts.block counts.entries counts.props) in
    record {
      header = h;
      filter = f;
      block = subst (λ (xs : List Entry). IsBlock order h f xs bytes) same counts.block;
      props = ap payload_sum (sym same) ∙ counts.props;
      header_entries = counts.header_entries;
      header_props = counts.header_props;
      header_epoch = counts.header_epoch;
      within = counts.within;
      committed_props = counts.committed_props ∙ ap (λ (xs : List Entry). payload_sum (oldest committed.entries xs)) same;
    }

-- A log knows of these entries what it keeps.
pub record Knows (log : TelBlock) (ys : List Entry) : Type 0 where
  pub settled : log.settled ≤ log.committed.entries
  pub noted : All (λ n. n < log.settled) log.noted.items
  pub reached : IsReached log.noted.items log.settled ys
  pub dated : AreDated log.latest ys
  pub within : used_by log.fill ≤ log.most
  pub bounded : log.most ≤ list_most
  pub indexed : Indexes log.index ys
  pub index_room : HasRoom (most_in log.block.order) log.index

pub is-log : (log : TelBlock) (h : Header) (f : List ℕ) (ys : List Entry) (bytes : List ℕ) → Counts log.block.order log.fill log.committed log.epoch h f ys bytes → Knows log ys → IsLog log bytes
is-log log h f ys bytes counts knows =
    let same : ys ≡ entries_of log.block.order log.fill bytes = sym (spelled log.block.order log.fill h f ys bytes counts.block counts.entries counts.props) in
    record {
      filled = filled log.block.order log.fill log.committed log.epoch h f ys bytes counts;
      settled = knows.settled;
      noted = knows.noted;
      reached = subst (λ (xs : List Entry). IsReached log.noted.items log.settled xs) same knows.reached;
      dated = subst (λ (xs : List Entry). AreDated log.latest xs) same knows.dated;
      within = knows.within;
      bounded = knows.bounded;
      indexed = subst (λ (xs : List Entry). Indexes log.index xs) same knows.indexed;
      index_room = knows.index_room;
    }

-- how large the parts of a block are
pub record Small (order : ℕ) (fill committed : Fill) (bytes : List ℕ) : Type 0 where
  pub order_small : order ≤ 25
  pub long : length bytes ≡ block_len order
  pub short : block_len order ≤ 64 * 2 ^ 25
  pub rows : 28 * fill.entries ≤ length bytes
  pub header : 36 ≤ length bytes
  pub inside : props_start order + fill.props + 28 * fill.entries ≤ length bytes
  pub committed_props : committed.props ≤ fill.props
  pub few : committed.entries ≤ fill.entries

pub places : (order : ℕ) (fill committed : Fill) (epoch : ℕ) (bytes : List ℕ) → IsFilled order fill committed epoch bytes → IsPlaceIn (entries_of order fill bytes) (record { below = fill.entries; props = fill.props })
places order fill committed epoch bytes is =
    let n = count order fill bytes in
    record {
      within = omega (arith, n);
      props = sym is.props ∙ ap payload_sum (sym (oldest_all (entries_of order fill bytes) fill.entries (omega (arith, n))));
    }

pub committed-place : (order : ℕ) (fill committed : Fill) (epoch : ℕ) (bytes : List ℕ) → IsFilled order fill committed epoch bytes → IsPlaceIn (entries_of order fill bytes) (record { below = committed.entries; props = committed.props })
committed-place order fill committed epoch bytes is =
    let n = count order fill bytes in
    record { within = (let w = is.within in omega (arith, n, w)); props = is.committed_props }

pub small : (order : ℕ) (fill committed : Fill) (epoch : ℕ) (bytes : List ℕ) → IsFilled order fill committed epoch bytes → Small order fill committed bytes
small order fill committed epoch bytes is =
    let xs : List Entry = entries_of order fill bytes in
    let n = count order fill bytes in
    let held = is.block.entries.within in
    let props = is.props in
    let p : 2 ^ order ≤ 2 ^ 25 = pow_mono is.block.small in
    record {
      order_small = is.block.small;
      long = is.block.long;
      short = omega (arith, p);
      rows = omega (arith, held, n);
      header = omega (arith, held);
      inside = omega (arith, held, n, props);
      committed_props = (let h = payloads-oldest committed.entries xs in let e = is.committed_props in omega (arith, h, e, props));
      few = is.within;
    }

-- a block of the order that a number stands for
pub at-order : (o order : ℕ) (h : Header) (f : List ℕ) (xs : List Entry) (bytes : List ℕ) → o ≡ order → IsBlock order h f xs bytes → IsBlock o h f xs bytes
at-order o order h f xs bytes same block = subst (λ (k : ℕ). IsBlock k h f xs bytes) (sym same) block

-- the log fits in its limit
pub sizes-used : (order : ℕ) (fill committed : Fill) (epoch : ℕ) (bytes : List ℕ) → IsFilled order fill committed epoch bytes → sizes (entries_of order fill bytes) ≡ used_by fill
sizes-used order fill committed epoch bytes is =
    let n = count order fill bytes in
    let s = sizes-payloads (entries_of order fill bytes) in
    let p = is.props in
    omega (arith, n, s, p)

-- the kept payloads are no longer than all
pub sum-kept : (h : ℕ) (xs : List Entry) → payload_sum (kept h xs) ≤ payload_sum xs
sum-kept h [] = omega arith
sum-kept h (x ∷ xs) = by_test (counts x.ended h Nobody) (sum-kept h xs)
  where
    by_test : (b : Bool) → payload_sum (kept h xs) ≤ payload_sum xs → payload_sum (if b then kept h xs else x ∷ kept h xs) ≤ length x.p + payload_sum xs
    by_test true rest = omega (arith, rest)
    by_test false rest = omega (arith, rest)
