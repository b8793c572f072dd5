-- What a write to a block makes of it.
use Rattle.std.proofs.Common.{◌≡◌, ℕ, ◌+◌, ◌*◌, ◌^◌, ◌≤◌, Bool, true, false, IsTrue, List, [], ◌∷◌, ◌++◌, length, take, drop, refl, sym, ap, ◌∙◌, subst, arith, Some}
use Rattle.std.specs.Prelude.{◌==◌, ◌||◌, if◌then◌else◌, nat_le}
use Rattle.std.specs.List.{list_any, AllByRecursion}
use Rattle.std.proofs.Math.Pow.{pow_mono}
use Rattle.std.proofs.lemmas.Nat.{pow-add}
use Rattle.std.proofs.lemmas.Bool.Decides.{nat_tests}
use Rattle.std.proofs.lemmas.List.{take_at, drop_at, take-append-drop, length-take-le, length-drop}
use Rattle.stamps.specs.declared.stamp.Stamp.{Stamp}
use Rattle.edge_log.specs.Entries.{Entry, payload_sum}
use Rattle.edge_log.specs.Places.{entry_at, oldest}
use Rattle.tel_entry.specs.declared.header.Header.{Header}
use Rattle.tel_entry.specs.Layouts.{header_len, header_bytes, entry_bytes, u64_bytes, HeaderFits}
use Rattle.tel_entry.specs.RawStamps.{raw_of, HasRaw}
use Rattle.tel_entry.proofs.Fronts.{length-header_bytes, length-entry_bytes}
use Rattle.tel_entry.proofs.Numbers.{length-u64}
use Rattle.edge_bloom.specs.Filters.{IsFilter, HasBitsOf}
use Rattle.block_layout.specs.Sizes.{block_len, has_filter, filter_len, flags_of, props_start, bytes_at}
use Rattle.block_layout.specs.Rows.{raw_entry, HasRow}
use Rattle.block_layout.specs.Blocks.{HoldsEntries, KnowsAll, IsBlock}
use Rattle.block_layout.specs.Reads.{row_start}
use Rattle.block_layout.specs.Writes.{overwritten, created_as, ended_as}
use Rattle.block_layout.proofs.Windows.{length-overwritten, take-before, window-before, window-written}
use Rattle.block_layout.proofs.Held.{held_none}
use Rattle.block_layout.proofs.AtPlaces.{held-oldest, row-within, entry_at-within}
use Rattle.block_layout.proofs.Written.{held-free, held-front, held-appended}
use Rattle.block_layout.proofs.Stamped.{held-created, held-ended}

-- the test of an entry by its destination alone
abbrev is_known : List ℕ → Entry → Type 0
is_known ds x = IsTrue (list_any (λ e. e == x.d) ds)

created-known : (n : ℕ) (s : Stamp) (ds : List ℕ) (xs : List Entry) → AllByRecursion (is_known ds) xs → AllByRecursion (is_known ds) (created_as n s xs)
created-known n s ds [] all = tt
created-known n s ds (x ∷ xs) all = by_test (n == length xs) (created-known n s ds xs all.1)
  where
    by_test : (b : Bool) → AllByRecursion (is_known ds) (created_as n s xs) → AllByRecursion (is_known ds) (if b then record x { created = s } ∷ xs else x ∷ created_as n s xs)
    by_test true rest = all
    by_test false rest = (all.0, rest)

ended-known : (n : ℕ) (s : Stamp) (ds : List ℕ) (xs : List Entry) → AllByRecursion (is_known ds) xs → AllByRecursion (is_known ds) (ended_as n s xs)
ended-known n s ds [] all = tt
ended-known n s ds (x ∷ xs) all = by_test (n == length xs) (ended-known n s ds xs all.1)
  where
    by_test : (b : Bool) → AllByRecursion (is_known ds) (ended_as n s xs) → AllByRecursion (is_known ds) (if b then record x { ended = s } ∷ xs else x ∷ ended_as n s xs)
    by_test true rest = all
    by_test false rest = (all.0, rest)

oldest-known : (n : ℕ) (ds : List ℕ) (xs : List Entry) → AllByRecursion (is_known ds) xs → AllByRecursion (is_known ds) (oldest n xs)
oldest-known n ds [] all = tt
oldest-known n ds (x ∷ xs) all = by_test (nat_le (length xs + 1) n) (oldest-known n ds xs all.1)
  where
    by_test : (b : Bool) → AllByRecursion (is_known ds) (oldest n xs) → AllByRecursion (is_known ds) (if b then x ∷ xs else oldest n xs)
    by_test true rest = all
    by_test false rest = rest

pub knows-created : (order n : ℕ) (s : Stamp) (filter : List ℕ) (xs : List Entry) → KnowsAll order filter xs → KnowsAll order filter (created_as n s xs)
knows-created order n s filter xs knows = λ has. let k = knows has in (k.0, (k.1.0, created-known n s k.0 xs k.1.1))

pub knows-ended : (order n : ℕ) (s : Stamp) (filter : List ℕ) (xs : List Entry) → KnowsAll order filter xs → KnowsAll order filter (ended_as n s xs)
knows-ended order n s filter xs knows = λ has. let k = knows has in (k.0, (k.1.0, ended-known n s k.0 xs k.1.1))

pub knows-oldest : (order n : ℕ) (filter : List ℕ) (xs : List Entry) → KnowsAll order filter xs → KnowsAll order filter (oldest n xs)
knows-oldest order n filter xs knows = λ has. let k = knows has in (k.0, (k.1.0, oldest-known n k.0 xs k.1.1))

-- what is known stays known where one destination more is
more-known : (d : ℕ) (ds : List ℕ) (xs : List Entry) → AllByRecursion (is_known ds) xs → AllByRecursion (is_known (d ∷ ds)) xs
more-known d ds [] all = tt
more-known d ds (x ∷ xs) all = (by_test (d == x.d) all.0, more-known d ds xs all.1)
  where
    by_test : (b : Bool) → IsTrue (list_any (λ e. e == x.d) ds) → IsTrue (b || list_any (λ e. e == x.d) ds)
    by_test true is = refl
    by_test false is = is

-- A filter to which the destination of one entry more was added knows it too.
pub knows-added : (order : ℕ) (old new : List ℕ) (x : Entry) (xs : List Entry) → ((ds : List ℕ) → HasBitsOf old ds → HasBitsOf new (x.d ∷ ds)) →
    KnowsAll order old xs → KnowsAll order new (x ∷ xs)
knows-added order old new x xs added knows = λ has.
    let k = knows has in
    let first : IsTrue (x.d == x.d || list_any (λ e. e == x.d) k.0) = grind (arith, nat_tests) in
    (x.d ∷ k.0, (added k.0 k.1.0, (first, more-known x.d k.0 xs k.1.1)))

-- where the filter ends, the payloads begin
start_within : (order : ℕ) (h : Header) (f : List ℕ) (xs : List Entry) (bytes : List ℕ) → IsBlock order h f xs bytes → props_start order ≤ length bytes
start_within order h f xs bytes b = (let w = b.entries.within in omega arith)

-- a write behind the filter
pub block-behind : (order : ℕ) (h : Header) (f : List ℕ) (xs ys : List Entry) (from : ℕ) (new bytes : List ℕ) → IsBlock order h f xs bytes →
    props_start order ≤ from → from + length new ≤ length bytes → KnowsAll order f ys → HoldsEntries (props_start order) ys (overwritten from new bytes) →
    IsBlock order h f ys (overwritten from new bytes)
block-behind order h f xs ys from new bytes b behind within known held = record {
  small = b.small;
  long = length-overwritten from new bytes within ∙ b.long;
  fits = b.fits;
  ordered = b.ordered;
  flagged = b.flagged;
  head = take-before 36 from new bytes (omega arith) within ∙ b.head;
  bits = window-before 36 (filter_len order) from new bytes behind within ∙ b.bits;
  known = known;
  entries = held;
}

pub block-oldest : (order : ℕ) (h : Header) (f : List ℕ) (n : ℕ) (xs : List Entry) (bytes : List ℕ) → IsBlock order h f xs bytes → IsBlock order h f (oldest n xs) bytes
block-oldest order h f n xs bytes b = record {
  small = b.small;
  long = b.long;
  fits = b.fits;
  ordered = b.ordered;
  flagged = b.flagged;
  head = b.head;
  bits = b.bits;
  known = knows-oldest order n f xs b.known;
  entries = held-oldest (props_start order) n xs bytes b.entries;
}

-- the rows of a block begin behind its filter
row-behind : (order : ℕ) (h : Header) (f : List ℕ) (xs : List Entry) (n : ℕ) (x : Entry) (bytes : List ℕ) → IsBlock order h f xs bytes → entry_at xs n ≡ Some x →
    props_start order ≤ row_start n bytes
row-behind order h f xs n x bytes b at = (let w = b.entries.within in let a = entry_at-within xs n x at in omega arith)

pub block-created : (order : ℕ) (h : Header) (f : List ℕ) (n : ℕ) (s : Stamp) (xs : List Entry) (x : Entry) (bytes : List ℕ) → IsBlock order h f xs bytes →
    entry_at xs n ≡ Some x → HasRaw s → IsBlock order h f (created_as n s xs) (overwritten (row_start n bytes + 8) (u64_bytes (raw_of s)) bytes)
block-created order h f n s xs x bytes b at has =
    let long = length-u64 (raw_of s) in
    let r = row-within (props_start order) n xs x bytes b.entries at in
    let behind = row-behind order h f xs n x bytes b at in
    block-behind order h f xs (created_as n s xs) (row_start n bytes + 8) (u64_bytes (raw_of s)) bytes b (omega arith) (omega (arith, long))
    (knows-created order n s f xs b.known) (held-created (props_start order) n s xs x bytes b.entries at has)

pub block-ended : (order : ℕ) (h : Header) (f : List ℕ) (n : ℕ) (s : Stamp) (xs : List Entry) (x : Entry) (bytes : List ℕ) → IsBlock order h f xs bytes →
    entry_at xs n ≡ Some x → HasRaw s → IsBlock order h f (ended_as n s xs) (overwritten (row_start n bytes + 16) (u64_bytes (raw_of s)) bytes)
block-ended order h f n s xs x bytes b at has =
    let long = length-u64 (raw_of s) in
    let r = row-within (props_start order) n xs x bytes b.entries at in
    let behind = row-behind order h f xs n x bytes b at in
    block-behind order h f xs (ended_as n s xs) (row_start n bytes + 16) (u64_bytes (raw_of s)) bytes b (omega arith) (omega (arith, long))
    (knows-ended order n s f xs b.known) (held-ended (props_start order) n s xs x bytes b.entries at has)

-- one entry more: its payload, and then its row
pub block-appended : (order : ℕ) (h : Header) (f : List ℕ) (x : Entry) (xs : List Entry) (bytes : List ℕ) → IsBlock order h f xs bytes →
    HasRow x → KnowsAll order f (x ∷ xs) → props_start order + payload_sum (x ∷ xs) + 28 * length (x ∷ xs) ≤ length bytes →
    IsBlock order h f (x ∷ xs) (overwritten (row_start (length xs) bytes) (entry_bytes (raw_entry x)) (overwritten (props_start order + payload_sum xs) x.p bytes))
block-appended order h f x xs bytes b fits known within =
    let at : ℕ = props_start order + payload_sum xs in
    let first : List ℕ = overwritten at x.p bytes in
    let row : ℕ = row_start (length xs) bytes in
    let e : List ℕ = entry_bytes (raw_entry x) in
    let elen : length e ≡ 28 = length-entry_bytes (raw_entry x) in
    let within1 : at + length x.p ≤ length bytes = omega arith in
    let long1 : length first ≡ length bytes = length-overwritten at x.p bytes within1 in
    let within2 : row + length e ≤ length first = omega (arith, elen, long1) in
    let long2 : length (overwritten row e first) ≡ length first = length-overwritten row e first within2 in
    record {
      small = b.small;
      long = long2 ∙ long1 ∙ b.long;
      fits = b.fits;
      ordered = b.ordered;
      flagged = b.flagged;
      head = take-before 36 row e first (omega arith) within2 ∙ take-before 36 at x.p bytes (omega arith) within1 ∙ b.head;
      bits = window-before 36 (filter_len order) row e first (omega arith) within2 ∙ window-before 36 (filter_len order) at x.p bytes (omega arith) within1 ∙ b.bits;
      known = known;
      entries = held-appended (props_start order) x xs bytes b.entries fits within;
    }

-- a write to the free bytes
pub block-free : (order : ℕ) (h : Header) (f : List ℕ) (xs : List Entry) (from : ℕ) (new bytes : List ℕ) → IsBlock order h f xs bytes →
    props_start order + payload_sum xs ≤ from → from + length new + 28 * length xs ≤ length bytes → IsBlock order h f xs (overwritten from new bytes)
block-free order h f xs from new bytes b above below =
    block-behind order h f xs xs from new bytes b (omega arith) (omega arith) b.known (held-free (props_start order) from new xs bytes b.entries above below)

-- another header
pub block-header : (order : ℕ) (g h : Header) (f : List ℕ) (xs : List Entry) (bytes : List ℕ) → IsBlock order h f xs bytes →
    HeaderFits g → g.order ≡ order → g.flags ≡ flags_of order → IsBlock order g f xs (header_bytes g ++ drop header_len bytes)
block-header order g h f xs bytes b fits ordered flagged =
    let len : length (header_bytes g) ≡ 36 = length-header_bytes g in
    let w = start_within order h f xs bytes b in
    let within : 0 + length (header_bytes g) ≤ length bytes = omega (arith, len) in
    let before : 0 + length (header_bytes g) ≤ props_start order = omega (arith, len) in
    let n36 : 0 + length (header_bytes g) ≡ 36 = omega (arith, len) in
    let same : overwritten 0 (header_bytes g) bytes ≡ header_bytes g ++ drop 36 bytes = ap (λ (n : ℕ). header_bytes g ++ drop n bytes) n36 in
    let P : List ℕ → Type 0 = λ ys. HoldsEntries (props_start order) xs ys in
    record {
      small = b.small;
      long = sym (ap length same) ∙ length-overwritten 0 (header_bytes g) bytes within ∙ b.long;
      fits = fits;
      ordered = ordered;
      flagged = flagged;
      head = take_at (header_bytes g) (drop 36 bytes) 36 len;
      bits = ap (take (filter_len order)) (drop_at (header_bytes g) (drop 36 bytes) 36 len) ∙ b.bits;
      known = b.known;
      entries = subst P same (held-front (props_start order) 0 (header_bytes g) xs bytes b.entries before);
    }

-- another filter
pub block-filter : (order : ℕ) (h : Header) (f g : List ℕ) (xs : List Entry) (bytes : List ℕ) → IsBlock order h f xs bytes →
    length g ≡ filter_len order → KnowsAll order g xs → IsBlock order h g xs (overwritten header_len g bytes)
block-filter order h f g xs bytes b len known =
    let w = start_within order h f xs bytes b in
    let within : 36 + length g ≤ length bytes = omega (arith, len) in
    record {
      small = b.small;
      long = length-overwritten 36 g bytes within ∙ b.long;
      fits = b.fits;
      ordered = b.ordered;
      flagged = b.flagged;
      head = take-before 36 36 g bytes (omega arith) within ∙ b.head;
      bits = window-written 36 (filter_len order) g bytes len within;
      known = known;
      entries = held-front (props_start order) 36 g xs bytes b.entries (omega (arith, len));
    }

-- a block has room for its header and its filter
pub start_small : (order : ℕ) → props_start order ≤ block_len order
start_small order =
    let p : 2 ^ 0 ≤ 2 ^ order = pow_mono (let z : 0 ≤ order = omega arith in z) in
    let q : 1 ≤ 2 ^ order = p in
    by_test (has_filter order) (2 ^ order) q
  where
    by_test : (b : Bool) (n : ℕ) → 1 ≤ n → 36 + (if b then 4 * n else 0) ≤ 64 * n
    by_test true n one = omega arith
    by_test false n one = omega arith

-- a header and a filter without bits, and no entries
pub block-none : (order : ℕ) (h : Header) (f : List ℕ) (bytes : List ℕ) → order ≤ 25 → length bytes ≡ block_len order → HeaderFits h → h.order ≡ order → h.flags ≡ flags_of order →
    take header_len bytes ≡ header_bytes h → bytes_at header_len (filter_len order) bytes ≡ f → HasBitsOf f [] → IsBlock order h f [] bytes
block-none order h f bytes small long fits ordered flagged head bits none =
    record {
      small = small;
      long = long;
      fits = fits;
      ordered = ordered;
      flagged = flagged;
      head = head;
      bits = bits;
      known = λ has. ([], (none, tt));
      entries = held_none (props_start order) bytes (rw long (start_small order));
    }

-- the bytes begin with the header
pub block-head : (order : ℕ) (h : Header) (f : List ℕ) (xs : List Entry) (bytes : List ℕ) → IsBlock order h f xs bytes → bytes ≡ header_bytes h ++ drop header_len bytes
block-head order h f xs bytes b = sym (take-append-drop 36 bytes) ∙ ap (λ (ys : List ℕ). ys ++ drop 36 bytes) b.head

pub length-filter : (order : ℕ) (h : Header) (f : List ℕ) (xs : List Entry) (bytes : List ℕ) → IsBlock order h f xs bytes → length f ≡ filter_len order
length-filter order h f xs bytes b =
    let w = start_within order h f xs bytes b in
    let d = length-drop 36 bytes in
    ap length (sym b.bits) ∙ length-take-le (filter_len order) (drop 36 bytes) (omega arith)

-- where a block has a filter, it is one
pub filter-is : (order : ℕ) (h : Header) (f : List ℕ) (xs : List Entry) (bytes : List ℕ) → IsBlock order h f xs bytes → IsTrue (has_filter order) → IsFilter f
filter-is order h f xs bytes b has =
    let len : length f ≡ 4 * 2 ^ order = length-filter order h f xs bytes b ∙ ap (λ (t : Bool). if t then 4 * 2 ^ order else 0) has in
    let three : 3 ≤ order = (let t : nat_le 3 order ≡ true = has in grind (arith, nat_tests)) in
    let low : 2 ^ 3 ≤ 2 ^ order = pow_mono three in
    let high : 2 ^ order ≤ 2 ^ 25 = pow_mono b.small in
    record {
      power = (2 + order, len ∙ sym (pow-add 2 2 order));
      least = omega arith;
      most = omega arith;
    }
