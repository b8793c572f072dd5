-- The entries that are kept, taken from the oldest on.
use Rattle.std.proofs.Common.{◌≡◌, ℕ, ◌+◌, ◌-◌, ◌*◌, ◌^◌, ◌<◌, ◌≤◌, ◌∙◌, Some, zero, suc, Bool, true, false, List, [], ◌∷◌, length, refl, ap, arith}
use Rattle.std.specs.Prelude.{if◌then◌else◌, nat_le}
use Rattle.std.proofs.Math.Pow.{pow_mono}
use Rattle.stamps.specs.Stamps.{Nobody, counts}
use Rattle.edge_log.specs.Entries.{Entry, kept, payload_sum}
use Rattle.edge_log.specs.Places.{entry_at, oldest}
use Rattle.tel_entry.specs.declared.entry.Entry.{Entry as RawEntry}
use Rattle.tel_entry.specs.RawStamps.{stamp_of, raw_of}
use Rattle.block_layout.specs.Rows.{raw_entry, HasRow}
use Rattle.block_layout.specs.Sizes.{block_len, props_start, bytes_at}
use Rattle.block_layout.specs.Reads.{entries_in, raw_at}
use Rattle.block_layout.proofs.Raw.{stamp_of-raw_of}
use Rattle.block_layout.proofs.AtPlaces.{there, oldest_with, row-fits, row-within, payload-at}
use Rattle.block_writing.specs.declared.fill.Fill.{Fill}
use Rattle.block_writing.specs.Spelled.{spelled, Spells}

pub length-entries_in : (start n props : ℕ) (bytes : List ℕ) → length (entries_in start n props bytes) ≡ n
length-entries_in start zero props bytes = refl
length-entries_in start (suc n) props bytes = ap suc (length-entries_in start n (props - (raw_at n bytes).len) bytes)

pub sum-oldest : (n : ℕ) (xs : List Entry) → payload_sum (oldest n xs) ≤ payload_sum xs
sum-oldest n [] = omega arith
sum-oldest n (x ∷ xs) = by_test (nat_le (length xs + 1) n) (sum-oldest n xs)
  where
    by_test : (b : Bool) → payload_sum (oldest n xs) ≤ payload_sum xs → payload_sum (if b then x ∷ xs else oldest n xs) ≤ length x.p + payload_sum xs
    by_test true older = omega arith
    by_test false older = omega arith

kept-more : (h : ℕ) (x : Entry) (xs : List Entry) → (length (kept h xs) ≤ length (kept h (x ∷ xs))) × (payload_sum (kept h xs) ≤ payload_sum (kept h (x ∷ xs)))
kept-more h x xs = by_test (counts x.ended h Nobody)
  where
    by_test : (b : Bool) → (length (kept h xs) ≤ length (if b then kept h xs else x ∷ kept h xs)) × (payload_sum (kept h xs) ≤ payload_sum (if b then kept h xs else x ∷ kept h xs))
    by_test true = ((omega arith), (omega arith))
    by_test false = ((omega arith), (omega arith))

pub kept-oldest : (h n : ℕ) (xs : List Entry) → (length (kept h (oldest n xs)) ≤ length (kept h xs)) × (payload_sum (kept h (oldest n xs)) ≤ payload_sum (kept h xs))
kept-oldest h n [] = ((omega arith), (omega arith))
kept-oldest h n (x ∷ xs) = by_test (nat_le (length xs + 1) n) (kept-oldest h n xs) (kept-more h x xs)
  where
    by_test : (b : Bool) →
        (length (kept h (oldest n xs)) ≤ length (kept h xs)) × (payload_sum (kept h (oldest n xs)) ≤ payload_sum (kept h xs)) →
        (length (kept h xs) ≤ length (kept h (x ∷ xs))) × (payload_sum (kept h xs) ≤ payload_sum (kept h (x ∷ xs))) →
        (length (kept h (if b then x ∷ xs else oldest n xs)) ≤ length (kept h (x ∷ xs))) × (payload_sum (kept h (if b then x ∷ xs else oldest n xs)) ≤ payload_sum (kept h (x ∷ xs)))
    by_test true older more = ((omega arith), (omega arith))
    by_test false older more = ((omega (arith, older.0, more.0)), (omega (arith, older.1, more.1)))

-- whether an entry is kept, by its number
pub past-raw : (h : ℕ) (x : Entry) → HasRow x → counts (stamp_of (raw_of x.ended)) h Nobody ≡ counts x.ended h Nobody
past-raw h x fits = ap (λ s. counts s h Nobody) (stamp_of-raw_of x.ended fits.ended)

kept-counted-by : (b : Bool) (x : Entry) (ys : List Entry) (m len : ℕ) → m ≡ (if b then 0 else 1) → len ≡ (if b then 0 else length x.p) →
    (length (if b then ys else x ∷ ys) ≡ length ys + m) × (payload_sum (if b then ys else x ∷ ys) ≡ payload_sum ys + len)
kept-counted-by true x ys m len mis lis = ((omega arith), (omega arith))
kept-counted-by false x ys m len mis lis = ((omega arith), (omega arith))

-- what one entry more counts for
pub kept-counted : (h : ℕ) (x : Entry) (ys : List Entry) (e : RawEntry) (m len : ℕ) → HasRow x → e ≡ raw_entry x →
    m ≡ (if counts (stamp_of e.ended) h Nobody then 0 else 1) → len ≡ (if counts (stamp_of e.ended) h Nobody then 0 else e.len) →
    (length (kept h (x ∷ ys)) ≡ length (kept h ys) + m) × (payload_sum (kept h (x ∷ ys)) ≡ payload_sum (kept h ys) + len)
kept-counted h x ys e m len fits is mis lis =
    let past = past-raw h x fits in
    kept-counted-by (counts x.ended h Nobody) x (kept h ys) m len
    (mis ∙ ap (λ (r : RawEntry). if counts (stamp_of r.ended) h Nobody then 0 else 1) is ∙ ap (λ (b : Bool). if b then 0 else 1) past)
    (lis ∙ ap (λ (r : RawEntry). if counts (stamp_of r.ended) h Nobody then 0 else r.len) is ∙ ap (λ (b : Bool). if b then 0 else length x.p) past)

-- The entry of a place in a block that spells its entries.
pub record IsNext (order : ℕ) (fill : Fill) (from : List ℕ) (n : ℕ) : Type 0 where
  pub x : Entry
  pub at : entry_at (spelled order fill from) n ≡ Some x
  pub fits : HasRow x
  pub row : 28 * (n + 1) ≤ length from
  pub more : oldest (n + 1) (spelled order fill from) ≡ x ∷ oldest n (spelled order fill from)
  pub within : props_start order + payload_sum (oldest n (spelled order fill from)) + length x.p ≤ length from
  pub payload : bytes_at (props_start order + payload_sum (oldest n (spelled order fill from))) (length x.p) from ≡ x.p

pub next : (order : ℕ) (fill : Fill) (from : List ℕ) (n : ℕ) → Spells order fill from → n < fill.entries → IsNext order fill from n
next order fill from n spells below =
    let xs : List Entry = spelled order fill from in
    let start : ℕ = props_start order in
    let long : length xs ≡ fill.entries = length-entries_in start fill.entries fill.props from in
    let x = there xs n (omega (arith, long)) in
    let more = oldest_with xs n x.0 x.1 in
    let sum = sum-oldest (n + 1) xs in
    let size : payload_sum (oldest (n + 1) xs) ≡ length x.0.p + payload_sum (oldest n xs) = ap payload_sum more in
    let all = spells.held.within in
    record {
      x = x.0;
      at = x.1;
      fits = row-fits start n xs x.0 from spells.held x.1;
      row = row-within start n xs x.0 from spells.held x.1;
      more = more;
      within = omega (arith, sum, size, all);
      payload = payload-at start n xs x.0 from spells.held x.1;
    }

-- there is room for each entry that is kept
pub kept-room : (h n : ℕ) (xs : List Entry) (x : Entry) → oldest (n + 1) xs ≡ x ∷ oldest n xs → counts x.ended h Nobody ≡ false →
    (length (kept h (oldest n xs)) + 1 ≤ length (kept h xs)) × (payload_sum (kept h (oldest n xs)) + length x.p ≤ payload_sum (kept h xs))
kept-room h n xs x more here =
    let all = kept-oldest h (n + 1) xs in
    let is : kept h (oldest (n + 1) xs) ≡ x ∷ kept h (oldest n xs) =
    ap (kept h) more ∙ ap (λ (b : Bool). if b then kept h (oldest n xs) else x ∷ kept h (oldest n xs)) here in
    let long = ap length is in
    let sum = ap payload_sum is in
    ((omega (arith, all.0, long)), (omega (arith, all.1, sum)))

-- a block has less than 2^32 bytes
pub block-small : (order : ℕ) → order ≤ 25 → block_len order < 2 ^ 32
block-small order small = (let high : 2 ^ order ≤ 2 ^ 25 = pow_mono small in omega arith)
