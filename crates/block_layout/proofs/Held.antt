-- Bytes that hold entries, one entry at a time from the newest.
use Rattle.std.proofs.Common.{◌≡◌, ℕ, ◌+◌, ◌-◌, ◌*◌, ◌≤◌, List, [], ◌∷◌, ◌++◌, length, take, drop, refl, sym, ap, ◌∙◌, arith, length-append, length-drop, drop-drop}
use Rattle.std.proofs.lemmas.List.{take_at, drop_at, drop_all, length-take-le}
use Rattle.edge_log.specs.Entries.{Entry, payload_sum}
use Rattle.tel_entry.specs.Layouts.{entry_bytes}
use Rattle.tel_entry.proofs.Fronts.{length-entry_bytes}
use Rattle.block_layout.specs.Sizes.{bytes_at}
use Rattle.block_layout.specs.Rows.{raw_entry, HasRow, rows_of, payloads_of}
use Rattle.block_layout.specs.Blocks.{HoldsEntries}
use Rattle.block_layout.specs.Reads.{row_start}
use Rattle.block_layout.proofs.Windows.{window-join, drop-join}

-- The newest entry, in front of others that the bytes hold: its payload behind theirs, and its 28 bytes before theirs.
pub record HoldsNext (start : ℕ) (x : Entry) (xs : List Entry) (bytes : List ℕ) : Type 0 where
  pub fits : HasRow x
  pub within : start + (length x.p + payload_sum xs) + 28 * (length xs + 1) ≤ length bytes
  pub payload : bytes_at (start + payload_sum xs) (length x.p) bytes ≡ x.p
  pub row : bytes_at (row_start (length xs) bytes) 28 bytes ≡ entry_bytes (raw_entry x)

pub length-rows_of : (xs : List Entry) → length (rows_of xs) ≡ 28 * length xs
length-rows_of [] = refl
length-rows_of (x ∷ xs) = omega (arith, length-append (entry_bytes (raw_entry x)) (rows_of xs), length-entry_bytes (raw_entry x), length-rows_of xs)

pub length-payloads_of : (xs : List Entry) → length (payloads_of xs) ≡ payload_sum xs
length-payloads_of [] = refl
length-payloads_of (x ∷ xs) = omega (arith, length-append (payloads_of xs) x.p, length-payloads_of xs)

pub held_none : (start : ℕ) (bytes : List ℕ) → start ≤ length bytes → HoldsEntries start [] bytes
held_none start bytes within = record {
  fit = tt;
  within = omega arith;
  payloads = refl;
  rows = drop_all (length bytes - 28 * 0) bytes (omega arith);
}

-- where the rows of the older begin, seen from the newest row
next_row : (n : ℕ) (bytes : List ℕ) → 28 * (n + 1) ≤ length bytes → row_start n bytes + 28 ≡ length bytes - 28 * n
next_row n bytes within = omega arith

-- the payloads are those of the older and that of the newest
payloads-split : (start : ℕ) (x : Entry) (xs : List Entry) (bytes : List ℕ) →
    bytes_at start (length x.p + payload_sum xs) bytes ≡ bytes_at start (payload_sum xs) bytes ++ bytes_at (start + payload_sum xs) (length x.p) bytes
payloads-split start x xs bytes =
    let e : length x.p + payload_sum xs ≡ payload_sum xs + length x.p = omega arith in
    ap (λ (n : ℕ). bytes_at start n bytes) e ∙ window-join start (payload_sum xs) (length x.p) bytes

-- the rows are that of the newest and those of the older
rows-split : (n : ℕ) (bytes : List ℕ) → 28 * (n + 1) ≤ length bytes →
    drop (row_start n bytes) bytes ≡ bytes_at (row_start n bytes) 28 bytes ++ drop (length bytes - 28 * n) bytes
rows-split n bytes within =
    drop-join (row_start n bytes) 28 bytes
    ∙ ap (λ (k : ℕ). bytes_at (row_start n bytes) 28 bytes ++ drop k bytes) (next_row n bytes within)

-- the newest in front of older entries
pub held_more : (start : ℕ) (x : Entry) (xs : List Entry) (bytes : List ℕ) → HoldsEntries start xs bytes → HoldsNext start x xs bytes → HoldsEntries start (x ∷ xs) bytes
held_more start x xs bytes older next =
    let row_in : 28 * (length xs + 1) ≤ length bytes = (let w = next.within in omega arith) in
    let here : length bytes - 28 * length (x ∷ xs) ≡ row_start (length xs) bytes = omega arith in
    record {
      fit = (next.fits, older.fit);
      within = (let w = next.within in omega arith);
      payloads = payloads-split start x xs bytes ∙ ap (λ (ys : List ℕ). ys ++ bytes_at (start + payload_sum xs) (length x.p) bytes) older.payloads
          ∙ ap (λ (ys : List ℕ). payloads_of xs ++ ys) next.payload;
      rows = ap (λ (k : ℕ). drop k bytes) here ∙ rows-split (length xs) bytes row_in
          ∙ ap (λ (ys : List ℕ). ys ++ drop (length bytes - 28 * length xs) bytes) next.row
          ∙ ap (λ (ys : List ℕ). entry_bytes (raw_entry x) ++ ys) older.rows;
    }

-- all bytes from the newest row on
pub held-row : (start : ℕ) (x : Entry) (xs : List Entry) (bytes : List ℕ) → HoldsEntries start (x ∷ xs) bytes →
    drop (row_start (length xs) bytes) bytes ≡ entry_bytes (raw_entry x) ++ rows_of xs
held-row start x xs bytes held =
    let here : row_start (length xs) bytes ≡ length bytes - 28 * length (x ∷ xs) = omega arith in
    ap (λ (k : ℕ). drop k bytes) here ∙ held.rows

pub held-older : (start : ℕ) (x : Entry) (xs : List Entry) (bytes : List ℕ) → HoldsEntries start (x ∷ xs) bytes → HoldsEntries start xs bytes
held-older start x xs bytes held =
    let within = held.within in
    let row_in : 28 * (length xs + 1) ≤ length bytes = omega arith in
    let split = sym (payloads-split start x xs bytes) ∙ held.payloads in
    let long : length (bytes_at start (payload_sum xs) bytes) ≡ payload_sum xs = (let d = length-drop start bytes in length-take-le (payload_sum xs) (drop start bytes) (omega arith)) in
    record {
      fit = held.fit.1;
      within = omega arith;
      payloads = sym (take_at (bytes_at start (payload_sum xs) bytes) (bytes_at (start + payload_sum xs) (length x.p) bytes) (payload_sum xs) long)
          ∙ ap (take (payload_sum xs)) split ∙ take_at (payloads_of xs) x.p (payload_sum xs) (length-payloads_of xs);
      rows = ap (λ (k : ℕ). drop k bytes) (sym (next_row (length xs) bytes row_in)) ∙ sym (drop-drop 28 (row_start (length xs) bytes) bytes)
          ∙ ap (drop 28) (held-row start x xs bytes held) ∙ drop_at (entry_bytes (raw_entry x)) (rows_of xs) 28 (length-entry_bytes (raw_entry x));
    }

pub held-next : (start : ℕ) (x : Entry) (xs : List Entry) (bytes : List ℕ) → HoldsEntries start (x ∷ xs) bytes → HoldsNext start x xs bytes
held-next start x xs bytes held =
    let within = held.within in
    let split = sym (payloads-split start x xs bytes) ∙ held.payloads in
    let long : length (bytes_at start (payload_sum xs) bytes) ≡ payload_sum xs = (let d = length-drop start bytes in length-take-le (payload_sum xs) (drop start bytes) (omega arith)) in
    record {
      fits = held.fit.0;
      within = omega arith;
      payload = sym (drop_at (bytes_at start (payload_sum xs) bytes) (bytes_at (start + payload_sum xs) (length x.p) bytes) (payload_sum xs) long)
          ∙ ap (drop (payload_sum xs)) split ∙ drop_at (payloads_of xs) x.p (payload_sum xs) (length-payloads_of xs);
      row = ap (take 28) (held-row start x xs bytes held) ∙ take_at (entry_bytes (raw_entry x)) (rows_of xs) 28 (length-entry_bytes (raw_entry x));
    }
