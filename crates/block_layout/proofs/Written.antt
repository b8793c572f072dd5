-- What a write leaves of the entries that the bytes hold.
use Rattle.std.proofs.Common.{◌≡◌, ℕ, ◌+◌, ◌-◌, ◌*◌, ◌≤◌, List, ◌∷◌, length, drop, refl, ap, ◌∙◌, arith}
use Rattle.edge_log.specs.Entries.{Entry, payload_sum}
use Rattle.tel_entry.specs.Layouts.{entry_bytes}
use Rattle.tel_entry.proofs.Fronts.{length-entry_bytes}
use Rattle.block_layout.specs.Sizes.{bytes_at}
use Rattle.block_layout.specs.Rows.{raw_entry, HasRow}
use Rattle.block_layout.specs.Blocks.{HoldsEntries}
use Rattle.block_layout.specs.Reads.{row_start}
use Rattle.block_layout.specs.Writes.{overwritten}
use Rattle.block_layout.proofs.Windows.{length-overwritten, drop-behind, window-before, window-behind, window-written}
use Rattle.block_layout.proofs.Held.{held_more}

-- a write between the payloads and the rows leaves the entries
pub held-free : (start from : ℕ) (new : List ℕ) (xs : List Entry) (bytes : List ℕ) → HoldsEntries start xs bytes →
    start + payload_sum xs ≤ from → from + length new + 28 * length xs ≤ length bytes → HoldsEntries start xs (overwritten from new bytes)
held-free start from new xs bytes held above below =
    let long : length (overwritten from new bytes) ≡ length bytes = length-overwritten from new bytes (omega arith) in
    record {
      fit = held.fit;
      within = (let w = held.within in omega (arith, long));
      payloads = window-before start (payload_sum xs) from new bytes above (omega arith) ∙ held.payloads;
      rows = ap (λ (n : ℕ). drop (n - 28 * length xs) (overwritten from new bytes)) long
          ∙ drop-behind (length bytes - 28 * length xs) from new bytes (omega arith) (omega arith) ∙ held.rows;
    }

-- a write before the payloads leaves the entries
pub held-front : (start from : ℕ) (new : List ℕ) (xs : List Entry) (bytes : List ℕ) → HoldsEntries start xs bytes →
    from + length new ≤ start → HoldsEntries start xs (overwritten from new bytes)
held-front start from new xs bytes held before =
    let w = held.within in
    let long : length (overwritten from new bytes) ≡ length bytes = length-overwritten from new bytes (omega arith) in
    record {
      fit = held.fit;
      within = omega (arith, long);
      payloads = window-behind start (payload_sum xs) from new bytes before (omega arith) ∙ held.payloads;
      rows = ap (λ (n : ℕ). drop (n - 28 * length xs) (overwritten from new bytes)) long
          ∙ drop-behind (length bytes - 28 * length xs) from new bytes (omega arith) (omega arith) ∙ held.rows;
    }

-- the payload of one more entry behind the others, and then its row before theirs
pub held-appended : (start : ℕ) (x : Entry) (xs : List Entry) (bytes : List ℕ) → HoldsEntries start xs bytes → HasRow x →
    start + payload_sum (x ∷ xs) + 28 * length (x ∷ xs) ≤ length bytes →
    HoldsEntries start (x ∷ xs) (overwritten (row_start (length xs) bytes) (entry_bytes (raw_entry x)) (overwritten (start + payload_sum xs) x.p bytes))
held-appended start x xs bytes held fits within =
    let at : ℕ = start + payload_sum xs in
    let first : List ℕ = overwritten at x.p bytes in
    let row : ℕ = row_start (length xs) bytes in
    let e : List ℕ = entry_bytes (raw_entry x) in
    let elen : length e ≡ 28 = length-entry_bytes (raw_entry x) in
    let long1 : length first ≡ length bytes = length-overwritten at x.p bytes (omega arith) in
    let held1 : HoldsEntries start xs first = held-free start at x.p xs bytes held (omega arith) (omega arith) in
    let within2 : row + length e ≤ length first = omega (arith, elen, long1) in
    let long2 : length (overwritten row e first) ≡ length first = length-overwritten row e first within2 in
    let held2 : HoldsEntries start xs (overwritten row e first) = held-free start row e xs first held1 (omega arith) (omega (arith, elen, long1)) in
    held_more start x xs (overwritten row e first) held2
    (record {
      fits = fits;
      within = omega (arith, long1, long2);
      payload = window-before at (length x.p) row e first (omega arith) within2 ∙ window-written at (length x.p) x.p bytes refl (omega arith);
      row = ap (λ (n : ℕ). bytes_at (n - 28 * (length xs + 1)) 28 (overwritten row e first)) (long2 ∙ long1) ∙ window-written row 28 e first elen within2;
    })
