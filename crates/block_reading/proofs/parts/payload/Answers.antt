use Rattle.std.proofs.Common.{◌≡◌, ℕ, ◌+◌, ◌-◌, ◌<◌, ◌≤◌, List, length, take, drop, sym, ap, ◌∙◌, arith, Some}
use Rattle.edge_log.specs.declared.place.Place.{Place}
use Rattle.edge_log.specs.Entries.{Entry, payload_sum}
use Rattle.edge_log.specs.Places.{entry_at}
use Rattle.block_reading.specs.Places.{entries_below}
use Rattle.block_reading.proofs.ShownLemmas.{row_list-take}
use Rattle.block_reading.proofs.BelowLemmas.{length-entries_in, below-held, below-read}
use Rattle.block_reading.proofs.PartLemmas.{entry_at-oldest}
use Rattle.block_reading.proofs.NextLemmas.{next_at, next-sum, next-ends, next-payload}
use Rattle.block_reading.proofs.RangeLemmas.{IsNewest, newest-sum}
use Rattle.block_reading.proofs.parts.payload.Goals as goal

pub payload_len-requires : goal.payload_len-requires
payload_len-requires c =
    let start : ℕ = c.args.start in
    let from : Place = c.args.from in
    let bytes : List ℕ = c.args.block.now in
    let xs : List Entry = entries_below start from bytes in
    let holds = below-held start from bytes c.requires.holds in
    let k : ℕ = from.below - c.args.place - 1 in
    let long : length xs ≡ from.below = length-entries_in start from.below from.props bytes in
    let above = c.requires.above in
    let rows : List (List ℕ) = take k c.rows_below.result.now in
    let newest : IsNewest start from bytes rows k = record {
      holds = holds;
      are = ap (take k) (c.rows_below.ensures.rows start xs holds.entries long) ∙ row_list-take k xs;
    } in
    let sum = newest-sum start from bytes rows k newest in
    let fits : from.props < 4294967296 = omega arith in
    omega arith

pub overflow_sub-end : goal.overflow_sub-end
overflow_sub-end c =
    let start : ℕ = c.args.start in
    let from : Place = c.args.from in
    let bytes : List ℕ = c.args.block.now in
    let xs : List Entry = entries_below start from bytes in
    let holds = below-held start from bytes c.requires.holds in
    let k : ℕ = from.below - c.args.place - 1 in
    let long : length xs ≡ from.below = length-entries_in start from.below from.props bytes in
    let above = c.requires.above in
    let rows : List (List ℕ) = take k c.rows_below.result.now in
    let newest : IsNewest start from bytes rows k = record {
      holds = holds;
      are = ap (take k) (c.rows_below.ensures.rows start xs holds.entries long) ∙ row_list-take k xs;
    } in
    let sum = newest-sum start from bytes rows k newest in
    let len = c.payload_len.ensures in
    omega arith

pub overflow_sub-result : goal.overflow_sub-result
overflow_sub-result c =
    let start : ℕ = c.args.start in
    let from : Place = c.args.from in
    let bytes : List ℕ = c.args.block.now in
    let xs : List Entry = entries_below start from bytes in
    let holds = below-held start from bytes c.requires.holds in
    let k : ℕ = from.below - c.args.place - 1 in
    let long : length xs ≡ from.below = length-entries_in start from.below from.props bytes in
    let above = c.requires.above in
    let rows : List (List ℕ) = take k c.rows_below.result.now in
    let newest : IsNewest start from bytes rows k = record {
      holds = holds;
      are = ap (take k) (c.rows_below.ensures.rows start xs holds.entries long) ∙ row_list-take k xs;
    } in
    let sum = newest-sum start from bytes rows k newest in
    let len = c.payload_len.ensures in
    let next = next_at start xs k bytes holds.entries (omega arith) in
    let place : length xs - k - 1 ≡ c.args.place = omega arith in
    let at : entry_at xs c.args.place ≡ Some next.0 = ap (entry_at xs) (sym place) ∙ next.1.0 in
    let raw = c.entry_at-len.result in
    let is = next.1.1 raw (c.entry_at-len.ensures start xs next.0 holds.entries at) in
    let end : from.props - c.payload_len.result ≡ payload_sum (drop k xs) = omega arith in
    let more = next-sum start xs k raw next.0 bytes is in
    omega arith

pub slice_bounds-result-end : goal.slice_bounds-result-end
slice_bounds-result-end c =
    let start : ℕ = c.args.start in
    let from : Place = c.args.from in
    let bytes : List ℕ = c.args.block.now in
    let xs : List Entry = entries_below start from bytes in
    let holds = below-held start from bytes c.requires.holds in
    let k : ℕ = from.below - c.args.place - 1 in
    let long : length xs ≡ from.below = length-entries_in start from.below from.props bytes in
    let above = c.requires.above in
    let rows : List (List ℕ) = take k c.rows_below.result.now in
    let newest : IsNewest start from bytes rows k = record {
      holds = holds;
      are = ap (take k) (c.rows_below.ensures.rows start xs holds.entries long) ∙ row_list-take k xs;
    } in
    let sum = newest-sum start from bytes rows k newest in
    let len = c.payload_len.ensures in
    let next = next_at start xs k bytes holds.entries (omega arith) in
    let place : length xs - k - 1 ≡ c.args.place = omega arith in
    let at : entry_at xs c.args.place ≡ Some next.0 = ap (entry_at xs) (sym place) ∙ next.1.0 in
    let raw = c.entry_at-len.result in
    let is = next.1.1 raw (c.entry_at-len.ensures start xs next.0 holds.entries at) in
    let end : from.props - c.payload_len.result ≡ payload_sum (drop k xs) = omega arith in
    let ends = next-ends start xs k raw next.0 bytes is in
    let within : start + (from.props - c.payload_len.result) ≤ length bytes = omega arith in
    within

pub returns : goal.returns
returns c = λ all x held in_log stands.
    let start : ℕ = c.args.start in
    let from : Place = c.args.from in
    let bytes : List ℕ = c.args.block.now in
    let xs : List Entry = entries_below start from bytes in
    let holds = below-held start from bytes c.requires.holds in
    let k : ℕ = from.below - c.args.place - 1 in
    let long : length xs ≡ from.below = length-entries_in start from.below from.props bytes in
    let above = c.requires.above in
    let rows : List (List ℕ) = take k c.rows_below.result.now in
    let newest : IsNewest start from bytes rows k = record {
      holds = holds;
      are = ap (take k) (c.rows_below.ensures.rows start xs holds.entries long) ∙ row_list-take k xs;
    } in
    let sum = newest-sum start from bytes rows k newest in
    let len = c.payload_len.ensures in
    let next = next_at start xs k bytes holds.entries (omega arith) in
    let place : length xs - k - 1 ≡ c.args.place = omega arith in
    let at : entry_at xs c.args.place ≡ Some next.0 = ap (entry_at xs) (sym place) ∙ next.1.0 in
    let raw = c.entry_at-len.result in
    let is = next.1.1 raw (c.entry_at-len.ensures start xs next.0 holds.entries at) in
    let end : from.props - c.payload_len.result ≡ payload_sum (drop k xs) = omega arith in
    let same : next.0 ≡ x = (let
    read : entry_at xs c.args.place ≡ entry_at all c.args.place =
    ap (λ (ys : List Entry). entry_at ys c.args.place) (below-read start from all bytes held in_log) ∙ entry_at-oldest c.args.place from.below all above in_log.within in
    let both : Some next.0 ≡ Some x = sym at ∙ read ∙ stands in cc both) in
    next-payload start xs k raw next.0 bytes (from.props - c.payload_len.result) is end ∙ ap (λ (y : Entry). y.p) same
