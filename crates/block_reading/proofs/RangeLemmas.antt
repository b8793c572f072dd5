-- The newest entries, whose payloads are one range of the bytes.
use Rattle.std.proofs.Common.{◌≡◌, ℕ, ◌+◌, ◌-◌, List, ◌++◌, length, take, drop, sym, ap, ◌∙◌, arith}
use Rattle.graph_model.specs.declared.pairs.Pair.{Pair}
use Rattle.stamps.specs.Stamps.{Reader}
use Rattle.edge_log.specs.declared.place.Place.{Place}
use Rattle.edge_log.specs.Entries.{Entry, shown, payload_sum}
use Rattle.block_layout.specs.Rows.{payloads_of}
use Rattle.block_layout.proofs.Held.{length-payloads_of}
use Rattle.block_reading.specs.RowLists.{row_list, lens_of, shown_in}
use Rattle.block_reading.specs.Places.{entries_below, HoldsBelow}
use Rattle.block_reading.proofs.BelowLemmas.{have-take, sum-split, newest-payloads}
use Rattle.block_reading.proofs.ShownLemmas.{lens-row_list, shown-split, shown_in-row_list}

-- The rows of the newest k entries below a place, and how many bytes their payloads have.
pub record IsNewest (start : ℕ) (place : Place) (bytes : List ℕ) (rows : List (List ℕ)) (k : ℕ) : Type 0 where
  pub holds : HoldsBelow start place bytes
  pub are : rows ≡ row_list (take k (entries_below start place bytes))

pub newest-lens : (start : ℕ) (place : Place) (bytes : List ℕ) (rows : List (List ℕ)) (k : ℕ) → IsNewest start place bytes rows k →
    lens_of rows ≡ payload_sum (take k (entries_below start place bytes))
newest-lens start place bytes rows k newest =
    let xs : List Entry = entries_below start place bytes in
    ap lens_of newest.are ∙ lens-row_list (take k xs) (have-take k xs newest.holds.entries.fit)

-- with what is left below them these are all below the place
pub newest-sum : (start : ℕ) (place : Place) (bytes : List ℕ) (rows : List (List ℕ)) (k : ℕ) → IsNewest start place bytes rows k →
    place.props ≡ lens_of rows + payload_sum (drop k (entries_below start place bytes))
newest-sum start place bytes rows k newest =
    let xs : List Entry = entries_below start place bytes in
    sym newest.holds.props ∙ sum-split k xs ∙ ap (λ (n : ℕ). n + payload_sum (drop k xs)) (sym (newest-lens start place bytes rows k newest))

-- the range that is cut out has their payloads
pub newest-range : (start : ℕ) (place : Place) (bytes : List ℕ) (rows : List (List ℕ)) (k len : ℕ) → IsNewest start place bytes rows k → len ≡ lens_of rows →
    take (start + place.props - (start + (place.props - len))) (drop (start + (place.props - len)) bytes) ≡ payloads_of (take k (entries_below start place bytes))
newest-range start place bytes rows k len newest is =
    let xs : List Entry = entries_below start place bytes in
    let sum = newest-sum start place bytes rows k newest in
    let lens = newest-lens start place bytes rows k newest in
    let low : start + (place.props - len) ≡ start + payload_sum (drop k xs) = omega arith in
    let cut : start + place.props - (start + (place.props - len)) ≡ payload_sum (take k xs) = omega arith in
    ap (λ (n : ℕ). take n (drop (start + (place.props - len)) bytes)) cut
    ∙ ap (λ (n : ℕ). take (payload_sum (take k xs)) (drop n bytes)) low
    ∙ newest-payloads start k xs bytes newest.holds.entries

pub length-range : (start : ℕ) (place : Place) (bytes : List ℕ) (rows : List (List ℕ)) (k : ℕ) (range : List ℕ) → IsNewest start place bytes rows k →
    range ≡ payloads_of (take k (entries_below start place bytes)) → length range ≡ lens_of rows
length-range start place bytes rows k range newest is =
    let xs : List Entry = entries_below start place bytes in
    ap length is ∙ length-payloads_of (take k xs) ∙ sym (newest-lens start place bytes rows k newest)

-- the edges that are taken, and those that are left
pub newest-shown : (start : ℕ) (place : Place) (bytes : List ℕ) (rows : List (List ℕ)) (k e : ℕ) (who : Reader) (range : List ℕ) (pairs : List Pair) → IsNewest start place bytes rows k →
    range ≡ payloads_of (take k (entries_below start place bytes)) → pairs ≡ shown_in rows range e who →
    shown (entries_below start place bytes) e who ≡ pairs ++ shown (drop k (entries_below start place bytes)) e who
newest-shown start place bytes rows k e who range pairs newest is taken =
    let xs : List Entry = entries_below start place bytes in
    shown-split k xs e who
    ∙ ap (λ (ps : List Pair). ps ++ shown (drop k xs) e who)
    (sym (taken ∙ ap (λ (r : List ℕ). shown_in rows r e who) is ∙ ap (λ (rs : List (List ℕ)). shown_in rs (payloads_of (take k xs)) e who) newest.are
    ∙ shown_in-row_list (take k xs) e who (have-take k xs newest.holds.entries.fit)))
