use Rattle.std.proofs.Common.{◌≡◌, ℕ, ◌-◌, ◌<◌, List, [], ◌++◌, length, take, drop, min, sym, ap, ◌∙◌, subst, arith, Option}
use Rattle.std.specs.Prelude.{◌⊎◌}
use Rattle.std.proofs.lemmas.Bool.Decides.{nat_tests}
use Rattle.graph_model.specs.declared.pairs.Pair.{Pair}
use Rattle.stamps.specs.Stamps.{Reader, Txn}
use Rattle.edge_log.specs.declared.place.Place.{Place}
use Rattle.edge_log.specs.Entries.{Entry, payload_sum}
use Rattle.edge_log.specs.Parts.{PartContent, part_most, IsPart}
use Rattle.block_layout.specs.Rows.{payloads_of}
use Rattle.block_reading.specs.RowLists.{shown_in}
use Rattle.block_reading.specs.Places.{entries_below, place_at}
use Rattle.block_reading.proofs.BelowLemmas.{length-entries_in}
use Rattle.block_reading.proofs.PartLemmas.{IsLooked, part-looked}
use Rattle.block_reading.proofs.NextLemmas.{looked_all}
use Rattle.block_reading.proofs.RangeLemmas.{IsNewest, newest-sum, newest-range, length-range, newest-shown}
use Rattle.block_reading.proofs.PastLemmas.{newest-past}
use Rattle.block_reading.proofs.parts.part_below.Goals as goal

pub looked_at-rows-requires : goal.looked_at-rows-requires
looked_at-rows-requires c =
    let n = length-entries_in c.args.start c.args.place.below c.args.place.props c.args.block.now in
    let w = c.requires.holds.entries.within in
    omega arith

pub payload_len_below-len-requires : goal.payload_len_below-len-requires
payload_len_below-len-requires c =
    let start : ℕ = c.args.start in
    let place : Place = c.args.place in
    let bytes : List ℕ = c.args.block.now in
    let rows : List (List ℕ) = c.looked_at-rows.result.now in
    let xs : List Entry = entries_below start place bytes in
    let k : ℕ = min place.below part_most in
    let long : length xs ≡ place.below = length-entries_in start place.below place.props bytes in
    let newest : IsNewest start place bytes rows k = record { holds = c.requires.holds; are = c.looked_at-rows.ensures.rows start xs c.requires.holds.entries long } in
    let sum = newest-sum start place bytes rows k newest in
    let fits : place.props < 4294967296 = omega arith in
    omega arith

pub overflow_sub-props : goal.overflow_sub-props
overflow_sub-props c =
    let start : ℕ = c.args.start in
    let place : Place = c.args.place in
    let bytes : List ℕ = c.args.block.now in
    let rows : List (List ℕ) = c.looked_at-rows.result.now in
    let xs : List Entry = entries_below start place bytes in
    let k : ℕ = min place.below part_most in
    let long : length xs ≡ place.below = length-entries_in start place.below place.props bytes in
    let newest : IsNewest start place bytes rows k = record { holds = c.requires.holds; are = c.looked_at-rows.ensures.rows start xs c.requires.holds.entries long } in
    let sum = newest-sum start place bytes rows k newest in
    let len = c.payload_len_below-len.ensures in
    omega arith

pub take_rows-requires-clause-within : goal.take_rows-requires-clause-within
take_rows-requires-clause-within c =
    let start : ℕ = c.args.start in
    let place : Place = c.args.place in
    let bytes : List ℕ = c.args.block.now in
    let rows : List (List ℕ) = c.looked_at-rows.result.now in
    let xs : List Entry = entries_below start place bytes in
    let k : ℕ = min place.below part_most in
    let long : length xs ≡ place.below = length-entries_in start place.below place.props bytes in
    let newest : IsNewest start place bytes rows k = record { holds = c.requires.holds; are = c.looked_at-rows.ensures.rows start xs c.requires.holds.entries long } in
    let range = newest-range start place bytes rows k c.payload_len_below-len.result newest c.payload_len_below-len.ensures in
    let taken : c.take_range.new.self.range ≡ payloads_of (take k xs) = ap (λ (p : PartContent). p.range) c.take_range.ensures ∙ range in
    let size = length-range start place bytes rows k c.take_range.new.self.range newest taken in
    omega arith

pub take_rows-requires-clause-lens : goal.take_rows-requires-clause-lens
take_rows-requires-clause-lens c = λ bare.
    let start : ℕ = c.args.start in
    let place : Place = c.args.place in
    let bytes : List ℕ = c.args.block.now in
    let rows : List (List ℕ) = c.looked_at-rows.result.now in
    let xs : List Entry = entries_below start place bytes in
    let k : ℕ = min place.below part_most in
    let long : length xs ≡ place.below = length-entries_in start place.below place.props bytes in
    let newest : IsNewest start place bytes rows k = record { holds = c.requires.holds; are = c.looked_at-rows.ensures.rows start xs c.requires.holds.entries long } in
    let sum = newest-sum start place bytes rows k newest in
    let none : place.props ≡ 0 = grind (arith, nat_tests, bare) in
    omega (arith, sum, none)

pub take_rows-requires-clause-stamps : goal.take_rows-requires-clause-stamps
take_rows-requires-clause-stamps c = λ past.
    let start : ℕ = c.args.start in
    let place : Place = c.args.place in
    let bytes : List ℕ = c.args.block.now in
    let rows : List (List ℕ) = c.looked_at-rows.result.now in
    let xs : List Entry = entries_below start place bytes in
    let k : ℕ = min place.below part_most in
    let long : length xs ≡ place.below = length-entries_in start place.below place.props bytes in
    let newest : IsNewest start place bytes rows k = record { holds = c.requires.holds; are = c.looked_at-rows.ensures.rows start xs c.requires.holds.entries long } in
    newest-past start place bytes rows k c.args.read newest (c.requires.stamps past)

pub returns-then-fits_range : goal.returns-then-fits_range
returns-then-fits_range c =
    let start : ℕ = c.args.start in
    let place : Place = c.args.place in
    let bytes : List ℕ = c.args.block.now in
    let rows : List (List ℕ) = c.looked_at-rows.result.now in
    let xs : List Entry = entries_below start place bytes in
    let k : ℕ = min place.below part_most in
    let long : length xs ≡ place.below = length-entries_in start place.below place.props bytes in
    let newest : IsNewest start place bytes rows k = record { holds = c.requires.holds; are = c.looked_at-rows.ensures.rows start xs c.requires.holds.entries long } in
    let who : Reader = Txn c.args.tid in
    let new : PartContent = c.take_rows.new.out in
    let range = newest-range start place bytes rows k c.payload_len_below-len.result newest c.payload_len_below-len.ensures in
    let taken : c.take_range.new.self.range ≡ payloads_of (take k xs) = ap (λ (p : PartContent). p.range) c.take_range.ensures ∙ range in
    let none : c.take_range.new.self.pairs ≡ [] = ap (λ (p : PartContent). p.pairs) c.take_range.ensures in
    let pairs : new.pairs ≡ shown_in rows c.take_range.new.self.range c.args.read who =
    c.take_rows.ensures.pairs ∙ ap (λ (ps : List Pair). ps ++ shown_in rows c.take_range.new.self.range c.args.read who) none in
    let sum = newest-sum start place bytes rows k newest in
    let looked : IsLooked xs k c.args.read who c.args.out.now new = record {
      pairs = newest-shown start place bytes rows k c.args.read who c.take_range.new.self.range new.pairs newest taken pairs;
      bytes = c.take_rows.ensures.bytes ∙ ap (λ (p : PartContent). p.bytes) c.take_range.ensures;
      some = λ some. omega arith;
      within = omega arith;
      few = omega arith;
    } in
    let whole : (k ≡ length xs) ⊎ (k ≡ part_most) = looked_all k (length xs) (omega arith) in
    let P : ℕ → Option Place → Type 0 = λ m o. IsPart xs m o c.args.read who c.args.out.now new in
    let props : payload_sum (drop k xs) ≡ place.props - c.payload_len_below-len.result = (let len = c.payload_len_below-len.ensures in omega arith) in
    let below : length xs - k ≡ place.below - length rows = (let l = c.looked_at-rows.ensures.long in omega arith) in
    let there : place_at (length xs - k) (payload_sum (drop k xs)) ≡ c.next_place.result =
    ap (λ (b : ℕ). place_at b (payload_sum (drop k xs))) below ∙ ap (place_at (place.below - length rows)) props ∙ sym c.next_place.ensures in
    subst (P place.below) there
    (subst (λ (m : ℕ). P m (place_at (length xs - k) (payload_sum (drop k xs)))) long
    (part-looked xs k c.args.read who c.args.out.now new looked whole))
