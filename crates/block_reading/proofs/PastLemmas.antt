-- Rows of entries of the past.
use Rattle.std.proofs.Common.{◌≡◌, ℕ, zero, suc, ◌≤◌, true, List, [], ◌∷◌, length, take, sym, subst, arith, ◌+◌, Bool, false}
use Rattle.std.specs.Prelude.{◌<◌, nat_le, if◌then◌else◌}
use Rattle.std.specs.List.{AllByRecursion}
use Rattle.std.proofs.lemmas.Bool.Decides.{nat_tests}
use Rattle.std.proofs.lemmas.List.Elements.{All-from_recursion}
use Rattle.stamps.specs.declared.stamp.Stamp.{Stamp}
use Rattle.stamps.specs.declared.stamp.Stamp.TheVariants.{Never, At, By}
use Rattle.stamps.specs.Stamps.{Nobody, counts}
use Rattle.edge_log.specs.declared.place.Place.{Place}
use Rattle.edge_log.specs.Entries.{Entry}
use Rattle.edge_log.specs.Places.{oldest, IsPlaceIn}
use Rattle.tel_entry.specs.Layouts.{entry_bytes}
use Rattle.tel_entry.specs.RawStamps.{private_from, raw_of, HasRaw, IsPastRaw}
use Rattle.block_layout.specs.Rows.{raw_entry, HasRow, HaveRows}
use Rattle.block_layout.specs.Blocks.{HoldsEntries}
use Rattle.block_layout.specs.Reads.{raw_in}
use Rattle.block_reading.specs.RowLists.{row_list}
use Rattle.block_reading.specs.Places.{entries_below}
use Rattle.block_reading.specs.Past.{is_past, IsPast, ArePast, IsPastRow, ArePastRows}
use Rattle.block_reading.proofs.BelowLemmas.{have-take, below-read}
use Rattle.block_reading.proofs.ShownLemmas.{raw_in-row}
use Rattle.block_reading.proofs.RangeLemmas.{IsNewest}

past-created : (e : ℕ) (s : Stamp) → HasRaw s → counts s e Nobody ≡ true → IsPastRaw e (raw_of s)
past-created e Never has counted = absurd (cc counted)
past-created e (At n) has counted = record { some = has.0; past = grind (arith, nat_tests, counted); epoch = has.1 }
past-created e (By t) has counted = absurd (cc counted)

past-ended : (e : ℕ) (s : Stamp) → HasRaw s → is_past e s ≡ true → (raw_of s ≤ e) × (raw_of s < private_from)
past-ended e Never has past = (omega arith, omega arith)
past-ended e (At n) has past = (grind (arith, nat_tests, past), has.1)
past-ended e (By t) has past = absurd (cc past)

past-row : (e : ℕ) (x : Entry) → HasRow x → IsPast e x → IsPastRow e (raw_in (entry_bytes (raw_entry x)))
past-row e x has past =
    let ended = past-ended e x.ended has.ended past.ended in
    subst (IsPastRow e) (sym (raw_in-row x has)) (record {
      created = past-created e x.created has.created past.created;
      ended = ended.0;
      epoch = ended.1;
    })

past-rows : (e : ℕ) (xs : List Entry) → HaveRows xs → ArePast e xs → AllByRecursion (λ row. IsPastRow e (raw_in row)) (row_list xs)
past-rows e [] have past = tt
past-rows e (x ∷ xs) have past = (past-row e x have.0 past.0, past-rows e xs have.1 past.1)

past-take : (e k : ℕ) (xs : List Entry) → ArePast e xs → ArePast e (take k xs)
past-take e zero xs past = tt
past-take e (suc k) [] past = tt
past-take e (suc k) (x ∷ xs) past = (past.0, past-take e k xs past.1)

-- the rows that are looked at are of the past where all entries below the place are
pub newest-past : (start : ℕ) (place : Place) (bytes : List ℕ) (rows : List (List ℕ)) (k e : ℕ) → IsNewest start place bytes rows k → ArePast e (entries_below start place bytes) → ArePastRows e rows
newest-past start place bytes rows k e newest past =
    let xs : List Entry = entries_below start place bytes in
    subst (ArePastRows e) (sym newest.are)
    (All-from_recursion (λ (row : List ℕ). IsPastRow e (raw_in row)) (row_list (take k xs)) (past-rows e (take k xs) (have-take k xs newest.holds.entries.fit) (past-take e k xs past)))

pub past-oldest : (e n : ℕ) (xs : List Entry) → ArePast e xs → ArePast e (oldest n xs)
past-oldest e n [] past = tt
past-oldest e n (x ∷ xs) past = by_test (nat_le (length xs + 1) n) (past-oldest e n xs past.1)
  where
    by_test : (b : Bool) → ArePast e (oldest n xs) → ArePast e (if b then x ∷ xs else oldest n xs)
    by_test true older = past
    by_test false older = older

-- those below a place of a log of such entries
pub past-below : (start : ℕ) (place : Place) (xs : List Entry) (bytes : List ℕ) (e : ℕ) → HoldsEntries start xs bytes → IsPlaceIn xs place → ArePast e (oldest place.below xs) → ArePast e (entries_below start place bytes)
past-below start place xs bytes e held is past = subst (ArePast e) (sym (below-read start place xs bytes held is)) past
