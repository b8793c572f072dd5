-- What the outcomes that are kept say of the transactions that run.
use Rattle.std.specs.Prelude.{◌≡◌, ℕ, zero, suc, ◌+◌, ◌<◌, ◌≤◌, Bool, true, false, ◌||◌, ◌==◌, if◌then◌else◌, List, [], ◌∷◌, map, Option, Some, None, is_some}
use Rattle.graph_model.specs.declared.record.Record.{Record}
use Rattle.graph_model.specs.declared.record.Outcome.{Outcome}
use Rattle.graph_model.specs.declared.record.Outcome.TheVariants.{Committed, Failed}
use Rattle.core_states.specs.declared.clock.Active.{Active}
use Rattle.core_states.specs.declared.clock.KeptOutcome.{KeptOutcome}
use Rattle.core_states.specs.Numbers.{outcome_of, has_record}
use Rattle.epoch_clock.specs.ActiveRows.{is_running}

-- outcomes that are kept in pairs, as the core keeps them
abbrev pub outcomes_of : List (ℕ × Outcome) → List KeptOutcome
outcomes_of [] = []
outcomes_of (x ∷ kept) = record { tid = x.0; outcome = x.1 } ∷ outcomes_of kept

-- The published records that are not done: those of transactions that still run, in the order in which they
-- were published.
abbrev pub undone_by : Outcome → ℕ → Bool → List Active → List Active
undone_by (Committed e) t true rest = record { tid = t; epoch = e } ∷ rest
undone_by (Committed e) t false rest = rest
undone_by (Failed before after) t runs rest = rest

abbrev pub undone_of : List KeptOutcome → List Active → List Active
undone_of [] rows = []
undone_of (x ∷ kept) rows = undone_by x.outcome x.tid (is_running x.tid rows) (undone_of kept rows)

-- how many of the transactions that run have no outcome
abbrev pub undecided : List KeptOutcome → List Active → ℕ
undecided kept [] = 0
undecided kept (x ∷ rows) = if is_some (outcome_of x.tid kept) then undecided kept rows else suc (undecided kept rows)

-- an outcome that is kept for each number at most once
abbrev pub KeptOnce : List KeptOutcome → Type 0
KeptOnce [] = Unit {0}
KeptOnce (x ∷ kept) = (outcome_of x.tid kept ≡ None) × KeptOnce kept

-- Records of different transactions that run and have no outcome.
abbrev pub Awaited : List Active → List KeptOutcome → List Record → Type 0
Awaited rows kept [] = Unit {0}
Awaited rows kept (r ∷ rs) =
    (is_running r.tid rows ≡ true) × (outcome_of r.tid kept ≡ None) × (has_record r.tid rs ≡ false) × Awaited rows kept rs

-- the transaction has no published record
abbrev pub is_lost : Option Outcome → Bool
is_lost None = true
is_lost (Some (Committed e)) = false
is_lost (Some (Failed before after)) = true

-- the epoch of its published record, or 0
abbrev pub epoch_in : Option Outcome → ℕ
epoch_in None = 0
epoch_in (Some (Committed e)) = e
epoch_in (Some (Failed before after)) = 0

-- how many records of an epoch are not done
abbrev pub count_at : ℕ → List Active → ℕ
count_at e [] = 0
count_at e (x ∷ xs) = if x.epoch == e then suc (count_at e xs) else count_at e xs

-- These are the counts of the epochs from this one on.
abbrev pub Counts : ℕ → List ℕ → List Active → Type 0
Counts e [] pending = Unit {0}
Counts e (n ∷ ns) pending = (n ≡ count_at e pending) × Counts (e + 1) ns pending

-- the epochs are above the first of these two, and not above the second
abbrev pub EpochsWithin : ℕ → ℕ → List Active → Type 0
EpochsWithin low high [] = Unit {0}
EpochsWithin low high (x ∷ xs) = (low < x.epoch) × (x.epoch ≤ high) × EpochsWithin low high xs

-- the first epoch has a record that is not done
abbrev pub BeginsAbove : List ℕ → Type 0
BeginsAbove [] = Unit {0}
BeginsAbove (n ∷ ns) = 0 < n

-- the counts without the epochs at their front in which all is done
abbrev pub risen : List ℕ → List ℕ
risen [] = []
risen (zero ∷ ns) = risen ns
risen (suc n ∷ ns) = suc n ∷ ns
