-- Lists of numbers, of active transactions, of kept outcomes and of records.
use Rattle.std.specs.Prelude.{ℕ, ◌-◌, min, Bool, true, false, ◌&&◌, ◌||◌, if◌then◌else◌, ◌==◌, List, [], ◌∷◌, Option, Some, None}
use Rattle.graph_model.specs.declared.record.Record.{Record}
use Rattle.graph_model.specs.declared.record.Outcome.{Outcome}
use Rattle.core_states.specs.declared.clock.Active.{Active}
use Rattle.core_states.specs.declared.clock.KeptOutcome.{KeptOutcome}

abbrev pub has_number : ℕ → List ℕ → Bool
has_number v [] = false
has_number v (x ∷ xs) = x == v || has_number v xs

abbrev pub without_number : ℕ → List ℕ → List ℕ
without_number v [] = []
without_number v (x ∷ xs) = if x == v then without_number v xs else x ∷ without_number v xs

abbrev pub all_in : List ℕ → List ℕ → Bool
all_in [] ys = true
all_in (x ∷ xs) ys = has_number x ys && all_in xs ys

-- the numbers with this one, once
abbrev pub touch : ℕ → List ℕ → List ℕ
touch v xs = if has_number v xs then xs else v ∷ xs

-- the least of a number and the epochs
abbrev pub least : ℕ → List Active → ℕ
least n [] = n
least n (x ∷ xs) = least (min n x.epoch) xs

-- the least of a number and the transaction numbers
abbrev pub least_tid : ℕ → List Active → ℕ
least_tid n [] = n
least_tid n (x ∷ xs) = least_tid (min n x.tid) xs

abbrev pub without_active : ℕ → List Active → List Active
without_active t [] = []
without_active t (x ∷ xs) = if x.tid == t then without_active t xs else x ∷ without_active t xs

abbrev pub has_active : ℕ → ℕ → List Active → Bool
has_active t e [] = false
has_active t e (x ∷ xs) = (x.tid == t && x.epoch == e) || has_active t e xs

-- the outcome that is kept for a number
abbrev pub outcome_of : ℕ → List KeptOutcome → Option Outcome
outcome_of t [] = None
outcome_of t (x ∷ xs) = if x.tid == t then Some x.outcome else outcome_of t xs

-- the epochs up to which all records are done: below the least pending one
abbrev pub visible_of : ℕ → List Active → ℕ
visible_of last [] = last
visible_of last (x ∷ xs) = min (x.epoch - 1) (visible_of last xs)

abbrev pub has_record : ℕ → List Record → Bool
has_record t [] = false
has_record t (r ∷ rs) = r.tid == t || has_record t rs

-- What a group becomes when it is published: records of its epoch, and what is not done.
abbrev pub numbered : ℕ → List Record → List Record
numbered e [] = []
numbered e (r ∷ rs) = record { tid = r.tid; read = r.read; epoch = e; changes = r.changes } ∷ numbered e rs

-- one outcome for all records of a group
abbrev pub settled_as : Outcome → List Record → List KeptOutcome
settled_as o [] = []
settled_as o (r ∷ rs) = record { tid = r.tid; outcome = o } ∷ settled_as o rs

abbrev pub pending_of : ℕ → List Record → List Active
pending_of e [] = []
pending_of e (r ∷ rs) = record { tid = r.tid; epoch = e } ∷ pending_of e rs
