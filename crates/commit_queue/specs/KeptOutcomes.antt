-- What outcomes show.
use Rattle.std.specs.Prelude.{ℕ, zero, suc, ◌≡◌, Bool, false, nat_eq, ◌||◌, if◌then◌else◌, List, [], ◌∷◌, Option, Some, None}
use Rattle.std.specs.Map.{lookup}
use Rattle.std.specs.List.{position_or_len}
use Rattle.graph_model.specs.declared.record.Outcome.{Outcome}
use Rattle.group_commit.specs.Encoded.{Encoded}

-- the outcomes with the numbers that they are kept for, the first one first, and for how many more there is room
pub record KeptOutcomes : Type 0 where
  pub kept : List (ℕ × Outcome)
  pub room : ℕ

-- the outcome that is kept for a number
abbrev pub outcome_of : ℕ → List (ℕ × Outcome) → Option Outcome
outcome_of tid kept = lookup (nat_eq tid) kept

-- where the outcome for a number stands; the number of outcomes where none is kept for it
abbrev pub place_in : ℕ → List (ℕ × Outcome) → ℕ
place_in tid kept = position_or_len (λ (x : ℕ × Outcome). nat_eq tid x.0) kept

-- A place among so many as it is noted: one more than it is, and 0 for the one behind the last.
abbrev pub noted_place : ℕ → ℕ → ℕ
noted_place many zero = many
noted_place many (suc i) = i

-- the transaction of a number is one of the members
abbrev pub has_member : ℕ → List Encoded → Bool
has_member tid [] = false
has_member tid (m ∷ ms) = nat_eq m.draft.tid tid || has_member tid ms

-- The outcome is kept for one number, and for each other number what was kept before.
abbrev pub KeepsAt : ℕ → Outcome → List (ℕ × Outcome) → List (ℕ × Outcome) → Type 0
KeepsAt number o old new = (tid : ℕ) → outcome_of tid new ≡ (if nat_eq number tid then Some o else outcome_of tid old)

-- The same for the numbers of members.
abbrev pub KeepsFor : List Encoded → Outcome → List (ℕ × Outcome) → List (ℕ × Outcome) → Type 0
KeepsFor members o old new =
    (tid : ℕ) → outcome_of tid new ≡ (if has_member tid members then Some o else outcome_of tid old)

-- one outcome for the number of each member, in order
abbrev pub kept_for : Outcome → List Encoded → List (ℕ × Outcome)
kept_for o [] = []
kept_for o (m ∷ ms) = (m.draft.tid, o) ∷ kept_for o ms

-- Nothing is kept for the members, no two of which are of one transaction.
abbrev pub AllNew : List Encoded → List (ℕ × Outcome) → Type 0
AllNew [] kept = Unit {0}
AllNew (m ∷ ms) kept = (outcome_of m.draft.tid kept ≡ None) × (has_member m.draft.tid ms ≡ false) × AllNew ms kept
