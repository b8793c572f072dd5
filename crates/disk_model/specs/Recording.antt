-- How a disk over memory records its steps: the written bytes stand one after another in one list.
use Rattle.std.specs.Prelude.{◌≡◌, ℕ, ◌+◌, ◌≤◌, List, [], ◌∷◌, length, map, take, drop}
use Rattle.disk_model.specs.declared.event.Call.{Call}
use Rattle.disk_model.specs.declared.event.Call.TheVariants as calls
use Rattle.disk_model.specs.Steps.{Step, Wrote, Other, written}

-- the step that a recorded call did
abbrev pub step_of : List ℕ → Call → Step
step_of data_ (calls.Write place from amount) = Wrote place (take amount (drop from data_))
step_of data_ (calls.Other event) = Other event

-- the steps that recorded calls did
abbrev pub steps_of : List ℕ → List Call → List Step
steps_of data_ recorded = map (step_of data_) recorded

-- The bytes that the call wrote stand among the first n.
abbrev pub IsIn : ℕ → Call → Type 0
IsIn n (calls.Write place from amount) = from + amount ≤ n
IsIn n (calls.Other event) = Unit {0}

-- so of each of these calls
abbrev pub AllIn : ℕ → List Call → Type 0
AllIn n [] = Unit {0}
AllIn n (call ∷ recorded) = IsIn n call × AllIn n recorded

-- These are the bytes that these calls wrote, and neither passes its room.
pub record IsRecording (bytes : List ℕ) (recorded : List Call) (places room : ℕ) : Type 0 where
  pub each : AllIn (length bytes) recorded
  pub all : length bytes ≡ written (steps_of bytes recorded)
  pub has_room : length bytes ≤ room
  pub has_places : length recorded ≤ places
