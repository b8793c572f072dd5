-- The past of a disk over memory.
use Rattle.std.specs.Prelude.{◌≡◌, ℕ, ◌<◌, ◌≤◌, ◌++◌, List, [], ◌∷◌, length, if◌then◌else◌, nat_lt}
use Rattle.io_edges.specs.Faults.{fault_most}
use Rattle.disk_model.specs.Steps.{Step, reads}

-- the bytes that it was made with, the steps since, and how many steps and written bytes there is room for
pub record Past : Type 0 where
  pub first : List ℕ
  pub steps : List Step
  pub places : ℕ
  pub room : ℕ

-- with one step more
abbrev pub stepped : Past → Step → Past
stepped past step = record past { steps = past.steps ++ step ∷ [] }

-- with one step more, where there is a place for it
abbrev pub recorded : Past → Step → Past
recorded past step = if nat_lt (length past.steps) past.places then stepped past step else past

-- These bytes are what the past leaves, and within its room.
pub record IsNow (bytes : List ℕ) (past : Past) : Type 0 where
  pub read : bytes ≡ reads past.first past.steps
  pub has_room : length bytes ≤ past.room

-- Each moment has its step until no place is left. A moment that has reached its greatest value stays there.
pub record IsPaced (past : Past) (moment : ℕ) : Type 0 where
  pub steps : length past.steps ≤ moment
  pub moments : length past.steps < past.places → moment ≡ length past.steps
  pub few : past.places ≤ fault_most
  pub fits : moment ≤ fault_most
