-- The tree above the rows.
use Rattle.std.specs.Prelude.{ℕ, ◌≡◌, ◌≢◌, ◌+◌, ◌*◌, ◌<◌, List, length, get_or}
use Rattle.reader_table.specs.declared.least.Least.{Least}
use Rattle.reader_table.specs.Leasts.{nothing, both}

-- what an index keeps: what each row has, and for how many rows there is room
pub record Leaves : Type 0 where
  pub rows : List Least
  pub room : ℕ

-- Each node has the least of the two below it, but for one node.
abbrev pub IsGathered : ℕ → List Least → Type 0
IsGathered but nodes =
    (k : ℕ) → 0 < k → 2 * k + 1 < length nodes → k ≢ but →
    get_or nodes k nothing ≡ both (get_or nodes (2 * k) nothing) (get_or nodes (2 * k + 1) nothing)
