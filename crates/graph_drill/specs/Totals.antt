-- What adding edges to totals leaves.
use Rattle.std.specs.Prelude.{◌≡◌, ℕ, ◌+◌, ◌*◌, ◌^◌, ◌<◌, ◌≤◌}
use Rattle.graph_drill.specs.declared.totals.Totals.{Totals}

-- A destination is below 2^64, so the sum is so many times that at most.
abbrev pub IsBounded : Totals → Type 0
IsBounded t = t.sum ≤ t.edges * 2 ^ 64

-- So many edges more are fewer than 2^64 in all, so that the sum stays below 2^128.
pub record HasRoom (t : Totals) (edges : ℕ) : Type 0 where
  pub few : t.edges + edges < 2 ^ 64
  pub bounded : IsBounded t

-- So many edges with this sum of their destinations were added.
pub record Adds (old new : Totals) (count total : ℕ) : Type 0 where
  pub edges : new.edges ≡ old.edges + count
  pub sum : new.sum ≡ old.sum + total
  pub bounded : IsBounded new
