-- The calls of an object over memory, those that are to fail, and its faults.
use Rattle.std.specs.Prelude.{ℕ, List, Contains}
use Rattle.io_edges.specs.Faults.{one_more}

-- how many calls there were, the numbers of those that fail, and how many faults there were
pub record CallCount : Type 0 where
  pub calls : ℕ
  pub failing : List ℕ
  pub faults : ℕ

-- no call yet
abbrev pub no_call : List ℕ → CallCount
no_call failing = record { calls = 0; failing = failing; faults = 0 }

-- the number of the next call, from 1
abbrev pub next_call : CallCount → ℕ
next_call c = one_more c.calls

-- The next call is listed among those that fail.
abbrev pub IsNextListed : CallCount → Type 0
IsNextListed c = Contains c.failing (next_call c)

-- after a call that succeeded
abbrev pub counted_call : CallCount → CallCount
counted_call c = record c { calls = next_call c }

-- after a call that failed
abbrev pub counted_fault : CallCount → CallCount
counted_fault c = record { calls = next_call c; failing = c.failing; faults = one_more c.faults }
