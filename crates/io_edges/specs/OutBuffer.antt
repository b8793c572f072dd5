-- What a buffer before a sink holds.
use Rattle.std.specs.Prelude.{ℕ, List}

-- the bytes that wait in it, and how many it has room for
pub record Buffered : Type 0 where
  pub pending : List ℕ
  pub room : ℕ
