-- What a queue shows.
use Rattle.std.specs.Prelude.{ℕ, List}
use Rattle.group_commit.specs.Encoded.{Encoded}

-- the members that wait, the first one first, and how many members the queue has room for in all
pub record Waiting : Type 0 where
  pub members : List Encoded
  pub room : ℕ
