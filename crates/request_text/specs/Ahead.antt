-- The words of a line that are still to be read.
use Rattle.std.specs.Prelude.{ℕ, ◌+◌, ◌-◌, ◌≤◌, ◌==◌, List, [], ◌∷◌, length, Option, Some, None}
use Rattle.std.specs.Borrow.{Bor}
use Rattle.std.specs.List.{slice_split}
use Rattle.request_text.specs.Scripts.{Placed, placed}

-- The column after the line, and the words.
pub record Ahead : Type 0 where
  pub end : ℕ
  pub words : List Placed

-- where the next word stands, or would stand
abbrev pub column_at : ℕ → List Placed → ℕ
column_at end [] = end
column_at end (x ∷ words) = x.column

-- the words of the rest of a line that ends before this column
abbrev pub words_at : ℕ → Option (Bor (List ℕ)) → List Placed
words_at end None = []
words_at end (Some rest) = placed (end - length rest.now) (slice_split (λ b. b == 32) rest.now)

-- the rest lies before this column
abbrev pub LiesBefore : ℕ → Option (Bor (List ℕ)) → Type 0
LiesBefore end None = Unit {0}
LiesBefore end (Some rest) = length rest.now + 1 ≤ end
