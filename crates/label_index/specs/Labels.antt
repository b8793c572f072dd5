-- Labels in the order in which they came.
use Rattle.std.specs.Prelude.{ℕ, nat_eq, List, [], ◌∷◌, ◌++◌, if◌then◌else◌}
use Rattle.std.specs.List.{list_any, position_or_len}

-- the row of a label, or the next one where it has none
abbrev pub row_of : ℕ → List ℕ → ℕ
row_of l labels = position_or_len (nat_eq l) labels

-- the labels with this one, which comes last where it was not there
abbrev pub with_label : ℕ → List ℕ → List ℕ
with_label l labels = if list_any (nat_eq l) labels then labels else labels ++ l ∷ []
