-- What an index of labels keeps.
use Rattle.std.specs.Prelude.{ℕ, ◌≡◌, ◌<◌, true, nat_eq, List}
use Rattle.std.specs.List.{list_any, IsDistinct}
use Rattle.label_index.specs.Lists.{by_row}
use Rattle.label_index.specs.declared.label_index.LabelIndex.TheInside.{Inside}

abbrev pub labels_of : Inside → List ℕ
labels_of a = by_row a.labels

-- Each label stands once, and is one of 16 bits.
pub record IsKept (labels : List ℕ) : Type 0 where
  pub once : IsDistinct nat_eq labels
  pub label : (q : ℕ) → list_any (nat_eq q) labels ≡ true → q < 65536
