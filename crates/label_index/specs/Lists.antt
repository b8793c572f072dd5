-- What a list of labels shows.
use Rattle.std.specs.Prelude.{ℕ, List}
use Rattle.label_index.specs.declared.label_list.LabelList.{LabelList}
use Rattle.label_index.specs.declared.label_list.LabelList.TheVariants.{Few, Many}

-- the labels by row
abbrev pub by_row : LabelList → List ℕ
by_row (Few few) = few.items
by_row (Many many) = many.value.keys
