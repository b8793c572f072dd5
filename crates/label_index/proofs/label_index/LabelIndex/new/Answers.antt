use Rattle.label_index.specs.Lists.{by_row}
use Rattle.label_index.proofs.Kept.{IsKept-nil}
use Rattle.label_index.proofs.label_index.LabelIndex.new.Goals as goal

pub invariant_of-result : goal.invariant_of-result
invariant_of-result c = IsKept-nil (by_row c.new.result) c.new.ensures
