use Rattle.std.proofs.Common.{arith}
use Rattle.label_index.specs.Lists.{by_row}
use Rattle.label_index.proofs.Kept.{few_labels}
use Rattle.label_index.proofs.label_index.LabelIndex.row.Goals as goal

pub overflow_cast-result : goal.overflow_cast-result
overflow_cast-result c =
    let few = few_labels (by_row c.self.inside.labels) c.self.invariant in
    omega (arith, few, c.in-Some.ensures.within)
