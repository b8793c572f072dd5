use Rattle.std.proofs.Common.{◌≡◌, [], drop, nat_eq}
use Rattle.indexmap.specs.IndexSet.{insert_all}
use Rattle.label_index.proofs.label_list.set_of.Given as goal

abbrev pub invariant-loop-label : goal.invariant-loop-label
invariant-loop-label l = insert_all nat_eq l.set.keys (drop l.label-index l.labels) ≡ insert_all nat_eq [] l.labels
