use Rattle.std.proofs.Common.{◌≡◌, ◌++◌}
use Rattle.graph_model.proofs.slot_list.SlotList.to_pairs.Given as goal

abbrev pub invariant-loop-pair : goal.invariant-loop-pair
invariant-loop-pair l = l.pairs ++ l.pair-iterator ≡ l.self
