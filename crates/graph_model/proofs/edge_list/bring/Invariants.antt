use Rattle.std.proofs.Common.{◌≡◌, ◌++◌, length}
use Rattle.graph_model.proofs.edge_list.bring.Given as goal

-- what is left to bring is the front, and the edges are the same ones
abbrev pub invariant-loop-oldest : goal.invariant-loop-oldest
invariant-loop-oldest l = record { left : l.pairs ≡ l.front; same : l.front ++ l.own ≡ l.fn.front ++ l.fn.own }

abbrev pub decreases-loop-oldest : goal.decreases-loop-oldest
decreases-loop-oldest l = length l.pairs
