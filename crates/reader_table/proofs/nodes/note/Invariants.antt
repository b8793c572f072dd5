use Rattle.std.proofs.Common.{◌≡◌, ◌/◌, ◌<◌, length, drop}
use Rattle.reader_table.specs.Nodes.{IsGathered}
use Rattle.reader_table.proofs.nodes.note.Given as goal

-- The node that stands above the one that was written is the only one that may not be gathered.
abbrev pub invariant-loop-at : goal.invariant-loop-at
invariant-loop-at l = record {
  some : 0 < l.at;
  within : l.at < length l.nodes;
  gathered : IsGathered (l.at / 2) l.nodes;
  leaves : drop l.room l.nodes ≡ drop l.room l.initial.nodes;
}

abbrev pub decreases-loop-at : goal.decreases-loop-at
decreases-loop-at l = l.at
