use Rattle.std.proofs.Common.{◌≡◌, ◌++◌, length, drop}
use Rattle.graph_wal.specs.Pieces.{members_bytes, AreWithin}
use Rattle.graph_wal.proofs.pieces.gathered.Given as goal

abbrev pub invariant-loop-i : goal.invariant-loop-i
invariant-loop-i l = record {
  gathered : l.gathered.items ++ members_bytes (drop l.i l.g) ≡ l.front ++ members_bytes l.g;
  within : AreWithin (drop l.i l.g);
  end : l.i-end ≡ length l.g;
}
