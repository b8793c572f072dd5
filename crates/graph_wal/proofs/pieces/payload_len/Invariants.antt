use Rattle.std.proofs.Common.{◌≡◌, ◌+◌, ◌*◌, ◌≤◌, length, drop}
use Rattle.graph_wal.specs.Pieces.{members_bytes, AreWithin, AreSpelled}
use Rattle.graph_wal.proofs.pieces.payload_len.Given as goal

abbrev pub invariant-loop-i : goal.invariant-loop-i
invariant-loop-i l = record {
  len : l.len + length (members_bytes (drop l.i l.g)) ≡ 12 + length (members_bytes l.g);
  small : l.len ≤ 12 + 16777236 * l.i;
  within : AreWithin (drop l.i l.g);
  spelled : AreSpelled (drop l.i l.g) → AreSpelled l.g;
  end : l.i-end ≡ length l.g;
  count : length l.g ≤ 64;
}
