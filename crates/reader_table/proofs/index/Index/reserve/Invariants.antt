use Rattle.std.proofs.Common.{◌≡◌, ◌+◌, ◌*◌, take, drop}
use Rattle.reader_table.proofs.index.Index.reserve.Given as goal

abbrev pub invariant-loop-row : goal.invariant-loop-row
invariant-loop-row l = record {
  rows : l.more.rows ≡ take l.row (drop l.self-inside.room l.self-inside.nodes.items);
  room : l.more.room ≡ 2 * l.self-inside.room + 1;
}
