use Rattle.std.proofs.Common.{◌≡◌, ◌++◌, take, drop, deque_len}
use Rattle.vertex_versions.specs.Versions.{converted_versions}
use Rattle.vertex_versions.proofs.older_versions.OlderVersions.convert.Given as goal

-- the versions before the place are converted, and the others are as they were
abbrev pub invariant-loop-place : goal.invariant-loop-place
invariant-loop-place l = record {
  items : l.self-inside.items.items ≡ converted_versions l.tid l.epoch (take l.place l.initial.self-inside.items.items) ++ drop l.place l.initial.self-inside.items.items;
  len : deque_len l.self-inside.items ≡ deque_len l.initial.self-inside.items;
  pending : l.self-inside.pending ≡ l.initial.self-inside.pending;
}
