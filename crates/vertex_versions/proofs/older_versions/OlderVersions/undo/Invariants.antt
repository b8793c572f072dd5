use Rattle.std.proofs.Common.{◌≡◌, ◌≤◌, ◌-◌, true, not, take, deque_len}
use Rattle.std.specs.List.{list_all}
use Rattle.stamps.specs.Stamps.{is_by}
use Rattle.vertex_versions.specs.Pending.{AreSettledFrom}
use Rattle.vertex_versions.specs.Versions.{undone_versions}
use Rattle.vertex_versions.proofs.older_versions.OlderVersions.undo.Given as goal

-- the versions before the place are of others, and what is left when the transaction's are taken out is the same
abbrev pub invariant-loop-place : goal.invariant-loop-place
invariant-loop-place l = record {
  within : l.self-inside.pending ≤ deque_len l.self-inside.items;
  settled : AreSettledFrom l.self-inside.pending l.self-inside.items.items;
  passed : list_all (λ x. not (is_by l.tid x.created)) (take l.place l.self-inside.items.items) ≡ true;
  undone : undone_versions l.tid l.self-inside.items.items ≡ undone_versions l.tid l.fn.self;
}

abbrev pub decreases-loop-place : goal.decreases-loop-place
decreases-loop-place l = l.self-inside.pending - l.place
