use Rattle.std.proofs.Common.{◌<◌}
use Rattle.std.specs.Prelude.{All}
use Rattle.edge_log.specs.Slots.{IsReached}
use Rattle.edge_log.proofs.slots.private_places.Given as goal

-- the private slots before the place are noted
abbrev pub invariant-loop-place : goal.invariant-loop-place
invariant-loop-place l = record {
  within : All (λ n. n < l.place) l.noted.items;
  reached : IsReached l.noted.items l.place l.slots;
}
