use Rattle.std.proofs.Common.{ℕ, ◌≡◌, ◌<◌, ◌≤◌, None}
use Rattle.number_map.specs.KeptAt.{kept_at}
use Rattle.number_map.proofs.number_map.NumberMap.next_from.Given as goal

abbrev pub invariant-loop-m : goal.invariant-loop-m
invariant-loop-m g l = (k : ℕ) → l.n ≤ k → k < l.m → kept_at l.self k ≡ None
