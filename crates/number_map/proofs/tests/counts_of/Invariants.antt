use Rattle.std.proofs.Common.{ℕ, ◌≡◌, take}
use Rattle.std.specs.Prelude.{nat_eq, count_by}
use Rattle.std.specs.Option.{unwrap_or}
use Rattle.number_map.specs.KeptAt.{kept_at}
use Rattle.number_map.proofs.tests.counts_of.Given as goal

abbrev pub invariant-loop-n : goal.invariant-loop-n
invariant-loop-n l = (k : ℕ) → unwrap_or (kept_at l.counts k) 0 ≡ count_by (nat_eq k) (take l.n-index l.numbers)
