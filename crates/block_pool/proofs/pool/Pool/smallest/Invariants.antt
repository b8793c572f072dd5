use Rattle.std.proofs.Common.{ℕ, ◌≡◌, ◌<◌, ◌≤◌, ◌==◌, false}
use Rattle.std.specs.List.{list_any}
use Rattle.block_pool.specs.Blocks.{Area}
use Rattle.block_pool.specs.Pools.{free_blocks}
use Rattle.block_pool.proofs.pool.Pool.smallest.Given as goal

abbrev pub invariant-loop-j : goal.invariant-loop-j
invariant-loop-j l = (i : ℕ) → l.order ≤ i → i < l.j → list_any (λ (g : Area). g.order == i) (free_blocks l.self) ≡ false
