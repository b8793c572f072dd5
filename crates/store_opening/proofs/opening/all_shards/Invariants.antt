use Rattle.std.proofs.Common.{◌≡◌, length}
use Rattle.store_opening.specs.Opened.{AllOpened}
use Rattle.store_opening.proofs.opening.all_shards.Given as goal

-- the shards so far are opened
abbrev pub invariant-loop-number : goal.invariant-loop-number
invariant-loop-number g l = record {
  opened : AllOpened l.base l.count l.log_most 0 l.shards.values.items;
  len : length l.shards.values.items ≡ l.number;
}
