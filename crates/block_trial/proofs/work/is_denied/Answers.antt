use Rattle.std.proofs.Common.{◌≡◌, ℕ, ◌+◌, ◌-◌, take, drop, subst, arith}
use Rattle.edge_bloom.specs.Filters.{IsFilter}
use Rattle.block_layout.specs.Sizes.{filter_len}
use Rattle.block_reading.proofs.FilterLemmas.{filter-bytes}
use Rattle.block_trial.proofs.work.is_denied.Goals as goal

pub may_hold-requires : goal.may_hold-requires
may_hold-requires c =
    let len = c.filter_len.ensures in
    let cut : filter_len c.args.order ≡ 36 + c.filter_len.result - 36 = omega (arith, len) in
    let P : ℕ → Type 0 = λ n. IsFilter (take n (drop 36 c.args.block.now)) in
    subst P cut (filter-bytes c.args.order c.args.block.now (omega arith) c.requires.small c.requires.long)
