use Rattle.std.proofs.Common.{◌≡◌, ℕ, ◌+◌, ◌-◌, List, take, drop, subst, sym, ap, arith}
use Rattle.edge_bloom.specs.Filters.{IsFilter}
use Rattle.block_layout.specs.Sizes.{filter_len}
use Rattle.block_reading.proofs.FilterLemmas.{filter-bytes}
use Rattle.block_reading.proofs.walks.filter_of.Goals as goal

pub returns-clause-bytes : goal.returns-clause-bytes
returns-clause-bytes c =
    let len = c.filter_len.ensures in
    let cut : 36 + c.filter_len.result - 36 ≡ filter_len c.args.order = omega arith in
    ap (λ (n : ℕ). take n (drop 36 c.args.block.now)) cut

pub returns-clause-is_filter : goal.returns-clause-is_filter
returns-clause-is_filter c =
    let P : List ℕ → Type 0 = IsFilter in
    subst P (sym (returns-clause-bytes c)) (filter-bytes c.args.order c.args.block.now c.requires.least c.requires.most c.requires.long)
