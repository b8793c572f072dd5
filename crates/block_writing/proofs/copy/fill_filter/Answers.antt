use Rattle.std.proofs.Common.{◌≡◌, ℕ, IsTrue, List, [], length, subst, sym, ap, ◌∙◌, arith}
use Rattle.std.proofs.lemmas.Bool.Decides.{nat_tests}
use Rattle.edge_bloom.specs.Filters.{IsFilter, HasBitsOf}
use Rattle.block_layout.specs.Sizes.{has_filter, filter_len}
use Rattle.block_layout.specs.Blocks.{KnowsAll, IsBlock}
use Rattle.block_layout.specs.Writes.{overwritten}
use Rattle.block_layout.proofs.Blocked.{block-filter}
use Rattle.block_writing.specs.Filters.{filter_in}
use Rattle.block_writing.proofs.Added.{filter-part, part-written, length-filter_in, filter-whole, filter_in-written}
use Rattle.block_writing.proofs.Copied.{destinations}
use Rattle.block_writing.proofs.copy.fill_filter.Goals as goal
use Rattle.block_writing.proofs.copy.fill_filter.Goals.{After-add_all}

pub add_all-requires-clause-filter : goal.add_all-requires-clause-filter
add_all-requires-clause-filter c =
    let order : ℕ = c.args.order in
    let to : List ℕ = c.args.to.now in
    let has : IsTrue (has_filter order) = grind (arith, nat_tests) in
    subst IsFilter (sym (filter-part order c.props_start.result to c.props_start.ensures))
    (filter-whole order (filter_in order to) c.requires.small has (length-filter_in order to c.requires.room))

pub returns-then-order-ge-FILTER_ORDER : goal.returns-then-order-ge-FILTER_ORDER
returns-then-order-ge-FILTER_ORDER c' = λ h start xs b none held count.
    let c = (goal.at.returns-then-order-ge-FILTER_ORDER c').After-add_all in
    let order : ℕ = c.args.order in
    let to : List ℕ = c.args.to.now in
    let new : List ℕ = c.add_all.new.filter in
    let part = filter-part order c.props_start.result to c.props_start.ensures in
    let long : length new ≡ filter_len order = c.add_all.auto.filter ∙ ap length part ∙ length-filter_in order to c.requires.room in
    let P : List ℕ → Type 0 = λ f. HasBitsOf f [] in
    let bits : HasBitsOf new (destinations xs) = c.add_all.ensures start xs held count (subst P (sym part) none) in
    let known : KnowsAll order new [] = λ has. (destinations xs, (bits, tt)) in
    let is = part-written order c.props_start.result new to c.props_start.ensures long in
    let same = filter_in-written order new to c.requires.room long in
    let Q : List ℕ → Type 0 = λ ys. IsBlock order h (filter_in order ys) [] ys in
    let R : List ℕ → Type 0 = λ f. IsBlock order h f [] (overwritten 36 new to) in
    let S : List ℕ → Type 0 = λ f. HasBitsOf f (destinations xs) in (
      subst Q (sym is) (subst R (sym same) (block-filter order h (filter_in order to) new [] to b long known)),
      λ has. subst S (sym (ap (filter_in order) is ∙ same)) bits,
    )
