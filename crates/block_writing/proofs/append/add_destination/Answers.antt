use Rattle.std.proofs.Common.{◌≡◌, ℕ, ◌≤◌, IsTrue, List, ◌∷◌, length, subst, sym, ap, ◌∙◌, arith}
use Rattle.std.proofs.lemmas.Bool.Decides.{nat_tests}
use Rattle.edge_bloom.specs.Filters.{IsFilter, HasBitsOf}
use Rattle.block_layout.specs.Sizes.{has_filter, filter_len, props_start}
use Rattle.block_layout.specs.Blocks.{IsBlock}
use Rattle.block_layout.specs.Writes.{overwritten}
use Rattle.block_writing.specs.Filters.{filter_in}
use Rattle.block_writing.proofs.Added.{filter-part, part-written, length-filter_in, filter-whole, filter_in-written, block-added}
use Rattle.block_writing.proofs.append.add_destination.Goals as goal
use Rattle.block_writing.proofs.append.add_destination.Goals.{After-add}

pub add-requires : goal.add-requires
add-requires c =
    let order : ℕ = c.args.order in
    let block : List ℕ = c.args.block.now in
    let has : IsTrue (has_filter order) = grind (arith, nat_tests) in
    subst IsFilter (sym (filter-part order c.props_start.result block c.props_start.ensures))
    (filter-whole order (filter_in order block) c.requires.small has (length-filter_in order block c.requires.room))

-- the filter as it was and as it is, and the block
record Adds (order d : ℕ) (block new : List ℕ) : Type 0 where
  room : props_start order ≤ length block
  long : length new ≡ filter_len order
  added : (ds : List ℕ) → HasBitsOf (filter_in order block) ds → HasBitsOf new (d ∷ ds)

adds : (c : After-add) → Adds c.args.order c.args.d c.args.block.now c.add.new.filter
adds c =
    let order : ℕ = c.args.order in
    let block : List ℕ = c.args.block.now in
    let is = filter-part order c.props_start.result block c.props_start.ensures in
    record {
      room = c.requires.room;
      long = c.add.auto.filter ∙ ap length is ∙ length-filter_in order block c.requires.room;
      added = λ ds bits. (let P : List ℕ → Type 0 = λ f. HasBitsOf f ds in c.add.ensures.added ds (subst P (sym is) bits));
    }

pub returns-then-order-ge-FILTER_ORDER-clause-keeps : goal.returns-then-order-ge-FILTER_ORDER-clause-keeps
returns-then-order-ge-FILTER_ORDER-clause-keeps c' = λ h f xs b.
    let c = (goal.at.returns-then-order-ge-FILTER_ORDER-clause-keeps c').After-add in
    let order : ℕ = c.args.order in
    let block : List ℕ = c.args.block.now in
    let new : List ℕ = c.add.new.filter in
    let a = adds c in
    let P : List ℕ → Type 0 = λ g. IsBlock order h g xs (overwritten 36 new block) in
    let Q : List ℕ → Type 0 = λ ys. IsBlock order h (filter_in order ys) xs ys in
    subst Q (sym (part-written order c.props_start.result new block c.props_start.ensures a.long))
    (subst P (sym (filter_in-written order new block a.room a.long))
    (block-added order h f new xs block c.args.d b a.long (λ ds bits. (let R : List ℕ → Type 0 = λ g. HasBitsOf g ds in a.added ds (subst R (sym b.bits) bits)))))

pub returns-then-order-ge-FILTER_ORDER-clause-added : goal.returns-then-order-ge-FILTER_ORDER-clause-added
returns-then-order-ge-FILTER_ORDER-clause-added c' = λ has ds bits.
    let c = (goal.at.returns-then-order-ge-FILTER_ORDER-clause-added c').After-add in
    let a = adds c in
    let P : List ℕ → Type 0 = λ f. HasBitsOf f (c.args.d ∷ ds) in
    subst P
    (sym (ap (filter_in c.args.order) (part-written c.args.order c.props_start.result c.add.new.filter c.args.block.now c.props_start.ensures a.long)
    ∙ filter_in-written c.args.order c.add.new.filter c.args.block.now a.room a.long))
    (a.added ds bits)
