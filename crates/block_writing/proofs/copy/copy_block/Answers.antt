use Rattle.std.proofs.Common.{◌≡◌, ℕ, ◌*◌, IsTrue, List, [], length, drop, subst, sym, arith}
use Rattle.edge_log.specs.Entries.{Entry, payload_sum}
use Rattle.tel_entry.specs.declared.header.Header.{Header}
use Rattle.tel_entry.specs.Layouts.{HeaderFits}
use Rattle.edge_bloom.specs.Filters.{HasBitsOf}
use Rattle.block_layout.specs.Sizes.{has_filter, props_start}
use Rattle.block_layout.specs.Blocks.{KnowsAll, IsBlock}
use Rattle.block_layout.proofs.Blocked.{block-head}
use Rattle.block_writing.specs.Filters.{filter_in}
use Rattle.block_writing.specs.Headers.{moved_header}
use Rattle.block_writing.proofs.Copied.{destinations, all-known, block-copied, copied-written}
use Rattle.block_writing.proofs.copy.copy_block.Goals as goal
use Rattle.block_writing.proofs.copy.copy_block.Goals.{After-put-2}

-- the block with all entries, whose filter is that which was filled
copied : (c : After-put-2) (h : Header) (f : List ℕ) (xs : List Entry) → IsBlock c.args.from_order h f xs c.args.from.now →
    length xs ≡ c.args.fill.entries → payload_sum xs ≡ c.args.fill.props →
    IsBlock c.args.order (moved_header c.args.order c.args.previous h) (filter_in c.args.order c.fill_filter.new.to) xs c.put-2.new.block
    × (IsTrue (has_filter c.args.order) → HasBitsOf (filter_in c.args.order c.fill_filter.new.to) (destinations xs))
copied c h f xs b count sum =
    let order : ℕ = c.args.order in
    let from : List ℕ = c.args.from.now in
    let to : List ℕ = c.fill_filter.new.to in
    let first : ℕ = props_start c.args.from_order in
    let entries : ℕ = c.args.fill.entries in
    let props : ℕ = c.args.fill.props in
    let read = c.read_header-header.ensures.only h (drop 36 from) b.fits (block-head c.args.from_order h f xs from b) in
    let fits : HeaderFits c.read_header-header.result = subst HeaderFits (sym read) b.fits in
    let P : Header → Type 0 = λ g. IsBlock order (moved_header order c.args.previous g) (filter_in order c.begin_moved.new.to) [] c.begin_moved.new.to in
    let filled = c.fill_filter.ensures (moved_header order c.args.previous h) first xs (subst P read (c.begin_moved.ensures.begun fits)) c.begin_moved.ensures.none b.entries count in
    let known : KnowsAll order (filter_in order to) xs = λ has. (destinations xs, (filled.1 has, all-known xs)) in
    let room = c.requires.room in
    let long = c.begin_moved.auto.to in
    let long2 = c.fill_filter.auto.to in
    let is = copied-written first (props_start order) c.props_start-start.result c.props_start.result props (28 * entries) from to c.put.new.block c.put-2.new.block
    c.props_start-start.ensures c.props_start.ensures c.put.ensures c.put-2.ensures c.put.auto.block in
    let Q : List ℕ → Type 0 = λ ys. IsBlock order (moved_header order c.args.previous h) (filter_in order to) xs ys in (
      subst Q (sym is)
          (block-copied order entries props first (moved_header order c.args.previous h) (filter_in order to) xs from to b.entries filled.0 known
          (record { count = count; sum = sum; held = c.requires.held; room = omega (arith, room, long, long2) })),
      filled.1,
    )

pub returns-clause-copied : goal.returns-clause-copied
returns-clause-copied c' = λ h f xs b count sum.
    let c = (goal.at.returns-clause-copied c').After-put-2 in
    let all = copied c h f xs b count sum in
    let P : List ℕ → Type 0 = λ g. IsBlock c.args.order (moved_header c.args.order c.args.previous h) g xs c.put-2.new.block in
    subst P (sym all.0.bits) all.0

pub returns-clause-filter : goal.returns-clause-filter
returns-clause-filter c' = λ h f xs b count sum has.
    let c = (goal.at.returns-clause-filter c').After-put-2 in
    let all = copied c h f xs b count sum in
    let P : List ℕ → Type 0 = λ g. HasBitsOf g (destinations xs) in
    subst P (sym all.0.bits) (all.1 has)
