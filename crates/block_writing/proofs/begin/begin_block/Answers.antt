use Rattle.std.proofs.Common.{ℕ, [], subst, arith}
use Rattle.tel_entry.specs.declared.header.Header.{Header}
use Rattle.block_layout.specs.Blocks.{IsBlock}
use Rattle.block_writing.specs.Filters.{filter_in}
use Rattle.block_writing.specs.Headers.{fresh_header}
use Rattle.block_writing.proofs.begin.begin_block.Goals as goal

pub returns-clause-begun : goal.returns-clause-begun
returns-clause-begun c =
    let order : ℕ = c.args.order in
    let P : ℕ → Type 0 = λ k.
    (let h : Header = record (fresh_header c.args.v c.args.l order c.args.previous) { flags = k } in
    IsBlock order h (filter_in order c.begin_with.new.block) [] c.begin_with.new.block) in
    subst P c.flags_of.ensures
    (c.begin_with.ensures.begun
    (record {
      source = c.ranges.v.fits;
      label = c.ranges.l.fits;
      order = c.ranges.order.fits;
      flags = c.flags_of.type_inv;
      epoch = omega arith;
      entries = omega arith;
      props = omega arith;
      previous = c.ranges.previous.fits;
    }))
