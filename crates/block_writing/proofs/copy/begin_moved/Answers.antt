use Rattle.std.proofs.Common.{ℕ, [], subst}
use Rattle.tel_entry.specs.declared.header.Header.{Header}
use Rattle.block_layout.specs.Blocks.{IsBlock}
use Rattle.block_writing.specs.Filters.{filter_in}
use Rattle.block_writing.proofs.copy.begin_moved.Goals as goal

pub returns-clause-begun : goal.returns-clause-begun
returns-clause-begun c = λ fits.
    let order : ℕ = c.args.order in
    let P : ℕ → Type 0 = λ k.
    (let h : Header = record c.args.header.now { order = order; flags = k; previous = c.args.previous } in
    IsBlock order h (filter_in order c.begin_with.new.block) [] c.begin_with.new.block) in
    subst P c.flags_of.ensures
    (c.begin_with.ensures.begun
    (record {
      source = fits.source;
      label = fits.label;
      order = c.ranges.order.fits;
      flags = c.flags_of.type_inv;
      epoch = fits.epoch;
      entries = fits.entries;
      props = fits.props;
      previous = c.ranges.previous.fits;
    }))
