use Rattle.std.proofs.Common.{ℕ, [], List, drop, subst, sym}
use Rattle.tel_entry.specs.declared.header.Header.{Header}
use Rattle.tel_entry.specs.Layouts.{HeaderFits}
use Rattle.block_layout.specs.Blocks.{IsBlock}
use Rattle.block_layout.proofs.Blocked.{block-head}
use Rattle.block_writing.specs.Filters.{filter_in}
use Rattle.block_writing.specs.Headers.{kept_header}
use Rattle.block_writing.proofs.keep.begin_kept.Goals as goal

pub returns-clause-begun : goal.returns-clause-begun
returns-clause-begun c = λ from_order h f xs b.
    let order : ℕ = c.args.order in
    let from : List ℕ = c.args.from.now in
    let new : List ℕ = c.begin_with.new.block in
    let read = c.read_header-header.ensures.only h (drop 36 from) b.fits (block-head from_order h f xs from b) in
    let fits : HeaderFits c.read_header-header.result = subst HeaderFits (sym read) b.fits in
    let P : ℕ → Type 0 = λ k.
    (let g : Header = record (kept_header order c.args.previous c.args.entries c.args.props c.read_header-header.result) { flags = k } in
    IsBlock order g (filter_in order new) [] new) in
    let Q : Header → Type 0 = λ g. IsBlock order (kept_header order c.args.previous c.args.entries c.args.props g) (filter_in order new) [] new in
    subst Q read
    (subst P c.flags_of.ensures
    (c.begin_with.ensures.begun
    (record {
      source = fits.source;
      label = fits.label;
      order = c.ranges.order.fits;
      flags = c.flags_of.type_inv;
      epoch = fits.epoch;
      entries = c.ranges.entries.fits;
      props = c.ranges.props.fits;
      previous = c.ranges.previous.fits;
    })))
