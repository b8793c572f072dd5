use Rattle.std.proofs.Common.{ℕ, List, ◌++◌, drop, subst, sym, ap, ◌∙◌}
use Rattle.tel_entry.specs.declared.header.Header.{Header}
use Rattle.tel_entry.specs.Layouts.{header_bytes}
use Rattle.block_layout.specs.Blocks.{IsBlock}
use Rattle.block_layout.proofs.Blocked.{block-head, block-header}
use Rattle.block_writing.specs.Headers.{committed_header}
use Rattle.block_writing.proofs.changes.commit_header.Goals as goal

pub returns : goal.returns
returns c = λ order h f xs b.
    let block : List ℕ = c.args.block.now in
    let read = c.read_header-header.ensures.only h (drop 36 block) b.fits (block-head order h f xs block b) in
    let is = c.write_header.ensures ∙ ap (λ (r : Header). header_bytes (committed_header c.args.epoch c.args.entries c.args.props r) ++ drop 36 block) read in
    let P : List ℕ → Type 0 = λ ys. IsBlock order (committed_header c.args.epoch c.args.entries c.args.props h) f xs ys in
    subst P (sym is)
    (block-header order (committed_header c.args.epoch c.args.entries c.args.props h) h f xs block b
    (record {
      source = b.fits.source;
      label = b.fits.label;
      order = b.fits.order;
      flags = b.fits.flags;
      epoch = c.ranges.epoch.fits;
      entries = c.ranges.entries.fits;
      props = c.ranges.props.fits;
      previous = b.fits.previous;
    })
    b.ordered b.flagged)
