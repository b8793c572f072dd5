use Rattle.std.proofs.Common.{ℕ, List, refl, subst, sym, ap, ◌∙◌}
use Rattle.edge_log.specs.Entries.{Entry}
use Rattle.tel_entry.specs.declared.entry.Entry.{Entry as RawEntry}
use Rattle.tel_entry.specs.Layouts.{entry_bytes}
use Rattle.tel_entry.specs.RawStamps.{stamp_of}
use Rattle.block_layout.specs.Sizes.{props_start}
use Rattle.block_layout.specs.Blocks.{IsBlock}
use Rattle.block_layout.specs.Reads.{row_start}
use Rattle.block_layout.specs.Writes.{overwritten, with_entry}
use Rattle.block_layout.proofs.AtPlaces.{there, row-fits}
use Rattle.block_writing.specs.Changed.{settled_entry}
use Rattle.block_writing.proofs.Rewritten.{block-rewritten, with_entry-changed}
use Rattle.block_writing.proofs.Settled.{stamp_of-has, settled-fits, settled-written}
use Rattle.block_writing.proofs.changes.settle_row.Goals as goal

pub returns : goal.returns
returns c = λ order h f xs b within.
    let n : ℕ = c.args.place in
    let t : ℕ = c.args.tid in
    let block : List ℕ = c.args.block.now in
    let g : Entry → Entry = settled_entry t (stamp_of c.args.created) (stamp_of c.args.ended) in
    let x = there xs n within in
    let fits = row-fits (props_start order) n xs x.0 block b.entries x.1 in
    let read = c.read_row-entry.ensures (props_start order) xs x.0 b.entries x.1 in
    let written = settled-written t c.args.created c.args.ended c.private_stamp-private.result c.replaced.result c.replaced-2.result x.0 c.read_row-entry.result
    fits c.private_stamp-private.ensures.raw read c.replaced.ensures c.replaced-2.ensures in
    let is = c.write_row.ensures ∙ ap (λ (e : RawEntry). overwritten (row_start n block) (entry_bytes e) block) written in
    let P : List Entry → Type 0 = λ ys. IsBlock order h f ys c.write_row.new.block in
    let Q : List ℕ → Type 0 = λ ys. IsBlock order h f (with_entry n (g x.0) xs) ys in
    subst P (with_entry-changed n g xs x.0 x.1)
    (subst Q (sym is)
    (block-rewritten order h f n x.0 (g x.0) xs block b x.1 (settled-fits t (stamp_of c.args.created) (stamp_of c.args.ended) x.0 (stamp_of-has c.args.created c.ranges.created.fits) (stamp_of-has c.args.ended c.ranges.ended.fits) fits) refl refl))
