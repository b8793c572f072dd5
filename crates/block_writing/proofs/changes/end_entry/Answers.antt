use Rattle.std.proofs.Common.{ℕ, ◌+◌, ◌-◌, List, subst, sym, ap, ◌∙◌, arith}
use Rattle.stamps.specs.declared.stamp.Stamp.TheVariants.{By}
use Rattle.edge_log.specs.Entries.{Entry}
use Rattle.edge_log.specs.Places.{ended_at}
use Rattle.tel_entry.specs.Layouts.{u64_bytes}
use Rattle.tel_entry.specs.RawStamps.{raw_of}
use Rattle.block_layout.specs.Blocks.{IsBlock}
use Rattle.block_layout.specs.Reads.{row_start}
use Rattle.block_layout.specs.Writes.{overwritten}
use Rattle.block_layout.proofs.AtPlaces.{there}
use Rattle.block_layout.proofs.Blocked.{block-ended}
use Rattle.block_writing.proofs.Overwrites.{u64-overwritten}
use Rattle.block_writing.proofs.Rewritten.{ended_at-as}
use Rattle.block_writing.proofs.changes.end_entry.Goals as goal

pub returns : goal.returns
returns c = λ order h f xs b within.
    let n : ℕ = c.args.place in
    let t : ℕ = c.args.tid in
    let block : List ℕ = c.args.block.now in
    let at : ℕ = c.row_start-at.result + 16 in
    let x = there xs n within in
    let is = u64-overwritten at (at + 8 - at) c.private_stamp.result block c.write_u64.new.buf (omega arith) c.write_u64.ensures
    ∙ ap (λ (k : ℕ). overwritten (k + 16) (u64_bytes c.private_stamp.result) block) c.row_start-at.ensures
    ∙ ap (λ (k : ℕ). overwritten (row_start n block + 16) (u64_bytes k) block) c.private_stamp.ensures.raw in
    let P : List ℕ → Type 0 = λ ys. IsBlock order h f (ended_at xs n t) ys in
    let Q : List Entry → Type 0 = λ ys. IsBlock order h f ys (overwritten (row_start n block + 16) (u64_bytes (raw_of (By t))) block) in
    subst P (sym is) (subst Q (ended_at-as n t xs) (block-ended order h f n (By t) xs x.0 block b x.1 c.requires.number))
