use Rattle.std.proofs.Common.{ℕ, ◌+◌, ◌-◌, ap, ◌∙◌, arith}
use Rattle.tel_entry.specs.Layouts.{entry_bytes}
use Rattle.tel_entry.proofs.Fronts.{length-entry_bytes}
use Rattle.block_layout.specs.Writes.{overwritten}
use Rattle.block_writing.proofs.Overwrites.{part-overwritten}
use Rattle.block_writing.proofs.rows.write_row.Goals as goal

pub returns : goal.returns
returns c =
    let at : ℕ = c.row_start-at.result in
    part-overwritten at (at + 28 - at) 28 c.args.block.now (entry_bytes c.args.entry.now) c.write_entry.new.buf (omega arith) (length-entry_bytes c.args.entry.now) c.write_entry.ensures
    ∙ ap (λ (k : ℕ). overwritten k (entry_bytes c.args.entry.now) c.args.block.now) c.row_start-at.ensures
