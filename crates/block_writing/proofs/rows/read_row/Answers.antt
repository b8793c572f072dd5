use Rattle.std.proofs.Common.{ℕ, List, drop, ap, ◌∙◌}
use Rattle.edge_log.specs.Places.{oldest}
use Rattle.block_layout.specs.Rows.{raw_entry, rows_of}
use Rattle.block_layout.proofs.Raw.{raw_entry-fits}
use Rattle.block_layout.proofs.AtPlaces.{row-fits, row-at}
use Rattle.block_writing.proofs.Overwrites.{to_end}
use Rattle.block_writing.proofs.rows.read_row.Goals as goal

pub returns : goal.returns
returns c = λ start xs x held at.
    let block : List ℕ = c.args.block.now in
    let n : ℕ = c.args.place in
    c.read_entry.ensures.only (raw_entry x) (rows_of (oldest n xs)) (raw_entry-fits x (row-fits start n xs x block held at))
    (to_end c.row_start-at.result block ∙ ap (λ (k : ℕ). drop k block) c.row_start-at.ensures ∙ row-at start n xs x block held at)
