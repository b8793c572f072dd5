use Rattle.std.proofs.Common.{ℕ, drop, ap, ◌∙◌}
use Rattle.std.proofs.lemmas.List.{take_rest}
use Rattle.edge_log.specs.Places.{oldest}
use Rattle.block_layout.specs.Rows.{raw_entry, rows_of}
use Rattle.block_layout.proofs.Raw.{raw_entry-fits}
use Rattle.block_layout.proofs.AtPlaces.{row-fits, row-at}
use Rattle.block_reading.proofs.rows.entry_at.Goals as goal

pub returns : goal.returns
returns c = λ start xs x held at.
    c.read_entry.ensures.only (raw_entry x) (rows_of (oldest c.args.place xs)) (raw_entry-fits x (row-fits start c.args.place xs x c.args.block.now held at))
    (take_rest c.args.block.now c.row_start.result ∙ ap (λ (n : ℕ). drop n c.args.block.now) c.row_start.ensures ∙ row-at start c.args.place xs x c.args.block.now held at)
