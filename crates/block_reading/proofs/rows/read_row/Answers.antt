use Rattle.std.proofs.Common.{drop, sym, arith}
use Rattle.tel_entry.specs.Layouts.{EntryFits}
use Rattle.block_layout.proofs.Raw.{raw_in-front}
use Rattle.block_reading.proofs.rows.read_row.Goals as goal

pub returns : goal.returns
returns c =
    let fits : EntryFits c.read_entry.result = record { d = omega arith; created = omega arith; ended = omega arith; len = omega arith } in
    sym (raw_in-front c.read_entry.result c.args.row.now (drop 28 c.args.row.now) fits c.read_entry.ensures.read)
