use Rattle.std.proofs.Common.{ap, ◌∙◌, min, List}
use Rattle.reader_table.specs.declared.row.Row.{Row}
use Rattle.reader_table.specs.declared.least.Least.{Least}
use Rattle.reader_table.specs.Leasts.{least_of}
use Rattle.reader_table.specs.Rows.{horizon_of}
use Rattle.reader_table.proofs.RowLeasts.{horizon_is}
use Rattle.reader_table.proofs.table.ReaderTable.horizon.Goals as goal

pub returns : goal.returns
returns c =
    c.min.ensures
    ∙ ap (λ (x : Least). min c.args.visible x.read) (c.least.ensures ∙ ap least_of c.self.invariant.index)
    ∙ horizon_is 0 c.args.visible c.self.inside.rows.items c.ranges.visible.fits
    ∙ ap (λ (rows : List Row). horizon_of c.args.visible rows) c.self.view_is
