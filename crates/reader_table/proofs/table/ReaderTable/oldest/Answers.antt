use Rattle.std.proofs.Common.{ap, ◌∙◌, min, List}
use Rattle.reader_table.specs.declared.row.Row.{Row}
use Rattle.reader_table.specs.declared.least.Least.{Least}
use Rattle.reader_table.specs.Leasts.{least_of}
use Rattle.reader_table.specs.Rows.{oldest_of}
use Rattle.reader_table.proofs.RowLeasts.{oldest_is}
use Rattle.reader_table.proofs.table.ReaderTable.oldest.Goals as goal

pub returns : goal.returns
returns c =
    c.min.ensures
    ∙ ap (λ (x : Least). min c.args.next x.tid) (c.least.ensures ∙ ap least_of c.self.invariant.index)
    ∙ oldest_is 0 c.args.next c.self.inside.rows.items c.ranges.next.fits
    ∙ ap (λ (rows : List Row). oldest_of c.args.next rows) c.self.view_is
