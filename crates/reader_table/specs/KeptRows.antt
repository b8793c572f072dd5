-- What a table keeps of its rows.
use Rattle.std.specs.Prelude.{◌≡◌, ◌^◌, ◌<◌, List, length}
use Rattle.reader_table.specs.declared.row.Row.{Row}
use Rattle.reader_table.specs.Leasts.{leasts_of}
use Rattle.reader_table.specs.declared.table.ReaderTable.TheInside.{Inside}

abbrev pub rows_of : Inside → List Row
rows_of a = a.rows.items

-- The index has what each row has.
pub record IsKept (a : Inside) : Type 0 where
  pub index : a.index.rows ≡ leasts_of 0 a.rows.items
  pub few : length a.rows.items < 2 ^ 32
