-- Whether a row of the readers is open in which no transaction runs.
use Rattle.std.specs.Prelude.{Bool, true, false, List, [], ◌∷◌}
use Rattle.reader_table.specs.declared.row.Row.{Row}
use Rattle.reader_table.specs.declared.row.Row.TheVariants.{Closed, Idle, Active}

abbrev pub has_idle : List Row → Bool
has_idle [] = false
has_idle (Closed ∷ rows) = has_idle rows
has_idle (Idle ∷ rows) = true
has_idle (Active tid read ∷ rows) = has_idle rows
