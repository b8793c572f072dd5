-- What rows have least: of read epochs, of transaction numbers, and of the numbers of closed rows.
use Rattle.std.specs.Prelude.{ℕ, ◌+◌, min, List, [], ◌∷◌}
use Rattle.reader_table.specs.declared.row.Row.{Row}
use Rattle.reader_table.specs.declared.row.Row.TheVariants.{Closed, Idle, Active}
use Rattle.reader_table.specs.declared.least.Least.{Least}

-- what no rows have: the greatest numbers of the types
abbrev pub nothing : Least
nothing = record { read = 18446744073709551615; tid = 18446744073709551615; closed = 4294967295 }

-- what the row of a number has
abbrev pub least_in : ℕ → Row → Least
least_in number Closed = record { read = 18446744073709551615; tid = 18446744073709551615; closed = number }
least_in number Idle = nothing
least_in number (Active tid read) = record { read = read; tid = tid; closed = 4294967295 }

-- the least of two
abbrev pub both : Least → Least → Least
both a b = record { read = min a.read b.read; tid = min a.tid b.tid; closed = min a.closed b.closed }

abbrev pub least_of : List Least → Least
least_of [] = nothing
least_of (x ∷ xs) = both x (least_of xs)

-- what each row has, of which the first has this number
abbrev pub leasts_of : ℕ → List Row → List Least
leasts_of number [] = []
leasts_of number (row ∷ rows) = least_in number row ∷ leasts_of (number + 1) rows
