-- What the rows of the table say of the transactions that run.
use Rattle.std.specs.Prelude.{ℕ, suc, min, Bool, true, false, List, [], ◌∷◌, Option, Some, None}
use Rattle.reader_table.specs.declared.row.Row.{Row}
use Rattle.reader_table.specs.declared.row.Row.TheVariants.{Closed, Idle, Active}

-- a row is there, and it is not closed
abbrev pub is_open : Option Row → Bool
is_open None = false
is_open (Some Closed) = false
is_open (Some Idle) = true
is_open (Some (Active tid read)) = true

-- a transaction runs in the row
abbrev pub is_active : Option Row → Bool
is_active None = false
is_active (Some Closed) = false
is_active (Some Idle) = false
is_active (Some (Active tid read)) = true

-- the number of the first closed row, or that of a new one behind all rows
abbrev pub first_closed : List Row → ℕ
first_closed [] = 0
first_closed (Closed ∷ rows) = 0
first_closed (Idle ∷ rows) = suc (first_closed rows)
first_closed (Active tid read ∷ rows) = suc (first_closed rows)

-- the rows with that one open
abbrev pub opened : List Row → List Row
opened [] = Idle ∷ []
opened (Closed ∷ rows) = Idle ∷ rows
opened (Idle ∷ rows) = Idle ∷ opened rows
opened (Active tid read ∷ rows) = Active tid read ∷ opened rows

-- the least of an epoch and of the read epochs of the active rows
abbrev pub horizon_of : ℕ → List Row → ℕ
horizon_of visible [] = visible
horizon_of visible (Closed ∷ rows) = horizon_of visible rows
horizon_of visible (Idle ∷ rows) = horizon_of visible rows
horizon_of visible (Active tid read ∷ rows) = min read (horizon_of visible rows)

-- the least of a transaction number and of those of the active rows
abbrev pub oldest_of : ℕ → List Row → ℕ
oldest_of next [] = next
oldest_of next (Closed ∷ rows) = oldest_of next rows
oldest_of next (Idle ∷ rows) = oldest_of next rows
oldest_of next (Active tid read ∷ rows) = min tid (oldest_of next rows)
