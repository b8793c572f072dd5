-- The transactions that run in rows.
use Rattle.std.specs.Prelude.{◌≡◌, ℕ, ◌<◌, Bool, true, false, ◌||◌, ◌==◌, nat_lt, if◌then◌else◌, List, [], ◌∷◌, Option, Some, None}
use Rattle.reader_table.specs.declared.row.Row.{Row}
use Rattle.reader_table.specs.declared.row.Row.TheVariants.{Closed, Idle, Active as Runs}
use Rattle.core_states.specs.declared.clock.Active.{Active}

-- a transaction in its place among others, of which the one that began last stands first
abbrev pub put_falling : Active → List Active → List Active
put_falling x [] = x ∷ []
put_falling x (y ∷ ys) = if nat_lt y.tid x.tid then x ∷ y ∷ ys else y ∷ put_falling x ys

-- the transactions that run in these rows, the one that began last first
abbrev pub actives_of : List Row → List Active
actives_of [] = []
actives_of (Closed ∷ rows) = actives_of rows
actives_of (Idle ∷ rows) = actives_of rows
actives_of (Runs tid read ∷ rows) = put_falling (record { tid = tid; epoch = read }) (actives_of rows)

-- Their numbers fall, from below this one.
abbrev pub Falling : ℕ → List Active → Type 0
Falling next [] = Unit {0}
Falling next (x ∷ xs) = (x.tid < next) × Falling x.tid xs

-- a transaction of this number runs
abbrev pub is_running : ℕ → List Active → Bool
is_running t [] = false
is_running t (x ∷ xs) = x.tid == t || is_running t xs

-- the number of the transaction of a row, or 0
abbrev pub tid_in : Option Row → ℕ
tid_in None = 0
tid_in (Some Closed) = 0
tid_in (Some Idle) = 0
tid_in (Some (Runs tid read)) = tid

-- the transaction of this number runs in the row
abbrev pub RunsIn : Option Row → ℕ → Type 0
RunsIn None t = ⊥
RunsIn (Some Closed) t = ⊥
RunsIn (Some Idle) t = ⊥
RunsIn (Some (Runs tid read)) t = tid ≡ t
