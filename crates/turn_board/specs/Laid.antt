-- The values of a board in the order of the turns.
use Rattle.std.specs.Prelude.{◌≡◌, List, [], ◌∷◌, ◌++◌, Option, Some}
use Rattle.turn_board.specs.declared.home.Home.{Home}
use Rattle.turn_board.specs.declared.home.Home.TheVariants as home
use Rattle.turn_board.specs.declared.homes.Homes.{Homes}

-- those of the shards, then the clock's, and last the log's
abbrev pub laid : {X E W : Type 0} → Homes X E W → List (Option (Home X E W))
laid homes = (homes.shards.values.items ++ Some (home.Clock homes.clock) ∷ []) ++ Some (home.Log homes.log) ∷ []

-- the last two are the clock's and the log's
abbrev pub HasEnds : {X E W : Type 0} → List (Option (Home X E W)) → Type 0
HasEnds {X} {E} {W} xs = (shards : List (Option (Home X E W))) × (clock : E) × (log : W) × (xs ≡ (shards ++ Some (home.Clock clock) ∷ []) ++ Some (home.Log log) ∷ [])
