-- What the value of a turn shows, by its kind.
use Rattle.std.specs.Prelude.{ℕ, List}
use Rattle.core_states.specs.declared.clock.Clock.{Clock}
use Rattle.core_states.specs.LogParts.{LogPart}
use Rattle.core_states.specs.Parts.{OfShard, OfClock, OfLog, VertexRow}
use Rattle.turn_board.specs.Views.{Shown, ShardPlace, no_place}
use Rattle.turn_board.specs.declared.home.Home.{Home}
use Rattle.turn_board.specs.declared.home.Home.TheVariants as home

-- a shard's value stands for its rows, with the place of the shard, the clock's for the clock, and the log's for the log part, with the moment of its disk
abbrev pub home_shown : {X E W : Type 0} → (X → List VertexRow) → (X → ShardPlace) → (E → Clock) → (W → LogPart) → (W → ℕ) → Home X E W → Shown
home_shown rows place clock log moment (home.Shard x) = record { part = OfShard (rows x); moment = 0; place = place x }
home_shown rows place clock log moment (home.Clock x) = record { part = OfClock (clock x); moment = 0; place = no_place }
home_shown rows place clock log moment (home.Log x) = record { part = OfLog (log x); moment = moment x; place = no_place }
