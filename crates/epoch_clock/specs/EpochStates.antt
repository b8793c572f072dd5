-- What the clock's part shows.
use Rattle.std.specs.Prelude.{List}
use Rattle.reader_table.specs.declared.row.Row.{Row}
use Rattle.core_states.specs.declared.clock.Clock.{Clock}

-- the clock of the core, and the rows by their numbers
pub record EpochState : Type 0 where
  pub clock : Clock
  pub readers : List Row
