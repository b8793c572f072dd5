-- How a log is dumped.
use Rattle.std.specs.Prelude.{◌≡◌, ℕ, ◌<◌, ◌≤◌, List, [], Option, Some, IsSomeAnd}
use Rattle.std.specs.Option.{unwrap_or}
use Rattle.graph_model.specs.declared.record.Record.{Record}
use Rattle.graph_model.specs.Graph.{at}
use Rattle.graph_model.specs.Records.{last_epoch}
use Rattle.graph_wal.specs.Log.{RecoversTo}
use Rattle.log_commands.specs.declared.status.Status.{Status}
use Rattle.log_commands.specs.declared.status.Status.TheVariants as status
use Rattle.log_commands.specs.Status.{Printed}
use Rattle.log_commands.specs.Opening.{HasLog, Unopened}
use Rattle.graph_dump.specs.DumpText.{text_of_graph}

-- The text is that of a graph which the log makes: at the epoch asked for, which is none after the last, or at
-- the last.
pub record IsDump (told : Option (List ℕ)) (asked : Option ℕ) (text : List ℕ) : Type 0 where
  pub records : List Record
  pub durable : ℕ
  pub size : ℕ
  pub log : HasLog told records durable size
  pub epoch : ℕ
  pub shown : epoch ≡ unwrap_or asked (last_epoch 0 records)
  pub within : epoch ≤ last_epoch 0 records
  pub spelled : text ≡ text_of_graph (at [] records epoch) epoch

-- The epoch that was asked for is above the last one.
pub record IsAboveLast (told : Option (List ℕ)) (wanted : Option ℕ) (asked last : ℕ) : Type 0 where
  pub records : List Record
  pub durable : ℕ
  pub size : ℕ
  pub log : HasLog told records durable size
  pub wanted_is : wanted ≡ Some asked
  pub last_is : last ≡ last_epoch 0 records
  pub above : last < asked

-- Why no graph was dumped: no log was opened, or it has no such epoch.
abbrev pub Undumped : Status → Option (List ℕ) → Option ℕ → ℕ → ℕ → Type 0
Undumped (status.BadEpoch asked last) told wanted entry exit = IsAboveLast told wanted asked last
Undumped s told wanted entry exit = Unopened s told entry exit

-- The disk tells a log, and it has the epoch that is asked for.
pub record CanDump (told : Option (List ℕ)) (asked : Option ℕ) : Type 0 where
  pub records : List Record
  pub tells : IsSomeAnd told (RecoversTo records)
  pub within : unwrap_or asked (last_epoch 0 records) ≤ last_epoch 0 records
