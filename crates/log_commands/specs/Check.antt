-- How a log is checked.
use Rattle.std.specs.Prelude.{◌≡◌, ℕ, List, Option, IsSomeAnd}
use Rattle.graph_model.specs.declared.record.Record.{Record}
use Rattle.graph_wal.specs.Log.{RecoversTo}
use Rattle.graph_recover.specs.Bases.{base_of}
use Rattle.graph_recover.specs.declared.recovered.Recovered.{Recovered}
use Rattle.graph_dump.specs.CheckText.{text_of_log}
use Rattle.log_commands.specs.Opening.{HasLog}

-- The text is the line that tells of the log.
pub record IsCheck (told : Option (List ℕ)) (text : List ℕ) : Type 0 where
  pub recovered : Recovered
  pub log : HasLog told recovered.records recovered.durable recovered.length
  pub base_is : recovered.base ≡ base_of recovered.records
  pub spelled : text ≡ text_of_log recovered

-- The disk tells a log.
abbrev pub CanCheck : Option (List ℕ) → Type 0
CanCheck told = (records : List Record) × IsSomeAnd told (RecoversTo records)
