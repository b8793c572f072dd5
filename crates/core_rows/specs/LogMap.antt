-- How a row keeps its logs: a map that stands for them.
use Rattle.std.specs.Prelude.{ℕ, List, map}
use Rattle.edge_log.specs.Contents.{LogContent}
use Rattle.core_rows.specs.Rows.{LabelLog}

-- an entry of the map as it is shown
abbrev pub log_of : ℕ × LogContent → LabelLog
log_of e = record { label = e.0; log = e.1 }

-- the logs as they are shown
abbrev pub logs_of : List (ℕ × LogContent) → List LabelLog
logs_of entries = map log_of entries
