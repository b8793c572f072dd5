-- What is kept of a vertex that a run starts with: each of its lists stands in a log, all of it at one epoch.
use Rattle.std.specs.Prelude.{ℕ, List, [], ◌∷◌, length, map, Option, Some, None}
use Rattle.graph_model.specs.declared.pairs.Pair.{Pair}
use Rattle.graph_model.specs.Vertex.{Vertex, LabelList}
use Rattle.stamps.specs.declared.stamp.Stamp.TheVariants.{Never, At}
use Rattle.edge_log.specs.Entries.{Entry}
use Rattle.edge_log.specs.Contents.{LogContent}
use Rattle.core_rows.specs.Rows.{Row, LabelLog, fresh_row}

abbrev pub opened_entries : ℕ → List Pair → List Entry
opened_entries e [] = []
opened_entries e (x ∷ xs) = record { d = x.d; p = x.p; created = At e; ended = Never } ∷ opened_entries e xs

abbrev pub opened_log : ℕ → List Pair → LogContent
opened_log e xs = record { entries = opened_entries e xs; committed = length xs; epoch = e }

abbrev pub opened_logs : ℕ → List LabelList → List LabelLog
opened_logs e lists = map (λ y. record { label = y.label; log = opened_log e y.pairs }) lists

-- a vertex of the base has one version; every other vertex was never there
abbrev pub opened_row : ℕ → Option Vertex → Row
opened_row e None = fresh_row
opened_row e (Some x) = record { owner = None; committed = e; versions = record { created = At e; content = Some x.payload } ∷ []; logs = opened_logs e x.lists }

-- the lists of a vertex, where it is there
abbrev pub lists_in : Option Vertex → List LabelList
lists_in None = []
lists_in (Some x) = x.lists
