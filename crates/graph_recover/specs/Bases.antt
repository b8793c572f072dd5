-- The base that the records of a log make.
use Rattle.std.specs.Prelude.{ℕ, ◌+◌, max, List, [], ◌∷◌, map}
use Rattle.graph_model.specs.declared.record.Record.{Record}
use Rattle.graph_model.specs.declared.graph.Base.{Base}
use Rattle.graph_model.specs.Graph.{after}
use Rattle.graph_model.specs.Records.{all_changes, made_vertices, last_epoch}

-- the greatest of these numbers, or 0
abbrev pub greatest_of : List ℕ → ℕ
greatest_of [] = 0
greatest_of (n ∷ numbers) = max n (greatest_of numbers)

-- What a run starts from that goes on from these records: the graph after all their changes, the last epoch
-- or 0, and numbers above every transaction's and above every vertex that was made.
abbrev pub base_of : List Record → Base
base_of records = record {
  graph = after (all_changes records) [];
  epoch = last_epoch 0 records;
  next_tid = greatest_of (map (λ r. r.tid) records) + 1;
  next_vertex = greatest_of (made_vertices (all_changes records)) + 1;
}
