-- What stands in one place of a graph, which the changes of its vertex alone decide.
use Rattle.std.specs.Prelude.{ℕ, ◌==◌, nat_le, List, [], ◌∷◌, filter, Option}
use Rattle.graph_model.specs.declared.change.Change.{Change}
use Rattle.graph_model.specs.declared.record.Record.{Record}
use Rattle.graph_model.specs.Vertex.{Vertex}
use Rattle.graph_model.specs.Change.{vertex_of}
use Rattle.graph_model.specs.Graph.{vertex_after}

-- the changes about a vertex, in order
abbrev pub changes_about : ℕ → List Change → List Change
changes_about v changes = filter (λ c. vertex_of c == v) changes

-- what stands in the place of a vertex after these changes of it
abbrev pub place_after : List Change → Option Vertex → Option Vertex
place_after [] here = here
place_after (change ∷ changes) here = place_after changes (vertex_after change here)

-- the records of an epoch at most e
abbrev pub records_until : ℕ → List Record → List Record
records_until e records = filter (λ r. nat_le r.epoch e) records
