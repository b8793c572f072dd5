-- What the plain machine says of a line: the record that it makes, and the limits that it keeps.
use Rattle.std.specs.Prelude.{ℕ, Bool, true, nat_lt, nat_le, List, [], ◌∷◌, Option, Some, None}
use Rattle.graph_model.specs.declared.record.Record.{Record}
use Rattle.std.specs.List.{list_all}
use Rattle.graph_model.specs.declared.change.Change.{Change}
use Rattle.graph_model.specs.Vertex.{Vertex}
use Rattle.graph_model.specs.Graph.{after, each_step, vertex_after}
use Rattle.graph_model.specs.Records.{destination_end, list_size, list_most}
use Rattle.request_text.specs.declared.request.Request.{Request}
use Rattle.request_text.specs.declared.request.Request.TheVariants as request
use Rattle.request_text.specs.declared.reply.Reply.{Reply}
use Rattle.request_text.specs.declared.reply.Reply.TheVariants as reply
use Rattle.graph_legal.specs.Traces.{Trace, noted_at}
use Rattle.graph_legal.specs.TraceOk.{Run, snapshot}

-- the lists of what stands at a vertex are within their limit
abbrev pub are_within : Option Vertex → Bool
are_within None = true
are_within (Some x) = list_all (λ y. nat_le (list_size y.pairs) list_most) x.lists

-- the record of transaction t, committed at this epoch
abbrev pub record_in : Trace → ℕ → Record
record_in t epoch = record { tid = t.number; read = t.read; epoch = epoch; changes = t.own }

-- the record that a reply tells of, in the transaction of its line
abbrev pub record_at : Reply → Option Trace → List Record
record_at (reply.Committed epoch) (Some t) = record_in t epoch ∷ []
record_at r t = []

-- the destination that a request names is one that a script can spell
abbrev pub has_fit_destination : Request → Bool
has_fit_destination (request.Put v l d p) = nat_lt d destination_end
has_fit_destination (request.Del v l d) = nat_lt d destination_end
has_fit_destination q = true

-- the lists of a vertex after a change are within their limit
abbrev pub keeps_lists : Change → Option Vertex → Bool
keeps_lists c x = are_within (vertex_after c x)

-- a noted change leaves the lists of its vertex within their limit
abbrev pub keeps_within : Run → Option Trace → Request → Reply → Bool
keeps_within run None q r = true
keeps_within run (Some t) q r = each_step keeps_lists (noted_at q r) (after t.own (snapshot run t))
