-- What the reads of a transaction give, each of which asks one kind of query.
use Rattle.std.specs.Prelude.{◌≡◌, ◌⊎◌, ℕ, List, Option, Some, None, Result, Ok, Err}
use Rattle.graph_model.specs.declared.pairs.Pair.{Pair}
use Rattle.graph_model.specs.declared.query.Query.{Query}
use Rattle.graph_model.specs.declared.query.Answer.{Answer}
use Rattle.graph_model.specs.declared.query.Answer.TheVariants as answer
use Rattle.core_calls.specs.Calls.{Reads, ReadsNone}
use Rattle.core_calls.specs.Events.{Told}
use Rattle.store_sessions.specs.declared.refusal.Refusal.{Refusal}
use Rattle.store_sessions.specs.declared.refusal.Refusal.TheVariants as refusal

-- It was read, and this is what the answer gives; or memory ran out, and that is told.
abbrev pub ReadGives : {R : Type 0} → Query → (Answer → R) → R → R → List Told → Type 0
ReadGives q gives without result ts = ((x : Answer) × (Reads q x ts × (result ≡ gives x))) ⊎ (ReadsNone q ts × (result ≡ without))

-- the payload of a vertex: none where the vertex is not there
abbrev pub vertex_in : Answer → Option (List ℕ)
vertex_in (answer.Value p) = Some p
vertex_in other = None

-- the payload of an edge: none where the edge is not there
abbrev pub edge_in : Answer → Result (Option (List ℕ)) Refusal
edge_in answer.NoVertex = Err refusal.NoVertex
edge_in (answer.Value p) = Ok (Some p)
edge_in other = Ok None

-- the labels of a vertex
abbrev pub labels_in : Answer → Result (List ℕ) Refusal
labels_in (answer.Named labels) = Ok labels
labels_in other = Err refusal.NoVertex

-- the edges of a list
abbrev pub pairs_in : Answer → Result (List Pair) Refusal
pairs_in (answer.Edges pairs) = Ok pairs
pairs_in other = Err refusal.NoVertex
