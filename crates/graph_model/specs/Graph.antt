-- The plain graph: what a change does to it, and what a query sees of it.
use Rattle.std.specs.Prelude.{ℕ, Bool, true, false, not, ◌&&◌, ◌==◌, nat_lt, nat_le, if◌then◌else◌, List, [], ◌∷◌, map, filter, find, flat_map, Option, Some, None, is_some, is_none}
use Rattle.graph_model.specs.declared.change.Change.{Change}
use Rattle.graph_model.specs.declared.change.Change.TheVariants.{New, Set, Drop, Put, Del}
use Rattle.graph_model.specs.declared.record.Record.{Record}
use Rattle.graph_model.specs.declared.pairs.Pair.{Pair}
use Rattle.graph_model.specs.Vertex.{LabelList}
use Rattle.graph_model.specs.Vertex.{Vertex}
use Rattle.graph_model.specs.declared.query.Query.{Query}
use Rattle.graph_model.specs.declared.query.Query.TheVariants as query
use Rattle.graph_model.specs.declared.query.Answer.{Answer}
use Rattle.graph_model.specs.declared.query.Answer.TheVariants as answer
use Rattle.graph_model.specs.Change.{vertex_of}

-- the vertex of this number, where it is there
abbrev pub vertex_at : ℕ → List Vertex → Option Vertex
vertex_at v graph = find (λ x. x.number == v) graph

-- the edges under a label, newest first, where there are any
abbrev pub pairs_in : List LabelList → ℕ → List Pair
pairs_in [] l = []
pairs_in (x ∷ lists) l = if x.label == l then x.pairs else pairs_in lists l

-- the edges to other destinations
abbrev pub without_pair : ℕ → List Pair → List Pair
without_pair d pairs = filter (λ x. not (x.d == d)) pairs

-- the lists with this one in its place among the rising labels
abbrev pub with_list : LabelList → List LabelList → List LabelList
with_list x [] = x ∷ []
with_list x (y ∷ lists) =
    if nat_lt x.label y.label then x ∷ y ∷ lists
    else (if x.label == y.label then x ∷ lists else y ∷ with_list x lists)

-- the lists where that of a label has become these edges: a list without edges is no list
abbrev pub set_list : ℕ → List Pair → List LabelList → List LabelList
set_list l [] lists = filter (λ x. not (x.label == l)) lists
set_list l (pair ∷ pairs) lists = with_list (record { label = l; pairs = pair ∷ pairs }) lists

-- a Put sets its edge in front, in place of the edge to the same destination
abbrev pub lists_after_put : ℕ → ℕ → List ℕ → List LabelList → List LabelList
lists_after_put l d p lists = set_list l (record { d = d; p = p } ∷ without_pair d (pairs_in lists l)) lists

-- a Del takes its edge away, where it is there
abbrev pub lists_after_del : ℕ → ℕ → List LabelList → List LabelList
lists_after_del l d lists = set_list l (without_pair d (pairs_in lists l)) lists

-- what stands in the place of a change's vertex after the change
abbrev pub vertex_after : Change → Option Vertex → Option Vertex
vertex_after (New v p) here = Some (record { number = v; payload = p; lists = [] })
vertex_after (Drop v) here = None
vertex_after (Set v p) (Some x) = Some (record x { payload = p })
vertex_after (Put v l d p) (Some x) = Some (record x { lists = lists_after_put l d p x.lists })
vertex_after (Del v l d) (Some x) = Some (record x { lists = lists_after_del l d x.lists })
vertex_after change None = None

-- whether a change fits where this stands in the place of its vertex: New wants no vertex, each other change wants one
abbrev pub fits_at : Change → Option Vertex → Bool
fits_at (New v p) here = is_none here
fits_at (Set v p) here = is_some here
fits_at (Drop v) here = is_some here
fits_at (Put v l d p) here = is_some here
fits_at (Del v l d) here = is_some here

-- the graph with this vertex in its place among the rising numbers
abbrev pub with_vertex : Vertex → List Vertex → List Vertex
with_vertex x [] = x ∷ []
with_vertex x (y ∷ graph) =
    if nat_lt x.number y.number then x ∷ y ∷ graph
    else (if x.number == y.number then x ∷ graph else y ∷ with_vertex x graph)

-- the graph where this stands in the place of a vertex
abbrev pub set_vertex : ℕ → Option Vertex → List Vertex → List Vertex
set_vertex v None graph = filter (λ x. not (x.number == v)) graph
set_vertex v (Some x) graph = with_vertex x graph

-- whether a change fits the graph
abbrev pub fits : Change → List Vertex → Bool
fits change graph = fits_at change (vertex_at (vertex_of change) graph)

-- the graph after a change that fits
abbrev pub apply : Change → List Vertex → List Vertex
apply change graph = set_vertex (vertex_of change) (vertex_after change (vertex_at (vertex_of change) graph)) graph

-- the graph after a list of changes, in order
abbrev pub after : List Change → List Vertex → List Vertex
after [] graph = graph
after (change ∷ changes) graph = after changes (apply change graph)

-- whether each change passes a test of what stands at its vertex, after the changes before it
abbrev pub each_step : (Change → Option Vertex → Bool) → List Change → List Vertex → Bool
each_step passes [] graph = true
each_step passes (change ∷ changes) graph =
    passes change (vertex_at (vertex_of change) graph) && each_step passes changes (apply change graph)

-- whether each of the changes fits, after those before it
abbrev pub all_fit : List Change → List Vertex → Bool
all_fit changes graph = each_step fits_at changes graph

-- the changes of all records of an epoch at most e, in the order of the records
abbrev pub changes_until : ℕ → List Record → List Change
changes_until e records = flat_map (λ r. r.changes) (filter (λ r. nat_le r.epoch e) records)

-- the graph that a transaction with read epoch e starts from
abbrev pub at : List Vertex → List Record → ℕ → List Vertex
at graph records e = after (changes_until e records) graph

-- the vertex that a query asks for
abbrev pub asked_vertex : Query → ℕ
asked_vertex (query.Vertex v) = v
asked_vertex (query.Edge v l d) = v
asked_vertex (query.Scan v l) = v
asked_vertex (query.Labels v) = v

-- the payload of the edge to a destination
abbrev pub edge_answer : Option Pair → Answer
edge_answer None = answer.Absent
edge_answer (Some x) = answer.Value x.p

abbrev pub pair_to : ℕ → List Pair → Option Pair
pair_to d pairs = find (λ x. x.d == d) pairs

-- whether the vertex is there with an edge to a destination under a label
abbrev pub has_edge : Option Vertex → ℕ → ℕ → Bool
has_edge None l d = false
has_edge (Some x) l d = is_some (pair_to d (pairs_in x.lists l))

-- what a query sees of its vertex
abbrev pub seen : Option Vertex → Query → Answer
seen None q = answer.NoVertex
seen (Some x) (query.Vertex v) = answer.Value x.payload
seen (Some x) (query.Edge v l d) = edge_answer (pair_to d (pairs_in x.lists l))
seen (Some x) (query.Scan v l) = answer.Edges (pairs_in x.lists l)
seen (Some x) (query.Labels v) = answer.Named (map (λ y. y.label) x.lists)

-- what a query sees of a graph after one's own changes
abbrev pub see : List Vertex → List Change → Query → Answer
see graph own q = seen (vertex_at (asked_vertex q) (after own graph)) q
