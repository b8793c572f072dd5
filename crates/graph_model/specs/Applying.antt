-- What applying a change to a graph answers.
use Rattle.std.specs.Prelude.{◌≡◌, ℕ, Bool, false, true, not, IsTrue, List, Result, OnOk, OnErr, IsErrOf}
use Rattle.graph_model.specs.declared.change.Change.{Change}
use Rattle.graph_model.specs.declared.change.Change.TheVariants.{New, Set, Drop, Put, Del}
use Rattle.graph_model.specs.declared.graph.GraphRefusal.{GraphRefusal}
use Rattle.graph_model.specs.declared.graph.GraphRefusal.TheVariants.{Unfit}
use Rattle.graph_model.specs.Vertex.{Vertex}
use Rattle.graph_model.specs.Graph.{vertex_at, fits, apply, all_fit}

-- A change was applied where it fits, and a refusal leaves the graph as before.
pub record Applies (change : Change) (old new : List Vertex) (result : Result (Unit {0}) GraphRefusal) : Type 0 where
  pub applied : OnOk result (new ≡ apply change old)
  pub fit : OnOk result (IsTrue (fits change old))
  pub unfit : IsErrOf result Unfit → fits change old ≡ false
  pub unchanged : OnErr result (new ≡ old)

-- whether a change fits where its vertex is there or not
abbrev pub fits_where : Change → Bool → Bool
fits_where (New v p) here = not here
fits_where (Set v p) here = here
fits_where (Drop v) here = here
fits_where (Put v l d p) here = here
fits_where (Del v l d) here = here

-- whether the vertex of a change that fits is there after it
abbrev pub leaves_vertex : Change → Bool
leaves_vertex (New v p) = true
leaves_vertex (Set v p) = true
leaves_vertex (Drop v) = false
leaves_vertex (Put v l d p) = true
leaves_vertex (Del v l d) = true

-- the changes fit no graph that has at this vertex what this one has
abbrev pub FitNone : ℕ → List Change → List Vertex → Type 0
FitNone v changes graph = (g : List Vertex) → vertex_at v g ≡ vertex_at v graph → all_fit changes g ≡ false
