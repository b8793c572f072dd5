-- What stands in one place of a graph after changes, and what a query sees of it.
use Rattle.std.proofs.Common.{◌≡◌, ℕ, true, false, cond, List, [], ◌∷◌, ◌++◌, refl, ap, ◌∙◌}
use Rattle.std.specs.Prelude.{◌==◌}
use Rattle.std.proofs.lemmas.Bool.{eqb-true}
use Rattle.graph_model.specs.declared.change.Change.{Change}
use Rattle.graph_model.specs.declared.query.Query.{Query}
use Rattle.graph_model.specs.Vertex.{Vertex}
use Rattle.graph_model.specs.Change.{vertex_of}
use Rattle.graph_model.specs.Graph.{vertex_at, vertex_after, apply, after, asked_vertex, seen, see}
use Rattle.graph_model.specs.Places.{changes_about, place_after}
use Rattle.graph_model.proofs.Vertices.{vertex_at-apply, after-append}

-- a change makes of its vertex what it says, and leaves the others
pub vertex_at-apply_at : (v : ℕ) (c : Change) (g : List Vertex) → vertex_at v (apply c g) ≡ cond (vertex_of c == v) (vertex_after c (vertex_at v g)) (vertex_at v g)
vertex_at-apply_at v c g =
    vertex_at-apply v c g ∙ elim (vertex_of c == v) as (λ b. (vertex_of c == v) ≡ b →
    cond b (vertex_after c (vertex_at (vertex_of c) g)) (vertex_at v g) ≡ cond b (vertex_after c (vertex_at v g)) (vertex_at v g)) [
      | true ↦ λ e. ap (λ n. vertex_after c (vertex_at n g)) (eqb-true (vertex_of c) v e)
      | false ↦ λ e. refl
    ] refl

-- what stands at a vertex after changes is what the changes about it make of what stood there
pub vertex_at-after : (v : ℕ) (changes : List Change) (g : List Vertex) → vertex_at v (after changes g) ≡ place_after (changes_about v changes) (vertex_at v g)
vertex_at-after v [] g = refl
vertex_at-after v (c ∷ changes) g =
    vertex_at-after v changes (apply c g) ∙ ap (place_after (changes_about v changes)) (vertex_at-apply_at v c g)
    ∙ elim (vertex_of c == v) as (λ b. place_after (changes_about v changes) (cond b (vertex_after c (vertex_at v g)) (vertex_at v g)) ≡ place_after (cond b (c ∷ changes_about v changes) (changes_about v changes)) (vertex_at v g)) [
      | true ↦ refl
      | false ↦ refl
    ]

-- one more change
pub after-push : (changes : List Change) (c : Change) (g : List Vertex) → after (changes ++ c ∷ []) g ≡ apply c (after changes g)
after-push changes c g = after-append changes (c ∷ []) g

-- what a query sees after one more change: what the change makes of the asked vertex, or what it saw before
pub see-push : (g : List Vertex) (own : List Change) (c : Change) (q : Query) →
    see g (own ++ c ∷ []) q ≡ cond (vertex_of c == asked_vertex q) (seen (vertex_after c (vertex_at (asked_vertex q) (after own g))) q) (see g own q)
see-push g own c q =
    ap (λ h. seen (vertex_at (asked_vertex q) h) q) (after-push own c g) ∙ ap (λ o. seen o q) (vertex_at-apply_at (asked_vertex q) c (after own g))
    ∙ elim (vertex_of c == asked_vertex q) as (λ b. seen (cond b (vertex_after c (vertex_at (asked_vertex q) (after own g))) (vertex_at (asked_vertex q) (after own g))) q ≡ cond b (seen (vertex_after c (vertex_at (asked_vertex q) (after own g))) q) (see g own q)) [
      | true ↦ refl
      | false ↦ refl
    ]

-- what a query sees is decided by the asked vertex and the own changes about it
pub see-about : (g : List Vertex) (own : List Change) (q : Query) → see g own q ≡ seen (place_after (changes_about (asked_vertex q) own) (vertex_at (asked_vertex q) g)) q
see-about g own q = ap (λ o. seen o q) (vertex_at-after (asked_vertex q) own g)
