-- The vertex of the map's entry is the asked one, and its number is not seen.
use Rattle.std.proofs.Common.{◌≡◌, ◌∙◌, sym, ap, Ok, Err, Some, IfOk}
use Rattle.std.specs.Option.{option_map}
use Rattle.graph_model.specs.Graph.{vertex_at, seen, asked_vertex}
use Rattle.graph_model.specs.MapEntries.{vertices_of, vertex_of_entry}
use Rattle.graph_model.proofs.GraphEntries.{vertex_at-vertices_of}
use Rattle.graph_model.proofs.Fitting.{seen-number}
use Rattle.graph_model.proofs.graph.Graph.answer.Goals as goal

pub returns-in_default : goal.returns-in_default
returns-in_default c =
    let v = c.vertex.result in
    let none = vertex_at-vertices_of v c.self.inside.vertices.entries ∙ ap (option_map (λ x. vertex_of_entry (v, x))) (sym c.in_default.ensures.value) in
    rw (← c.self.view_is) (sym (ap (λ n. seen (vertex_at n (vertices_of c.self.inside.vertices.entries)) c.args.q.now) (sym c.vertex.ensures) ∙ ap (λ o. seen o c.args.q.now) none))

pub returns : goal.returns
returns c =
    let v = c.vertex.result in
    let es = c.self.inside.vertices.entries in
    let x = c.in-Some.entry.now in
    let here = vertex_at-vertices_of v es ∙ ap (option_map (λ x. vertex_of_entry (v, x))) (sym c.in-Some.ensures.value) in
    let found = seen-number c.args.q.now 0 v x ∙ sym (ap (λ n. seen (vertex_at n (vertices_of es)) c.args.q.now) (sym c.vertex.ensures) ∙ ap (λ o. seen o c.args.q.now) here) in
    rw (← c.self.view_is) (elim (c.answer.result) as (λ r. IfOk r (λ answer. answer ≡ seen (Some (vertex_of_entry (0, x))) c.args.q.now) → IfOk r (λ answer. answer ≡ seen (vertex_at (asked_vertex c.args.q.now) (vertices_of es)) c.args.q.now)) [
      | Ok a ↦ λ is. is ∙ found
      | Err e ↦ λ is. tt
    ] c.answer.ensures)
