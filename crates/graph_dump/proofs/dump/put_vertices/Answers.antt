use Rattle.std.proofs.Common.{◌∙◌, ◌+◌, length, flat_map, refl, sym, ap, arith}
use Rattle.graph_model.specs.Graph.{vertex_at}
use Rattle.graph_dump.specs.DumpText.{vertex_text, edge_count}
use Rattle.graph_dump.specs.PlaceText.{place_text}
use Rattle.request_text.proofs.Putting.{PutSoFar-start, PutSoFar-step, PutSoFar-fault, PutSoFar-rest}
use Rattle.graph_dump.proofs.Rests.{left}
use Rattle.graph_dump.proofs.Listing.{number, vertices-begin, vertices-met, vertex-step}
use Rattle.graph_dump.proofs.dump.put_vertices.Goals as goal

pub loop-next-init : goal.loop-next-init
loop-next-init g c =
    let all = vertices-begin c.args.g.now c.next_vertex-next.result c.next_vertex-next.ensures.whole c.next_vertex-next.ensures.next in
    record {
      put = PutSoFar-rest _ _ _ _ _ (ap (flat_map vertex_text) (sym all)) (PutSoFar-start _ _);
      counted = ap (λ graph. c.args.edges.now + edge_count graph) all;
      met = λ n at. vertices-met 0 n c.args.g.now c.next_vertex-next.result c.next_vertex-next.ensures.next at;
      whole = c.next_vertex-next.ensures.whole;
    }

pub put_vertex-requires-clause-few : goal.put_vertex-requires-clause-few
put_vertex-requires-clause-few g c =
    let step = vertex-step c.in-Some.v c.args.g.now _ c.loop-next.invariant.whole (c.loop-next.invariant.met c.in-Some.v c.in-Some.is) refl in
    let next = ap (λ n. edge_count (left number n c.args.g.now)) c.in-Some.is in
    omega (arith, next, step.edges, c.loop-next.invariant.counted, c.requires)

pub returns-in_err-put_vertex-clause-put : goal.returns-in_err-put_vertex-clause-put
returns-in_err-put_vertex-clause-put g c =
    let step = vertex-step c.in-Some.v c.args.g.now _ c.loop-next.invariant.whole (c.loop-next.invariant.met c.in-Some.v c.in-Some.is) refl in
    PutSoFar-fault _ _ _ _ (place_text c.in-Some.v (vertex_at c.in-Some.v c.args.g.now)) _ _ _ c.from_residual.ensures.0
    (PutSoFar-rest _ _ _ (flat_map vertex_text (left number c.loop-next.next c.args.g.now)) _ (ap (λ n. flat_map vertex_text (left number n c.args.g.now)) c.in-Some.is ∙ step.text) c.loop-next.invariant.put)
    c.in_err-put_vertex.ensures.put

pub loop-next-smaller : goal.loop-next-smaller
loop-next-smaller g c =
    let step = vertex-step c.in-Some.v c.args.g.now c.vertex_after-next.result c.loop-next.invariant.whole (c.loop-next.invariant.met c.in-Some.v c.in-Some.is) c.vertex_after-next.ensures in
    let next = ap (λ n. length (left number n c.args.g.now)) c.in-Some.is in
    omega (arith, next, step.shorter)

pub loop-next-preserved : goal.loop-next-preserved
loop-next-preserved g c =
    let step = vertex-step c.in-Some.v c.args.g.now c.vertex_after-next.result c.loop-next.invariant.whole (c.loop-next.invariant.met c.in-Some.v c.in-Some.is) c.vertex_after-next.ensures in
    let next = ap (λ n. edge_count (left number n c.args.g.now)) c.in-Some.is in
    record {
      put = PutSoFar-step _ _ _ _ (place_text c.in-Some.v (vertex_at c.in-Some.v c.args.g.now)) _ _
          (PutSoFar-rest _ _ _ (flat_map vertex_text (left number c.loop-next.next c.args.g.now)) _ (ap (λ n. flat_map vertex_text (left number n c.args.g.now)) c.in-Some.is ∙ step.text) c.loop-next.invariant.put)
          c.in_ok-put_vertex.ensures.put;
      counted = omega (arith, next, step.edges, c.loop-next.invariant.counted, c.in_ok-put_vertex.ensures.counted);
      met = λ n at. vertices-met (c.in-Some.v + 1) n c.args.g.now c.vertex_after-next.result c.vertex_after-next.ensures at;
      whole = c.loop-next.invariant.whole;
    }
