use Rattle.std.proofs.Common.{◌∙◌, ◌+◌, length, refl, ap, arith}
use Rattle.graph_dump.specs.DumpText.{edge_count}
use Rattle.graph_dump.proofs.Rests.{left}
use Rattle.graph_dump.proofs.Listing.{number, vertices-begin, vertices-met}
use Rattle.graph_drill.specs.Summary.{destination_sum}
use Rattle.graph_drill.proofs.Walk.{vertex-step}
use Rattle.graph_drill.proofs.totals.totals_of.Goals as goal

pub loop-next-init : goal.loop-next-init
loop-next-init c =
    let all = vertices-begin c.args.g.now c.next_vertex-next.result c.next_vertex-next.ensures.whole c.next_vertex-next.ensures.next in
    record {
      edges = ap (λ graph. 0 + edge_count graph) all ∙ omega arith;
      sum = ap (λ graph. 0 + destination_sum graph) all ∙ omega arith;
      bounded = omega arith;
      met = λ n at. vertices-met 0 n c.args.g.now c.next_vertex-next.result c.next_vertex-next.ensures.next at;
      whole = c.next_vertex-next.ensures.whole;
    }

pub add_vertex-requires-clause-fit : goal.add_vertex-requires-clause-fit
add_vertex-requires-clause-fit c =
    let step = vertex-step c.in-Some.v c.args.g.now _ c.loop-next.invariant.whole (c.loop-next.invariant.met c.in-Some.v c.in-Some.is) refl in
    let next = ap (λ n. edge_count (left number n c.args.g.now)) c.in-Some.is in
    record { few = omega (arith, next, step.edges, c.loop-next.invariant.edges, c.requires); bounded = c.loop-next.invariant.bounded }

pub loop-next-smaller : goal.loop-next-smaller
loop-next-smaller c =
    let step = vertex-step c.in-Some.v c.args.g.now c.vertex_after-next.result c.loop-next.invariant.whole (c.loop-next.invariant.met c.in-Some.v c.in-Some.is) c.vertex_after-next.ensures in
    let next = ap (λ n. length (left number n c.args.g.now)) c.in-Some.is in
    omega (arith, next, step.shorter)

pub loop-next-preserved : goal.loop-next-preserved
loop-next-preserved c =
    let step = vertex-step c.in-Some.v c.args.g.now c.vertex_after-next.result c.loop-next.invariant.whole (c.loop-next.invariant.met c.in-Some.v c.in-Some.is) c.vertex_after-next.ensures in
    let edges = ap (λ n. edge_count (left number n c.args.g.now)) c.in-Some.is in
    let sum = ap (λ n. destination_sum (left number n c.args.g.now)) c.in-Some.is in
    record {
      edges = omega (arith, edges, step.edges, c.loop-next.invariant.edges, c.add_vertex.ensures.added.edges);
      sum = omega (arith, sum, step.sum, c.loop-next.invariant.sum, c.add_vertex.ensures.added.sum);
      bounded = c.add_vertex.ensures.added.bounded;
      met = λ n at. vertices-met (c.in-Some.v + 1) n c.args.g.now c.vertex_after-next.result c.vertex_after-next.ensures at;
      whole = c.loop-next.invariant.whole;
    }
