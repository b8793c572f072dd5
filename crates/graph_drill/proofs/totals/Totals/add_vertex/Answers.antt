use Rattle.std.proofs.Common.{◌∙◌, ◌+◌, [], length, refl, sym, ap, arith}
use Rattle.graph_model.specs.Graph.{vertex_at}
use Rattle.graph_dump.specs.PlaceText.{lists_at, edges_in}
use Rattle.graph_dump.proofs.Rests.{left}
use Rattle.graph_dump.proofs.Listing.{label, lists-begin, lists-met}
use Rattle.graph_drill.specs.Summary.{lists_sum}
use Rattle.graph_drill.proofs.Walk.{list-step}
use Rattle.graph_drill.proofs.totals.Totals.add_vertex.Goals as goal

pub loop-next-init : goal.loop-next-init
loop-next-init c =
    let all = lists-begin c.args.v c.args.g.now c.next_label-next.result c.requires.whole c.next_label-next.ensures in
    record {
      edges = ap (λ lists. c.args.self.now.edges + edges_in lists) all;
      sum = ap (λ lists. c.args.self.now.sum + lists_sum lists) all;
      bounded = c.requires.fit.bounded;
      met = λ n at. lists-met 0 n (vertex_at c.args.v c.args.g.now) c.next_label-next.result c.next_label-next.ensures at;
    }

pub add_list-requires : goal.add_list-requires
add_list-requires c =
    let here = vertex_at c.args.v c.args.g.now in
    let step = list-step c.args.v c.in-Some.l c.args.g.now _ c.requires.whole (c.loop-next.invariant.met c.in-Some.l c.in-Some.is) refl in
    let next = ap (λ n. edges_in (left label n (lists_at here))) c.in-Some.is in
    record { fit = record { few = omega (arith, next, step.edges, c.loop-next.invariant.edges, c.requires.fit.few); bounded = c.loop-next.invariant.bounded } }

pub loop-next-smaller : goal.loop-next-smaller
loop-next-smaller c =
    let here = vertex_at c.args.v c.args.g.now in
    let step = list-step c.args.v c.in-Some.l c.args.g.now c.label_after-next.result c.requires.whole (c.loop-next.invariant.met c.in-Some.l c.in-Some.is) c.label_after-next.ensures in
    let next = ap (λ n. length (left label n (lists_at here))) c.in-Some.is in
    omega (arith, next, step.shorter)

pub loop-next-preserved : goal.loop-next-preserved
loop-next-preserved c =
    let here = vertex_at c.args.v c.args.g.now in
    let step = list-step c.args.v c.in-Some.l c.args.g.now c.label_after-next.result c.requires.whole (c.loop-next.invariant.met c.in-Some.l c.in-Some.is) c.label_after-next.ensures in
    let edges = ap (λ n. edges_in (left label n (lists_at here))) c.in-Some.is in
    let sum = ap (λ n. lists_sum (left label n (lists_at here))) c.in-Some.is in
    record {
      edges = omega (arith, edges, step.edges, c.loop-next.invariant.edges, c.add_list.ensures.added.edges);
      sum = omega (arith, sum, step.sum, c.loop-next.invariant.sum, c.add_list.ensures.added.sum);
      bounded = c.add_list.ensures.added.bounded;
      met = λ n at. lists-met (c.in-Some.l + 1) n here c.label_after-next.result c.label_after-next.ensures at;
    }
