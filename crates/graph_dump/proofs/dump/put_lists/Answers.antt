use Rattle.std.proofs.Common.{◌∙◌, ◌+◌, [], length, flat_map, refl, sym, ap, arith}
use Rattle.std.specs.Prelude.{unwrap_or}
use Rattle.graph_model.specs.Graph.{vertex_at}
use Rattle.graph_model.specs.Walking.{pairs_of}
use Rattle.graph_dump.specs.DumpText.{edge_line, list_text}
use Rattle.graph_dump.specs.PlaceText.{lists_at, edges_in}
use Rattle.request_text.proofs.Putting.{PutSoFar-start, PutSoFar-step, PutSoFar-fault, PutSoFar-rest}
use Rattle.graph_dump.proofs.Rests.{left}
use Rattle.graph_dump.proofs.Listing.{label, lists-begin, lists-met, list-step}
use Rattle.graph_dump.proofs.dump.put_lists.Goals as goal

pub loop-next-init : goal.loop-next-init
loop-next-init g c =
    let all = lists-begin c.args.v c.args.g.now c.next_label-next.result c.requires.whole c.next_label-next.ensures in
    record {
      put = PutSoFar-rest _ _ _ _ _ (ap (flat_map (list_text c.args.v)) (sym all)) (PutSoFar-start _ _);
      counted = ap (λ lists. c.args.edges.now + edges_in lists) all;
      met = λ n at. lists-met 0 n (vertex_at c.args.v c.args.g.now) c.next_label-next.result c.next_label-next.ensures at;
    }

pub put_edges-requires : goal.put_edges-requires
put_edges-requires g c =
    let here = vertex_at c.args.v c.args.g.now in
    let step = list-step c.args.v c.in-Some.l c.args.g.now _ c.requires.whole (c.loop-next.invariant.met c.in-Some.l c.in-Some.is) refl in
    let next = ap (λ n. edges_in (left label n (lists_at here))) c.in-Some.is in
    record { few = omega (arith, next, step.edges, c.loop-next.invariant.counted, c.requires.few) }

pub returns-in_err-put_edges-clause-put : goal.returns-in_err-put_edges-clause-put
returns-in_err-put_edges-clause-put g c =
    let here = vertex_at c.args.v c.args.g.now in
    let step = list-step c.args.v c.in-Some.l c.args.g.now _ c.requires.whole (c.loop-next.invariant.met c.in-Some.l c.in-Some.is) refl in
    PutSoFar-fault _ _ _ _ (flat_map (edge_line c.args.v c.in-Some.l) (unwrap_or (pairs_of here c.in-Some.l) [])) _ _ _ c.from_residual.ensures.0
    (PutSoFar-rest _ _ _ (flat_map (list_text c.args.v) (left label c.loop-next.next (lists_at here))) _ (ap (λ n. flat_map (list_text c.args.v) (left label n (lists_at here))) c.in-Some.is ∙ step.text) c.loop-next.invariant.put)
    c.in_err-put_edges.ensures.put

pub loop-next-smaller : goal.loop-next-smaller
loop-next-smaller g c =
    let here = vertex_at c.args.v c.args.g.now in
    let step = list-step c.args.v c.in-Some.l c.args.g.now c.label_after-next.result c.requires.whole (c.loop-next.invariant.met c.in-Some.l c.in-Some.is) c.label_after-next.ensures in
    let next = ap (λ n. length (left label n (lists_at here))) c.in-Some.is in
    omega (arith, next, step.shorter)

pub loop-next-preserved : goal.loop-next-preserved
loop-next-preserved g c =
    let here = vertex_at c.args.v c.args.g.now in
    let step = list-step c.args.v c.in-Some.l c.args.g.now c.label_after-next.result c.requires.whole (c.loop-next.invariant.met c.in-Some.l c.in-Some.is) c.label_after-next.ensures in
    let next = ap (λ n. edges_in (left label n (lists_at here))) c.in-Some.is in
    record {
      put = PutSoFar-step _ _ _ _ (flat_map (edge_line c.args.v c.in-Some.l) (unwrap_or (pairs_of here c.in-Some.l) [])) _ _
          (PutSoFar-rest _ _ _ (flat_map (list_text c.args.v) (left label c.loop-next.next (lists_at here))) _ (ap (λ n. flat_map (list_text c.args.v) (left label n (lists_at here))) c.in-Some.is ∙ step.text) c.loop-next.invariant.put)
          c.in_ok-put_edges.ensures.put;
      counted = omega (arith, next, step.edges, c.loop-next.invariant.counted, c.in_ok-put_edges.ensures.counted);
      met = λ n at. lists-met (c.in-Some.l + 1) n here c.label_after-next.result c.label_after-next.ensures at;
    }
