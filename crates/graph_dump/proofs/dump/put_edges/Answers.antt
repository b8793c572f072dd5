use Rattle.std.proofs.Common.{◌∙◌, ◌+◌, [], List, length, flat_map, sym, ap, arith}
use Rattle.std.specs.Prelude.{unwrap_or}
use Rattle.graph_model.specs.declared.pairs.Pair.{Pair}
use Rattle.graph_dump.specs.DumpText.{edge_line}
use Rattle.request_text.proofs.Putting.{PutSoFar-start, PutSoFar-step, PutSoFar-fault, PutSoFar-rest}
use Rattle.graph_dump.proofs.dump.put_edges.Goals as goal

pub loop-edge-init : goal.loop-edge-init
loop-edge-init g c =
    let none : List Pair = [] in
    let same = c.into_iter-edge-iterator.ensures.into_iter_gives ∙ c.edges-edge-items.ensures ∙ ap (λ o. unwrap_or o none) c.in-Some.ensures in
    record {
      put = PutSoFar-rest _ _ _ _ _ (ap (flat_map (edge_line c.args.v c.args.l)) (sym same)) (PutSoFar-start _ _);
      counted = ap (λ r. c.args.edges.now + length r) same;
    }

pub returns-in_err-put_payload_line-clause-put : goal.returns-in_err-put_payload_line-clause-put
returns-in_err-put_payload_line-clause-put g c =
    PutSoFar-fault _ _ _ _ (edge_line c.args.v c.args.l c.in-Some-edge.edge.now) (flat_map (edge_line c.args.v c.args.l) c.next.new.self) _ _ c.from_residual.ensures.0
    (PutSoFar-rest _ _ _ (flat_map (edge_line c.args.v c.args.l) c.loop-edge.edge-iterator) _ (ap (flat_map (edge_line c.args.v c.args.l)) c.in-Some-edge.ensures.steps) c.loop-edge.invariant.put)
    (rw c.from.ensures at c.in_err-put_payload_line.ensures)

pub loop-edge-preserved : goal.loop-edge-preserved
loop-edge-preserved g c =
    let long = ap length c.in-Some-edge.ensures.steps in
    record {
      put = PutSoFar-step _ _ _ _ (edge_line c.args.v c.args.l c.in-Some-edge.edge.now) _ _
          (PutSoFar-rest _ _ _ (flat_map (edge_line c.args.v c.args.l) c.loop-edge.edge-iterator) _ (ap (flat_map (edge_line c.args.v c.args.l)) c.in-Some-edge.ensures.steps) c.loop-edge.invariant.put)
          (rw c.from.ensures at c.in_ok-put_payload_line.ensures);
      counted = omega (arith, long, c.loop-edge.invariant.counted);
    }
