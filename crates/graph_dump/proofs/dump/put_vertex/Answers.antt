use Rattle.graph_model.specs.Graph.{vertex_at}
use Rattle.graph_dump.specs.DumpText.{vertex_line}
use Rattle.graph_dump.specs.PlaceText.{lists_text, place_text}
use Rattle.request_text.proofs.Putting.{PutSoFar-start, PutSoFar-step, PutSoFar-last, PutSoFar-fault, PutSoFar-rest}
use Rattle.graph_dump.proofs.Listing.{place_text-there}
use Rattle.graph_dump.proofs.dump.put_vertex.Goals as goal

pub returns-in_err-put_payload_line-clause-put : goal.returns-in_err-put_payload_line-clause-put
returns-in_err-put_payload_line-clause-put g c =
    let here = vertex_at c.args.v c.args.g.now in
    PutSoFar-fault _ _ _ (place_text c.args.v here) (vertex_line c.args.v c.in-Some.payload.now) (lists_text c.args.v here) _ _ c.from_residual.ensures.0
    (PutSoFar-rest _ _ _ (place_text c.args.v here) _ (place_text-there c.args.v here c.in-Some.payload.now c.in-Some.ensures) (PutSoFar-start _ _)) c.in_err-put_payload_line.ensures

pub returns-clause-put : goal.returns-clause-put
returns-clause-put g c =
    let here = vertex_at c.args.v c.args.g.now in
    PutSoFar-last _ _ _ (place_text c.args.v here) (lists_text c.args.v here) _
    (PutSoFar-step _ _ _ _ (vertex_line c.args.v c.in-Some.payload.now) (lists_text c.args.v here) _
    (PutSoFar-rest _ _ _ (place_text c.args.v here) _ (place_text-there c.args.v here c.in-Some.payload.now c.in-Some.ensures) (PutSoFar-start _ _)) c.in_ok-put_payload_line.ensures)
    c.put_lists.ensures.put
