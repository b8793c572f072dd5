use Rattle.std.proofs.Common.{◌≡◌, ◌∙◌, ◌++◌, length, flat_map, sym, ap, arith}
use Rattle.graph_dump.specs.DumpText.{epoch_line, vertex_text, end_line, edge_count, text_of_graph}
use Rattle.request_text.proofs.Putting.{PutSoFar-start, PutSoFar-step, PutSoFar-last, PutSoFar-fault, PutSoFar-rest}
use Rattle.graph_dump.proofs.dump.dump_text_through.Goals as goal

pub returns-in_err-put_line-clause-part : goal.returns-in_err-put_line-clause-part
returns-in_err-put_line-clause-part g c =
    let graph = c.args.g.now in
    let puts = PutSoFar-fault _ _ _ (text_of_graph graph c.args.e) (epoch_line c.args.e) (flat_map vertex_text graph ++ end_line (length graph) (edge_count graph)) _ _ c.from_residual.ensures.0
    (PutSoFar-start _ _) c.in_err-put_line.ensures in
    puts.part

pub returns-in_err-put_vertices-clause-part : goal.returns-in_err-put_vertices-clause-part
returns-in_err-put_vertices-clause-part g c =
    let graph = c.args.g.now in
    let puts = PutSoFar-fault _ _ _ (text_of_graph graph c.args.e) (flat_map vertex_text graph) (end_line (length graph) (edge_count graph)) _ _ c.from_residual-in_err-put_vertices.ensures.0
    (PutSoFar-step _ _ _ _ (epoch_line c.args.e) _ _ (PutSoFar-start _ _) c.in_ok-put_line.ensures) c.in_err-put_vertices.ensures.put in
    puts.part

pub returns : goal.returns
returns g c =
    let graph = c.args.g.now in
    let counted : c.put_vertices.new.edges ≡ edge_count graph = omega (arith, c.in_ok-put_vertices.ensures.counted) in
    let end : end_line (length graph) (edge_count graph) ≡ end_line c.len.result c.put_vertices.new.edges =
    ap (λ m. end_line m (edge_count graph)) (sym c.len.ensures.len) ∙ ap (end_line c.len.result) (sym counted) in
    let begun = PutSoFar-step _ _ _ _ (epoch_line c.args.e) (flat_map vertex_text graph ++ end_line (length graph) (edge_count graph)) _ (PutSoFar-start _ _) c.in_ok-put_line.ensures in
    let listed = PutSoFar-step _ _ _ _ (flat_map vertex_text graph) (end_line (length graph) (edge_count graph)) _ begun c.in_ok-put_vertices.ensures.put in
    let puts = PutSoFar-last _ _ _ (text_of_graph graph c.args.e) (end_line c.len.result c.put_vertices.new.edges) _ (PutSoFar-rest _ _ _ _ _ end listed) c.put_line-2.ensures in
    record { printed = puts.put; write_fault = puts.write_fault; part = puts.part; emptied = puts.emptied; count = puts.count }
