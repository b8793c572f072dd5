use Rattle.std.proofs.Common.{◌≡◌, ◌∙◌, ℕ, List, length, sym, ap, subst}
use Rattle.request_text.specs.Printing.{Puts, outflow}
use Rattle.graph_dump.specs.DumpText.{edge_count}
use Rattle.graph_drill.specs.Summary.{destination_sum, summary_line, summary_text}
use Rattle.graph_drill.proofs.summary.drill_text_through.Goals as goal

pub returns : goal.returns
returns g c =
    let graph = c.args.g.now in
    let Put : List ℕ → Type 0 = λ text. Puts (outflow (g.K.Sink.written c.args.sink.now) (g.O.Outlet.pending c.args.outlet.now) (g.K.Sink.faults c.args.sink.now))
    (outflow (g.K.Sink.written c.put_summary.new.sink) (g.O.Outlet.pending c.put_summary.new.outlet) (g.K.Sink.faults c.put_summary.new.sink)) c.put_summary.result text in
    let same : summary_line c.len.result c.from.result c.totals_of-edges.result.sum c.from-2.result ≡ summary_text graph c.args.commits =
    ap (λ n. summary_line n c.from.result c.totals_of-edges.result.sum c.from-2.result) c.len.ensures.len
    ∙ ap (λ n. summary_line (length graph) n c.totals_of-edges.result.sum c.from-2.result) (c.from.ensures ∙ c.totals_of-edges.ensures.edges)
    ∙ ap (λ n. summary_line (length graph) (edge_count graph) n c.from-2.result) c.totals_of-edges.ensures.sum
    ∙ ap (λ n. summary_line (length graph) (edge_count graph) (destination_sum graph) n) c.from-2.ensures in
    let puts = subst Put same c.put_summary.ensures in
    record { printed = puts.put; write_fault = puts.write_fault; part = puts.part; emptied = puts.emptied; count = puts.count }
