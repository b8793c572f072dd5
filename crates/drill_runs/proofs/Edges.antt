-- The graph after a run has no more edges than the log and the run have changes.
use Rattle.std.proofs.Common.{◌≡◌, ℕ, ◌+◌, ◌≤◌, ◌<◌, ◌^◌, List, [], length, refl, sym, subst, true, arith}
use Rattle.graph_model.specs.declared.record.Record.{Record}
use Rattle.graph_model.specs.declared.graph.Base.{Base}
use Rattle.graph_model.specs.Vertex.{Vertex}
use Rattle.graph_model.specs.Graph.{at, changes_until}
use Rattle.graph_model.specs.Records.{all_changes}
use Rattle.graph_model.specs.Whole.{is_graph}
use Rattle.graph_dump.specs.DumpText.{edge_count}
use Rattle.graph_recover.specs.Bases.{base_of}
use Rattle.log_commands.proofs.EdgeCounts.{after-edges, until-length}

-- that of the base
pub base_edges : (records : List Record) (base : Base) → base ≡ base_of records → length (all_changes records) < 2 ^ 63 → edge_count base.graph < 2 ^ 63
base_edges records base is few =
    let all = after-edges (all_changes records) [] refl in
    subst (λ (b : Base). edge_count b.graph < 2 ^ 63) (sym is) (omega (arith, all, few))

-- and that after more records
pub at_edges : (graph : List Vertex) (records : List Record) (e : ℕ) → is_graph graph ≡ true → edge_count (at graph records e) ≤ edge_count graph + length (all_changes records)
at_edges graph records e whole = let all = after-edges (changes_until e records) graph whole in omega (arith, all, until-length e records)
