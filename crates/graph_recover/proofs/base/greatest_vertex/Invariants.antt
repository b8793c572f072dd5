use Rattle.std.proofs.Common.{◌≡◌, max, drop}
use Rattle.graph_model.specs.Records.{made_vertices, all_changes}
use Rattle.graph_recover.specs.Bases.{greatest_of}
use Rattle.graph_recover.proofs.base.greatest_vertex.Given as goal

abbrev pub invariant-loop-record : goal.invariant-loop-record
invariant-loop-record l = max (greatest_of (made_vertices (all_changes (drop l.record-index l.records)))) l.most ≡ greatest_of (made_vertices (all_changes l.records))
