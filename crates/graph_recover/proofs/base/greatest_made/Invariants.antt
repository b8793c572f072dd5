use Rattle.std.proofs.Common.{◌≡◌, max, drop}
use Rattle.graph_model.specs.Records.{made_vertices}
use Rattle.graph_recover.specs.Bases.{greatest_of}
use Rattle.graph_recover.proofs.base.greatest_made.Given as goal

abbrev pub invariant-loop-change : goal.invariant-loop-change
invariant-loop-change l = max (greatest_of (made_vertices (drop l.change-index l.changes))) l.most ≡ greatest_of (made_vertices l.changes)
