use Rattle.std.proofs.Common.{◌≡◌, max, drop, map}
use Rattle.graph_recover.specs.Bases.{greatest_of}
use Rattle.graph_recover.proofs.base.greatest_number.Given as goal

abbrev pub invariant-loop-record : goal.invariant-loop-record
invariant-loop-record l = max (greatest_of (map (λ r. r.tid) (drop l.record-index l.records))) l.most ≡ greatest_of (map (λ r. r.tid) l.records)
