use Rattle.std.proofs.Common.{◌≡◌, drop}
use Rattle.graph_model.specs.Graph.{after, all_fit, changes_until}
use Rattle.graph_model.proofs.graph.Graph.at.Given as goal

abbrev pub invariant-loop-record : goal.invariant-loop-record
invariant-loop-record l = record {
  after_rest : after (changes_until l.e (drop l.record-index l.record-items)) l.graph ≡ after (changes_until l.e l.record-items) l.fn.base;
  fit_rest : all_fit (changes_until l.e (drop l.record-index l.record-items)) l.graph ≡ all_fit (changes_until l.e l.record-items) l.fn.base;
}
