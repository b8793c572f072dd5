use Rattle.std.proofs.Common.{◌≡◌, drop}
use Rattle.graph_model.specs.Graph.{after, all_fit}
use Rattle.graph_model.proofs.graph.Graph.apply_all.Given as goal

abbrev pub invariant-loop-change : goal.invariant-loop-change
invariant-loop-change l = record {
  after_rest : after (drop l.change-index l.change-items) l.self ≡ after l.change-items l.fn.self;
  fit_rest : all_fit (drop l.change-index l.change-items) l.self ≡ all_fit l.change-items l.fn.self;
}
