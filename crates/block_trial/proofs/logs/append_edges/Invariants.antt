use Rattle.std.proofs.Common.{◌≡◌, ◌*◌, ◌≤◌}
use Rattle.block_trial.specs.Logs.{IsLog}
use Rattle.block_trial.proofs.logs.append_edges.Given as goal

abbrev pub invariant-loop-d : goal.invariant-loop-d
invariant-loop-d l =
    record {
      entries : l.fill.entries ≡ l.d;
      props : l.fill.props ≤ 8 * l.d;
      log : IsLog l.order 0 0 l.fn.block → IsLog l.order l.fill.entries l.fill.props l.block;
    }
