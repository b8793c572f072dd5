use Rattle.std.proofs.Common.{◌≡◌}
use Rattle.core_states.specs.Openings.{run_limits}
use Rattle.core_kept.specs.Bounds.{Kept}
use Rattle.txn_core.specs.Cores.{state_of}
use Rattle.part_scripts.specs.Rows.{IsHalf}
use Rattle.part_rows.proofs.generated.run_list.Given as goal

-- the core keeps what every event keeps, and both shards have its rows
abbrev pub invariant-loop-i : goal.invariant-loop-i
invariant-loop-i g l = record {
  kept : Kept l.base run_limits (state_of l.base l.core);
  clock : l.part.clock ≡ l.core.clock;
  even : IsHalf g.L.EdgeLog.stands g.L.EdgeLog.footprint g.L.EdgeLog.content g.L.EdgeLog.limit 0 (state_of l.base l.core) l.even;
  odd : IsHalf g.L.EdgeLog.stands g.L.EdgeLog.footprint g.L.EdgeLog.content g.L.EdgeLog.limit 1 (state_of l.base l.core) l.odd;
}
