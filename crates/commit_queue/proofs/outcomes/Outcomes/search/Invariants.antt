use Rattle.std.proofs.Common.{ℕ, ◌≡◌, ◌-◌, ◌<◌, ◌≤◌, false, nat_eq, get_or, length}
use Rattle.graph_model.specs.declared.record.Outcome.TheVariants.{Failed}
use Rattle.commit_queue.proofs.outcomes.Outcomes.search.Given as goal

-- No outcome before the place is for the number.
abbrev pub invariant-loop-i : goal.invariant-loop-i
invariant-loop-i l = record {
  within : l.i ≤ length l.self-inside.kept.items;
  others : (k : ℕ) → k < l.i → nat_eq l.tid (get_or l.self-inside.kept.items k (0, Failed 0 0)).0 ≡ false;
}

abbrev pub decreases-loop-i : goal.decreases-loop-i
decreases-loop-i l = length l.self-inside.kept.items - l.i
