use Rattle.std.proofs.Common.{◌≡◌}
use Rattle.graph_model.specs.Places.{changes_about}
use Rattle.core_states.specs.RowEvents.{has_change}
use Rattle.core_states.proofs.own_changes.is_touched.Given as goal

abbrev pub invariant-loop-change : goal.invariant-loop-change
invariant-loop-change l = has_change (changes_about l.v l.change-iterator) ≡ has_change (changes_about l.v l.changes)
