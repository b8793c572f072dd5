use Rattle.std.proofs.Common.{◌≡◌, ◌≤◌, drop}
use Rattle.std.specs.Prelude.{min}
use Rattle.core_states.specs.Numbers.{visible_of}
use Rattle.core_states.proofs.numbers.visible_of.Given as goal

abbrev pub invariant-loop-row : goal.invariant-loop-row
invariant-loop-row l = record {
  rest : min l.visible (visible_of l.last (drop l.row-index l.row-items)) ≡ visible_of l.last l.pending;
  low : l.visible ≤ l.last;
}
