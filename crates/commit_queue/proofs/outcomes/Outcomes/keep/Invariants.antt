use Rattle.std.proofs.Common.{◌+◌, ◌≤◌, ◌++◌, take, drop}
use Rattle.commit_queue.specs.KeptOutcomes.{KeepsFor, AllNew, kept_for}
use Rattle.commit_queue.proofs.Steps.{Appending}
use Rattle.commit_queue.proofs.outcomes.Outcomes.keep.Given as goal

abbrev pub invariant-loop-i : goal.invariant-loop-i
invariant-loop-i l = record {
  appending : AllNew l.g l.initial.self.kept → Appending (drop l.i l.g) l.o l.initial.self.kept l.self.kept (l.initial.self.kept ++ kept_for l.o l.g);
  kept : KeepsFor (take l.i l.g) l.o l.initial.self.kept l.self.kept;
  room : l.initial.self.room ≤ l.self.room + l.i;
}
