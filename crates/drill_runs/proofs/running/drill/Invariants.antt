-- The log is known since the entry where a crash then left what a read gives, and else since it was opened.
use Rattle.std.proofs.Common.{true}
use Rattle.run_ending.specs.Ending.{since_of}
use Rattle.drill_runs.proofs.running.drill.Given as goal

abbrev pub ghost-drill_opened : goal.ghost-drill_opened
ghost-drill_opened g a = record {
  since = since_of g.settled (g.D.Disk.moment a.entry.value) (g.D.Disk.moment a.disk);
  base = a.opened.records.value;
  epoch = a.opened.base.epoch;
  no_rest = true;
}
