-- The log is known since the entry where a crash then left what a read gives, and else since it was opened.
use Rattle.std.proofs.Common.{true}
use Rattle.run_ending.specs.Ending.{since_of}
use Rattle.graph_cli.proofs.run.run.Given as goal

abbrev pub ghost-run_opened : goal.ghost-run_opened
ghost-run_opened g a = record {
  since = since_of g.settled (g.D.Disk.moment a.entry.value) (g.D.Disk.moment a.disk);
  base = a.opened.records.value;
  epoch = a.opened.base.epoch;
  no_rest = true;
}
