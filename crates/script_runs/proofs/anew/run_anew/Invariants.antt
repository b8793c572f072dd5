use Rattle.std.proofs.Common.{[], true}
use Rattle.script_runs.proofs.anew.run_anew.Given as goal

-- the log has no record, and a crash from now on leaves none
abbrev pub ghost-run_on_log : goal.ghost-run_on_log
ghost-run_on_log g a = record { since = g.D.Disk.moment a.wal.disk; base = []; epoch = 0; no_rest = true }
