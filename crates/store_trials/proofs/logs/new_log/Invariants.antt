use Rattle.std.proofs.Common.{[], true}
use Rattle.store_trials.proofs.logs.new_log.Given as goal

abbrev pub ghost-opened : goal.ghost-opened
ghost-opened a = record { since = a.wal.disk.moment; base = []; epoch = 0; no_rest = true }
