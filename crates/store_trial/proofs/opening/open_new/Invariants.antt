use Rattle.std.proofs.Common.{[], true}
use Rattle.store_trial.proofs.opening.open_new.Given as goal

-- the log has no record, and a crash from now on leaves none
abbrev pub ghost-open_seat : goal.ghost-open_seat
ghost-open_seat g a = record { since = g.D.Disk.moment a.wal.disk; base = []; epoch = 0; no_rest = true }
