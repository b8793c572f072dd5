use Rattle.std.proofs.Common.{[], true}
use Rattle.log_rows.proofs.homes.a_new_log_may_go_to_another_thread.Given as goal

abbrev pub ghost-opened : goal.ghost-opened
ghost-opened g a = record { since = a.wal.disk.moment; base = []; epoch = 0; no_rest = true }
