use Rattle.std.proofs.Common.{[], true}
use Rattle.store_log.proofs.story.a_failed_group_is_replaced.Given as goal

abbrev pub ghost-opened : goal.ghost-opened
ghost-opened g a = record { since = g.D.Disk.moment a.wal.disk; base = []; epoch = 0; no_rest = true }
