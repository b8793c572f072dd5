use Rattle.std.proofs.Common.{◌+◌, ◌*◌}
use Rattle.script_reading.proofs.reading.+parts.Given as goal

-- each half has fewer threads; a closure stands between a call and the one in it
abbrev pub decreases-join+arg2 : goal.decreases-join+arg2
decreases-join+arg2 g l = 2 * l.few + 1

abbrev pub decreases-join+arg3 : goal.decreases-join+arg3
decreases-join+arg3 g l = 2 * l.rest + 1

abbrev pub decreases-read_parts : goal.decreases-read_parts
decreases-read_parts g l = 2 * l.threads
