use Rattle.std.proofs.Common.{[], None}
use Rattle.log_rows.proofs.appends.mend.Goals as goal

pub mend-requires : goal.mend-requires
mend-requires c = ([], None, record { long = c.requires.long; short = c.requires.short; log = tt })
