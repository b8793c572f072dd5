use Rattle.group_codec.proofs.Readings.{not-both}
use Rattle.group_codec.proofs.laws.a_bad_log_does_not_recover.Goals as goal

pub returns : goal.returns
returns c = not-both
