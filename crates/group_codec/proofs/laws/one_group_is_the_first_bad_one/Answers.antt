use Rattle.group_codec.proofs.Readings.{one-bad}
use Rattle.group_codec.proofs.laws.one_group_is_the_first_bad_one.Goals as goal

pub returns : goal.returns
returns c = one-bad
