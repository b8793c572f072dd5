use Rattle.group_codec.proofs.Readings.{one-spelling}
use Rattle.group_codec.proofs.laws.a_group_has_one_spelling.Goals as goal

pub returns : goal.returns
returns c = one-spelling
