use Rattle.group_codec.proofs.Readings.{one-text}
use Rattle.group_codec.proofs.laws.a_text_is_of_one_log.Goals as goal

pub returns : goal.returns
returns c = one-text
