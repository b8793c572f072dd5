use Rattle.group_codec.proofs.Readings.{one-list}
use Rattle.group_codec.proofs.laws.a_log_recovers_to_one_list.Goals as goal

pub returns : goal.returns
returns c = one-list
