use Rattle.store_log.proofs.Leaders.{numbered-members}
use Rattle.store_log.proofs.laws.members_get_the_epoch_of_their_group.Goals as goal

pub returns : goal.returns
returns c = numbered-members
