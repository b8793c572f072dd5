use Rattle.graph_recover.proofs.Following.{follows}
use Rattle.graph_recover.proofs.laws.what_continues_the_base_follows_the_records.Goals as goal

pub returns : goal.returns
returns c = follows
