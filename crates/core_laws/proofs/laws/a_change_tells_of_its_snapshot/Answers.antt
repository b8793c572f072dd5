use Rattle.core_laws.proofs.Answering.{changes_tell}
use Rattle.core_laws.proofs.laws.a_change_tells_of_its_snapshot.Goals as goal

pub returns : goal.returns
returns c = changes_tell
