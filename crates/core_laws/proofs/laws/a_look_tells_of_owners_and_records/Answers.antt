use Rattle.core_laws.proofs.Locking.{looks_tell}
use Rattle.core_laws.proofs.laws.a_look_tells_of_owners_and_records.Goals as goal

pub returns : goal.returns
returns c = looks_tell
