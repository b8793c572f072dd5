use Rattle.core_laws.proofs.Reading.{read_sees}
use Rattle.core_laws.proofs.laws.a_read_sees_its_snapshot.Goals as goal

pub returns : goal.returns
returns c = read_sees
