use Rattle.tel_entry.proofs.Fronts.{header-one, length-header_bytes}
use Rattle.tel_entry.proofs.laws.a_header_has_one_spelling.Goals as goal

pub returns-clause-long : goal.returns-clause-long
returns-clause-long c = length-header_bytes

pub returns-clause-one : goal.returns-clause-one
returns-clause-one c = header-one
