use Rattle.tel_entry.proofs.Fronts.{entry-one, length-entry_bytes}
use Rattle.tel_entry.proofs.laws.an_entry_has_one_spelling.Goals as goal

pub returns-clause-long : goal.returns-clause-long
returns-clause-long c = length-entry_bytes

pub returns-clause-one : goal.returns-clause-one
returns-clause-one c = entry-one
