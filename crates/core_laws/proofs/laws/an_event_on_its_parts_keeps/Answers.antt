use Rattle.core_laws.proofs.Parts.{opens_kept, part_keeps}
use Rattle.core_laws.proofs.laws.an_event_on_its_parts_keeps.Goals as goal

pub returns-clause-opened : goal.returns-clause-opened
returns-clause-opened c = opens_kept

pub returns-clause-kept : goal.returns-clause-kept
returns-clause-kept c = part_keeps
