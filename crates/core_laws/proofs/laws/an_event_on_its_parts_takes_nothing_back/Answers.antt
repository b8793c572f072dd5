use Rattle.core_laws.proofs.Parts.{part_later, part_later_log}
use Rattle.core_laws.proofs.laws.an_event_on_its_parts_takes_nothing_back.Goals as goal

pub returns-clause-clock : goal.returns-clause-clock
returns-clause-clock c = part_later

pub returns-clause-log : goal.returns-clause-log
returns-clause-log c = part_later_log
