use Rattle.turn_board.proofs.Ones.{one_leads, row_leads, clock_leads, log_leads, group_leads, clock_beside}
use Rattle.turn_board.proofs.laws.one_event_leads.Goals as goal

pub returns-clause-held : goal.returns-clause-held
returns-clause-held c = one_leads

pub returns-clause-row : goal.returns-clause-row
returns-clause-row c = row_leads

pub returns-clause-clock : goal.returns-clause-clock
returns-clause-clock c = clock_leads

pub returns-clause-log : goal.returns-clause-log
returns-clause-log c = log_leads

pub returns-clause-group : goal.returns-clause-group
returns-clause-group c = group_leads

pub returns-clause-beside : goal.returns-clause-beside
returns-clause-beside c = clock_beside
