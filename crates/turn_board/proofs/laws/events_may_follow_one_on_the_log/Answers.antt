use Rattle.turn_board.proofs.Ones.{log_first_leads}
use Rattle.turn_board.proofs.laws.events_may_follow_one_on_the_log.Goals as goal

pub returns : goal.returns
returns c = log_first_leads
