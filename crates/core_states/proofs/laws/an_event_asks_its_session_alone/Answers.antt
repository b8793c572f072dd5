use Rattle.core_states.proofs.SessionParts.{local_alike}
use Rattle.core_states.proofs.laws.an_event_asks_its_session_alone.Goals as goal

pub returns : goal.returns
returns c = local_alike
