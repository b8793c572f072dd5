use Rattle.core_laws.proofs.Actors.{actor_here, actor_there}
use Rattle.core_laws.proofs.laws.setting_an_actor_changes_it_alone.Goals as goal

pub returns-clause-here : goal.returns-clause-here
returns-clause-here c = actor_here

pub returns-clause-there : goal.returns-clause-there
returns-clause-there c = actor_there
