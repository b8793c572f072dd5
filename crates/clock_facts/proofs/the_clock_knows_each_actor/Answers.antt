use Rattle.clock_facts.proofs.Clock.{knows}
use Rattle.clock_facts.proofs.the_clock_knows_each_actor.Goals as goal

pub returns : goal.returns
returns c base most s i kept = knows base most s i kept
