use Rattle.core_laws.proofs.Parts.{step_is_after, step_answers, step_shards, step_limits}
use Rattle.core_laws.proofs.laws.an_event_is_local.Goals as goal

pub returns-clause-state : goal.returns-clause-state
returns-clause-state c = step_is_after

pub returns-clause-answer : goal.returns-clause-answer
returns-clause-answer c = step_answers

pub returns-clause-shards : goal.returns-clause-shards
returns-clause-shards c = step_shards

pub returns-clause-limits : goal.returns-clause-limits
returns-clause-limits c = step_limits
