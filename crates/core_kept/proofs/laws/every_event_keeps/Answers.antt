use Rattle.core_kept.proofs.Keeping.{step_kept}
use Rattle.core_kept.proofs.laws.every_event_keeps.Goals as goal

pub returns : goal.returns
returns c = step_kept
