use Rattle.core_kept.proofs.Keeping.{opening_kept}
use Rattle.core_kept.proofs.laws.a_base_opens_kept.Goals as goal

pub returns : goal.returns
returns c = opening_kept
