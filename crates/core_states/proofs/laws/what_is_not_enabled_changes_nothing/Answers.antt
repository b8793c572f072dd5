use Rattle.core_states.proofs.Enabled.{tells_enabled}
use Rattle.core_states.proofs.laws.what_is_not_enabled_changes_nothing.Goals as goal

pub returns : goal.returns
returns c = tells_enabled
