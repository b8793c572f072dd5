use Rattle.core_laws.proofs.Sounds.{kept_sound}
use Rattle.core_laws.proofs.laws.a_kept_state_is_sound.Goals as goal

pub returns : goal.returns
returns c = kept_sound
