use Rattle.core_laws.proofs.Sounds.{kept_sound}
use Rattle.core_states.specs.Parts.{state_of_parts}
use Rattle.turn_board.proofs.laws.what_is_reached_is_sound.Goals as goal

pub returns : goal.returns
returns c = λ base parts run r. kept_sound base parts.limits (state_of_parts base parts) r.may.good r.allowed r.kept
