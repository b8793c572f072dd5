-- Shards without rows stand for the state that a run starts with.
use Rattle.std.proofs.Common.{◌≡◌, ℕ, ◌<◌}
use Rattle.graph_model.specs.declared.graph.Base.{Base}
use Rattle.core_states.specs.LogParts.{Found}
use Rattle.core_states.specs.Openings.{opening}
use Rattle.core_states.specs.RowEvents.{Limits}
use Rattle.core_states.specs.Parts.{state_of_parts}
use Rattle.core_laws.proofs.Parts.{bare_open, opens_is}
use Rattle.turn_board.specs.Openings.{opening_of}

pub opening_is : (base : Base) (most : Limits) (found : Found) (shards : ℕ) → 0 < shards → state_of_parts base (opening_of base most found shards) ≡ opening base found
opening_is base most found shards some = opens_is base found (opening_of base most found shards) (bare_open base most found shards some)
