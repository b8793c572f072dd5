-- A run from a state on, in the order in which its events were done.
use Rattle.std.specs.Prelude.{◌≡◌, ℕ, List, [], ◌∷◌, ◌++◌}
use Rattle.core_states.specs.RowEvents.{Limits}
use Rattle.core_states.specs.States.{State, after, answer_to}
use Rattle.turn_board.specs.Views.{Done, Noted, Start}
use Rattle.turn_board.specs.Histories.{reached, if_of}

-- a run is kept with its last event first; this is the same with its first event first
abbrev pub in_order : List Done → List Done
in_order [] = []
in_order (e ∷ es) = in_order es ++ e ∷ []

-- the state after these events, the first one first
abbrev pub ahead : Limits → State → List Done → State
ahead most s [] = s
ahead most s (e ∷ es) = ahead most (after most s e.by e.act) es

-- each of them has the answer that the core gives
abbrev pub Answered : Limits → State → List Done → Type 0
Answered most s [] = Unit {0}
Answered most s (e ∷ es) = (e.answer ≡ answer_to most s e.by e.act) × Answered most (after most s e.by e.act) es

-- what the actors of a pass did among them, each with its actor, as it left it
abbrev pub did_ahead : Limits → List ℕ → State → List Done → List Noted
did_ahead most p s [] = []
did_ahead most p s (e ∷ es) = if_of p e ((after most s e.by e.act).actor e.by) ++ did_ahead most p (after most s e.by e.act) es

-- the state that a run of a board led to
abbrev pub state_at : Start → List Done → State
state_at start run = reached start.limits start.base start.found run
