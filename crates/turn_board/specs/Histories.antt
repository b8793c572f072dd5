-- The events of all passes as one run of the core.
use Rattle.std.specs.Prelude.{◌≡◌, ◌<◌, ℕ, if◌then◌else◌, List, [], ◌∷◌, ◌++◌, length}
use Rattle.graph_model.specs.declared.graph.Base.{Base}
use Rattle.core_states.specs.Names.{same_pass}
use Rattle.core_states.specs.declared.actor.Actor.{Actor}
use Rattle.core_states.specs.LogParts.{LogPart, Found}
use Rattle.core_states.specs.Laters.{opened_records}
use Rattle.core_states.specs.Openings.{opening, MayOpen, IsAllowed}
use Rattle.core_states.specs.RowEvents.{Limits}
use Rattle.core_states.specs.States.{State, after, answer_to}
use Rattle.core_states.specs.Parts.{Parts, state_of_parts}
use Rattle.core_kept.specs.Bounds.{Kept}
use Rattle.turn_board.specs.Views.{Done, Noted, Did, Busy, Start, Origin, In}

-- what the run found of the log's disk when it opened, which its log part keeps
abbrev pub found_by : LogPart → Found
found_by log = record { count = log.opening_count; firm = log.firm; records = opened_records log.disk }

-- the state that these events, the last one first, lead to
abbrev pub reached : Limits → Base → Found → List Done → State
reached most base found [] = opening base found
reached most base found (e ∷ es) = after most (reached most base found es) e.by e.act

-- each of them has the answer that the core gives
abbrev pub AnswersIn : Limits → Base → Found → List Done → Type 0
AnswersIn most base found [] = Unit {0}
AnswersIn most base found (e ∷ es) = (e.answer ≡ answer_to most (reached most base found es) e.by e.act) × AnswersIn most base found es

-- The parts are those of a kept state of the core, and these events, the last one first, led to it from the opening state.
pub record Reached (base : Base) (parts : Parts) (run : List Done) : Type 0 where
  pub may : MayOpen base parts.limits
  pub allowed : IsAllowed parts.limits
  pub some : 0 < length parts.shards
  pub kept : Kept base parts.limits (state_of_parts base parts)
  pub is : state_of_parts base parts ≡ reached parts.limits base (found_by parts.log) run
  pub answers : AnswersIn parts.limits base (found_by parts.log) run

-- the note of an event, where an actor of this pass did it
abbrev pub if_of : List ℕ → Done → Actor → List Noted
if_of p e a = if same_pass p e.by.pass then Did e a ∷ [] else []

-- What the actors of a pass did in a run of a board that was made for this, the first event first: each with its actor, as it left it.
abbrev pub did : Start → List ℕ → List Done → List Noted
did start p [] = []
did start p (e ∷ es) = did start p es ++ if_of p e ((reached start.limits start.base start.found (e ∷ es)).actor e.by)

-- and what was noted of them
abbrev pub noted : List ℕ → List Noted → List Noted
noted p [] = []
noted p (Did e a ∷ xs) = if_of p e a ++ noted p xs
noted p (Busy k ∷ xs) = noted p xs

-- A pass began so: in the run the passes that it was split off from had done what they had noted then before it did anything.
pub record Began (start : Start) (run : List Done) (o : Origin) : Type 0 where
  pub late : List Done
  pub early : List Done
  pub are : run ≡ late ++ early
  pub nothing : did start o.number early ≡ []
  pub before : (p : List ℕ) → In p o.passes → did start p early ≡ noted p o.events
