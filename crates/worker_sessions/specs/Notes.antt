-- The actors of a pass, and whose notes it has.
use Rattle.std.specs.Prelude.{◌≡◌, ℕ, List, [], ◌∷◌}
use Rattle.core_states.specs.declared.actor.Actor.{Actor}
use Rattle.core_states.specs.Parts.{actor_of}
use Rattle.turn_board.specs.Views.{Did, Busy, Noted, View}
use Rattle.worker_runs.specs.Notes.{session}

-- the actors of a pass, as it has them
abbrev pub actors_in : View → ℕ → Actor
actors_in v k = actor_of v.base v.actors (session v.number k)

-- All notes are of events of this pass.
abbrev pub AreOf : List ℕ → List Noted → Type 0
AreOf p [] = Unit {0}
AreOf p (Did e a ∷ notes) = (e.by.pass ≡ p) × AreOf p notes
AreOf p (Busy k ∷ notes) = ⊥
