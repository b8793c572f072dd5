-- What events of one actor add to what a pass knows.
use Rattle.std.specs.Prelude.{◌≡◌, ◌≢◌, List, [], ◌∷◌, ◌++◌, Option, Some, None}
use Rattle.core_states.specs.declared.actor.Actor.{Actor}
use Rattle.core_states.specs.declared.event.Act.{Act}
use Rattle.core_states.specs.declared.event.CoreAnswer.{CoreAnswer}
use Rattle.core_states.specs.declared.clock.Clock.{Clock}
use Rattle.core_states.specs.Names.{Name}
use Rattle.core_states.specs.Laters.{Later}
use Rattle.core_states.specs.Parts.{actor_of}
use Rattle.core_calls.specs.Events.{Told, told}
use Rattle.turn_board.specs.Views.{Done, Noted, Did, Held, View, EachSeen}

-- the event, where it was answered: which one it was shows in the answer
abbrev pub told_if : (CoreAnswer → Act) → Option CoreAnswer → List Told
told_if acts None = []
told_if acts (Some says) = told (acts says) says ∷ []

-- the same, done by an actor
abbrev pub done_by : Name → Told → Done
done_by n t = record { by = n; act = t.act; answer = t.says }

abbrev pub done_if : Name → (CoreAnswer → Act) → Option CoreAnswer → List Done
done_if n acts None = []
done_if n acts (Some says) = done_by n (told (acts says) says) ∷ []

-- These are notes of these events of an actor, each with the actor as it left it: from this one, they led to that one.
abbrev pub AreNotes : Name → List Told → Actor → Actor → List Noted → Type 0
AreNotes n [] a b notes = (notes ≡ []) × (b ≡ a)
AreNotes n (t ∷ ts) a b notes = (left : Actor) × (rest : List Noted) × (notes ≡ Did (done_by n t) left ∷ rest) × AreNotes n ts left b rest

-- what a pass is beside what it holds and did
abbrev pub blank : View → View
blank v = record v { held = []; actors = []; events = []; seen = []; seen_logs = [] }

-- The pass noted these events of an actor, and holds these turns. All other actors, and all else that the pass is, are as they were, and it has seen nothing earlier.
pub record Went (n : Name) (ts : List Told) (hs : List Held) (old new : View) : Type 0 where
  pub notes : List Noted
  pub are : AreNotes n ts (actor_of old.base old.actors n) (actor_of new.base new.actors n) notes
  pub events : new.events ≡ old.events ++ notes
  pub others : (m : Name) → m ≢ n → actor_of new.base new.actors m ≡ actor_of old.base old.actors m
  pub held : new.held ≡ hs
  pub same : blank new ≡ blank old
  pub seen : (k : Clock) → EachSeen (λ x. Later x k) new.seen → EachSeen (λ x. Later x k) old.seen

-- And it holds what it held.
abbrev pub Grew : Name → List Told → View → View → Type 0
Grew n ts old new = Went n ts old.held old new
