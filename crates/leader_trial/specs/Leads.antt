-- What a leader did, and what its pass knows then.
use Rattle.std.specs.Prelude.{◌≡◌, ◌≢◌, ℕ, List, [], ◌∷◌, ◌++◌, Option, Some, None}
use Rattle.core_states.specs.declared.actor.Actor.{Actor}
use Rattle.core_states.specs.declared.clock.Clock.{Clock}
use Rattle.core_states.specs.declared.event.Act.TheVariants as act
use Rattle.core_states.specs.declared.event.CoreAnswer.{CoreAnswer}
use Rattle.core_states.specs.LogParts.{LogPart}
use Rattle.core_states.specs.LogEvents.{LogMove, GroupMove}
use Rattle.core_states.specs.Moves.{DoesOnLog, DoesOnGroup}
use Rattle.core_states.specs.Names.{Name}
use Rattle.core_states.specs.Parts.{OfClock, OfLog, actor_of}
use Rattle.core_states.specs.States.{first_name}
use Rattle.turn_board.specs.Views.{Done, Noted, Did, Held, View, In, numbers}
use Rattle.leader_trial.specs.declared.events.Append.{Append}
use Rattle.leader_trial.specs.declared.events.Append.TheVariants.{Durable, Faulted}
use Rattle.leader_trial.specs.declared.events.Led.{Led}
use Rattle.leader_trial.specs.Done.{done_if}

-- the log's turn is held, and the clock's beside it
abbrev pub log_held : LogPart → List Held
log_held log = record { turn = 2; part = OfLog log } ∷ []

abbrev pub both_held : Clock → LogPart → List Held
both_held k log = record { turn = 1; part = OfClock k } ∷ log_held log

-- the actor as the pass has it
abbrev pub own_actor : ℕ → View → Actor
own_actor me v = actor_of v.base v.actors (first_name me)

-- the pass is the first, or has joined it
abbrev pub IsFirst : View → Type 0
IsFirst v = In [] (numbers v)

-- what a pass is beside what it holds and did
abbrev pub blank : View → View
blank v = record v { held = []; actors = []; events = []; seen = []; seen_logs = [] }

-- These are notes of these events, each with the actor as it left it: from this one, they led to that one.
abbrev pub AreNotes : List Done → Actor → Actor → List Noted → Type 0
AreNotes [] a b notes = (notes ≡ []) × (b ≡ a)
AreNotes (e ∷ es) a b notes = (left : Actor) × (rest : List Noted) × (notes ≡ Did e left ∷ rest) × AreNotes es left b rest

-- The pass noted these events of an actor, which is this one now, and holds these turns. All other actors, and all else that the pass is, are as they were.
pub record Went (me : ℕ) (es : List Done) (a : Actor) (held : List Held) (v w : View) : Type 0 where
  pub notes : List Noted
  pub events : w.events ≡ v.events ++ notes
  pub are : AreNotes es (own_actor me v) a notes
  pub actor : own_actor me w ≡ a
  pub others : (n : Name) → n ≢ first_name me → actor_of w.base w.actors n ≡ actor_of v.base v.actors n
  pub held_is : w.held ≡ held
  pub same : blank w ≡ blank v

-- What a call left where it was answered; where there was no memory it left all as it was.
abbrev pub DoesOnGroupIf : Option GroupMove → LogPart → Clock → Actor → Option CoreAnswer → LogPart → Clock → Actor → Type 0
DoesOnGroupIf m log k a None log' k' a' = (log' ≡ log) × (k' ≡ k) × (a' ≡ a)
DoesOnGroupIf m log k a (Some says) log' k' a' = DoesOnGroup m log k a says log' k' a'

abbrev pub DoesOnLogIf : Option LogMove → LogPart → Actor → Option CoreAnswer → LogPart → Actor → Type 0
DoesOnLogIf m log a None log' a' = (log' ≡ log) × (a' ≡ a)
DoesOnLogIf m log a (Some says) log' a' = DoesOnLog m log a says log' a'

-- how a leader ended its group, by what the disk answered
abbrev pub ended_by : ℕ → Append → Option CoreAnswer → Option CoreAnswer → List Done
ended_by me (Durable moment) wrote ended = done_if me (act.WriteGroup moment) wrote ++ done_if me act.Publish ended
ended_by me (Faulted before after) wrote ended = done_if me (act.Fail before after) ended

-- the events of a leader, one after another: it collected, and where it came so far it wrote and published its group, or failed
abbrev pub led_by : ℕ → Append → Led → List Done
led_by me append led = done_if me act.Collect led.collected ++ ended_by me append led.wrote led.ended
