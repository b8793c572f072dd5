-- What a call does on a row of a shard.
use Rattle.std.specs.Prelude.{◌≡◌, ◌≢◌, ◌%◌, ℕ, List, Option, Some, None}
use Rattle.graph_model.specs.Records.{transaction_most}
use Rattle.core_states.specs.declared.actor.Actor.{Actor}
use Rattle.core_states.specs.declared.event.Act.{Act}
use Rattle.core_states.specs.declared.event.CoreAnswer.{CoreAnswer}
use Rattle.core_states.specs.Names.{Name}
use Rattle.core_states.specs.Parts.{VertexRow, row_of}
use Rattle.core_states.specs.RowEvents.{RowMove, Limits}
use Rattle.core_states.specs.Openings.{MayOpen, IsAllowed}
use Rattle.core_kept.specs.Bounds.{Kept}
use Rattle.core_states.specs.States.{State, row_event}
use Rattle.turn_board.specs.Views.{ShardPlace}
use Rattle.store_turns.specs.declared.session.Session.{Session}
use Rattle.store_turns.specs.Fits.{IsSessionOf}

-- the limits that a shard goes by
abbrev pub limits_at : ShardPlace → Limits
limits_at place = record { txn = transaction_most; log = place.log_most }

-- the vertex is one of the shard's
abbrev pub IsAt : ℕ → ShardPlace → Type 0
IsAt v place = v % place.shards ≡ place.number

-- Where the rows of the shard are these, there is a kept state of the core in which they are so and the session stands for an actor.
pub record KnownRows (place : ShardPlace) (rows : List VertexRow) (s : Session) : Type 0 where
  pub state : State
  pub may : MayOpen place.base (limits_at place)
  pub allowed : IsAllowed (limits_at place)
  pub kept : Kept place.base (limits_at place) state
  pub name : Name
  pub rows_are : (v : ℕ) → IsAt v place → state.row v ≡ row_of place.base rows v
  pub fits : IsSessionOf s (state.actor name)

-- What a call does on the row of one vertex: where it answers, it is the event of every actor for which the session stands, and the session stands for what the event leaves; all other rows are as they were, and so is all where memory ran out.
abbrev pub DoesRow : ℕ → (CoreAnswer → Act) → ShardPlace → List VertexRow → Session → Option CoreAnswer → List VertexRow → Session → Type 0
DoesRow v acts place rows s None rows' s' =
    ((w : ℕ) → row_of place.base rows' w ≡ row_of place.base rows w) × ((a : Actor) → IsSessionOf s a → IsSessionOf s' a)
DoesRow v acts place rows s (Some says) rows' s' =
    ((w : ℕ) → w ≢ v → row_of place.base rows' w ≡ row_of place.base rows w)
    × ((a : Actor) → IsSessionOf s a → (m : RowMove) × (row_event (limits_at place) (acts says) (row_of place.base rows v) a ≡ Some m) × (m.answer ≡ says) × (row_of place.base rows' v ≡ m.row) × IsSessionOf s' m.actor)
