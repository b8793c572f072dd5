-- What a leader's pass holds and knows, and what it has done.
use Rattle.std.specs.Prelude.{◌≡◌, ◌⊎◌, ℕ, ◌+◌, List, [], ◌∷◌, Option, None, Some}
use Rattle.atomic_table.specs.declared.shared.Seat.{Seat}
use Rattle.graph_model.specs.declared.record.Outcome.{Outcome}
use Rattle.graph_model.specs.declared.record.Record.{Record}
use Rattle.core_calls.specs.Calls.{IsWait}
use Rattle.core_calls.specs.Events.{Told}
use Rattle.core_states.specs.declared.actor.Actor.{Actor}
use Rattle.core_states.specs.declared.clock.Clock.{Clock}
use Rattle.core_states.specs.LogParts.{LogPart}
use Rattle.core_states.specs.Parts.{OfClock, OfLog, actor_of}
use Rattle.turn_board.specs.Views.{Held, View}
use Rattle.turn_board.specs.Board.{known, turns, SameSeat}
use Rattle.turn_board.specs.Turns.{Told as IsTold}
use Rattle.turn_board.specs.declared.board.TurnBoard.{TurnBoard}
use Rattle.core_states.specs.declared.transaction.Stage.TheVariants.{Decided}
use Rattle.store_turns.specs.declared.session.Session.{Session}
use Rattle.store_turns.specs.declared.session.Work.{Work}
use Rattle.store_turns.specs.Fits.{name_in}
use Rattle.store_turns.specs.Grows.{Went}
use Rattle.store_board.specs.Standing.{Holds}

-- the log's turn, and the clock's beside it
abbrev pub log_held : ℕ → LogPart → List Held
log_held shards log = record { turn = shards + 1; part = OfLog log } ∷ []

abbrev pub both_held : ℕ → Clock → LogPart → List Held
both_held shards k log = record { turn = shards; part = OfClock k } ∷ log_held shards log

-- the actor of a session, as the pass has it
abbrev pub actor_in : View → ℕ → Actor
actor_in v index = actor_of v.base v.actors (name_in v index)

-- an actor that has collected these records
abbrev pub collecting : List Record → Actor → Actor
collecting rs a = record a { group = rs; looked = None }

-- The pass did these events of an actor, holds these turns, and was told of the state.
pub record Leads {H : Type 0} (board : TurnBoard H) (shards index : ℕ) (ts : List Told) (hs : List Held) (p q : Seat (Option H) View) : Type 0 where
  pub holds : Holds board shards hs q
  pub went : Went (name_in (known p) index) ts hs (known p) (known q)
  pub seat : SameSeat p q
  pub told : IsTold (turns q) (known q)

-- each of them is one of a wait for an outcome
abbrev pub AreWaits : List Told → Type 0
AreWaits [] = Unit {0}
AreWaits (t ∷ ts) = IsWait t × AreWaits ts

-- The session's transaction is as it was, but that it may know its record's outcome.
abbrev pub OutcomeTold : Option Work → Option Work → Type 0
OutcomeTold w w' = (w' ≡ w) ⊎ ((t : Work) × (o : Outcome) × (w ≡ Some t) × (w' ≡ Some (record t { stage = Decided o })))

pub record KnowsMore (s s' : Session) : Type 0 where
  pub rest : s' ≡ record s { work = s'.work }
  pub work : OutcomeTold s.work s'.work
