-- The parts of the core as plain data, and what an event makes of the parts that its actor holds and of the actor.
use Rattle.std.specs.Prelude.{◌≡◌, ℕ, ◌<◌, ◌%◌, nat_lt, if◌then◌else◌, ◌==◌, List, [], ◌∷◌, length, map, filter, replicate, Option, Some, None, Bool, true, false, ◌++◌}
use Rattle.std.specs.List.{range_with_len}
use Rattle.std.proofs.Math.ListN.{get_or, set}
use Rattle.graph_model.specs.declared.graph.Base.{Base}
use Rattle.graph_model.specs.Graph.{vertex_at}
use Rattle.core_rows.specs.Rows.{Row}
use Rattle.core_rows.specs.Openings.{opened_row}
use Rattle.core_states.specs.declared.actor.Actor.{Actor}
use Rattle.core_states.specs.declared.clock.Clock.{Clock}
use Rattle.core_states.specs.declared.event.Act.{Act}
use Rattle.core_states.specs.declared.event.CoreAnswer.{CoreAnswer}
use Rattle.core_states.specs.declared.event.CoreAnswer.TheVariants as answer
use Rattle.core_states.specs.Names.{Name, same_name}
use Rattle.core_states.specs.Openings.{fresh_actor, opened_clock}
use Rattle.core_states.specs.ClockEvents.{ClockMove}
use Rattle.core_states.specs.RowEvents.{RowMove, Limits}
use Rattle.core_states.specs.LogParts.{LogPart, Found, opened_part}
use Rattle.core_states.specs.LogEvents.{LogMove, GroupMove}
use Rattle.core_states.specs.declared.event.Reach.{Reach}
use Rattle.core_states.specs.declared.event.Reach.TheVariants as reach
use Rattle.core_states.specs.States.{State, clock_event, row_event, log_event, group_event, reach_of}

-- A vertex with its row, and an actor with its name.
pub record VertexRow : Type 0 where
  pub vertex : ℕ
  pub row : Row

pub record NamedActor : Type 0 where
  pub name : Name
  pub actor : Actor

-- The row of a vertex and the actor of a name. One that is not kept is as the run started with it.
abbrev pub row_of : Base → List VertexRow → ℕ → Row
row_of base [] v = opened_row base.epoch (vertex_at v base.graph)
row_of base (x ∷ rows) v = if x.vertex == v then x.row else row_of base rows v

abbrev pub actor_of : Base → List NamedActor → Name → Actor
actor_of base [] i = fresh_actor base
actor_of base (x ∷ actors) i = if same_name i x.name then x.actor else actor_of base actors i

-- the rows with this one in its place among the rising vertices
abbrev pub with_row_of : VertexRow → List VertexRow → List VertexRow
with_row_of x [] = x ∷ []
with_row_of x (y ∷ rows) =
    if nat_lt x.vertex y.vertex then x ∷ y ∷ rows
    else (if x.vertex == y.vertex then x ∷ rows else y ∷ with_row_of x rows)

-- the actors with this one in place of the one of its name, or at the end
abbrev pub with_named : NamedActor → List NamedActor → List NamedActor
with_named x [] = x ∷ []
with_named x (y ∷ actors) = if same_name x.name y.name then x ∷ actors else y ∷ with_named x actors

-- A part: that of a shard, with the rows of its vertices, that of the clock, or that of the log.
pub data Part : Type 0 where
  OfShard : (rows : List VertexRow) → Part
  OfClock : (clock : Clock) → Part
  OfLog : (log : LogPart) → Part

-- What an event answers, and what it leaves of the parts that are held and of its actor.
pub record LocalMove : Type 0 where
  pub answer : CoreAnswer
  pub parts : List Part
  pub actor : Actor

-- An event whose condition does not hold leaves all as it was.
abbrev pub unmoved : List Part → Actor → LocalMove
unmoved held a = record { answer = answer.NotEnabled; parts = held; actor = a }

abbrev pub row_local : List VertexRow → ℕ → Actor → Option RowMove → LocalMove
row_local rows v a None = unmoved (OfShard rows ∷ []) a
row_local rows v a (Some m) = record { answer = m.answer; parts = OfShard (with_row_of (record { vertex = v; row = m.row }) rows) ∷ []; actor = m.actor }

abbrev pub clock_local : Clock → Actor → Option ClockMove → LocalMove
clock_local k a None = unmoved (OfClock k ∷ []) a
clock_local k a (Some m) = record { answer = m.answer; parts = OfClock m.clock ∷ []; actor = m.actor }

abbrev pub log_local : LogPart → Actor → Option LogMove → LocalMove
log_local log a None = unmoved (OfLog log ∷ []) a
log_local log a (Some m) = record { answer = m.answer; parts = OfLog m.log ∷ []; actor = m.actor }

abbrev pub group_local : LogPart → Clock → Actor → Option GroupMove → LocalMove
group_local log k a None = unmoved (OfLog log ∷ OfClock k ∷ []) a
group_local log k a (Some m) = record { answer = m.answer; parts = OfLog m.log ∷ OfClock m.clock ∷ []; actor = m.actor }

-- the same with one part more, which stays
abbrev pub log_first : Part → LocalMove → LocalMove
log_first part m = record { answer = m.answer; parts = part ∷ m.parts; actor = m.actor }

abbrev pub clock_last : Part → LocalMove → LocalMove
clock_last part m = record { answer = m.answer; parts = m.parts ++ part ∷ []; actor = m.actor }

abbrev pub local_at : Reach → Limits → Base → Name → Act → List Part → Actor → LocalMove
local_at (reach.Row v) most base i action (OfShard rows ∷ []) a = row_local rows v a (row_event most action (row_of base rows v) a)
local_at reach.Clock most base i action (OfClock k ∷ []) a = clock_local k a (clock_event action k a)
local_at reach.Log most base i action (OfLog log ∷ []) a = log_local log a (log_event action i log a)
local_at reach.LogAndClock most base i action (OfLog log ∷ OfClock k ∷ []) a = group_local log k a (group_event action i log k a)
local_at reach.Clock most base i action (OfLog log ∷ OfClock k ∷ []) a = log_first (OfLog log) (clock_local k a (clock_event action k a))
local_at reach.Log most base i action (OfLog log ∷ OfClock k ∷ []) a = clock_last (OfClock k) (log_local log a (log_event action i log a))
local_at at most base i action held a = unmoved held a

-- An event of an actor on the parts that it holds, that of a shard, of the clock, of the log, or of the log and the clock: it reads and changes what it works on of them and the actor, and nothing else.
abbrev pub local : Limits → Base → Name → Act → List Part → Actor → LocalMove
local most base i action held a = local_at (reach_of action) most base i action held a

-- All parts, and all actors that have done something, with the limits that the run opened with.
pub record Parts : Type 0 where
  pub limits : Limits
  pub shards : List (List VertexRow)
  pub clock : Clock
  pub log : LogPart
  pub actors : List NamedActor

-- the shard that has a vertex
abbrev pub shard_of : Parts → ℕ → ℕ
shard_of parts v = v % length parts.shards

-- The state that the parts stand for.
abbrev pub state_of_parts : Base → Parts → State
state_of_parts base parts = record {
  clock = parts.clock;
  log = parts.log;
  actor = actor_of base parts.actors;
  row = λ v. row_of base (get_or parts.shards (shard_of parts v) []) v;
}

-- the parts that an event works on, and all parts with these in their places
abbrev pub parts_at : Reach → Parts → List Part
parts_at (reach.Row v) parts = OfShard (get_or parts.shards (shard_of parts v) []) ∷ []
parts_at reach.Clock parts = OfClock parts.clock ∷ []
parts_at reach.Log parts = OfLog parts.log ∷ []
parts_at reach.LogAndClock parts = OfLog parts.log ∷ OfClock parts.clock ∷ []

abbrev pub with_parts : Reach → List Part → Parts → Parts
with_parts (reach.Row v) (OfShard rows ∷ []) parts = record parts { shards = set parts.shards (shard_of parts v) rows }
with_parts reach.Clock (OfClock k ∷ []) parts = record parts { clock = k }
with_parts reach.Log (OfLog log ∷ []) parts = record parts { log = log }
with_parts reach.LogAndClock (OfLog log ∷ OfClock k ∷ []) parts = record parts { clock = k; log = log }
with_parts at held parts = parts

abbrev pub with_actor : Name → Actor → Parts → Parts
with_actor i a parts = record parts { actors = with_named (record { name = i; actor = a }) parts.actors }

-- the parts with what a move leaves, and with the actor
abbrev pub after_move : Reach → Name → LocalMove → Parts → Parts
after_move at i move parts = with_actor i move.actor (with_parts at move.parts parts)

abbrev pub move_of : Reach → Base → Parts → Name → Act → LocalMove
move_of at base parts i action = local parts.limits base i action (parts_at at parts) (actor_of base parts.actors i)

-- what an actor holds covers what the event works on: exactly that, or the log and the clock
abbrev pub covers : Reach → Reach → Bool
covers (reach.Row v) (reach.Row w) = v == w
covers reach.Clock reach.Clock = true
covers reach.Log reach.Log = true
covers reach.LogAndClock (reach.Row v) = false
covers reach.LogAndClock at = true
covers held at = false

-- The parts after an event of an actor that holds these: `local` of them, with all else as it was.
abbrev pub step : Reach → Base → Parts → Name → Act → Parts
step held base parts i action = after_move held i (move_of held base parts i action) parts

-- rows that are as the base has them
abbrev pub AreOpened : Base → List VertexRow → Type 0
AreOpened base [] = Unit {0}
AreOpened base (x ∷ rows) = (x.row ≡ opened_row base.epoch (vertex_at x.vertex base.graph)) × AreOpened base rows

-- Parts that a run may start with: any number of shards, whose rows, as many as are loaded, are as the base has them.
pub record Opens (base : Base) (found : Found) (parts : Parts) : Type 0 where
  pub some : 0 < length parts.shards
  pub shards : (n : ℕ) → AreOpened base (get_or parts.shards n [])
  pub clock : parts.clock ≡ opened_clock base
  pub log : parts.log ≡ opened_part base.epoch found
  pub actors : parts.actors ≡ []

-- The rows of the base's vertices that one of so many shards has, and all shards with the rows of the base loaded.
abbrev pub loaded_rows : Base → ℕ → ℕ → List VertexRow
loaded_rows base count shard = map (λ x. record { vertex = x.number; row = opened_row base.epoch (Some x) }) (filter (λ x. x.number % count == shard) base.graph)

abbrev pub loaded_shards : Base → ℕ → List (List VertexRow)
loaded_shards base count = map (loaded_rows base count) (range_with_len 0 count)

-- The parts that a store with so many shards starts with, and those of a run in which nothing is loaded.
abbrev pub loaded_parts : Base → Limits → Found → ℕ → Parts
loaded_parts base most found count = record { limits = most; shards = loaded_shards base count; clock = opened_clock base; log = opened_part base.epoch found; actors = [] }

abbrev pub bare_parts : Base → Limits → Found → ℕ → Parts
bare_parts base most found count = record { limits = most; shards = replicate count []; clock = opened_clock base; log = opened_part base.epoch found; actors = [] }
