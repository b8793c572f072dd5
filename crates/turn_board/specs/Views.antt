-- What a pass knows. It is plain data, and exists in proofs alone.
use Rattle.std.specs.Prelude.{◌≡◌, ◌≢◌, ◌⊎◌, ℕ, suc, Bool, true, false, ◌||◌, List, [], ◌∷◌, ◌++◌, ◌≤◌, None}
use Rattle.graph_model.specs.declared.graph.Base.{Base}
use Rattle.core_states.specs.declared.actor.Actor.{Actor}
use Rattle.core_states.specs.declared.clock.Clock.{Clock}
use Rattle.core_states.specs.declared.event.Act.{Act}
use Rattle.core_states.specs.declared.event.CoreAnswer.{CoreAnswer}
use Rattle.core_states.specs.Names.{Name, same_name}
use Rattle.core_states.specs.LogParts.{LogPart, Found, all_firm}
use Rattle.core_states.specs.RowEvents.{Limits}
use Rattle.core_states.specs.Parts.{NamedActor, Part, OfShard, OfClock, OfLog}

-- An event that was done: who did it, and what it answered.
pub record Done : Type 0 where
  pub by : Name
  pub act : Act
  pub answer : CoreAnswer

-- What a pass notes: an event that it did, with its actor as the event left it, or a turn that one try found taken.
pub data Noted : Type 0 where
  Did : (done : Done) → (left : Actor) → Noted
  Busy : (turn : ℕ) → Noted

-- What a pass was split off from: its number, the numbers of the passes that the other one was made of, and what that one had noted then.
pub record Origin : Type 0 where
  pub number : List ℕ
  pub passes : List (List ℕ)
  pub events : List Noted

-- Which shard a value is: its number, of how many, how many bytes a log of it may have, and the base that it was loaded from.
pub record ShardPlace : Type 0 where
  pub number : ℕ
  pub shards : ℕ
  pub log_most : ℕ
  pub base : Base

abbrev pub no_base : Base
no_base = record { graph = []; epoch = 0; next_tid = 1; next_vertex = 1 }

-- where a value is no shard
abbrev pub no_place : ShardPlace
no_place = record { number = 0; shards = 0; log_most = 0; base = no_base }

-- What a value shows: the part that it stands for, the moment that its disk's clock is at, which is 0 where it has none, and which shard it is.
pub record Shown : Type 0 where
  pub part : Part
  pub moment : ℕ
  pub place : ShardPlace

-- a shard stands at its own place, and the moment of the log part is not after that of the disk
abbrev pub belongs_by : Part → ShardPlace → Shown → Type 0
belongs_by (OfShard rows) place x = x.place ≡ place
belongs_by (OfClock k) place x = Unit {0}
belongs_by (OfLog log) place x = log.moment ≤ x.moment

-- A turn that a pass holds, and its part, as the events of the pass left it.
pub record Held : Type 0 where
  pub turn : ℕ
  pub part : Part

-- What a board is made for: the base, the limits of the run, what the run found of the log's disk when it opened, and the number of shards.
pub record Start : Type 0 where
  pub base : Base
  pub limits : Limits
  pub found : Found
  pub shards : ℕ

-- The value belongs to this turn of a board that was made for this.
abbrev pub Belongs : Start → ℕ → Shown → Type 0
Belongs start turn x = belongs_by x.part (record { number = turn; shards = start.shards; log_most = start.limits.log; base = start.base }) x

pub record View : Type 0 where
  -- what its board was made for
  pub base : Base
  pub limits : Limits
  pub found : Found
  pub shards : ℕ
  pub spent : Bool
  -- the counts of splits that led to this pass, the last one first, and the same of the passes that were joined into it and of those that were split from any of these
  pub number : List ℕ
  pub joined : List (List ℕ)
  pub made : List (List ℕ)
  pub splits : ℕ
  -- of each of the passes that were split off from these, in the order of the splits of each
  pub origins : List Origin
  -- the turns that it holds, the last taken first
  pub held : List Held
  -- its actors, as its events left them
  pub actors : List NamedActor
  pub events : List Noted
  -- the clocks and the log parts that it gave back
  pub seen : List Clock
  pub seen_logs : List LogPart

-- the number is among them
abbrev pub In : List ℕ → List (List ℕ) → Type 0
In n [] = ⊥
In n (x ∷ xs) = (x ≡ n) ⊎ In n xs

-- the numbers of the passes that a pass is made of
abbrev pub numbers : View → List (List ℕ)
numbers v = v.number ∷ v.joined

-- a fact of each turn that is held, of its number and its part
abbrev pub EachHeld : (ℕ → Part → Type 0) → List Held → Type 0
EachHeld F [] = Unit {0}
EachHeld F (h ∷ hs) = F h.turn h.part × EachHeld F hs

abbrev pub IsDistinct : List Held → Type 0
IsDistinct [] = Unit {0}
IsDistinct (h ∷ hs) = EachHeld (λ k _. k ≢ h.turn) hs × IsDistinct hs

-- the turn k is among them
abbrev pub HasTurn : ℕ → List Held → Type 0
HasTurn k [] = ⊥
HasTurn k (h ∷ hs) = (h.turn ≡ k) ⊎ HasTurn k hs

abbrev pub behind : List Held → List Held
behind [] = []
behind (h ∷ hs) = hs

-- a fact of each clock or log part that was seen
abbrev pub EachSeen : {A : Type 0} → (A → Type 0) → List A → Type 0
EachSeen F [] = Unit {0}
EachSeen F (k ∷ ks) = F k × EachSeen F ks

-- an actor of this name has done something
abbrev pub has_name : Name → List NamedActor → Bool
has_name n [] = false
has_name n (x ∷ xs) = same_name n x.name || has_name n xs

-- a pass that has done nothing
abbrev pub fresh_view : Start → List ℕ → List Clock → List LogPart → View
fresh_view start n seen logs = record { base = start.base; limits = start.limits; found = start.found; shards = start.shards; spent = false; number = n; joined = []; made = []; splits = 0; origins = []; held = []; actors = []; events = []; seen = seen; seen_logs = logs }

-- what is left of a pass that was joined into another
abbrev pub spent_view : View
spent_view = record { base = no_base; limits = record { txn = 0; log = 0 }; found = record { count = 0; firm = all_firm; records = None }; shards = 0; spent = true; number = []; joined = []; made = []; splits = 0; origins = []; held = []; actors = []; events = []; seen = []; seen_logs = [] }

-- the pass with one turn more
abbrev pub taking : ℕ → Part → View → View
taking k p v = record v { held = record { turn = k; part = p } ∷ v.held }

-- the pass that found a turn taken
abbrev pub finding_busy : ℕ → View → View
finding_busy k v = record v { events = v.events ++ Busy k ∷ [] }

-- the number of the pass that is split off next
abbrev pub next_number : View → List ℕ
next_number v = suc v.splits ∷ v.number

abbrev pub next_origin : View → Origin
next_origin v = record { number = next_number v; passes = numbers v; events = v.events }

abbrev pub splitting : View → View
splitting v = record v { made = v.made ++ next_number v ∷ []; splits = suc v.splits; origins = v.origins ++ next_origin v ∷ [] }

-- what the board of a pass was made for
abbrev pub start_of : View → Start
start_of v = record { base = v.base; limits = v.limits; found = v.found; shards = v.shards }

abbrev pub split_off : View → View
split_off v = fresh_view (start_of v) (next_number v) v.seen v.seen_logs

-- the pass that two are made into
abbrev pub joining : View → View → View
joining v w = record {
  base = v.base;
  limits = v.limits;
  found = v.found;
  shards = v.shards;
  spent = false;
  number = v.number;
  joined = v.joined ++ w.number ∷ w.joined;
  made = v.made ++ w.made;
  splits = v.splits;
  origins = v.origins ++ w.origins;
  held = v.held;
  actors = v.actors ++ w.actors;
  events = v.events ++ w.events;
  seen = v.seen ++ w.seen;
  seen_logs = v.seen_logs ++ w.seen_logs;
}

-- every other pass was joined into this one, and it holds no turn
abbrev pub IsLast : View → Type 0
IsLast v = In [] (numbers v) × ((n : List ℕ) → In n v.made → In n (numbers v)) × (v.held ≡ [])
