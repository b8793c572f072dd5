-- What events do to the parts that are held, and to the actors of the pass that holds them.
use Rattle.std.specs.Prelude.{◌≡◌, ℕ, ◌+◌, ◌%◌, true, List, [], ◌∷◌, ◌++◌}
use Rattle.graph_model.specs.declared.graph.Base.{Base}
use Rattle.core_states.specs.declared.clock.Clock.{Clock}
use Rattle.core_states.specs.declared.event.Act.{Act}
use Rattle.core_states.specs.declared.event.Reach.{Reach}
use Rattle.core_states.specs.declared.event.Reach.TheVariants as reach
use Rattle.core_states.specs.Names.{Name}
use Rattle.core_states.specs.LogParts.{LogPart}
use Rattle.core_states.specs.RowEvents.{Limits}
use Rattle.core_states.specs.States.{reach_of}
use Rattle.core_states.specs.Parts.{NamedActor, Part, OfShard, OfClock, OfLog, LocalMove, row_of, actor_of, with_named, local, covers}
use Rattle.turn_board.specs.Views.{Done, Noted, Did, Held, View, In, numbers, behind}

-- The turns of what an actor holds, the last taken first, where there are so many shards: that of a vertex's shard, that of the clock, which comes after them, and that of the log, which is the last.
abbrev pub turns_under : ℕ → Reach → List ℕ
turns_under shards (reach.Row v) = (v % shards) ∷ []
turns_under shards reach.Clock = shards ∷ []
turns_under shards reach.Log = (shards + 1) ∷ []
turns_under shards reach.LogAndClock = shards ∷ (shards + 1) ∷ []

-- the turns that are held, the last taken first, and their parts, the first taken first
abbrev pub held_turns : List Held → List ℕ
held_turns [] = []
held_turns (h ∷ hs) = h.turn ∷ held_turns hs

abbrev pub held_parts : List Held → List Part
held_parts [] = []
held_parts (h ∷ hs) = held_parts hs ++ h.part ∷ []

-- one turn or two with these parts in place of theirs
abbrev pub holding : List Part → List Held → List Held
holding (p ∷ []) (h ∷ []) = record { turn = h.turn; part = p } ∷ []
holding (p ∷ q ∷ []) (h ∷ g ∷ []) = record { turn = h.turn; part = q } ∷ record { turn = g.turn; part = p } ∷ []
holding ps hs = hs

-- What the turns that are held, the last taken first, cover: the event works on no more.
abbrev pub IsUnder : ℕ → List Held → Act → Type 0
IsUnder shards hs action = (held : Reach) × (turns_under shards held ≡ held_turns hs) × (covers held (reach_of action) ≡ true)

-- The turns that a pass holds, with their parts, and its actors, in a run with these limits.
pub record Work : Type 0 where
  pub limits : Limits
  pub held : List Held
  pub actors : List NamedActor

abbrev pub move_on : Base → Work → Done → LocalMove
move_on base w e = local w.limits base e.by e.act (held_parts w.held) (actor_of base w.actors e.by)

-- the work after an event, and after several, one after another
abbrev pub moved : Name → LocalMove → Work → Work
moved n m w = record { limits = w.limits; held = holding m.parts w.held; actors = with_named (record { name = n; actor = m.actor }) w.actors }

abbrev pub after_events : Base → Work → List Done → Work
after_events base w [] = w
after_events base w (e ∷ es) = after_events base (moved e.by (move_on base w e) w) es

-- what a pass notes of events that are done one after another: each with its actor, as it left it
abbrev pub notes_of : Base → Work → List Done → List Noted
notes_of base w [] = []
notes_of base w (e ∷ es) = Did e (move_on base w e).actor ∷ notes_of base (moved e.by (move_on base w e) w) es

-- Each event is by an actor of these passes, works on what is held, and has the answer that it gives there.
abbrev pub Happen : Base → ℕ → List (List ℕ) → Work → List Done → Type 0
Happen base shards own w [] = Unit {0}
Happen base shards own w (e ∷ es) =
    In e.by.pass own × IsUnder shards w.held e.act × (e.answer ≡ (move_on base w e).answer) × Happen base shards own (moved e.by (move_on base w e) w) es

-- Two parts say the same: of each vertex, where they are those of a shard. How a shard keeps its rows, and which it has loaded, is its own.
abbrev pub SaysSame : Base → Part → Part → Type 0
SaysSame base (OfShard rows) (OfShard left) = (v : ℕ) → row_of base rows v ≡ row_of base left v
SaysSame base (OfClock k) (OfClock left) = k ≡ left
SaysSame base (OfLog log) (OfLog left) = log ≡ left
SaysSame base part left = ⊥

-- this part says what is left of the turn that was taken last
abbrev pub IsLeft : Base → Part → List Held → Type 0
IsLeft base part [] = ⊥
IsLeft base part (h ∷ hs) = SaysSame base part h.part

-- the work of a pass
abbrev pub work_of : View → Work
work_of v = record { limits = v.limits; held = v.held; actors = v.actors }

-- The events are done on what is held, and this part says what they leave of the turn that was taken last.
abbrev pub Leads : ℕ → View → List Done → Part → Type 0
Leads shards v es part = Happen v.base shards (numbers v) (work_of v) es × IsLeft v.base part (after_events v.base (work_of v) es).held

-- what a pass has seen once it gives a part back
abbrev pub clocks_with : Part → List Clock → List Clock
clocks_with (OfShard rows) seen = seen
clocks_with (OfClock k) seen = k ∷ []
clocks_with (OfLog log) seen = seen

abbrev pub logs_with : Part → List LogPart → List LogPart
logs_with (OfShard rows) seen = seen
logs_with (OfClock k) seen = seen
logs_with (OfLog log) seen = log ∷ []

abbrev pub clocks_after : List Held → List Clock → List Clock
clocks_after [] seen = seen
clocks_after (h ∷ hs) seen = clocks_with h.part seen

abbrev pub logs_after : List Held → List LogPart → List LogPart
logs_after [] seen = seen
logs_after (h ∷ hs) seen = logs_with h.part seen

-- The pass after it gives the turn that it took last, with these events done. A turn that it still holds has the part that they left.
abbrev pub giving : List Done → View → View
giving es v = record v {
  held = behind (after_events v.base (work_of v) es).held;
  actors = (after_events v.base (work_of v) es).actors;
  events = v.events ++ notes_of v.base (work_of v) es;
  seen = clocks_after (after_events v.base (work_of v) es).held v.seen;
  seen_logs = logs_after (after_events v.base (work_of v) es).held v.seen_logs;
}

-- the pass becomes this one by a give of this part
abbrev pub IsGiven : ℕ → View → Part → View → Part → Type 0
IsGiven shards v part next given = (es : List Done) × Leads shards v es part × (next ≡ giving es v) × (given ≡ part)
