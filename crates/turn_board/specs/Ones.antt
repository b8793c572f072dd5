-- What a give of one event does.
use Rattle.std.specs.Prelude.{◌≡◌, ◌≢◌, ℕ, ◌+◌, List, [], ◌∷◌, ◌++◌}
use Rattle.core_states.specs.declared.actor.Actor.{Actor}
use Rattle.core_states.specs.Names.{Name}
use Rattle.core_states.specs.declared.clock.Clock.{Clock}
use Rattle.core_states.specs.LogEvents.{LogMove}
use Rattle.core_states.specs.Parts.{Part, OfClock, OfLog, actor_of, with_named}
use Rattle.turn_board.specs.Views.{Done, Did, Held, View}
use Rattle.turn_board.specs.Works.{Leads, giving, clocks_with, logs_with}

-- The event leads to this part of the turn that was taken last, and to these turns that are held still. Its actor is this one then, and is noted so with it; all others are as they were.
pub record DoesOne (shards : ℕ) (v : View) (e : Done) (part : Part) (left : List Held) (a : Actor) : Type 0 where
  pub leads : Leads shards v (e ∷ []) part
  pub held : (giving (e ∷ []) v).held ≡ left
  pub actor : actor_of v.base (giving (e ∷ []) v).actors e.by ≡ a
  pub notes : (giving (e ∷ []) v).events ≡ v.events ++ Did e a ∷ []
  pub others : (n : Name) → n ≢ e.by → actor_of v.base (giving (e ∷ []) v).actors n ≡ actor_of v.base v.actors n
  pub seen : (giving (e ∷ []) v).seen ≡ clocks_with part v.seen
  pub seen_logs : (giving (e ∷ []) v).seen_logs ≡ logs_with part v.seen_logs

-- The pass after an event on the log part, while it holds the log's turn and the clock's, and has given neither.
abbrev pub going_on_log : ℕ → Clock → LogMove → Done → View → View
going_on_log shards k m e v = record v {
  held = record { turn = shards; part = OfClock k } ∷ record { turn = shards + 1; part = OfLog m.log } ∷ [];
  actors = with_named (record { name = e.by; actor = m.actor }) v.actors;
  events = v.events ++ Did e m.actor ∷ [];
}
