-- An event on the clock, whose turn alone is held, and others after it under the same turn.
use Rattle.std.proofs.Common.{◌≡◌, ℕ, List, [], ◌∷◌, ◌++◌, append_assoc, refl, sym, ap, ◌∙◌, subst, Option, Some, None}
use Rattle.core_states.specs.declared.actor.Actor.{Actor}
use Rattle.core_states.specs.declared.clock.Clock.{Clock}
use Rattle.core_states.specs.declared.event.Reach.TheVariants as reach
use Rattle.core_states.specs.ClockEvents.{ClockMove}
use Rattle.core_states.specs.Moves.{clock_move}
use Rattle.core_states.specs.States.{reach_of, clock_event}
use Rattle.core_states.specs.Parts.{Part, OfClock, actor_of, clock_local, covers, local_at, with_named}
use Rattle.turn_board.specs.Views.{Done, Did, View, In, numbers, behind}
use Rattle.turn_board.specs.Works.{Happen, Leads, Work, IsLeft, held_turns, held_parts, move_on, moved, after_events, notes_of, work_of, giving, clocks_after, logs_after}

clock_as : (k : Clock) (a : Actor) (o : Option ClockMove) → clock_local k a o ≡ record { answer = (clock_move k a o).answer; parts = OfClock (clock_move k a o).clock ∷ []; actor = (clock_move k a o).actor }
clock_as k a None = refl
clock_as k a (Some m) = refl

-- the pass after the event, while it holds the clock's turn and has not given it
abbrev pub going_on_clock : ℕ → ClockMove → Done → View → View
going_on_clock shards m e v = record v {
  held = record { turn = shards; part = OfClock m.clock } ∷ [];
  actors = with_named (record { name = e.by; actor = m.actor }) v.actors;
  events = v.events ++ Did e m.actor ∷ [];
}

pub clock_first_leads : (shards : ℕ) (v : View) (k : Clock) (e : Done) (m : ClockMove) (es : List Done) (part : Part) → In e.by.pass (numbers v) → v.held ≡ record { turn = shards; part = OfClock k } ∷ [] → reach_of e.act ≡ reach.Clock
    → clock_move k (actor_of v.base v.actors e.by) (clock_event e.act k (actor_of v.base v.actors e.by)) ≡ m → e.answer ≡ m.answer
    → Leads shards (going_on_clock shards m e v) es part → Leads shards v (e ∷ es) part × (giving (e ∷ es) v ≡ giving es (going_on_clock shards m e v))
clock_first_leads shards v k e m es part own front at called says leads = (
  (
    (
      own,
      (reach.Clock, ap (λ hs. held_turns hs) (sym front), ap (λ r. covers reach.Clock r) at),
      says ∙ ap (λ z. z.answer) (sym moves),
      subst (λ (w : Work). Happen v.base shards (numbers v) w es) (sym works) leads.0,
    ),
    subst (λ (w : Work). IsLeft v.base part (after_events v.base w es).held) (sym works) leads.1,
  ),
  λ i. record v {
    held = behind (after_events v.base (works i) es).held;
    actors = (after_events v.base (works i) es).actors;
    events = noted_then i;
    seen = clocks_after (after_events v.base (works i) es).held v.seen;
    seen_logs = logs_after (after_events v.base (works i) es).held v.seen_logs;
  },
)
  where
    moves : move_on v.base (work_of v) e ≡ record { answer = m.answer; parts = OfClock m.clock ∷ []; actor = m.actor }
    moves = (λ i. local_at (at i) v.limits v.base e.by e.act (held_parts (front i)) (actor_of v.base v.actors e.by))
        ∙ (clock_as k (actor_of v.base v.actors e.by) (clock_event e.act k (actor_of v.base v.actors e.by))
        ∙ ap (λ (z : ClockMove). record { answer = z.answer; parts = OfClock z.clock ∷ []; actor = z.actor }) called)

    works : moved e.by (move_on v.base (work_of v) e) (work_of v) ≡ work_of (going_on_clock shards m e v)
    works = λ i. moved e.by (moves i) (record { limits = v.limits; held = front i; actors = v.actors })

    noted_then : (giving (e ∷ es) v).events ≡ (v.events ++ Did e m.actor ∷ []) ++ notes_of v.base (work_of (going_on_clock shards m e v)) es
    noted_then = (λ i. v.events ++ Did e (moves i).actor ∷ notes_of v.base (works i) es) ∙ sym (append_assoc v.events (Did e m.actor ∷ []) (notes_of v.base (work_of (going_on_clock shards m e v)) es))
