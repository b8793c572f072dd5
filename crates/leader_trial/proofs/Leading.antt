-- What a leader's events leave of the parts that it holds, and what its pass knows then.
use Rattle.std.proofs.Common.{◌≡◌, ℕ, List, [], ◌∷◌, ◌++◌, refl, sym, ap, ◌∙◌, subst, Option, Some, None, append_assoc}
use Rattle.std.proofs.Common.{◌+◌, ◌-◌, ◌<◌, ◌≤◌, length, arith}
use Rattle.std.proofs.lemmas.Bool.{ltb-true}
use Rattle.std.specs.Prelude.{Bool, true, false, if◌then◌else◌}
use Rattle.graph_model.specs.declared.graph.Base.{Base}
use Rattle.graph_model.specs.Records.{IsGood, number_end}
use Rattle.core_states.specs.Durability.{is_unpublished}
use Rattle.core_states.specs.RowEvents.{Limits}
use Rattle.core_kept.specs.Bounds.{Kept}
use Rattle.core_laws.proofs.Counts.{last_below}
use Rattle.turn_board.specs.Turns.{turn_part, Told}
use Rattle.turn_board.proofs.Steps.{part_clock, part_log}
use Rattle.core_states.specs.declared.actor.Actor.{Actor}
use Rattle.core_states.specs.declared.clock.Clock.{Clock}
use Rattle.core_states.specs.declared.event.Act.{Act}
use Rattle.core_states.specs.declared.event.Act.TheVariants as act
use Rattle.core_states.specs.declared.event.CoreAnswer.{CoreAnswer}
use Rattle.core_states.specs.declared.event.Reach.TheVariants as reach
use Rattle.core_states.specs.LogParts.{LogPart}
use Rattle.core_states.specs.LogEvents.{LogMove, writes, publishes}
use Rattle.core_states.specs.Moves.{DoesOnLog}
use Rattle.core_states.specs.Parts.{Part, OfShard, OfClock, OfLog, actor_of, state_of_parts}
use Rattle.core_states.specs.States.{State, first_name, reach_of, group_event}
use Rattle.core_laws.proofs.Actors.{actor_here, actor_there}
use Rattle.turn_board.specs.Views.{Done, Noted, Did, Held, EachHeld, View, behind, taking}
use Rattle.turn_board.specs.Works.{Leads, IsLeft, giving}
use Rattle.turn_board.specs.Ones.{DoesOne, going_on_log}
use Rattle.turn_board.proofs.Named.{append_none}
use Rattle.turn_board.proofs.Ones.{group_leads, log_first_leads}
use Rattle.leader_trial.specs.declared.events.Append.{Append}
use Rattle.leader_trial.specs.declared.events.Append.TheVariants.{Durable, Faulted}
use Rattle.leader_trial.specs.Done.{done, done_if, wrote_and}
use Rattle.leader_trial.specs.Leads.{AreNotes, Went, IsFirst, own_actor, log_held, both_held, DoesOnGroupIf, ended_by}

-- These events, done while both turns are held, lead to this clock, and the pass then knows the rest.
abbrev pub LedTo : ℕ → List Done → Actor → LogPart → Clock → View → Type 0
LedTo me es a log k v = Leads 1 v es (OfClock k) × Went me es a (log_held log) v (giving es v)

none_led : (me : ℕ) (v : View) (log : LogPart) (k : Clock) (a : Actor) → v.held ≡ both_held k log → own_actor me v ≡ a → LedTo me [] a log k v
none_led me v log k a front own = (
  (tt, subst (λ hs. IsLeft v.base (OfClock k) hs) (sym front) refl),
  record { notes = []; events = refl; are = (refl, sym own); actor = own; others = λ n ne. refl; held_is = ap (λ hs. behind hs) front; same = refl },
)

one_led : (me : ℕ) (v : View) (log : LogPart) (k : Clock) (a : Actor) (action : Act) (says : CoreAnswer) → DoesOne 1 v (done me action says) (OfClock k) (log_held log) a → LedTo me (done me action says ∷ []) a log k v
one_led me v log k a action says d = (d.leads, record { notes = Did (done me action says) a ∷ []; events = d.notes; are = (a, [], refl, (refl, refl)); actor = d.actor; others = d.others; held_is = d.held; same = refl })

-- a pass that took one turn more since
pub took : (me turn : ℕ) (p : Part) (es : List Done) (a : Actor) (hs : List Held) (v w : View) → Went me es a hs (taking turn p v) w → Went me es a hs v w
took me turn p es a hs v w went = record { notes = went.notes; events = went.events; are = went.are; actor = went.actor; others = went.others; held_is = went.held_is; same = went.same }

given : (me turns : ℕ) (v v1 u : View) (k : Clock) (es : List Done) (a' : Actor) (log' : LogPart) (k' : Clock) → turns ≡ 3 → v1 ≡ taking 1 (OfClock k) v → LedTo me es a' log' k' (taking 1 (OfClock k) v)
    → Leads (turns - 2) v1 es (OfClock k') × (u ≡ giving es v1 → Went me es a' (log_held log') v u)
given me turns v v1 u k es a' log' k' three taken led = (
  subst (λ (z : ℕ × View). Leads (z.0 - 2) z.1 es (OfClock k')) (λ i. (sym three i, sym taken i)) led.0,
  λ is. took me 1 (OfClock k) es a' (log_held log') v u (subst (λ (z : View). Went me es a' (log_held log') (taking 1 (OfClock k) v) z) (sym (is ∙ ap (λ (z : View). giving es z) taken)) led.1),
)

-- an event on the log part and the clock, where it was answered
pub group_led : (me : ℕ) (v : View) (log : LogPart) (k : Clock) (a : Actor) (action : Act) (o : Option CoreAnswer) (log' : LogPart) (k' : Clock) (a' : Actor)
    → IsFirst v → v.held ≡ both_held k log → own_actor me v ≡ a → reach_of action ≡ reach.LogAndClock
    → DoesOnGroupIf (group_event action (first_name me) log k a) log k a o log' k' a' → LedTo me (done_if me action o) a' log' k' v
group_led me v log k a action None log' k' a' first front own at does =
    subst (λ (z : LogPart × Clock × Actor). LedTo me [] z.2 z.0 z.1 v) (λ i. (sym does.0 i, sym does.1 i, sym does.2 i)) (none_led me v log k a front own)
group_led me v log k a action (Some says) log' k' a' first front own at does =
    one_led me v log' k' a' action says
    (group_leads 1 v log k (done me action says) (record { answer = says; log = log'; clock = k'; actor = a' }) first front at
    (subst (λ b. Rattle.core_states.specs.Moves.group_move log k b (group_event action (first_name me) log k b) ≡ record { answer = says; log = log'; clock = k'; actor = a' }) (sym own) does) refl)

-- an event on the log part, which is named with those after it
pub written_led : (me moment : ℕ) (v : View) (log : LogPart) (k : Clock) (a : Actor) (says : CoreAnswer) (log1 : LogPart) (a1 : Actor) (o : Option CoreAnswer) (log' : LogPart) (k' : Clock) (a' : Actor)
    → IsFirst v → v.held ≡ both_held k log → own_actor me v ≡ a → DoesOnLog (writes moment (first_name me) log a) log a says log1 a1
    → DoesOnGroupIf (publishes (first_name me) log1 k a1) log1 k a1 o log' k' a' → LedTo me (wrote_and me moment says o) a' log' k' v
written_led me moment v log k a says log1 a1 o log' k' a' first front own wrote does = (
  both.0,
  record {
    notes = Did e a1 ∷ next.1.notes;
    events = ap (λ (z : View). z.events) both.1 ∙ (next.1.events ∙ append_assoc v.events (Did e a1 ∷ []) next.1.notes);
    are = (a1, next.1.notes, refl, subst (λ b. AreNotes (done_if me act.Publish o) b a' next.1.notes) here next.1.are);
    actor = ap (λ (z : View). own_actor me z) both.1 ∙ next.1.actor;
    others = λ n ne. ap (λ (z : View). actor_of z.base z.actors n) both.1 ∙ (next.1.others n ne ∙ actor_there v.base (record { name = first_name me; actor = a1 }) v.actors n ne);
    held_is = ap (λ (z : View). z.held) both.1 ∙ next.1.held_is;
    same = refl;
  },
)
  where
    e : Done
    e = done me (act.WriteGroup moment) says

    m : LogMove
    m = record { answer = says; log = log1; actor = a1 }

    here : own_actor me (going_on_log 1 k m e v) ≡ a1
    here = actor_here v.base (record { name = first_name me; actor = a1 }) v.actors (first_name me) refl

    next : LedTo me (done_if me act.Publish o) a' log' k' (going_on_log 1 k m e v)
    next = group_led me (going_on_log 1 k m e v) log1 k a1 act.Publish o log' k' a' first refl here refl does

    both : Leads 1 v (e ∷ done_if me act.Publish o) (OfClock k') × (giving (e ∷ done_if me act.Publish o) v ≡ giving (done_if me act.Publish o) (going_on_log 1 k m e v))
    both = log_first_leads 1 v log k e m (done_if me act.Publish o) (OfClock k') first front refl
        (subst (λ b. Rattle.core_states.specs.Moves.log_move log b (writes moment (first_name me) log b) ≡ record { answer = says; log = log1; actor = a1 }) (sym own) wrote) refl next.0

-- notes of events, and of those after them
notes_both : (es fs : List Done) (a b c : Actor) (xs ys : List Noted) → AreNotes es a b xs → AreNotes fs b c ys → AreNotes (es ++ fs) a c (xs ++ ys)
notes_both [] fs a b c xs ys one two = subst (λ (z : List Noted × Actor). AreNotes fs z.1 c (z.0 ++ ys)) (λ i. (sym one.0 i, one.1 i)) two
notes_both (e ∷ es) fs a b c xs ys one two = (one.0, one.1 ++ ys, ap (λ z. z ++ ys) one.2, notes_both es fs one.0 b c one.1 ys one.3 two)

-- more events, after those of before
pub went_on : (me : ℕ) (es fs : List Done) (a b : Actor) (hs gs : List Held) (v w u : View) → Went me es a hs v w → Went me fs b gs w u → Went me (es ++ fs) b gs v u
went_on me es fs a b hs gs v w u one two = record {
  notes = one.notes ++ two.notes;
  events = two.events ∙ (ap (λ z. z ++ two.notes) one.events ∙ append_assoc v.events one.notes two.notes);
  are = notes_both es fs (own_actor me v) a b one.notes two.notes one.are (subst (λ c. AreNotes fs c b two.notes) one.actor two.are);
  actor = two.actor;
  others = λ n ne. two.others n ne ∙ one.others n ne;
  held_is = two.held_is;
  same = two.same ∙ one.same;
}

-- a group was not collected, so it was not ended
pub not_ended : (me : ℕ) (append : Append) (a : Actor) (hs : List Held) (v : View) → v.held ≡ hs → own_actor me v ≡ a → Went me (ended_by me append None None) a hs v v
not_ended me (Durable moment) a hs v front own = record { notes = []; events = sym (append_none v.events); are = (refl, sym own); actor = own; others = λ n ne. refl; held_is = front; same = refl }
not_ended me (Faulted before after) a hs v front own = record { notes = []; events = sym (append_none v.events); are = (refl, sym own); actor = own; others = λ n ne. refl; held_is = front; same = refl }

-- the log's turn goes back with no event more
pub log_given : (me : ℕ) (es : List Done) (a : Actor) (log : LogPart) (v w : View) → Went me es a (log_held log) v w → Went me es a [] v (giving [] w)
log_given me es a log v w went = record {
  notes = went.notes;
  events = append_none w.events ∙ went.events;
  are = went.are;
  actor = went.actor;
  others = went.others;
  held_is = ap (λ hs. behind hs) went.held_is;
  same = went.same;
}

-- the numbers of a kept state are within their ends
numbers_within : (base : Base) (most : Limits) (s : State) → IsGood base → Kept base most s → (s.clock.last < number_end) × (s.log.durable ≤ number_end)
numbers_within base most s good kept =
    let low = last_below base kept.0.0 s (ltb-true base.epoch base.next_tid good.epoch) kept.0.1 in
    let next = kept.1.next_tid in
    let last : s.clock.last < number_end = omega (arith, low, next) in
    (last, by_test (is_unpublished s.log.holder s.actor) kept.4.epoch last)
  where
    by_test : (b : Bool) → s.log.durable ≡ (if b then s.clock.last + 1 else s.clock.last) → s.clock.last < number_end → s.log.durable ≤ number_end
    by_test true is lt = omega (arith, is, lt)
    by_test false is lt = omega (arith, is, lt)

abbrev log_in : Part → LogPart → LogPart
log_in (OfLog log) other = log
log_in (OfClock k) other = other
log_in (OfShard rows) other = other

abbrev clock_in : Part → Clock → Clock
clock_in (OfLog log) other = other
clock_in (OfClock k) other = k
clock_in (OfShard rows) other = other

two_less : (m : ℕ) → m + 2 ≡ 3 → m ≡ 1
two_less m e = omega (arith, e)

-- so are those of the log part that is held, and of the clock
pub durable_within : (turns : ℕ) (v : View) (log : LogPart) → turns ≡ 3 → Told turns v → v.held ≡ log_held log → log.durable ≤ number_end
durable_within turns v log three told front =
    let one : length told.parts.shards ≡ 1 = two_less (length told.parts.shards) (told.turns_are ∙ three) in
    let at = subst (λ hs. EachHeld (λ k p. turn_part told.parts k ≡ p) hs) front told.held in
    let is : told.parts.log ≡ log = ap (λ p. log_in p told.parts.log) (sym (part_log told.parts 2 (omega (arith, one))) ∙ at.0) in
    subst (λ (g : LogPart). g.durable ≤ number_end) is (numbers_within v.base told.parts.limits (state_of_parts v.base told.parts) told.reached.may.good told.reached.kept).1

pub last_within : (turns : ℕ) (v : View) (k : Clock) (hs : List Held) → turns ≡ 3 → Told turns v → v.held ≡ record { turn = 1; part = OfClock k } ∷ hs → k.last < number_end
last_within turns v k hs three told front =
    let one : length told.parts.shards ≡ 1 = two_less (length told.parts.shards) (told.turns_are ∙ three) in
    let at = subst (λ gs. EachHeld (λ j p. turn_part told.parts j ≡ p) gs) front told.held in
    let is : told.parts.clock ≡ k = ap (λ p. clock_in p told.parts.clock) (sym (part_clock told.parts 1 (sym one)) ∙ at.0) in
    subst (λ (z : Clock). z.last < number_end) is (numbers_within v.base told.parts.limits (state_of_parts v.base told.parts) told.reached.may.good told.reached.kept).0

-- and the next numbers of the clock
pub next_within : (turns : ℕ) (v : View) (k : Clock) (hs : List Held) → turns ≡ 3 → Told turns v → v.held ≡ record { turn = 1; part = OfClock k } ∷ hs → (k.next_tid ≤ number_end) × (k.next_vertex ≤ number_end)
next_within turns v k hs three told front =
    let one : length told.parts.shards ≡ 1 = two_less (length told.parts.shards) (told.turns_are ∙ three) in
    let at = subst (λ gs. EachHeld (λ j p. turn_part told.parts j ≡ p) gs) front told.held in
    let is : told.parts.clock ≡ k = ap (λ p. clock_in p told.parts.clock) (sym (part_clock told.parts 1 (sym one)) ∙ at.0) in
    subst (λ (z : Clock). (z.next_tid ≤ number_end) × (z.next_vertex ≤ number_end)) is (told.reached.kept.1.next_tid, told.reached.kept.1.next_vertex)

-- what a give of the clock asks of such an event, and what the pass knows after it
pub group_given : (me turns : ℕ) (v v1 u : View) (log : LogPart) (k : Clock) (a : Actor) (action : Act) (o : Option CoreAnswer) (log' : LogPart) (k' : Clock) (a' : Actor)
    → turns ≡ 3 → v1 ≡ taking 1 (OfClock k) v → IsFirst v → v.held ≡ log_held log → own_actor me v ≡ a → reach_of action ≡ reach.LogAndClock
    → DoesOnGroupIf (group_event action (first_name me) log k a) log k a o log' k' a'
    → Leads (turns - 2) v1 (done_if me action o) (OfClock k') × (u ≡ giving (done_if me action o) v1 → Went me (done_if me action o) a' (log_held log') v u)
group_given me turns v v1 u log k a action o log' k' a' three taken first front own at does =
    given me turns v v1 u k (done_if me action o) a' log' k' three taken
    (group_led me (taking 1 (OfClock k) v) log k a action o log' k' a' first (ap (λ hs. record { turn = 1; part = OfClock k } ∷ hs) front) own at does)

pub written_given : (me moment turns : ℕ) (v v1 u : View) (log : LogPart) (k : Clock) (a : Actor) (says : CoreAnswer) (log1 : LogPart) (a1 : Actor) (o : Option CoreAnswer) (log' : LogPart) (k' : Clock) (a' : Actor)
    → turns ≡ 3 → v1 ≡ taking 1 (OfClock k) v → IsFirst v → v.held ≡ log_held log → own_actor me v ≡ a → DoesOnLog (writes moment (first_name me) log a) log a says log1 a1
    → DoesOnGroupIf (publishes (first_name me) log1 k a1) log1 k a1 o log' k' a'
    → Leads (turns - 2) v1 (wrote_and me moment says o) (OfClock k') × (u ≡ giving (wrote_and me moment says o) v1 → Went me (wrote_and me moment says o) a' (log_held log') v u)
written_given me moment turns v v1 u log k a says log1 a1 o log' k' a' three taken first front own wrote does =
    given me turns v v1 u k (wrote_and me moment says o) a' log' k' three taken
    (written_led me moment (taking 1 (OfClock k) v) log k a says log1 a1 o log' k' a' first (ap (λ hs. record { turn = 1; part = OfClock k } ∷ hs) front) own wrote does)

-- where there was no memory for the write, nothing was done
pub unwritten : (me : ℕ) (v : View) (log log' : LogPart) (a a' : Actor) → v.held ≡ log_held log → own_actor me v ≡ a → (log' ≡ log) × (a' ≡ a) → Went me [] a' (log_held log') v v
unwritten me v log log' a a' front own same = record {
  notes = [];
  events = sym (append_none v.events);
  are = (refl, same.1 ∙ sym own);
  actor = own ∙ sym same.1;
  others = λ n ne. refl;
  held_is = front ∙ ap (λ g. log_held g) (sym same.0);
  same = refl;
}
