-- What the events of a worker leave of the part that it holds, and what its pass knows then.
use Rattle.std.proofs.Common.{◌≡◌, ◌≢◌, ℕ, ◌-◌, List, [], ◌∷◌, refl, sym, ap, ◌∙◌, subst, inl, Option, Some, None}
use Rattle.std.proofs.lemmas.Bool.{ne_eqb}
use Rattle.graph_model.specs.declared.graph.Base.{Base}
use Rattle.graph_model.specs.Records.{empty_base}
use Rattle.core_rows.specs.Rows.{Row}
use Rattle.core_states.specs.declared.actor.Actor.{Actor}
use Rattle.core_states.specs.declared.clock.Clock.{Clock}
use Rattle.core_states.specs.declared.event.Act.{Act}
use Rattle.core_states.specs.declared.event.Act.TheVariants as act
use Rattle.core_states.specs.declared.event.CoreAnswer.{CoreAnswer}
use Rattle.core_states.specs.declared.event.Reach.TheVariants as reach
use Rattle.core_states.specs.Moves.{clock_move, row_move}
use Rattle.core_states.specs.Openings.{run_limits, fresh_actor}
use Rattle.core_states.specs.RowEvents.{Limits}
use Rattle.core_states.specs.Parts.{OfShard, OfClock, Part, row_of}
use Rattle.core_states.specs.States.{clock_event, reach_of, row_event}
use Rattle.turn_board.specs.Views.{Done, Did, View, In, numbers, taking, fresh_view}
use Rattle.turn_board.specs.Works.{Leads, IsLeft, giving}
use Rattle.turn_board.specs.Ones.{DoesOne}
use Rattle.turn_board.proofs.Ones.{clock_leads, row_leads}
use Rattle.leader_trial.specs.Done.{done, done_if}
use Rattle.leader_trial.specs.Leads.{Went, own_actor}
use Rattle.leader_trial.specs.Idle.{first_start, IsIdle, DoesOnClockIf, DoesOnRowIf}
use Rattle.leader_trial.specs.Shards.{first_row}
use Rattle.leader_trial.proofs.Leading.{took}

-- the first pass of the board, and an actor that has done nothing
pub fresh_idle : (me : ℕ) (a : Actor) (v : View) → v ≡ fresh_view first_start [] [] [] → a ≡ fresh_actor empty_base → IsIdle me a v
fresh_idle me a v is a_is = subst (λ (z : View × Actor). IsIdle me z.1 z.0) (λ i. (sym is i, sym a_is i)) ((inl refl, (λ n never. absurd never), refl), refl, refl)

-- what was the last pass, and holds no turn, still is and does
pub idle_still : (me : ℕ) (es : List Done) (a a' : Actor) (v u : View) → Went me es a' [] v u → IsIdle me a v → IsIdle me a' u
idle_still me es a a' v u went idle = (
  (
    subst (λ z. In [] z) (sym same) idle.0.0,
    (λ n i. subst (λ z. In n z) (sym same) (idle.0.1 n (subst (λ z. In n z) (ap (λ (z : View). z.made) went.same) i))),
    went.held_is,
  ),
  went.actor,
  ap (λ (z : View). z.limits) went.same ∙ idle.2,
)
  where
    same : numbers u ≡ numbers v
    same = ap (λ (z : View). numbers z) went.same

-- These events, done while one turn is held, lead to this part, and the pass then holds no turn.
abbrev AloneLed : ℕ → List Done → Actor → Part → View → Type 0
AloneLed me es a p v = Leads 1 v es p × Went me es a [] v (giving es v)

one_alone : (me : ℕ) (v : View) (p : Part) (a : Actor) (action : Act) (says : CoreAnswer) → DoesOne 1 v (done me action says) p [] a → AloneLed me (done me action says ∷ []) a p v
one_alone me v p a action says d = (d.leads, record { notes = Did (done me action says) a ∷ []; events = d.notes; are = (a, [], refl, (refl, refl)); actor = d.actor; others = d.others; held_is = d.held; same = refl })

none_alone : (me turn : ℕ) (v : View) (p q : Part) (a a' : Actor) → v.held ≡ [] → own_actor me v ≡ a → a' ≡ a → IsLeft v.base p (record { turn = turn; part = q } ∷ []) → AloneLed me [] a' p (taking turn q v)
none_alone me turn v p q a a' free own same says = (
  (tt, says),
  record { notes = []; events = refl; are = (refl, same ∙ sym own); actor = own ∙ sym same; others = λ n ne. refl; held_is = free; same = refl },
)

-- what a give of that turn asks, and what the pass knows after it
alone_given : (me turns turn : ℕ) (v v1 u : View) (q p : Part) (es : List Done) (a a' : Actor) → turns ≡ 3 → v1 ≡ taking turn q v → IsIdle me a v → AloneLed me es a' p (taking turn q v)
    → Leads (turns - 2) v1 es p × (u ≡ giving es v1 → Went me es a' [] v u × IsIdle me a' u)
alone_given me turns turn v v1 u q p es a a' three taken idle led = (
  subst (λ (z : ℕ × View). Leads (z.0 - 2) z.1 es p) (λ i. (sym three i, sym taken i)) led.0,
  (λ is. (went is, idle_still me es a a' v u (went is) idle)),
)
  where
    went : u ≡ giving es v1 → Went me es a' [] v u
    went is = took me turn q es a' [] v u (subst (λ (z : View). Went me es a' [] (taking turn q v) z) (sym (is ∙ ap (λ (z : View). giving es z) taken)) led.1)

-- an event on the clock, where it was answered
clock_led : (me : ℕ) (v : View) (k : Clock) (a : Actor) (action : Act) (o : Option CoreAnswer) (k' : Clock) (a' : Actor)
    → IsIdle me a v → reach_of action ≡ reach.Clock → DoesOnClockIf (clock_event action k a) k a o k' a' → AloneLed me (done_if me action o) a' (OfClock k') (taking 1 (OfClock k) v)
clock_led me v k a action None k' a' idle at does = none_alone me 1 v (OfClock k') (OfClock k) a a' idle.0.2 idle.1 does.1 does.0
clock_led me v k a action (Some says) k' a' idle at does =
    one_alone me (taking 1 (OfClock k) v) (OfClock k') a' action says
    (clock_leads 1 (taking 1 (OfClock k) v) k (done me action says) (record { answer = says; clock = k'; actor = a' }) idle.0.0 (ap (λ hs. record { turn = 1; part = OfClock k } ∷ hs) idle.0.2) at
    (subst (λ b. clock_move k b (clock_event action k b) ≡ record { answer = says; clock = k'; actor = a' }) (sym idle.1) does) refl)

pub clock_given : (me turns : ℕ) (v v1 u : View) (k : Clock) (a : Actor) (action : Act) (o : Option CoreAnswer) (k' : Clock) (a' : Actor)
    → turns ≡ 3 → v1 ≡ taking 1 (OfClock k) v → IsIdle me a v → reach_of action ≡ reach.Clock → DoesOnClockIf (clock_event action k a) k a o k' a'
    → Leads (turns - 2) v1 (done_if me action o) (OfClock k') × (u ≡ giving (done_if me action o) v1 → Went me (done_if me action o) a' [] v u × IsIdle me a' u)
clock_given me turns v v1 u k a action o k' a' three taken idle at does =
    alone_given me turns 1 v v1 u (OfClock k) (OfClock k') (done_if me action o) a a' three taken idle (clock_led me v k a action o k' a' idle at does)

first_else : (base : Base) (row : Row) (w : ℕ) → w ≢ 1 → row_of base (first_row row) w ≡ row_of base [] w
first_else base row w ne = rw (ne_eqb 1 w (λ e. ne (sym e))) refl

-- the first vertex was made, where it was answered
row_led : (me : ℕ) (v : View) (row : Row) (a : Actor) (p : List ℕ) (o : Option CoreAnswer) (row' : Row) (a' : Actor)
    → IsIdle me a v → DoesOnRowIf (row_event run_limits (act.New 1 p) row a) row a o row' a' → AloneLed me (done_if me (act.New 1 p) o) a' (OfShard (first_row row')) (taking 0 (OfShard (first_row row)) v)
row_led me v row a p None row' a' idle does =
    none_alone me 0 v (OfShard (first_row row')) (OfShard (first_row row)) a a' idle.0.2 idle.1 does.1 (λ w. ap (λ z. row_of v.base (first_row z) w) does.0)
row_led me v row a p (Some says) row' a' idle does =
    one_alone me (taking 0 (OfShard (first_row row)) v) (OfShard (first_row row')) a' (act.New 1 p) says
    (row_leads 1 1 (taking 0 (OfShard (first_row row)) v) (first_row row) (first_row row') (done me (act.New 1 p) says) (record { answer = says; row = row'; actor = a' }) idle.0.0
    (ap (λ hs. record { turn = 0; part = OfShard (first_row row) } ∷ hs) idle.0.2) refl
    (subst (λ (z : Limits × Actor). row_move row z.1 (row_event z.0 (act.New 1 p) row z.1) ≡ record { answer = says; row = row'; actor = a' }) (λ i. (sym idle.2 i, sym idle.1 i)) does) refl
    refl (λ w ne. first_else v.base row' w ne ∙ sym (first_else v.base row w ne)))

pub row_given : (me turns : ℕ) (v v1 u : View) (row : Row) (a : Actor) (p : List ℕ) (o : Option CoreAnswer) (row' : Row) (a' : Actor)
    → turns ≡ 3 → v1 ≡ taking 0 (OfShard (first_row row)) v → IsIdle me a v → DoesOnRowIf (row_event run_limits (act.New 1 p) row a) row a o row' a'
    → Leads (turns - 2) v1 (done_if me (act.New 1 p) o) (OfShard (first_row row')) × (u ≡ giving (done_if me (act.New 1 p) o) v1 → Went me (done_if me (act.New 1 p) o) a' [] v u × IsIdle me a' u)
row_given me turns v v1 u row a p o row' a' three taken idle does =
    alone_given me turns 0 v v1 u (OfShard (first_row row)) (OfShard (first_row row')) (done_if me (act.New 1 p) o) a a' three taken idle (row_led me v row a p o row' a' idle does)
