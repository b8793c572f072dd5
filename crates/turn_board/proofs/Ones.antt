-- One event on the turns that are held.
use Rattle.std.proofs.Common.{◌≡◌, ◌≢◌, ℕ, ◌+◌, ◌%◌, true, false, List, [], ◌∷◌, ◌++◌, append_assoc, refl, sym, ap, ◌∙◌, subst, Option, Some, None, ⊎_elim}
use Rattle.std.proofs.lemmas.Bool.{cases_eq, eq-eqb, eqb-true, eqb-false, ne_eqb}
use Rattle.std.specs.Prelude.{Bool, nat_lt, ◌==◌, if◌then◌else◌}
use Rattle.graph_model.specs.declared.graph.Base.{Base}
use Rattle.core_states.specs.declared.actor.Actor.{Actor}
use Rattle.core_states.specs.declared.clock.Clock.{Clock}
use Rattle.core_states.specs.declared.event.Reach.{Reach}
use Rattle.core_states.specs.declared.event.Reach.TheVariants as reach
use Rattle.core_states.specs.ClockEvents.{ClockMove}
use Rattle.core_states.specs.RowEvents.{RowMove}
use Rattle.core_states.specs.LogParts.{LogPart}
use Rattle.core_states.specs.LogEvents.{LogMove, GroupMove}
use Rattle.core_states.specs.Moves.{clock_move, row_move, log_move, group_move}
use Rattle.core_states.specs.States.{reach_of, clock_event, row_event, log_event, group_event}
use Rattle.core_states.specs.Parts.{VertexRow, row_of, actor_of, with_row_of, Part, OfShard, OfClock, OfLog, LocalMove, clock_local, row_local, log_local, group_local, log_first, clock_last, local, local_at, covers}
use Rattle.turn_board.specs.Views.{Done, Did, Held, View, In, numbers, behind}
use Rattle.turn_board.specs.Works.{turns_under, held_turns, held_parts, holding, Happen, Leads, Work, move_on, moved, after_events, notes_of, work_of, giving, clocks_with, logs_with, clocks_after, logs_after, SaysSame, IsLeft}
use Rattle.turn_board.specs.Ones.{DoesOne, going_on_log}
use Rattle.core_laws.proofs.Actors.{actor_here, actor_there}

row_here : (base : Base) (x : VertexRow) (rows : List VertexRow) → row_of base (with_row_of x rows) x.vertex ≡ x.row
row_here base x [] = rw (eq-eqb x.vertex x.vertex refl) refl
row_here base x (y ∷ rows) = by_place (nat_lt x.vertex y.vertex) (x.vertex == y.vertex) refl (row_here base x rows)
  where
    by_place : (b c : Bool) → (x.vertex == y.vertex) ≡ c → row_of base (with_row_of x rows) x.vertex ≡ x.row
        → row_of base (if b then x ∷ y ∷ rows else (if c then x ∷ rows else y ∷ with_row_of x rows)) x.vertex ≡ x.row
    by_place true c is ih = rw (eq-eqb x.vertex x.vertex refl) refl
    by_place false true is ih = rw (eq-eqb x.vertex x.vertex refl) refl
    by_place false false is ih = rw (ne_eqb y.vertex x.vertex (λ e. eqb-false x.vertex y.vertex is (sym e))) ih

row_there : (base : Base) (x : VertexRow) (rows : List VertexRow) (w : ℕ) → w ≢ x.vertex → row_of base (with_row_of x rows) w ≡ row_of base rows w
row_there base x [] w n = rw (ne_eqb x.vertex w (λ e. n (sym e))) refl
row_there base x (y ∷ rows) w n = by_place (nat_lt x.vertex y.vertex) (x.vertex == y.vertex) refl (row_there base x rows w n)
  where
    by_place : (b c : Bool) → (x.vertex == y.vertex) ≡ c → row_of base (with_row_of x rows) w ≡ row_of base rows w
        → row_of base (if b then x ∷ y ∷ rows else (if c then x ∷ rows else y ∷ with_row_of x rows)) w ≡ row_of base (y ∷ rows) w
    by_place true c is ih = rw (ne_eqb x.vertex w (λ e. n (sym e))) refl
    by_place false true is ih = rw (ne_eqb x.vertex w (λ e. n (sym e))) (rw (ne_eqb y.vertex w (λ e. n (sym (eqb-true x.vertex y.vertex is ∙ e)))) refl)
    by_place false false is ih = λ i. if y.vertex == w then y.row else ih i

-- parts that say the same are told of alike
same_clocks : (base : Base) (p q : Part) (v : View) → SaysSame base p q → clocks_with q v.seen ≡ clocks_with p v.seen
same_clocks base (OfShard rows) (OfShard left) v same = refl
same_clocks base (OfClock k) (OfClock left) v same = λ i. sym same i ∷ []
same_clocks base (OfLog g) (OfLog left) v same = refl
same_clocks base (OfShard rows) (OfClock left) v same = absurd same
same_clocks base (OfShard rows) (OfLog left) v same = absurd same
same_clocks base (OfClock k) (OfShard left) v same = absurd same
same_clocks base (OfClock k) (OfLog left) v same = absurd same
same_clocks base (OfLog g) (OfShard left) v same = absurd same
same_clocks base (OfLog g) (OfClock left) v same = absurd same

same_logs : (base : Base) (p q : Part) (v : View) → SaysSame base p q → logs_with q v.seen_logs ≡ logs_with p v.seen_logs
same_logs base (OfShard rows) (OfShard left) v same = refl
same_logs base (OfClock k) (OfClock left) v same = refl
same_logs base (OfLog g) (OfLog left) v same = λ i. sym same i ∷ []
same_logs base (OfShard rows) (OfClock left) v same = absurd same
same_logs base (OfShard rows) (OfLog left) v same = absurd same
same_logs base (OfClock k) (OfShard left) v same = absurd same
same_logs base (OfClock k) (OfLog left) v same = absurd same
same_logs base (OfLog g) (OfShard left) v same = absurd same
same_logs base (OfLog g) (OfClock left) v same = absurd same

left_clocks : (base : Base) (p : Part) (hs : List Held) (v : View) → IsLeft base p hs → clocks_after hs v.seen ≡ clocks_with p v.seen
left_clocks base p [] v left = absurd left
left_clocks base p (h ∷ hs) v left = same_clocks base p h.part v left

left_logs : (base : Base) (p : Part) (hs : List Held) (v : View) → IsLeft base p hs → logs_after hs v.seen_logs ≡ logs_with p v.seen_logs
left_logs base p [] v left = absurd left
left_logs base p (h ∷ hs) v left = same_logs base p h.part v left

-- the event leads, by its move
pub one_leads : (shards : ℕ) (v : View) (held : Reach) (e : Done) (m : LocalMove) (part : Part) → In e.by.pass (numbers v) → turns_under shards held ≡ held_turns v.held → covers held (reach_of e.act) ≡ true
    → local v.limits v.base e.by e.act (held_parts v.held) (actor_of v.base v.actors e.by) ≡ m → e.answer ≡ m.answer → IsLeft v.base part (holding m.parts v.held)
    → DoesOne shards v e part (behind (holding m.parts v.held)) m.actor
one_leads shards v held e m part own turns covered moved says left = record {
  leads = ((own, (held, turns, covered), says ∙ ap (λ z. z.answer) (sym moved), tt), there);
  held = ap (λ z. behind (holding z.parts v.held)) moved;
  actor = actor_here v.base (record { name = e.by; actor = (move_on v.base (work_of v) e).actor }) v.actors e.by refl ∙ ap (λ z. z.actor) moved;
  notes = ap (λ z. v.events ++ Did e z.actor ∷ []) moved;
  others = λ n ne. actor_there v.base (record { name = e.by; actor = (move_on v.base (work_of v) e).actor }) v.actors n ne;
  seen = left_clocks v.base part (holding (move_on v.base (work_of v) e).parts v.held) v there;
  seen_logs = left_logs v.base part (holding (move_on v.base (work_of v) e).parts v.held) v there;
}
  where
    there : IsLeft v.base part (holding (move_on v.base (work_of v) e).parts v.held)
    there = subst (λ (z : LocalMove). IsLeft v.base part (holding z.parts v.held)) (sym moved) left

clock_as : (k : Clock) (a : Actor) (o : Option ClockMove) → clock_local k a o ≡ record { answer = (clock_move k a o).answer; parts = OfClock (clock_move k a o).clock ∷ []; actor = (clock_move k a o).actor }
clock_as k a None = refl
clock_as k a (Some m) = refl

log_as : (log : LogPart) (a : Actor) (o : Option LogMove) → log_local log a o ≡ record { answer = (log_move log a o).answer; parts = OfLog (log_move log a o).log ∷ []; actor = (log_move log a o).actor }
log_as log a None = refl
log_as log a (Some m) = refl

group_as : (log : LogPart) (k : Clock) (a : Actor) (o : Option GroupMove)
    → group_local log k a o ≡ record { answer = (group_move log k a o).answer; parts = OfLog (group_move log k a o).log ∷ OfClock (group_move log k a o).clock ∷ []; actor = (group_move log k a o).actor }
group_as log k a None = refl
group_as log k a (Some m) = refl

-- an event on the clock, whose turn alone is held
pub clock_leads : (shards : ℕ) (v : View) (k : Clock) (e : Done) (m : ClockMove) → In e.by.pass (numbers v) → v.held ≡ record { turn = shards; part = OfClock k } ∷ [] → reach_of e.act ≡ reach.Clock
    → clock_move k (actor_of v.base v.actors e.by) (clock_event e.act k (actor_of v.base v.actors e.by)) ≡ m → e.answer ≡ m.answer
    → DoesOne shards v e (OfClock m.clock) [] m.actor
clock_leads shards v k e m own front at called says =
    subst (λ hs. DoesOne shards v e (OfClock m.clock) (behind (holding (OfClock m.clock ∷ []) hs)) m.actor) front
    (one_leads shards v reach.Clock e (record { answer = m.answer; parts = OfClock m.clock ∷ []; actor = m.actor }) (OfClock m.clock) own (ap (λ hs. held_turns hs) (sym front)) (ap (λ r. covers reach.Clock r) at)
    ((λ i. local_at (at i) v.limits v.base e.by e.act (held_parts (front i)) (actor_of v.base v.actors e.by))
    ∙ (clock_as k (actor_of v.base v.actors e.by) (clock_event e.act k (actor_of v.base v.actors e.by)) ∙ ap (λ (z : ClockMove). record { answer = z.answer; parts = OfClock z.clock ∷ []; actor = z.actor }) called))
    says
    (subst (λ hs. IsLeft v.base (OfClock m.clock) (holding (OfClock m.clock ∷ []) hs)) (sym front) refl))

-- an event on the log part, whose turn alone is held
pub log_leads : (shards : ℕ) (v : View) (log : LogPart) (e : Done) (m : LogMove) → In e.by.pass (numbers v) → v.held ≡ record { turn = shards + 1; part = OfLog log } ∷ [] → reach_of e.act ≡ reach.Log
    → log_move log (actor_of v.base v.actors e.by) (log_event e.act e.by log (actor_of v.base v.actors e.by)) ≡ m → e.answer ≡ m.answer
    → DoesOne shards v e (OfLog m.log) [] m.actor
log_leads shards v log e m own front at called says =
    subst (λ hs. DoesOne shards v e (OfLog m.log) (behind (holding (OfLog m.log ∷ []) hs)) m.actor) front
    (one_leads shards v reach.Log e (record { answer = m.answer; parts = OfLog m.log ∷ []; actor = m.actor }) (OfLog m.log) own (ap (λ hs. held_turns hs) (sym front)) (ap (λ r. covers reach.Log r) at)
    ((λ i. local_at (at i) v.limits v.base e.by e.act (held_parts (front i)) (actor_of v.base v.actors e.by))
    ∙ (log_as log (actor_of v.base v.actors e.by) (log_event e.act e.by log (actor_of v.base v.actors e.by)) ∙ ap (λ (z : LogMove). record { answer = z.answer; parts = OfLog z.log ∷ []; actor = z.actor }) called))
    says
    (subst (λ hs. IsLeft v.base (OfLog m.log) (holding (OfLog m.log ∷ []) hs)) (sym front) refl))

-- an event on both, whose turns are held: the clock's is given, and the log's is held still
pub group_leads : (shards : ℕ) (v : View) (log : LogPart) (k : Clock) (e : Done) (m : GroupMove) → In e.by.pass (numbers v)
    → v.held ≡ record { turn = shards; part = OfClock k } ∷ record { turn = shards + 1; part = OfLog log } ∷ [] → reach_of e.act ≡ reach.LogAndClock
    → group_move log k (actor_of v.base v.actors e.by) (group_event e.act e.by log k (actor_of v.base v.actors e.by)) ≡ m → e.answer ≡ m.answer
    → DoesOne shards v e (OfClock m.clock) (record { turn = shards + 1; part = OfLog m.log } ∷ []) m.actor
group_leads shards v log k e m own front at called says =
    subst (λ hs. DoesOne shards v e (OfClock m.clock) (behind (holding (OfLog m.log ∷ OfClock m.clock ∷ []) hs)) m.actor) front
    (one_leads shards v reach.LogAndClock e (record { answer = m.answer; parts = OfLog m.log ∷ OfClock m.clock ∷ []; actor = m.actor }) (OfClock m.clock) own (ap (λ hs. held_turns hs) (sym front)) (ap (λ r. covers reach.LogAndClock r) at)
    ((λ i. local_at (at i) v.limits v.base e.by e.act (held_parts (front i)) (actor_of v.base v.actors e.by))
    ∙ (group_as log k (actor_of v.base v.actors e.by) (group_event e.act e.by log k (actor_of v.base v.actors e.by)) ∙ ap (λ (z : GroupMove). record { answer = z.answer; parts = OfLog z.log ∷ OfClock z.clock ∷ []; actor = z.actor }) called))
    says
    (subst (λ hs. IsLeft v.base (OfClock m.clock) (holding (OfLog m.log ∷ OfClock m.clock ∷ []) hs)) (sym front) refl))

-- an event on the clock, beside the log's turn
pub clock_beside : (shards : ℕ) (v : View) (log : LogPart) (k : Clock) (e : Done) (m : ClockMove) → In e.by.pass (numbers v)
    → v.held ≡ record { turn = shards; part = OfClock k } ∷ record { turn = shards + 1; part = OfLog log } ∷ [] → reach_of e.act ≡ reach.Clock
    → clock_move k (actor_of v.base v.actors e.by) (clock_event e.act k (actor_of v.base v.actors e.by)) ≡ m → e.answer ≡ m.answer
    → DoesOne shards v e (OfClock m.clock) (record { turn = shards + 1; part = OfLog log } ∷ []) m.actor
clock_beside shards v log k e m own front at called says =
    subst (λ hs. DoesOne shards v e (OfClock m.clock) (behind (holding (OfLog log ∷ OfClock m.clock ∷ []) hs)) m.actor) front
    (one_leads shards v reach.LogAndClock e (record { answer = m.answer; parts = OfLog log ∷ OfClock m.clock ∷ []; actor = m.actor }) (OfClock m.clock) own (ap (λ hs. held_turns hs) (sym front)) (ap (λ r. covers reach.LogAndClock r) at)
    ((λ i. local_at (at i) v.limits v.base e.by e.act (held_parts (front i)) (actor_of v.base v.actors e.by))
    ∙ (ap (λ z. log_first (OfLog log) z) (clock_as k (actor_of v.base v.actors e.by) (clock_event e.act k (actor_of v.base v.actors e.by))) ∙ ap (λ (z : ClockMove). record { answer = z.answer; parts = OfLog log ∷ OfClock z.clock ∷ []; actor = z.actor }) called))
    says
    (subst (λ hs. IsLeft v.base (OfClock m.clock) (holding (OfLog log ∷ OfClock m.clock ∷ []) hs)) (sym front) refl))

-- an event on the log part beside the clock's turn, and others after it
pub log_first_leads : (shards : ℕ) (v : View) (log : LogPart) (k : Clock) (e : Done) (m : LogMove) (es : List Done) (part : Part) → In e.by.pass (numbers v)
    → v.held ≡ record { turn = shards; part = OfClock k } ∷ record { turn = shards + 1; part = OfLog log } ∷ [] → reach_of e.act ≡ reach.Log
    → log_move log (actor_of v.base v.actors e.by) (log_event e.act e.by log (actor_of v.base v.actors e.by)) ≡ m → e.answer ≡ m.answer
    → Leads shards (going_on_log shards k m e v) es part → Leads shards v (e ∷ es) part × (giving (e ∷ es) v ≡ giving es (going_on_log shards k m e v))
log_first_leads shards v log k e m es part own front at called says leads = (
  (
    (
      own,
      (reach.LogAndClock, ap (λ hs. held_turns hs) (sym front), ap (λ r. covers reach.LogAndClock r) at),
      says ∙ ap (λ z. z.answer) (sym moves),
      subst (λ (w : Work). Happen v.base shards (numbers v) w es) (sym works) leads.0,
    ),
    subst (λ (w : Work). IsLeft v.base part (after_events v.base w es).held) (sym works) leads.1,
  ),
  λ i. record v {
    held = behind (after_events v.base (works i) es).held;
    actors = (after_events v.base (works i) es).actors;
    events = noted_then i;
    seen = clocks_after (after_events v.base (works i) es).held v.seen;
    seen_logs = logs_after (after_events v.base (works i) es).held v.seen_logs;
  },
)
  where
    a : Actor
    a = actor_of v.base v.actors e.by

    moves : move_on v.base (work_of v) e ≡ record { answer = m.answer; parts = OfLog m.log ∷ OfClock k ∷ []; actor = m.actor }
    moves = (λ i. local_at (at i) v.limits v.base e.by e.act (held_parts (front i)) (actor_of v.base v.actors e.by))
        ∙ (ap (λ z. clock_last (OfClock k) z) (log_as log (actor_of v.base v.actors e.by) (log_event e.act e.by log (actor_of v.base v.actors e.by)))
        ∙ ap (λ (z : LogMove). record { answer = z.answer; parts = OfLog z.log ∷ OfClock k ∷ []; actor = z.actor }) called)

    works : moved e.by (move_on v.base (work_of v) e) (work_of v) ≡ work_of (going_on_log shards k m e v)
    works = λ i. moved e.by (moves i) (record { limits = v.limits; held = front i; actors = v.actors })

    noted_then : (giving (e ∷ es) v).events ≡ (v.events ++ Did e m.actor ∷ []) ++ notes_of v.base (work_of (going_on_log shards k m e v)) es
    noted_then = (λ i. v.events ++ Did e (moves i).actor ∷ notes_of v.base (works i) es) ∙ sym (append_assoc v.events (Did e m.actor ∷ []) (notes_of v.base (work_of (going_on_log shards k m e v)) es))

-- These rows are what an event left of a row, and of all others what they were.
says_moved : (base : Base) (x : ℕ) (rows rows' : List VertexRow) (a : Actor) (o : Option RowMove) → row_of base rows' x ≡ (row_move (row_of base rows x) a o).row → ((w : ℕ) → w ≢ x → row_of base rows' w ≡ row_of base rows w)
    → (hs : List Held) (turn : ℕ) (p : Part) → hs ≡ record { turn = turn; part = p } ∷ [] → IsLeft base (OfShard rows') (holding (row_local rows x a o).parts hs)
says_moved base x rows rows' a None here there hs turn p front = subst (λ z. IsLeft base (OfShard rows') (holding (OfShard rows ∷ []) z)) (sym front)
    (λ w. ⊎_elim (λ (e : w ≡ x). subst (λ u. row_of base rows' u ≡ row_of base rows u) (sym e) here) (λ (n : w ≢ x). there w n) (cases_eq w x))
says_moved base x rows rows' a (Some m) here there hs turn p front = subst (λ z. IsLeft base (OfShard rows') (holding (OfShard (with_row_of (record { vertex = x; row = m.row }) rows) ∷ []) z)) (sym front)
    (λ w. ⊎_elim
    (λ (e : w ≡ x). subst (λ u. row_of base rows' u ≡ row_of base (with_row_of (record { vertex = x; row = m.row }) rows) u) (sym e) (here ∙ sym (row_here base (record { vertex = x; row = m.row }) rows)))
    (λ (n : w ≢ x). there w n ∙ sym (row_there base (record { vertex = x; row = m.row }) rows w n)) (cases_eq w x))

row_answers : (base : Base) (rows : List VertexRow) (x : ℕ) (a : Actor) (o : Option RowMove) → (row_local rows x a o).answer ≡ (row_move (row_of base rows x) a o).answer
row_answers base rows x a None = refl
row_answers base rows x a (Some m) = refl

row_actors : (base : Base) (rows : List VertexRow) (x : ℕ) (a : Actor) (o : Option RowMove) → (row_local rows x a o).actor ≡ (row_move (row_of base rows x) a o).actor
row_actors base rows x a None = refl
row_actors base rows x a (Some m) = refl

none_left : (ps : List Part) (h : Held) → behind (holding ps (h ∷ [])) ≡ []
none_left [] h = refl
none_left (p ∷ []) h = refl
none_left (p ∷ q ∷ []) h = refl
none_left (p ∷ q ∷ r ∷ ps) h = refl

-- an event on the row of the vertex x, under the turn of its shard, whose rows say then what it left
pub row_leads : (shards x : ℕ) (v : View) (rows rows' : List VertexRow) (e : Done) (m : RowMove) → In e.by.pass (numbers v) → v.held ≡ record { turn = x % shards; part = OfShard rows } ∷ [] → reach_of e.act ≡ reach.Row x
    → row_move (row_of v.base rows x) (actor_of v.base v.actors e.by) (row_event v.limits e.act (row_of v.base rows x) (actor_of v.base v.actors e.by)) ≡ m → e.answer ≡ m.answer
    → row_of v.base rows' x ≡ m.row → ((w : ℕ) → w ≢ x → row_of v.base rows' w ≡ row_of v.base rows w)
    → DoesOne shards v e (OfShard rows') [] m.actor
row_leads shards x v rows rows' e m own front at called says here there =
    subst (λ (z : List Held × Actor). DoesOne shards v e (OfShard rows') z.0 z.1)
    (λ i. ((ap (λ hs. behind (holding (row_local rows x a o).parts hs)) front ∙ none_left (row_local rows x a o).parts (record { turn = x % shards; part = OfShard rows })) i, (row_actors v.base rows x a o ∙ ap (λ (z : RowMove). z.actor) called) i))
    (one_leads shards v (reach.Row x) e (row_local rows x a o) (OfShard rows') own (ap (λ hs. held_turns hs) (sym front)) (ap (λ r. covers (reach.Row x) r) at ∙ eq-eqb x x refl)
    (λ i. local_at (at i) v.limits v.base e.by e.act (held_parts (front i)) a)
    (says ∙ (ap (λ (z : RowMove). z.answer) (sym called) ∙ sym (row_answers v.base rows x a o)))
    (says_moved v.base x rows rows' a o (here ∙ ap (λ (z : RowMove). z.row) (sym called)) there v.held (x % shards) (OfShard rows) front))
  where
    a : Actor
    a = actor_of v.base v.actors e.by

    o : Option RowMove
    o = row_event v.limits e.act (row_of v.base rows x) (actor_of v.base v.actors e.by)

-- a row that is loaded as it is says no more than before
pub loaded_same : (base : Base) (rows : List VertexRow) (x : ℕ) → SaysSame base (OfShard (with_row_of (record { vertex = x; row = row_of base rows x }) rows)) (OfShard rows)
loaded_same base rows x w = ⊎_elim
    (λ (e : w ≡ x). subst (λ u. row_of base (with_row_of (record { vertex = x; row = row_of base rows x }) rows) u ≡ row_of base rows u) (sym e) (row_here base (record { vertex = x; row = row_of base rows x }) rows))
    (λ (n : w ≢ x). row_there base (record { vertex = x; row = row_of base rows x }) rows w n)
    (cases_eq w x)
