-- Every number that was drawn has one actor, and no event changes whose it is.
use Rattle.core_states.specs.declared.event.Reach.TheVariants as reach
use Rattle.core_kept.proofs.GroupSteps.{if_log, if_group}
use Rattle.core_states.specs.declared.event.Reach.{Reach}
use Rattle.core_states.specs.LogParts.{LogPart, Found, is_held_by, may_take}
use Rattle.core_states.specs.LogEvents.{told, LogMove, GroupMove, writes, mends, collects, publishes, fails}
use Rattle.std.proofs.Common.{◌≡◌, ◌≢◌, ℕ, ◌+◌, ◌<◌, ◌≤◌, Bool, true, false, not, ◌&&◌, ◌||◌, List, [], ◌∷◌, length, map, refl, sym, ap, ◌∙◌, subst, arith, Option, Some, None, ⊎_elim, ◌⊎◌, inl, inr, is_some, nat_lt, nat_le}
use Rattle.std.proofs.lemmas.Bool.{cases_eq, eq-eqb, eqb-true, ne_eqb, and_from, or_cases, or_left, or_right, false≢true}
use Rattle.std.specs.Prelude.{if◌then◌else◌, ◌==◌}
use Rattle.std.specs.List.{list_any}
use Rattle.graph_model.specs.declared.change.Change.{Change}
use Rattle.graph_model.specs.declared.change.Change.TheVariants.{New, Set, Drop, Put, Del}
use Rattle.graph_model.specs.declared.graph.Base.{Base}
use Rattle.graph_model.specs.declared.record.Outcome.{Outcome}
use Rattle.graph_model.specs.declared.record.Outcome.TheVariants.{Committed, Failed}
use Rattle.graph_model.specs.declared.record.Record.{Record}
use Rattle.graph_model.specs.Whole.{all_differ}
use Rattle.graph_model.specs.Records.{number_end, has_destination}
use Rattle.vertex_locks.specs.declared.answer.Look.{Look}
use Rattle.vertex_locks.specs.declared.answer.Look.TheVariants.{Taken, Held, Conflict}
use Rattle.core_rows.specs.Rows.{Row, lock_answer}
use Rattle.core_states.specs.declared.actor.Actor.{Actor}
use Rattle.core_states.specs.declared.clock.Clock.{Clock}
use Rattle.core_states.specs.declared.event.Act.{Act}
use Rattle.core_states.specs.declared.event.Act.TheVariants as act
use Rattle.core_states.specs.declared.event.CoreAnswer.{CoreAnswer}
use Rattle.core_states.specs.declared.transaction.Stage.TheVariants.{Decided}
use Rattle.core_states.specs.declared.transaction.Transaction.{Transaction}
use Rattle.core_states.specs.Names.{Name, set_name}
use Rattle.core_states.specs.Numbers.{has_number, all_in, outcome_of, has_record}
use Rattle.core_states.specs.Transactions.{is_queued, is_loser, won_epoch, is_working, holds, with_stage, after_outcome, with_txn}
use Rattle.core_states.specs.ClockEvents.{ClockMove, for_txn, for_none, done_at, sees}
use Rattle.core_states.specs.RowEvents.{RowMove, Limits, has_vertex, is_long, changes, refusal, by_refusal, by_look, looks_by, applies_at}
use Rattle.core_states.specs.States.{State, clock_event, row_event, after_clock, after_row, after_at, after, first_name, log_event, group_event, after_log, after_group, reach_of}
use Rattle.core_states.specs.Openings.{opening}
use Rattle.core_states.specs.Draws.{Drawn, with_tid, tids_of, TidsDrawn, VerticesDrawn}
use Rattle.core_states.proofs.Names.{set_name_here, set_name_there, cases_name}

-- ---- numbers

none_drawn : (low : ℕ) → Drawn low low (λ i. [])
none_drawn low = record { drawer = λ n. first_name 0; range = omega arith; kept = λ i n h. absurd (false≢true h); each = λ n a b. absurd (omega (arith, a, b)); once = λ i. refl }

same_numbers : (low next : ℕ) (f g : Name → List ℕ) → ((i : Name) → g i ≡ f i) → Drawn low next f → Drawn low next g
same_numbers low next f g same d = subst (Drawn low next) (λ k i. sym (same i) k) d

not_any : (n : ℕ) (ns : List ℕ) → has_number n ns ≡ list_any (λ y. y == n) ns
not_any n [] = refl
not_any n (x ∷ ns) = ap (λ b. (x == n) || b) (not_any n ns)

-- An actor draws the next number.
draw_next : (low next : ℕ) (f g : Name → List ℕ) (i : Name) → g i ≡ next ∷ f i → ((j : Name) → j ≢ i → g j ≡ f j) → Drawn low next f → Drawn low (next + 1) g
draw_next low next f g i here there d = record {
  drawer = λ n. if n == next then i else d.drawer n;
  range = (let l = d.range in omega (arith, l));
  kept = λ j n h. ⊎_elim
      (λ (e : j ≡ i). ⊎_elim
      (λ (is : (next == n) ≡ true). let q = eqb-true next n is in let l = d.range in (rw (eq-eqb n next (sym q)) (sym e), omega (arith, q, l), omega (arith, q)))
      (λ (old : has_number n (f i) ≡ true). was j n (subst (λ z. (d.drawer n ≡ z) × (low ≤ n) × (n < next)) (sym e) (d.kept i n old)))
      (or_cases (next == n) (has_number n (f i)) (sym (ap (has_number n) (ap g e ∙ here)) ∙ h)))
      (λ (ne : j ≢ i). was j n (d.kept j n (sym (ap (has_number n) (there j ne)) ∙ h)))
      (cases_name j i);
  each = λ n low high. ⊎_elim
      (λ (is : n ≡ next). rw (eq-eqb n next is) (ap (has_number n) here ∙ or_left (next == n) (has_number n (f i)) (eq-eqb next n (sym is))))
      (λ (ne : n ≢ next). rw (ne_eqb n next ne) (old n (d.each n low (omega (arith, high, ne)))))
      (cases_eq n next);
  once = λ j. ⊎_elim
      (λ (e : j ≡ i). ap all_differ (ap g e ∙ here) ∙ and_from (not (list_any (λ y. y == next) (f i))) (all_differ (f i)) (ap not (sym (not_any next (f i)) ∙ new)) (d.once i))
      (λ (ne : j ≢ i). ap all_differ (there j ne) ∙ d.once j)
      (cases_name j i);
}
  where
    was : (j : Name) (n : ℕ) → (d.drawer n ≡ j) × (low ≤ n) × (n < next) → ((if n == next then i else d.drawer n) ≡ j) × (low ≤ n) × (n < next + 1)
    was j n h = let lt = h.2 in (rw (ne_eqb n next (λ e. omega (arith, e, lt))) h.0, h.1, omega (arith, lt))

    old : (n : ℕ) → has_number n (f (d.drawer n)) ≡ true → has_number n (g (d.drawer n)) ≡ true
    old n h = ⊎_elim
        (λ (e : d.drawer n ≡ i). ap (has_number n) (ap g e ∙ here) ∙ or_right (next == n) (has_number n (f i)) (ap (λ k. has_number n (f k)) (sym e) ∙ h))
        (λ (ne : d.drawer n ≢ i). ap (has_number n) (there (d.drawer n) ne) ∙ h)
        (cases_name (d.drawer n) i)

    is_false : (b : Bool) → (b ≡ true → ⊥) → b ≡ false
    is_false true h = absurd (h refl)
    is_false false h = refl

    new : has_number next (f i) ≡ false
    new = is_false (has_number next (f i)) (λ h. let lt = (d.kept i next h).2 in omega (arith, lt))

-- A move keeps the numbers, or draws the next one.
abbrev Draws : ℕ → List ℕ → ℕ → List ℕ → Type 0
Draws n ns m ms = ((m ≡ n) × (ms ≡ ns)) ⊎ ((m ≡ n + 1) × (ms ≡ n ∷ ns))

moved : (low : ℕ) (f : Actor → List ℕ) (actor : Name → Actor) (i : Name) (a : Actor) (n m : ℕ) → Draws n (f (actor i)) m (f a) → Drawn low n (λ j. f (actor j)) → Drawn low m (λ j. f (set_name actor i a j))
moved low f actor i a n m draws d = ⊎_elim
    (λ (h : (m ≡ n) × (f a ≡ f (actor i))). subst (λ k. Drawn low k (λ j. f (set_name actor i a j))) (sym h.0)
    (same_numbers low n (λ j. f (actor j)) (λ j. f (set_name actor i a j)) (λ j. ⊎_elim
    (λ (e : j ≡ i). ap f (set_name_here actor i a j e) ∙ h.1 ∙ ap (λ k. f (actor k)) (sym e))
    (λ (ne : j ≢ i). ap f (set_name_there actor i a j ne))
    (cases_name j i)) d))
    (λ (h : (m ≡ n + 1) × (f a ≡ n ∷ f (actor i))). subst (λ k. Drawn low k (λ j. f (set_name actor i a j))) (sym h.0)
    (draw_next low n (λ j. f (actor j)) (λ j. f (set_name actor i a j)) i (ap f (set_name_here actor i a i refl) ∙ h.1) (λ j ne. ap f (set_name_there actor i a j ne)) d))
    draws

-- ---- what each move draws

-- both kinds of numbers
record Both (k : Clock) (a : Actor) (z : Clock) (b : Actor) : Type 0 where
  tids : Draws k.next_tid (tids_of a) z.next_tid (tids_of b)
  vertices : Draws k.next_vertex a.drew z.next_vertex b.drew

abbrev ClockDraws : Clock → Actor → Option ClockMove → Type 0
ClockDraws k a None = Unit {0}
ClockDraws k a (Some m) = Both k a m.clock m.actor

-- nothing is drawn
calm : (k : Clock) (a : Actor) (z : Clock) (b : Actor) → z.next_tid ≡ k.next_tid → z.next_vertex ≡ k.next_vertex → tids_of b ≡ tids_of a → b.drew ≡ a.drew → Both k a z b
calm k a z b tid vertex tids drew = record { tids = inl (tid, tids); vertices = inl (vertex, drew) }

-- a transaction goes on, or ends with a receipt
goes_on : (a : Actor) (x : Transaction) → a.txn ≡ Some x → x.tid ∷ map (λ r. r.tid) a.receipts ≡ tids_of a
goes_on a x at = ap (λ o. with_tid o (map (λ r. r.tid) a.receipts)) (sym at)

if_draws : (k : Clock) (a : Actor) (b : Bool) (m n : Option ClockMove) → ClockDraws k a m → ClockDraws k a n → ClockDraws k a (if b then m else n)
if_draws k a true m n x y = x
if_draws k a false m n x y = y

for_draws : (k : Clock) (a : Actor) (f : Transaction → Option ClockMove) (o : Option Transaction) → ((x : Transaction) → o ≡ Some x → ClockDraws k a (f x)) → ClockDraws k a (for_txn f o)
for_draws k a f None h = tt
for_draws k a f (Some x) h = h x refl

none_draws : (k : Clock) (a : Actor) (m : Option ClockMove) (o : Option Transaction) → (o ≡ None → ClockDraws k a m) → ClockDraws k a (for_none m o)
none_draws k a m None h = h refl
none_draws k a m (Some x) h = tt

told_tids : (d : Outcome) (rs : List Record) (o : Option Transaction) (ts : List ℕ) → with_tid (told d rs o) ts ≡ with_tid o ts
told_tids d rs None ts = refl
told_tids d rs (Some x) ts = by_test (has_record x.tid rs)
  where
    by_test : (b : Bool) → with_tid (if b then Some (with_stage x (Decided d)) else Some x) ts ≡ x.tid ∷ ts
    by_test true = refl
    by_test false = refl

heard_tid : (x : Transaction) (o : Option Outcome) → (after_outcome x o).tid ≡ x.tid
heard_tid x None = refl
heard_tid x (Some o) = refl

done_draws : (o : Option ℕ) (x : Transaction) (k : Clock) (a : Actor) → a.txn ≡ Some x → ClockDraws k a (done_at o x k a)
done_draws None x k a at = tt
done_draws (Some e) x k a at = if_draws k a (all_in x.touched x.settled) _ None (calm k a _ _ refl refl (goes_on a x at) refl) tt

sees_draws : (o : Option ℕ) (k : Clock) (a : Actor) → ClockDraws k a (sees o k a)
sees_draws None k a = tt
sees_draws (Some e) k a = calm k a k _ refl refl refl refl

clock_draws : (action : Act) (k : Clock) (a : Actor) → ClockDraws k a (clock_event action k a)
clock_draws act.Open k a = if_draws k a a.row None _ tt (calm k a k _ refl refl refl refl)
clock_draws act.Close k a = none_draws k a _ a.txn (λ _. if_draws k a a.row _ None (calm k a k _ refl refl refl refl) tt)
clock_draws act.Begin k a = none_draws k a _ a.txn (λ idle. if_draws k a (not a.row) None _ tt (if_draws k a (k.next_tid == number_end) _ _
    (calm k a k (with_txn a None) refl refl (ap (λ o. with_tid o (map (λ r. r.tid) a.receipts)) (sym idle)) refl)
    (record { tids = inr (refl, ap (λ o. k.next_tid ∷ with_tid o (map (λ r. r.tid) a.receipts)) (sym idle)); vertices = inl (refl, refl) })))
clock_draws act.Draw k a = for_draws k a _ a.txn (λ x at. if_draws k a (not (is_working x)) None _ tt (if_draws k a (k.next_vertex == number_end) _ _
    (calm k a k (with_txn a (Some x)) refl refl (goes_on a x at) refl)
    (record { tids = inl (refl, goes_on a x at); vertices = inr (refl, refl) })))
clock_draws act.Enqueue k a = for_draws k a _ a.txn (λ x at. if_draws k a (not (is_working x)) None _ tt (if_draws k a (length x.own == 0) None _ tt (calm k a _ _ refl refl (goes_on a x at) refl)))
clock_draws act.Collect k a = tt
clock_draws act.Publish k a = tt
clock_draws (act.Fail f c) k a = tt
clock_draws (act.WriteGroup m) k a = tt
clock_draws act.Mend k a = tt
clock_draws act.Outcome k a = for_draws k a _ a.txn (λ x at. if_draws k a (not (is_queued x.stage)) None _ tt
    (calm k a k _ refl refl (ap (λ t. t ∷ map (λ r. r.tid) a.receipts) (heard_tid x (outcome_of x.tid k.outcomes)) ∙ goes_on a x at) refl))
clock_draws act.Done k a = for_draws k a _ a.txn (λ x at. done_draws (won_epoch x.stage) x k a at)
clock_draws act.Seen k a = none_draws k a _ a.txn (λ _. sees_draws a.finished k a)
clock_draws act.End k a = for_draws k a _ a.txn (λ x at. if_draws k a (is_loser x.stage && all_in x.touched x.settled) _ None (calm k a _ _ refl refl (goes_on a x at) refl) tt)
clock_draws act.Horizon k a = calm k a k _ refl refl refl refl
clock_draws (act.Look v) k a = tt
clock_draws (act.Put v l d p) k a = tt
clock_draws (act.Del v l d) k a = tt
clock_draws (act.Set v p) k a = tt
clock_draws (act.Drop v) k a = tt
clock_draws (act.New v p) k a = tt
clock_draws (act.Read q) k a = tt
clock_draws (act.Apply v) k a = tt
clock_draws (act.Undo v) k a = tt

-- a move on a row draws nothing
abbrev Still : Actor → Option RowMove → Type 0
Still a None = Unit {0}
Still a (Some m) = (tids_of m.actor ≡ tids_of a) × (m.actor.drew ≡ a.drew)

if_still : (a : Actor) (b : Bool) (m n : Option RowMove) → Still a m → Still a n → Still a (if b then m else n)
if_still a true m n x y = x
if_still a false m n x y = y

for_still : (a : Actor) (f : Transaction → Option RowMove) (o : Option Transaction) → ((x : Transaction) → o ≡ Some x → Still a (f x)) → Still a (for_txn f o)
for_still a f None h = tt
for_still a f (Some x) h = h x refl

refusal_still : (o : Option CoreAnswer) (x : Transaction) (c : Change) (row : Row) (a : Actor) → a.txn ≡ Some x → Still a (by_refusal o x c row a)
refusal_still None x c row a at = (goes_on a x at, refl)
refusal_still (Some r) x c row a at = (goes_on a x at, refl)

look_still : (l : Look) (most : Limits) (x : Transaction) (c : Change) (row : Row) (a : Actor) → a.txn ≡ Some x → Still a (by_look l most x c row a)
look_still Taken most x c row a at = refusal_still (refusal most x c row) x c row a at
look_still (Held u) most x c row a at = tt
look_still (Conflict e) most x c row a at = tt

looked_still : (l : Look) (x : Transaction) (v : ℕ) (row : Row) (a : Actor) → a.txn ≡ Some x → Still a (looks_by l x v row a)
looked_still Taken x v row a at = tt
looked_still (Held u) x v row a at = (goes_on a x at, refl)
looked_still (Conflict e) x v row a at = (goes_on a x at, refl)

applied_still : (o : Option ℕ) (x : Transaction) (v : ℕ) (row : Row) (a : Actor) → a.txn ≡ Some x → Still a (applies_at o x v row a)
applied_still None x v row a at = tt
applied_still (Some e) x v row a at = if_still a (holds x v) _ None (goes_on a x at, refl) tt

changes_still : (most : Limits) (x : Transaction) (c : Change) (row : Row) (a : Actor) → a.txn ≡ Some x → Still a (changes most x c row a)
changes_still most x c row a at = if_still a (not (is_working x)) None _ tt (if_still a (not (has_vertex x row)) _ _ (goes_on a x at, refl) (look_still (lock_answer row x.tid x.read) most x c row a at))

still : (most : Limits) (action : Act) (row : Row) (a : Actor) → Still a (row_event most action row a)
still most (act.Look v) row a = for_still a _ a.txn (λ x at. if_still a (not (is_working x)) None _ tt (if_still a (not (has_vertex x row)) None _ tt (looked_still (lock_answer row x.tid x.read) x v row a at)))
still most (act.Put v l d p) row a = for_still a _ a.txn (λ x at. if_still a (has_destination (Put v l d p)) _ None (changes_still most x (Put v l d p) row a at) tt)
still most (act.Del v l d) row a = for_still a _ a.txn (λ x at. changes_still most x (Del v l d) row a at)
still most (act.Set v p) row a = for_still a _ a.txn (λ x at. changes_still most x (Set v p) row a at)
still most (act.Drop v) row a = for_still a _ a.txn (λ x at. changes_still most x (Drop v) row a at)
still most (act.New v p) row a = for_still a _ a.txn (λ x at. if_still a (not (is_working x)) None _ tt (if_still a (not (has_number v x.drawn)) None _ tt (if_still a (is_long most x (New v p)) _ _ (goes_on a x at, refl) (goes_on a x at, refl))))
still most (act.Read q) row a = for_still a _ a.txn (λ x at. if_still a (not (is_working x)) None _ tt (goes_on a x at, refl))
still most (act.Apply v) row a = for_still a _ a.txn (λ x at. applied_still (won_epoch x.stage) x v row a at)
still most (act.Undo v) row a = for_still a _ a.txn (λ x at. if_still a (is_loser x.stage && holds x v) _ None (goes_on a x at, refl) tt)
still most act.Open row a = tt
still most act.Close row a = tt
still most act.Begin row a = tt
still most act.Draw row a = tt
still most act.Enqueue row a = tt
still most act.Collect row a = tt
still most act.Publish row a = tt
still most act.Outcome row a = tt
still most act.Done row a = tt
still most act.Seen row a = tt
still most act.End row a = tt
still most act.Horizon row a = tt
still most (act.Fail f c) row a = tt
still most (act.WriteGroup m) row a = tt
still most act.Mend row a = tt

-- and so does one on the log part
abbrev LogDraws : Actor → Option LogMove → Type 0
LogDraws a None = Unit {0}
LogDraws a (Some m) = (tids_of m.actor ≡ tids_of a) × (m.actor.drew ≡ a.drew)

abbrev GroupDraws : Clock → Actor → Option GroupMove → Type 0
GroupDraws k a None = Unit {0}
GroupDraws k a (Some m) = Both k a m.clock m.actor

writes_draws : (moment : ℕ) (i : Name) (log : LogPart) (a : Actor) → LogDraws a (writes moment i log a)
writes_draws moment i log a =
    if_log (LogDraws a) (not (is_held_by i log.holder)) None _ (λ _. tt) (λ _. if_log (LogDraws a) a.written None _ (λ _. tt) (λ _. if_log (LogDraws a) (not log.mended) None _ (λ _. tt)
    (λ _. if_log (LogDraws a) (nat_lt moment log.moment) None _ (λ _. tt) (λ _. (refl, refl)))))

mends_draws : (i : Name) (log : LogPart) (a : Actor) → LogDraws a (mends i log a)
mends_draws i log a = if_log (LogDraws a) log.mended None _ (λ _. tt) (λ _. if_log (LogDraws a) (not (may_take i log.holder)) None _ (λ _. tt) (λ _. (refl, refl)))

log_draws : (action : Act) (i : Name) (log : LogPart) (a : Actor) → LogDraws a (log_event action i log a)
log_draws act.Open i log a = tt
log_draws act.Close i log a = tt
log_draws act.Begin i log a = tt
log_draws act.Draw i log a = tt
log_draws act.Enqueue i log a = tt
log_draws act.Collect i log a = tt
log_draws act.Publish i log a = tt
log_draws (act.Fail f c) i log a = tt
log_draws act.Outcome i log a = tt
log_draws act.Done i log a = tt
log_draws act.Seen i log a = tt
log_draws act.End i log a = tt
log_draws act.Horizon i log a = tt
log_draws (act.Look v) i log a = tt
log_draws (act.Put v l d p) i log a = tt
log_draws (act.Del v l d) i log a = tt
log_draws (act.Set v p) i log a = tt
log_draws (act.Drop v) i log a = tt
log_draws (act.New v p) i log a = tt
log_draws (act.Read q) i log a = tt
log_draws (act.Apply v) i log a = tt
log_draws (act.Undo v) i log a = tt
log_draws (act.WriteGroup m) i log a = writes_draws m i log a
log_draws act.Mend i log a = mends_draws i log a

collects_draws : (i : Name) (log : LogPart) (k : Clock) (a : Actor) → GroupDraws k a (collects i log k a)
collects_draws i log k a = if_group (GroupDraws k a) (is_some log.holder) None _ (λ _. tt) (λ _. if_group (GroupDraws k a) (length k.queue == 0) None _ (λ _. tt) (λ _. calm k a _ _ refl refl refl refl))

publishes_draws : (i : Name) (log : LogPart) (k : Clock) (a : Actor) → GroupDraws k a (publishes i log k a)
publishes_draws i log k a = if_group (GroupDraws k a) (not (is_held_by i log.holder)) None _ (λ _. tt) (λ _. if_group (GroupDraws k a) (not a.written) None _ (λ _. tt)
    (λ _. calm k a _ _ refl refl (told_tids (Committed (k.last + 1)) a.group a.txn (map (λ r. r.tid) a.receipts)) refl))

fails_draws : (f c : ℕ) (i : Name) (log : LogPart) (k : Clock) (a : Actor) → GroupDraws k a (fails f c i log k a)
fails_draws f c i log k a = if_group (GroupDraws k a) (not (is_held_by i log.holder)) None _ (λ _. tt) (λ _. if_group (GroupDraws k a) a.written None _ (λ _. tt)
    (λ _. if_group (GroupDraws k a) (not (nat_lt f c && nat_le log.greatest f)) None _ (λ _. tt) (λ _. calm k a _ _ refl refl (told_tids (Failed f c) a.group a.txn (map (λ r. r.tid) a.receipts)) refl)))

group_draws : (action : Act) (i : Name) (log : LogPart) (k : Clock) (a : Actor) → GroupDraws k a (group_event action i log k a)
group_draws act.Open i log k a = tt
group_draws act.Close i log k a = tt
group_draws act.Begin i log k a = tt
group_draws act.Draw i log k a = tt
group_draws act.Enqueue i log k a = tt
group_draws act.Collect i log k a = collects_draws i log k a
group_draws act.Publish i log k a = publishes_draws i log k a
group_draws (act.Fail f c) i log k a = fails_draws f c i log k a
group_draws act.Outcome i log k a = tt
group_draws act.Done i log k a = tt
group_draws act.Seen i log k a = tt
group_draws act.End i log k a = tt
group_draws act.Horizon i log k a = tt
group_draws (act.Look v) i log k a = tt
group_draws (act.Put v l d p) i log k a = tt
group_draws (act.Del v l d) i log k a = tt
group_draws (act.Set v p) i log k a = tt
group_draws (act.Drop v) i log k a = tt
group_draws (act.New v p) i log k a = tt
group_draws (act.Read q) i log k a = tt
group_draws (act.Apply v) i log k a = tt
group_draws (act.Undo v) i log k a = tt
group_draws (act.WriteGroup m) i log k a = tt
group_draws act.Mend i log k a = tt

-- ---- every event of every actor

clock_tids : (base : Base) (s : State) (i : Name) (m : Option ClockMove) → ClockDraws s.clock (s.actor i) m → TidsDrawn base s → TidsDrawn base (after_clock s i m)
clock_tids base s i None h d = d
clock_tids base s i (Some m) h d = moved base.next_tid tids_of s.actor i m.actor s.clock.next_tid m.clock.next_tid h.tids d

clock_vertices : (base : Base) (s : State) (i : Name) (m : Option ClockMove) → ClockDraws s.clock (s.actor i) m → VerticesDrawn base s → VerticesDrawn base (after_clock s i m)
clock_vertices base s i None h d = d
clock_vertices base s i (Some m) h d = moved base.next_vertex (λ a. a.drew) s.actor i m.actor s.clock.next_vertex m.clock.next_vertex h.vertices d

row_tids : (base : Base) (s : State) (i : Name) (v : ℕ) (m : Option RowMove) → Still (s.actor i) m → TidsDrawn base s → TidsDrawn base (after_row s i v m)
row_tids base s i v None h d = d
row_tids base s i v (Some m) h d = moved base.next_tid tids_of s.actor i m.actor s.clock.next_tid s.clock.next_tid (inl (refl, h.0)) d

row_vertices : (base : Base) (s : State) (i : Name) (v : ℕ) (m : Option RowMove) → Still (s.actor i) m → VerticesDrawn base s → VerticesDrawn base (after_row s i v m)
row_vertices base s i v None h d = d
row_vertices base s i v (Some m) h d = moved base.next_vertex (λ a. a.drew) s.actor i m.actor s.clock.next_vertex s.clock.next_vertex (inl (refl, h.1)) d

log_tids : (base : Base) (s : State) (i : Name) (m : Option LogMove) → LogDraws (s.actor i) m → TidsDrawn base s → TidsDrawn base (after_log s i m)
log_tids base s i None h d = d
log_tids base s i (Some m) h d = moved base.next_tid tids_of s.actor i m.actor s.clock.next_tid s.clock.next_tid (inl (refl, h.0)) d

log_vertices : (base : Base) (s : State) (i : Name) (m : Option LogMove) → LogDraws (s.actor i) m → VerticesDrawn base s → VerticesDrawn base (after_log s i m)
log_vertices base s i None h d = d
log_vertices base s i (Some m) h d = moved base.next_vertex (λ a. a.drew) s.actor i m.actor s.clock.next_vertex s.clock.next_vertex (inl (refl, h.1)) d

group_tids : (base : Base) (s : State) (i : Name) (m : Option GroupMove) → GroupDraws s.clock (s.actor i) m → TidsDrawn base s → TidsDrawn base (after_group s i m)
group_tids base s i None h d = d
group_tids base s i (Some m) h d = moved base.next_tid tids_of s.actor i m.actor s.clock.next_tid m.clock.next_tid h.tids d

group_vertices : (base : Base) (s : State) (i : Name) (m : Option GroupMove) → GroupDraws s.clock (s.actor i) m → VerticesDrawn base s → VerticesDrawn base (after_group s i m)
group_vertices base s i None h d = d
group_vertices base s i (Some m) h d = moved base.next_vertex (λ a. a.drew) s.actor i m.actor s.clock.next_vertex m.clock.next_vertex h.vertices d

pub opened_tids : (base : Base) (found : Found) → TidsDrawn base (opening base found)
opened_tids base found = none_drawn base.next_tid

pub opened_vertices : (base : Base) (found : Found) → VerticesDrawn base (opening base found)
opened_vertices base found = none_drawn base.next_vertex

pub tids_drawn : (base : Base) (most : Limits) (s : State) (i : Name) (action : Act) → TidsDrawn base s → TidsDrawn base (after most s i action)
tids_drawn base most s i action d = by_reach (reach_of action)
  where
    by_reach : (r : Reach) → TidsDrawn base (after_at r most s i action)
    by_reach reach.Clock = clock_tids base s i (clock_event action s.clock (s.actor i)) (clock_draws action s.clock (s.actor i)) d
    by_reach (reach.Row v) = row_tids base s i v (row_event most action (s.row v) (s.actor i)) (still most action (s.row v) (s.actor i)) d
    by_reach reach.Log = log_tids base s i (log_event action i s.log (s.actor i)) (log_draws action i s.log (s.actor i)) d
    by_reach reach.LogAndClock = group_tids base s i (group_event action i s.log s.clock (s.actor i)) (group_draws action i s.log s.clock (s.actor i)) d

pub vertices_drawn : (base : Base) (most : Limits) (s : State) (i : Name) (action : Act) → VerticesDrawn base s → VerticesDrawn base (after most s i action)
vertices_drawn base most s i action d = by_reach (reach_of action)
  where
    by_reach : (r : Reach) → VerticesDrawn base (after_at r most s i action)
    by_reach reach.Clock = clock_vertices base s i (clock_event action s.clock (s.actor i)) (clock_draws action s.clock (s.actor i)) d
    by_reach (reach.Row v) = row_vertices base s i v (row_event most action (s.row v) (s.actor i)) (still most action (s.row v) (s.actor i)) d
    by_reach reach.Log = log_vertices base s i (log_event action i s.log (s.actor i)) (log_draws action i s.log (s.actor i)) d
    by_reach reach.LogAndClock = group_vertices base s i (group_event action i s.log s.clock (s.actor i)) (group_draws action i s.log s.clock (s.actor i)) d
