-- No event that is enabled answers NotEnabled.
use Rattle.std.proofs.Common.{◌≡◌, ℕ, Bool, true, false, List, refl, sym, ap, ◌∙◌, arith}
use Rattle.std.specs.Prelude.{Option, Some, None, is_some}
use Rattle.std.proofs.lemmas.Bool.Decides.{nat_tests}
use Rattle.graph_model.specs.declared.change.Change.{Change}
use Rattle.graph_model.specs.declared.change.Change.TheVariants.{New, Set, Drop, Put, Del}
use Rattle.graph_model.specs.declared.query.Query.{Query}
use Rattle.vertex_locks.specs.declared.answer.Look.{Look}
use Rattle.vertex_locks.specs.declared.answer.Look.TheVariants.{Taken, Held, Conflict}
use Rattle.core_rows.specs.Rows.{Row, lock_answer}
use Rattle.core_states.specs.declared.actor.Actor.{Actor}
use Rattle.core_states.specs.declared.clock.Clock.{Clock}
use Rattle.core_states.specs.declared.event.Act.{Act}
use Rattle.core_states.specs.declared.event.Act.TheVariants as act
use Rattle.core_states.specs.declared.event.CoreAnswer.{CoreAnswer}
use Rattle.core_states.specs.declared.event.CoreAnswer.TheVariants as answer
use Rattle.core_states.specs.declared.transaction.Transaction.{Transaction}
use Rattle.core_states.specs.Names.{Name}
use Rattle.core_states.specs.Transactions.{won_epoch}
use Rattle.core_states.specs.ClockEvents.{ClockMove, for_txn, for_none, opens, closes, begins, draws, enqueues, hears, done_at, sees, ends}
use Rattle.core_states.specs.RowEvents.{RowMove, Limits, made, refusal, by_refusal, by_look, changes, puts, news, looks, looks_by, reads, applies_at, undoes}
use Rattle.core_states.specs.States.{State, clock_event, row_event, log_event, group_event, reach_of, clock_answer, row_answer, log_answer, group_answer, after_clock, after_row, after_log, after_group}
use Rattle.core_states.specs.LogParts.{LogPart}
use Rattle.core_states.specs.LogEvents.{LogMove, GroupMove, writes, mends, collects, publishes, fails}
use Rattle.core_states.specs.declared.event.Reach.{Reach}
use Rattle.core_states.specs.declared.event.Reach.TheVariants as reach
use Rattle.core_states.specs.Names.{Name}
use Rattle.core_states.specs.Enabled.{TellsEnabled}

-- whether an answer says that the event was enabled
abbrev says : CoreAnswer → Bool
says answer.NotEnabled = false
says answer.Done = true
says (answer.Begun t e) = true
says (answer.Number v) = true
says answer.Spent = true
says (answer.Learnt h o) = true
says (answer.Collected n) = true
says (answer.Published e) = true
says (answer.Kept o) = true
says (answer.Visible b) = true
says (answer.Held t) = true
says (answer.Conflict e) = true
says answer.NoVertex = true
says answer.TxnFull = true
says answer.LogFull = true
says answer.Added = true
says answer.Replaced = true
says answer.Gone = true
says answer.Absent = true
says (answer.Shown a) = true

-- A move says so.
abbrev clock_says : Option ClockMove → Bool
clock_says None = true
clock_says (Some m) = says m.answer

abbrev row_says : Option RowMove → Bool
row_says None = true
row_says (Some m) = says m.answer

abbrev log_says : Option LogMove → Bool
log_says None = true
log_says (Some m) = says m.answer

abbrev group_says : Option GroupMove → Bool
group_says None = true
group_says (Some m) = says m.answer

abbrev refusal_says : Option CoreAnswer → Bool
refusal_says None = true
refusal_says (Some a) = says a

for_txn_says : {M : Type 0} (p : Option M → Bool) (f : Transaction → Option M) (o : Option Transaction) → p None ≡ true → ((x : Transaction) → p (f x) ≡ true) → p (for_txn f o) ≡ true
for_txn_says p f None none each = none
for_txn_says p f (Some x) none each = each x

for_none_says : {M : Type 0} (p : Option M → Bool) (m : Option M) (o : Option Transaction) → p None ≡ true → p m ≡ true → p (for_none m o) ≡ true
for_none_says p m None none each = each
for_none_says p m (Some x) none each = none

opens_says : (k : Clock) (a : Actor) → clock_says (opens k a) ≡ true
opens_says k a = grind (arith)

closes_says : (k : Clock) (a : Actor) → clock_says (closes k a) ≡ true
closes_says k a = grind (arith)

begins_says : (k : Clock) (a : Actor) → clock_says (begins k a) ≡ true
begins_says k a = grind (arith, nat_tests)

draws_says : (k : Clock) (a : Actor) (x : Transaction) → clock_says (draws x k a) ≡ true
draws_says k a x = grind (arith, nat_tests)

enqueues_says : (k : Clock) (a : Actor) (x : Transaction) → clock_says (enqueues x k a) ≡ true
enqueues_says k a x = grind (arith, nat_tests)

writes_says : (moment : ℕ) (i : Name) (log : LogPart) (a : Actor) → log_says (writes moment i log a) ≡ true
writes_says moment i log a = grind (arith, nat_tests)

mends_says : (i : Name) (log : LogPart) (a : Actor) → log_says (mends i log a) ≡ true
mends_says i log a = grind (arith, nat_tests)

collects_says : (i : Name) (log : LogPart) (k : Clock) (a : Actor) → group_says (collects i log k a) ≡ true
collects_says i log k a = grind (arith, nat_tests)

publishes_says : (i : Name) (log : LogPart) (k : Clock) (a : Actor) → group_says (publishes i log k a) ≡ true
publishes_says i log k a = grind (arith, nat_tests)

fails_says : (f c : ℕ) (i : Name) (log : LogPart) (k : Clock) (a : Actor) → group_says (fails f c i log k a) ≡ true
fails_says f c i log k a = grind (arith, nat_tests)

hears_says : (k : Clock) (a : Actor) (x : Transaction) → clock_says (hears x k a) ≡ true
hears_says k a x = grind (arith, nat_tests)

done_says : (k : Clock) (a : Actor) (x : Transaction) (o : Option ℕ) → clock_says (done_at o x k a) ≡ true
done_says k a x None = refl
done_says k a x (Some e) = grind (arith, nat_tests)

sees_says : (k : Clock) (a : Actor) (o : Option ℕ) → clock_says (sees o k a) ≡ true
sees_says k a None = refl
sees_says k a (Some e) = refl

ends_says : (k : Clock) (a : Actor) (x : Transaction) → clock_says (ends x k a) ≡ true
ends_says k a x = grind (arith, nat_tests)

made_says : (x : Transaction) (c : Change) (row : Row) → says (made x c row) ≡ true
made_says x (New v p) row = refl
made_says x (Set v p) row = refl
made_says x (Drop v) row = refl
made_says x (Put v l d p) row = grind (arith)
made_says x (Del v l d) row = refl

refusals_say : (most : Limits) (x : Transaction) (c : Change) (row : Row) → refusal_says (refusal most x c row) ≡ true
refusals_say most x (New v p) row = grind (arith)
refusals_say most x (Set v p) row = grind (arith)
refusals_say most x (Drop v) row = grind (arith)
refusals_say most x (Put v l d p) row = grind (arith)
refusals_say most x (Del v l d) row = grind (arith)

by_refusal_says : (r : Option CoreAnswer) (x : Transaction) (c : Change) (row : Row) (a : Actor) → refusal_says r ≡ true → row_says (by_refusal r x c row a) ≡ true
by_refusal_says None x c row a e = made_says x c row
by_refusal_says (Some s) x c row a e = e

by_look_says : (look : Look) (most : Limits) (x : Transaction) (c : Change) (row : Row) (a : Actor) → row_says (by_look look most x c row a) ≡ true
by_look_says Taken most x c row a = by_refusal_says (refusal most x c row) x c row a (refusals_say most x c row)
by_look_says (Held u) most x c row a = refl
by_look_says (Conflict e) most x c row a = refl

changes_say : (most : Limits) (c : Change) (row : Row) (a : Actor) (x : Transaction) → row_says (changes most x c row a) ≡ true
changes_say most c row a x = let made = by_look_says (lock_answer row x.tid x.read) most x c row a in grind (arith, made)

puts_say : (most : Limits) (c : Change) (row : Row) (a : Actor) (x : Transaction) → row_says (puts most x c row a) ≡ true
puts_say most c row a x = let made = changes_say most c row a x in grind (arith, made)

news_say : (most : Limits) (v : ℕ) (p : List ℕ) (row : Row) (a : Actor) (x : Transaction) → row_says (news most x v p row a) ≡ true
news_say most v p row a x = grind (arith)

looks_by_says : (look : Look) (v : ℕ) (row : Row) (a : Actor) (x : Transaction) → row_says (looks_by look x v row a) ≡ true
looks_by_says Taken v row a x = refl
looks_by_says (Held u) v row a x = refl
looks_by_says (Conflict e) v row a x = refl

looks_say : (v : ℕ) (row : Row) (a : Actor) (x : Transaction) → row_says (looks x v row a) ≡ true
looks_say v row a x = let found = looks_by_says (lock_answer row x.tid x.read) v row a x in grind (arith, found)

reads_say : (q : Query) (row : Row) (a : Actor) (x : Transaction) → row_says (reads x q row a) ≡ true
reads_say q row a x = grind (arith)

applies_say : (v : ℕ) (row : Row) (a : Actor) (x : Transaction) (o : Option ℕ) → row_says (applies_at o x v row a) ≡ true
applies_say v row a x None = refl
applies_say v row a x (Some e) = grind (arith)

undoes_say : (v : ℕ) (row : Row) (a : Actor) (x : Transaction) → row_says (undoes x v row a) ≡ true
undoes_say v row a x = grind (arith)

-- Each event on the clock.
clock_event_says : (action : Act) (k : Clock) (a : Actor) → clock_says (clock_event action k a) ≡ true
clock_event_says act.Open k a = opens_says k a
clock_event_says act.Close k a = for_none_says clock_says (closes k a) a.txn refl (closes_says k a)
clock_event_says act.Begin k a = for_none_says clock_says (begins k a) a.txn refl (begins_says k a)
clock_event_says act.Draw k a = for_txn_says clock_says (λ x. draws x k a) a.txn refl (draws_says k a)
clock_event_says act.Enqueue k a = for_txn_says clock_says (λ x. enqueues x k a) a.txn refl (enqueues_says k a)
clock_event_says act.Collect k a = refl
clock_event_says act.Publish k a = refl
clock_event_says (act.Fail f c) k a = refl
clock_event_says (act.WriteGroup m) k a = refl
clock_event_says act.Mend k a = refl
clock_event_says act.Outcome k a = for_txn_says clock_says (λ x. hears x k a) a.txn refl (hears_says k a)
clock_event_says act.Done k a = for_txn_says clock_says (λ x. done_at (won_epoch x.stage) x k a) a.txn refl (λ x. done_says k a x (won_epoch x.stage))
clock_event_says act.Seen k a = for_none_says clock_says (sees a.finished k a) a.txn refl (sees_says k a a.finished)
clock_event_says act.End k a = for_txn_says clock_says (λ x. ends x k a) a.txn refl (ends_says k a)
clock_event_says act.Horizon k a = refl
clock_event_says (act.Look v) k a = refl
clock_event_says (act.Put v l d p) k a = refl
clock_event_says (act.Del v l d) k a = refl
clock_event_says (act.Set v p) k a = refl
clock_event_says (act.Drop v) k a = refl
clock_event_says (act.New v p) k a = refl
clock_event_says (act.Read q) k a = refl
clock_event_says (act.Apply v) k a = refl
clock_event_says (act.Undo v) k a = refl

-- Each event on a row.
row_event_says : (most : Limits) (action : Act) (row : Row) (a : Actor) → row_says (row_event most action row a) ≡ true
row_event_says most (act.Look v) row a = for_txn_says row_says (λ x. looks x v row a) a.txn refl (looks_say v row a)
row_event_says most (act.Put v l d p) row a = for_txn_says row_says (λ x. puts most x (Put v l d p) row a) a.txn refl (puts_say most (Put v l d p) row a)
row_event_says most (act.Del v l d) row a = for_txn_says row_says (λ x. changes most x (Del v l d) row a) a.txn refl (changes_say most (Del v l d) row a)
row_event_says most (act.Set v p) row a = for_txn_says row_says (λ x. changes most x (Set v p) row a) a.txn refl (changes_say most (Set v p) row a)
row_event_says most (act.Drop v) row a = for_txn_says row_says (λ x. changes most x (Drop v) row a) a.txn refl (changes_say most (Drop v) row a)
row_event_says most (act.New v p) row a = for_txn_says row_says (λ x. news most x v p row a) a.txn refl (news_say most v p row a)
row_event_says most (act.Read q) row a = for_txn_says row_says (λ x. reads x q row a) a.txn refl (reads_say q row a)
row_event_says most (act.Apply v) row a = for_txn_says row_says (λ x. applies_at (won_epoch x.stage) x v row a) a.txn refl (λ x. applies_say v row a x (won_epoch x.stage))
row_event_says most (act.Undo v) row a = for_txn_says row_says (λ x. undoes x v row a) a.txn refl (undoes_say v row a)
row_event_says most act.Open row a = refl
row_event_says most act.Close row a = refl
row_event_says most act.Begin row a = refl
row_event_says most act.Draw row a = refl
row_event_says most act.Enqueue row a = refl
row_event_says most act.Collect row a = refl
row_event_says most act.Publish row a = refl
row_event_says most act.Outcome row a = refl
row_event_says most act.Done row a = refl
row_event_says most act.Seen row a = refl
row_event_says most act.End row a = refl
row_event_says most act.Horizon row a = refl
row_event_says most (act.Fail f c) row a = refl
row_event_says most (act.WriteGroup m) row a = refl
row_event_says most act.Mend row a = refl

-- Each event on the log part, and each on the log part and the clock.
log_event_says : (action : Act) (i : Name) (log : LogPart) (a : Actor) → log_says (log_event action i log a) ≡ true
log_event_says act.Open i log a = refl
log_event_says act.Close i log a = refl
log_event_says act.Begin i log a = refl
log_event_says act.Draw i log a = refl
log_event_says act.Enqueue i log a = refl
log_event_says act.Collect i log a = refl
log_event_says act.Publish i log a = refl
log_event_says (act.Fail f c) i log a = refl
log_event_says act.Outcome i log a = refl
log_event_says act.Done i log a = refl
log_event_says act.Seen i log a = refl
log_event_says act.End i log a = refl
log_event_says act.Horizon i log a = refl
log_event_says (act.Look v) i log a = refl
log_event_says (act.Put v l d p) i log a = refl
log_event_says (act.Del v l d) i log a = refl
log_event_says (act.Set v p) i log a = refl
log_event_says (act.Drop v) i log a = refl
log_event_says (act.New v p) i log a = refl
log_event_says (act.Read q) i log a = refl
log_event_says (act.Apply v) i log a = refl
log_event_says (act.Undo v) i log a = refl
log_event_says (act.WriteGroup m) i log a = writes_says m i log a
log_event_says act.Mend i log a = mends_says i log a

group_event_says : (action : Act) (i : Name) (log : LogPart) (k : Clock) (a : Actor) → group_says (group_event action i log k a) ≡ true
group_event_says act.Open i log k a = refl
group_event_says act.Close i log k a = refl
group_event_says act.Begin i log k a = refl
group_event_says act.Draw i log k a = refl
group_event_says act.Enqueue i log k a = refl
group_event_says act.Collect i log k a = collects_says i log k a
group_event_says act.Publish i log k a = publishes_says i log k a
group_event_says (act.Fail f c) i log k a = fails_says f c i log k a
group_event_says act.Outcome i log k a = refl
group_event_says act.Done i log k a = refl
group_event_says act.Seen i log k a = refl
group_event_says act.End i log k a = refl
group_event_says act.Horizon i log k a = refl
group_event_says (act.Look v) i log k a = refl
group_event_says (act.Put v l d p) i log k a = refl
group_event_says (act.Del v l d) i log k a = refl
group_event_says (act.Set v p) i log k a = refl
group_event_says (act.Drop v) i log k a = refl
group_event_says (act.New v p) i log k a = refl
group_event_says (act.Read q) i log k a = refl
group_event_says (act.Apply v) i log k a = refl
group_event_says (act.Undo v) i log k a = refl
group_event_says (act.WriteGroup m) i log k a = refl
group_event_says act.Mend i log k a = refl

-- NotEnabled is the answer exactly where there is no move, and then the state stays.
clock_tells : (s : State) (i : Name) (m : Option ClockMove) → clock_says m ≡ true → (clock_answer m ≡ answer.NotEnabled → is_some m ≡ false) × (is_some m ≡ false → clock_answer m ≡ answer.NotEnabled) × (is_some m ≡ false → after_clock s i m ≡ s)
clock_tells s i None e = (λ _. refl, λ _. refl, λ _. refl)
clock_tells s i (Some m) e = (λ none. (let no : true ≡ false = sym e ∙ ap says none in absurd (cc no)), λ none. absurd (cc none), λ none. absurd (cc none))

row_tells : (s : State) (i : Name) (v : ℕ) (m : Option RowMove) → row_says m ≡ true → (row_answer m ≡ answer.NotEnabled → is_some m ≡ false) × (is_some m ≡ false → row_answer m ≡ answer.NotEnabled) × (is_some m ≡ false → after_row s i v m ≡ s)
row_tells s i v None e = (λ _. refl, λ _. refl, λ _. refl)
row_tells s i v (Some m) e = (λ none. (let no : true ≡ false = sym e ∙ ap says none in absurd (cc no)), λ none. absurd (cc none), λ none. absurd (cc none))

log_tells : (s : State) (i : Name) (m : Option LogMove) → log_says m ≡ true → (log_answer m ≡ answer.NotEnabled → is_some m ≡ false) × (is_some m ≡ false → log_answer m ≡ answer.NotEnabled) × (is_some m ≡ false → after_log s i m ≡ s)
log_tells s i None e = (λ _. refl, λ _. refl, λ _. refl)
log_tells s i (Some m) e = (λ none. (let no : true ≡ false = sym e ∙ ap says none in absurd (cc no)), λ none. absurd (cc none), λ none. absurd (cc none))

group_tells : (s : State) (i : Name) (m : Option GroupMove) → group_says m ≡ true → (group_answer m ≡ answer.NotEnabled → is_some m ≡ false) × (is_some m ≡ false → group_answer m ≡ answer.NotEnabled) × (is_some m ≡ false → after_group s i m ≡ s)
group_tells s i None e = (λ _. refl, λ _. refl, λ _. refl)
group_tells s i (Some m) e = (λ none. (let no : true ≡ false = sym e ∙ ap says none in absurd (cc no)), λ none. absurd (cc none), λ none. absurd (cc none))

pub tells_enabled : (most : Limits) (s : State) (i : Name) (action : Act) → TellsEnabled most s i action
tells_enabled most s i action = by_reach (reach_of action) refl
  where
    by_reach : (r : Reach) → reach_of action ≡ r → TellsEnabled most s i action
    by_reach reach.Clock e =
        let tells = clock_tells s i (clock_event action s.clock (s.actor i)) (clock_event_says action s.clock (s.actor i)) in
        record { exact = (λ none. rw e (tells.0 (rw e at none)), λ none. rw e (tells.1 (rw e at none))); unchanged = λ none. rw e (tells.2 (rw e at none)) }
    by_reach (reach.Row v) e =
        let tells = row_tells s i v (row_event most action (s.row v) (s.actor i)) (row_event_says most action (s.row v) (s.actor i)) in
        record { exact = (λ none. rw e (tells.0 (rw e at none)), λ none. rw e (tells.1 (rw e at none))); unchanged = λ none. rw e (tells.2 (rw e at none)) }
    by_reach reach.Log e =
        let tells = log_tells s i (log_event action i s.log (s.actor i)) (log_event_says action i s.log (s.actor i)) in
        record { exact = (λ none. rw e (tells.0 (rw e at none)), λ none. rw e (tells.1 (rw e at none))); unchanged = λ none. rw e (tells.2 (rw e at none)) }
    by_reach reach.LogAndClock e =
        let tells = group_tells s i (group_event action i s.log s.clock (s.actor i)) (group_event_says action i s.log s.clock (s.actor i)) in
        record { exact = (λ none. rw e (tells.0 (rw e at none)), λ none. rw e (tells.1 (rw e at none))); unchanged = λ none. rw e (tells.2 (rw e at none)) }
