-- Every event keeps what is said of the log part, the groups, their moments and the faults.
use Rattle.std.proofs.Common.{◌≡◌, ◌≢◌, ◌⊎◌, inl, inr, ℕ, suc, ◌+◌, ◌<◌, ◌≤◌, Bool, true, false, ◌&&◌, not, List, [], ◌∷◌, ◌++◌, length, take, drop, refl, sym, ap, ◌∙◌, subst, arith, Option, Some, None, is_some, ⊎_elim, append-nil, append_assoc}
use Rattle.std.proofs.lemmas.Bool.{and_parts, leb-true, ltb-true, ltb-false, eqb-true, true≢false, false≢true, ne_eqb, eq-eqb}
use Rattle.std.proofs.lemmas.List.{length-append}
use Rattle.std.specs.Prelude.{if◌then◌else◌, ◌==◌, nat_lt, nat_le, ◌||◌}
use Rattle.graph_model.specs.declared.graph.Base.{Base}
use Rattle.graph_model.specs.declared.change.Change.{Change}
use Rattle.graph_model.specs.declared.change.Change.TheVariants.{New, Set, Drop, Put, Del}
use Rattle.graph_model.specs.declared.record.Record.{Record}
use Rattle.graph_model.specs.declared.record.Outcome.{Outcome}
use Rattle.graph_model.specs.declared.record.Outcome.TheVariants.{Committed, Failed}
use Rattle.graph_model.specs.Records.{group_most, number_end, has_destination}
use Rattle.vertex_locks.specs.declared.answer.Look.{Look}
use Rattle.vertex_locks.specs.declared.answer.Look.TheVariants.{Taken, Held, Conflict}
use Rattle.core_rows.specs.Rows.{Row, lock_answer}
use Rattle.core_states.specs.declared.actor.Actor.{Actor}
use Rattle.core_states.specs.declared.clock.Clock.{Clock}
use Rattle.core_states.specs.declared.clock.KeptOutcome.{KeptOutcome}
use Rattle.core_states.specs.declared.disk_records.DiskRecords.{DiskRecords}
use Rattle.core_states.specs.declared.event.Act.{Act}
use Rattle.core_states.specs.declared.event.Act.TheVariants as act
use Rattle.core_states.specs.declared.event.CoreAnswer.{CoreAnswer}
use Rattle.core_states.specs.declared.event.Reach.{Reach}
use Rattle.core_states.specs.declared.event.Reach.TheVariants as reach
use Rattle.core_states.specs.declared.transaction.Transaction.{Transaction}
use Rattle.core_states.specs.ClockEvents.{ClockMove, for_txn, for_none, done_at, sees}
use Rattle.core_states.specs.Durability.{AllSince, NeverFall, AllBy, is_unpublished, unpublished, unpublished_moment, is_fault, faults, IsCounted, AllCounted, SpansApart, HasFailed, OnDisk, Durability}
use Rattle.core_kept.specs.Good.{Ghost, Good, InGroup, outcome_at}
use Rattle.core_states.specs.LogParts.{LogPart, Found, found_records, is_held_by, may_take, with_durable, with_attempt, without_attempt, first_attempt, more_tried}
use Rattle.core_states.specs.LogEvents.{LogMove, GroupMove, without_group, writes, mends, collects, publishes, fails}
use Rattle.core_states.specs.Names.{Name, set_name}
use Rattle.core_states.specs.Numbers.{all_in, has_number, has_record, numbered, outcome_of, settled_as}
use Rattle.core_states.specs.Openings.{opening}
use Rattle.core_states.specs.Records.{In, AllAt}
use Rattle.core_states.specs.RowEvents.{RowMove, Limits, has_vertex, is_long, refusal, by_refusal, by_look, changes, looks_by, applies_at}
use Rattle.core_states.specs.States.{State, clock_event, row_event, log_event, group_event, reach_of, after_clock, after_row, after_log, after_group, after_at, after}
use Rattle.core_states.specs.Transactions.{is_queued, is_loser, is_working, holds, won_epoch}
use Rattle.core_kept.proofs.Beginning.{none_some}
use Rattle.core_kept.proofs.GroupSteps.{if_log, if_group, not_false}
use Rattle.core_kept.proofs.Grouping.{wait_place}
use Rattle.core_states.proofs.Names.{some_is, same_name_is, same_name_true, not_same, set_name_here, set_name_there, name_each}
use Rattle.core_kept.proofs.Publishing.{outcome_of-append, outcome_of-settled, all_at-numbered}

-- ---- an event that leaves all this

record Same (s z : State) : Type 0 where
  log : z.log ≡ s.log
  last : z.clock.last ≡ s.clock.last
  moments : z.clock.moments ≡ s.clock.moments
  records : z.clock.records ≡ s.clock.records
  outcomes : z.clock.outcomes ≡ s.clock.outcomes
  group : (i : Name) → (z.actor i).group ≡ (s.actor i).group
  written : (i : Name) → (z.actor i).written ≡ (s.actor i).written

same_unpublished : (o : Option Name) (actor now : Name → Actor) → ((i : Name) → (now i).group ≡ (actor i).group) → ((i : Name) → (now i).written ≡ (actor i).written)
    → (is_unpublished o now ≡ is_unpublished o actor) × (unpublished o now ≡ unpublished o actor)
same_unpublished None actor now group written = (refl, refl)
same_unpublished (Some i) actor now group written = (written i, λ j. if written i j then group i j else [])

same_durable : (base : Base) (s z : State) → Same s z → Durability base s → Durability base z
same_durable base s z m d =
    let un = same_unpublished s.log.holder s.actor z.actor m.group m.written in
    let holder = ap (λ (l : LogPart). l.holder) m.log in
    let is = ap (λ o. is_unpublished o z.actor) holder ∙ un.0 in
    let what = ap (λ o. unpublished o z.actor) holder ∙ un.1 in
    record {
      busy = λ i h. rw (m.group i) (d.busy i (ap (is_held_by i) (sym holder) ∙ h));
      idle = λ i h. let old = d.idle i (ap (is_held_by i) (sym holder) ∙ h) in (m.group i ∙ old.0, m.written i ∙ old.1);
      moments = rw (m.moments, m.last) d.moments;
      rise = rw m.moments d.rise;
      past = rw (m.log, m.moments) d.past;
      epoch = rw (is, m.last, m.log) d.epoch;
      standing = λ h. is ∙ d.standing (ap (λ (l : LogPart). l.mended) (sym m.log) ∙ h);
      disk = λ x h. let old = d.disk x (ap (λ (l : LogPart). l.disk) (sym m.log) ∙ h) in record {
        durable = rw (what, m.records, m.last) old.durable;
        moments = rw (is, m.moments, m.log) old.moments;
        mended = λ e. old.mended (ap (λ (l : LogPart). l.mended) (sym m.log) ∙ e);
        attempt = λ rs e. let a = old.attempt rs e in (rw m.last a.0, λ r k. let f = a.1 r k in (f.0, f.1, rw m.outcomes f.2));
      };
      count = rw m.log d.count;
      counts = rw (m.log, m.outcomes) d.counts;
      spans = λ t u b a c e x y. d.spans t u b a c e (rw m.outcomes at x) (rw m.outcomes at y);
      few = λ b a. rw m.outcomes (d.few b a);
    }

-- a move of one actor that leaves its group
abbrev pub SameActor : Actor → Actor → Type 0
SameActor a b = (b.group ≡ a.group) × (b.written ≡ a.written)

one_same : (actor : Name → Actor) (i : Name) (a : Actor) → SameActor (actor i) a → ((j : Name) → (set_name actor i a j).group ≡ (actor j).group) × ((j : Name) → (set_name actor i a j).written ≡ (actor j).written)
one_same actor i a m = (
  name_each (λ j (b : Actor). b.group ≡ (actor j).group) actor i a m.0 (λ j n. refl),
  name_each (λ j (b : Actor). b.written ≡ (actor j).written) actor i a m.1 (λ j n. refl),
)

-- ---- events on the clock

pub record SameClock (k z : Clock) : Type 0 where
  pub last : z.last ≡ k.last
  pub moments : z.moments ≡ k.moments
  pub records : z.records ≡ k.records
  pub outcomes : z.outcomes ≡ k.outcomes

abbrev pub Calm : Clock → Actor → Option ClockMove → Type 0
Calm k a None = Unit {0}
Calm k a (Some m) = SameClock k m.clock × SameActor a m.actor

if_calm : (k : Clock) (a : Actor) (b : Bool) (m n : Option ClockMove) → Calm k a m → Calm k a n → Calm k a (if b then m else n)
if_calm k a true m n x y = x
if_calm k a false m n x y = y

for_calm : (k : Clock) (a : Actor) (f : Transaction → Option ClockMove) (o : Option Transaction) → ((x : Transaction) → Calm k a (f x)) → Calm k a (for_txn f o)
for_calm k a f None h = tt
for_calm k a f (Some x) h = h x

none_calm : (k : Clock) (a : Actor) (m : Option ClockMove) (o : Option Transaction) → Calm k a m → Calm k a (for_none m o)
none_calm k a m None h = h
none_calm k a m (Some x) h = tt

done_calm : (o : Option ℕ) (x : Transaction) (k : Clock) (a : Actor) → Calm k a (done_at o x k a)
done_calm None x k a = tt
done_calm (Some e) x k a = if_calm k a (all_in x.touched x.settled) _ None (record { last = refl; moments = refl; records = refl; outcomes = refl }, (refl, refl)) tt

sees_calm : (o : Option ℕ) (k : Clock) (a : Actor) → Calm k a (sees o k a)
sees_calm None k a = tt
sees_calm (Some e) k a = (record { last = refl; moments = refl; records = refl; outcomes = refl }, (refl, refl))

pub clock_calm : (action : Act) (k : Clock) (a : Actor) → Calm k a (clock_event action k a)
clock_calm act.Open k a = if_calm k a a.row None _ tt (record { last = refl; moments = refl; records = refl; outcomes = refl }, (refl, refl))
clock_calm act.Close k a = none_calm k a _ a.txn (if_calm k a a.row _ None (record { last = refl; moments = refl; records = refl; outcomes = refl }, (refl, refl)) tt)
clock_calm act.Begin k a = none_calm k a _ a.txn (if_calm k a (not a.row) None _ tt (if_calm k a (k.next_tid == number_end) _ _ (record { last = refl; moments = refl; records = refl; outcomes = refl }, (refl, refl)) (record { last = refl; moments = refl; records = refl; outcomes = refl }, (refl, refl))))
clock_calm act.Draw k a = for_calm k a _ a.txn (λ x. if_calm k a (not (is_working x)) None _ tt (if_calm k a (k.next_vertex == number_end) _ _ (record { last = refl; moments = refl; records = refl; outcomes = refl }, (refl, refl)) (record { last = refl; moments = refl; records = refl; outcomes = refl }, (refl, refl))))
clock_calm act.Enqueue k a = for_calm k a _ a.txn (λ x. if_calm k a (not (is_working x)) None _ tt (if_calm k a (length x.own == 0) None _ tt (record { last = refl; moments = refl; records = refl; outcomes = refl }, (refl, refl))))
clock_calm act.Collect k a = tt
clock_calm act.Publish k a = tt
clock_calm (act.Fail f c) k a = tt
clock_calm act.Outcome k a = for_calm k a _ a.txn (λ x. if_calm k a (not (is_queued x.stage)) None _ tt (record { last = refl; moments = refl; records = refl; outcomes = refl }, (refl, refl)))
clock_calm act.Done k a = for_calm k a _ a.txn (λ x. done_calm (won_epoch x.stage) x k a)
clock_calm act.Seen k a = none_calm k a _ a.txn (sees_calm a.finished k a)
clock_calm act.End k a = for_calm k a _ a.txn (λ x. if_calm k a (is_loser x.stage && all_in x.touched x.settled) _ None (record { last = refl; moments = refl; records = refl; outcomes = refl }, (refl, refl)) tt)
clock_calm act.Horizon k a = (record { last = refl; moments = refl; records = refl; outcomes = refl }, (refl, refl))
clock_calm (act.Look v) k a = tt
clock_calm (act.Put v l d p) k a = tt
clock_calm (act.Del v l d) k a = tt
clock_calm (act.Set v p) k a = tt
clock_calm (act.Drop v) k a = tt
clock_calm (act.New v p) k a = tt
clock_calm (act.Read q) k a = tt
clock_calm (act.Apply v) k a = tt
clock_calm (act.Undo v) k a = tt
clock_calm (act.WriteGroup m) k a = tt
clock_calm act.Mend k a = tt

clock_durable : (base : Base) (s : State) (i : Name) (m : Option ClockMove) → Calm s.clock (s.actor i) m → Durability base s → Durability base (after_clock s i m)
clock_durable base s i None h d = d
clock_durable base s i (Some m) h d = same_durable base s _ (let one = one_same s.actor i m.actor h.1 in record { log = refl; last = h.0.last; moments = h.0.moments; records = h.0.records; outcomes = h.0.outcomes; group = one.0; written = one.1 }) d

-- ---- events on a row

abbrev Still : Actor → Option RowMove → Type 0
Still a None = Unit {0}
Still a (Some m) = SameActor a m.actor

if_still : (a : Actor) (b : Bool) (m n : Option RowMove) → Still a m → Still a n → Still a (if b then m else n)
if_still a true m n x y = x
if_still a false m n x y = y

for_still : (a : Actor) (f : Transaction → Option RowMove) (o : Option Transaction) → ((x : Transaction) → Still a (f x)) → Still a (for_txn f o)
for_still a f None h = tt
for_still a f (Some x) h = h x

refusal_still : (o : Option CoreAnswer) (x : Transaction) (c : Change) (row : Row) (a : Actor) → Still a (by_refusal o x c row a)
refusal_still None x c row a = (refl, refl)
refusal_still (Some r) x c row a = (refl, refl)

look_still : (l : Look) (most : Limits) (x : Transaction) (c : Change) (row : Row) (a : Actor) → Still a (by_look l most x c row a)
look_still Taken most x c row a = refusal_still (refusal most x c row) x c row a
look_still (Held u) most x c row a = tt
look_still (Conflict e) most x c row a = tt

looked_still : (l : Look) (x : Transaction) (v : ℕ) (row : Row) (a : Actor) → Still a (looks_by l x v row a)
looked_still Taken x v row a = tt
looked_still (Held u) x v row a = (refl, refl)
looked_still (Conflict e) x v row a = (refl, refl)

applied_still : (o : Option ℕ) (x : Transaction) (v : ℕ) (row : Row) (a : Actor) → Still a (applies_at o x v row a)
applied_still None x v row a = tt
applied_still (Some e) x v row a = if_still a (holds x v) _ None (refl, refl) tt

changes_still : (most : Limits) (x : Transaction) (c : Change) (row : Row) (a : Actor) → Still a (changes most x c row a)
changes_still most x c row a = if_still a (not (is_working x)) None _ tt (if_still a (not (has_vertex x row)) _ _ (refl, refl) (look_still (lock_answer row x.tid x.read) most x c row a))

still : (most : Limits) (action : Act) (row : Row) (a : Actor) → Still a (row_event most action row a)
still most act.Open row a = tt
still most act.Close row a = tt
still most act.Begin row a = tt
still most act.Draw row a = tt
still most act.Enqueue row a = tt
still most act.Collect row a = tt
still most act.Publish row a = tt
still most (act.Fail f c) row a = tt
still most act.Outcome row a = tt
still most act.Done row a = tt
still most act.Seen row a = tt
still most act.End row a = tt
still most act.Horizon row a = tt
still most (act.Look v) row a = for_still a _ a.txn (λ x. if_still a (not (is_working x)) None _ tt (if_still a (not (has_vertex x row)) None _ tt (looked_still (lock_answer row x.tid x.read) x v row a)))
still most (act.Put v l d p) row a = for_still a _ a.txn (λ x. if_still a (has_destination (Put v l d p)) _ None (changes_still most x (Put v l d p) row a) tt)
still most (act.Del v l d) row a = for_still a _ a.txn (λ x. changes_still most x (Del v l d) row a)
still most (act.Set v p) row a = for_still a _ a.txn (λ x. changes_still most x (Set v p) row a)
still most (act.Drop v) row a = for_still a _ a.txn (λ x. changes_still most x (Drop v) row a)
still most (act.New v p) row a = for_still a _ a.txn (λ x. if_still a (not (is_working x)) None _ tt (if_still a (not (has_number v x.drawn)) None _ tt (if_still a (is_long most x (New v p)) _ _ (refl, refl) (refl, refl))))
still most (act.Read q) row a = for_still a _ a.txn (λ x. if_still a (not (is_working x)) None _ tt (refl, refl))
still most (act.Apply v) row a = for_still a _ a.txn (λ x. applied_still (won_epoch x.stage) x v row a)
still most (act.Undo v) row a = for_still a _ a.txn (λ x. if_still a (is_loser x.stage && holds x v) _ None (refl, refl) tt)
still most (act.WriteGroup m) row a = tt
still most act.Mend row a = tt

row_durable : (base : Base) (s : State) (i : Name) (v : ℕ) (m : Option RowMove) → Still (s.actor i) m → Durability base s → Durability base (after_row s i v m)
row_durable base s i v None h d = d
row_durable base s i v (Some m) h d = same_durable base s _ (let one = one_same s.actor i m.actor h in record { log = refl; last = refl; moments = refl; records = refl; outcomes = refl; group = one.0; written = one.1 }) d

-- ---- who holds the log turn

holder_is : (i : Name) (o : Option Name) → is_held_by i o ≡ true → o ≡ Some i
holder_is i None h = absurd (false≢true h)
holder_is i (Some j) h = ap Some (sym (same_name_is i j h))

held_self : (i : Name) → is_held_by i (Some i) ≡ true
held_self i = same_name_true i i refl

not_held : (i j : Name) → j ≢ i → is_held_by j (Some i) ≡ false
not_held i j n = not_same j i n

free_holder : (o : Option Name) → is_some o ≡ false → o ≡ None
free_holder None e = refl
free_holder (Some j) e = absurd (true≢false e)

not_true : (b : Bool) → not b ≡ true → b ≡ false
not_true true e = absurd (false≢true e)
not_true false e = refl

-- ---- moments

since-push : (m n : ℕ) (xs : List ℕ) → AllSince m xs → m ≤ n → AllSince m (xs ++ n ∷ [])
since-push m n [] all le = (le, tt)
since-push m n (x ∷ xs) all le = (all.0, since-push m n xs all.1 le)

rise-push : (n : ℕ) (xs : List ℕ) → AllBy n xs → NeverFall xs → NeverFall (xs ++ n ∷ [])
rise-push n [] by up = (tt, tt)
rise-push n (x ∷ xs) by up = (since-push x n xs up.0 by.0, rise-push n xs by.1 up.1)

by-push : (n : ℕ) (xs : List ℕ) → AllBy n xs → AllBy n (xs ++ n ∷ [])
by-push n [] by = (omega arith, tt)
by-push n (x ∷ xs) by = (by.0, by-push n xs by.1)

by-later : (m n : ℕ) (xs : List ℕ) → m ≤ n → AllBy m xs → AllBy n xs
by-later m n [] le by = tt
by-later m n (x ∷ xs) le by = ((let a = by.0 in omega (arith, a, le)), by-later m n xs le by.1)

-- ---- outcomes

-- an outcome that was kept stays
pub kept_first : (t : ℕ) (o : Outcome) (ks js : List KeptOutcome) → outcome_of t ks ≡ Some o → outcome_of t (ks ++ js) ≡ Some o
kept_first t o [] js is = absurd (none_some o is)
kept_first t o (k ∷ ks) js is = by_tid (k.tid == t) is (kept_first t o ks js)
  where
    by_tid : (b : Bool) → (if b then Some k.outcome else outcome_of t ks) ≡ Some o → (outcome_of t ks ≡ Some o → outcome_of t (ks ++ js) ≡ Some o) → (if b then Some k.outcome else outcome_of t (ks ++ js)) ≡ Some o
    by_tid true e ih = e
    by_tid false e ih = ih e

-- an outcome was kept before, or is that of the group
old_or_new : (t : ℕ) (o d : Outcome) (ks : List KeptOutcome) (rs : List Record) → outcome_of t (ks ++ settled_as d rs) ≡ Some o → (outcome_of t ks ≡ Some o) ⊎ (d ≡ o)
old_or_new t o d [] [] is = absurd (none_some o is)
old_or_new t o d [] (r ∷ rs) is = by_tid (r.tid == t) is (old_or_new t o d [] rs)
  where
    by_tid : (b : Bool) → (if b then Some d else outcome_of t (settled_as d rs)) ≡ Some o → (outcome_of t (settled_as d rs) ≡ Some o → (None ≡ Some o) ⊎ (d ≡ o)) → (None ≡ Some o) ⊎ (d ≡ o)
    by_tid true e ih = inr (some_is d o e)
    by_tid false e ih = ih e
old_or_new t o d (k ∷ ks) rs is = by_tid (k.tid == t) is (old_or_new t o d ks rs)
  where
    by_tid : (b : Bool) → (if b then Some k.outcome else outcome_of t (ks ++ settled_as d rs)) ≡ Some o → (outcome_of t (ks ++ settled_as d rs) ≡ Some o → (outcome_of t ks ≡ Some o) ⊎ (d ≡ o)) → ((if b then Some k.outcome else outcome_of t ks) ≡ Some o) ⊎ (d ≡ o)
    by_tid true e ih = inl e
    by_tid false e ih = ih e

-- the counts of an outcome that is kept
counted_of : (t low high b a : ℕ) (ks : List KeptOutcome) → AllCounted low high ks → outcome_of t ks ≡ Some (Failed b a) → (low ≤ b) × (b < a) × (a ≤ high)
counted_of t low high b a [] all is = absurd (none_some (Failed b a) is)
counted_of t low high b a (k ∷ ks) all is = by_tid (k.tid == t) is (counted_of t low high b a ks all.1)
  where
    by_tid : (x : Bool) → (if x then Some k.outcome else outcome_of t ks) ≡ Some (Failed b a) → (outcome_of t ks ≡ Some (Failed b a) → (low ≤ b) × (b < a) × (a ≤ high)) → (low ≤ b) × (b < a) × (a ≤ high)
    by_tid true e ih = subst (IsCounted low high) (some_is k.outcome (Failed b a) e) all.0
    by_tid false e ih = ih e

counted_up : (low high more : ℕ) (ks : List KeptOutcome) → high ≤ more → AllCounted low high ks → AllCounted low more ks
counted_up low high more [] le all = tt
counted_up low high more (k ∷ ks) le all = (up k.outcome all.0, counted_up low high more ks le all.1)
  where
    up : (o : Outcome) → IsCounted low high o → IsCounted low more o
    up (Committed e) c = tt
    up (Failed b a) c = (c.0, c.1, (let q = c.2 in omega (arith, q, le)))

counted_append : (low high : ℕ) (d : Outcome) (ks : List KeptOutcome) (rs : List Record) → AllCounted low high ks → IsCounted low high d → AllCounted low high (ks ++ settled_as d rs)
counted_append low high d [] [] all c = tt
counted_append low high d [] (r ∷ rs) all c = (c, counted_append low high d [] rs all c)
counted_append low high d (k ∷ ks) rs all c = (all.0, counted_append low high d ks rs all.1 c)

-- how many have the same counts
faults_append : (b a : ℕ) (d : Outcome) (ks : List KeptOutcome) (rs : List Record) → faults b a (ks ++ settled_as d rs) ≡ faults b a ks + (if is_fault b a d then length rs else 0)
faults_append b a d [] [] = by_test (is_fault b a d)
  where
    by_test : (x : Bool) → 0 ≡ 0 + (if x then 0 else 0)
    by_test true = omega arith
    by_test false = omega arith
faults_append b a d [] (r ∷ rs) = by_test (is_fault b a d) refl (faults_append b a d [] rs)
  where
    by_test : (x : Bool) → is_fault b a d ≡ x → faults b a (settled_as d rs) ≡ 0 + (if x then length rs else 0) → faults b a (settled_as d (r ∷ rs)) ≡ 0 + (if x then length (r ∷ rs) else 0)
    by_test true e ih = rw e (omega (arith, ih))
    by_test false e ih = rw e (omega (arith, ih))
faults_append b a d (k ∷ ks) rs = by_test (is_fault b a k.outcome) refl (faults_append b a d ks rs)
  where
    by_test : (x : Bool) → is_fault b a k.outcome ≡ x → faults b a (ks ++ settled_as d rs) ≡ faults b a ks + (if is_fault b a d then length rs else 0) → faults b a (k ∷ ks ++ settled_as d rs) ≡ faults b a (k ∷ ks) + (if is_fault b a d then length rs else 0)
    by_test true e ih = rw e (omega (arith, ih))
    by_test false e ih = rw e (omega (arith, ih))

no_faults : (low high b a : ℕ) (ks : List KeptOutcome) → AllCounted low high ks → high < a → faults b a ks ≡ 0
no_faults low high b a [] all lt = refl
no_faults low high b a (k ∷ ks) all lt = let other = apart k.outcome all.0 in let ih = no_faults low high b a ks all.1 lt in rw other (omega (arith, ih))
  where
    and_false : (x : Bool) → (x && false) ≡ false
    and_false true = refl
    and_false false = refl

    apart : (o : Outcome) → IsCounted low high o → is_fault b a o ≡ false
    apart (Committed e) c = refl
    apart (Failed x y) c = ap (λ z. b == x && z) (ne_eqb a y (λ e. let q = c.2 in absurd (omega (arith, e, q, lt)))) ∙ and_false (b == x)

committed_failed : (e b a : ℕ) → Committed e ≡ Failed b a → ⊥
committed_failed e b a q = (cc)

failed_is : (b a c e : ℕ) → Failed b a ≡ Failed c e → (b ≡ c) × (a ≡ e)
failed_is b a c e q = let x : b ≡ c = (cc) in let y : a ≡ e = (cc) in (x, y)

-- ---- write group and mend

writes_durable : (base : Base) (s : State) (i : Name) (moment : ℕ) → Durability base s → Durability base (after_log s i (writes moment i s.log (s.actor i)))
writes_durable base s i moment d =
    if_log keeps (not (is_held_by i s.log.holder)) None _ (λ _. d) (λ held. if_log keeps (s.actor i).written None _ (λ _. d) (λ fresh. if_log keeps (not s.log.mended) None _ (λ _. d)
    (λ mended. if_log keeps (nat_lt moment s.log.moment) None _ (λ _. d) (λ late. written (not_false (is_held_by i s.log.holder) held) fresh (not_false s.log.mended mended) (ltb-false moment s.log.moment late)))))
  where
    keeps : Option LogMove → Type 0
    keeps m = Durability base (after_log s i m)

    a : Actor
    a = record (s.actor i) { written = true; looked = None }

    now : Name → Actor
    now = set_name s.actor i a

    z : State
    z = record s { log = record s.log { durable = s.log.durable + 1; moment = moment; disk = with_durable moment (numbered (s.log.durable + 1) (s.actor i).group) s.log.disk }; actor = now }

    group_same : (j : Name) → (now j).group ≡ (s.actor j).group
    group_same = name_each (λ j (b : Actor). b.group ≡ (s.actor j).group) s.actor i a refl (λ j n. refl)

    written : is_held_by i s.log.holder ≡ true → (s.actor i).written ≡ false → s.log.mended ≡ true → s.log.moment ≤ moment → Durability base z
    written held fresh mended late = record {
      busy = λ j h. rw (group_same j) (d.busy j h);
      idle = λ j h. let n : j ≢ i = (λ e. false≢true (sym h ∙ ap (λ k. is_held_by k s.log.holder) e ∙ held)) in let old = d.idle j h in (group_same j ∙ old.0, ap (λ (b : Actor). b.written) (set_name_there s.actor i a j n) ∙ old.1);
      moments = d.moments;
      rise = d.rise;
      past = by-later s.log.moment moment s.clock.moments late d.past;
      epoch = rw is_now (let e = level in omega (arith, e));
      standing = λ h. absurd (true≢false (sym mended ∙ h));
      disk = λ x h. on_disk s.log.disk refl x h;
      count = d.count;
      counts = d.counts;
      spans = d.spans;
      few = d.few;
    }
      where
        holder : s.log.holder ≡ Some i
        holder = holder_is i s.log.holder held

        is_now : is_unpublished s.log.holder now ≡ true
        is_now = ap (λ o. is_unpublished o now) holder ∙ ap (λ (b : Actor). b.written) (set_name_here s.actor i a i refl)

        was : is_unpublished s.log.holder s.actor ≡ false
        was = ap (λ o. is_unpublished o s.actor) holder ∙ fresh

        level : s.log.durable ≡ s.clock.last
        level = d.epoch ∙ ap (λ b. if b then s.clock.last + 1 else s.clock.last) was

        nothing : unpublished s.log.holder s.actor ≡ []
        nothing = ap (λ o. unpublished o s.actor) holder ∙ ap (λ b. if b then (s.actor i).group else []) fresh

        group : unpublished s.log.holder now ≡ (s.actor i).group
        group = ap (λ o. unpublished o now) holder ∙ (λ j. if (ap (λ (b : Actor). b.written) (set_name_here s.actor i a i refl)) j then (group_same i) j else [])

        on_disk : (o : Option DiskRecords) → s.log.disk ≡ o → (x : DiskRecords) → with_durable moment (numbered (s.log.durable + 1) (s.actor i).group) s.log.disk ≡ Some x → OnDisk z x
        on_disk None is x h = absurd (none_some x (ap (with_durable moment (numbered (s.log.durable + 1) (s.actor i).group)) (sym is) ∙ h))
        on_disk (Some y) is x h =
            let now_is : DiskRecords = record { opened = y.opened; durable = y.durable ++ numbered (s.log.durable + 1) (s.actor i).group; moments = y.moments ++ moment ∷ []; attempt = y.attempt; tried = y.tried } in
            let same : now_is ≡ x = some_is now_is x (ap (with_durable moment (numbered (s.log.durable + 1) (s.actor i).group)) (sym is) ∙ h) in
            let old = d.disk y is in
            let none = old.mended mended in
            subst (OnDisk z) same (record {
              durable =
                  ap (λ xs. xs ++ numbered (s.log.durable + 1) (s.actor i).group) (old.durable ∙ ap (λ rs. y.opened ++ (s.clock.records ++ numbered (s.clock.last + 1) rs)) nothing ∙ ap (λ rs. y.opened ++ rs) (append-nil s.clock.records))
                  ∙ append_assoc y.opened s.clock.records (numbered (s.log.durable + 1) (s.actor i).group)
                  ∙ (λ j. y.opened ++ (s.clock.records ++ numbered (level j + 1) (sym group j)));
              moments =
                  ap (λ ms. ms ++ moment ∷ []) (old.moments ∙ ap (λ b. s.clock.moments ++ unpublished_moment s.log.moment b) was ∙ append-nil s.clock.moments)
                  ∙ ap (λ b. s.clock.moments ++ unpublished_moment moment b) (sym is_now);
              mended = λ _. none;
              attempt = λ rs e. absurd (none_some rs (sym none ∙ e));
            })

mends_durable : (base : Base) (s : State) (i : Name) → Durability base s → Durability base (after_log s i (mends i s.log (s.actor i)))
mends_durable base s i d = if_log keeps s.log.mended None _ (λ _. d) (λ _. if_log keeps (not (may_take i s.log.holder)) None _ (λ _. d) (λ _. mended))
  where
    keeps : Option LogMove → Type 0
    keeps m = Durability base (after_log s i m)

    a : Actor
    a = record (s.actor i) { looked = None }

    z : State
    z = record s { log = record s.log { mended = true; disk = without_attempt s.log.disk }; actor = set_name s.actor i a }

    same : ((j : Name) → (z.actor j).group ≡ (s.actor j).group) × ((j : Name) → (z.actor j).written ≡ (s.actor j).written)
    same = one_same s.actor i a (refl, refl)

    un : (is_unpublished s.log.holder z.actor ≡ is_unpublished s.log.holder s.actor) × (unpublished s.log.holder z.actor ≡ unpublished s.log.holder s.actor)
    un = same_unpublished s.log.holder s.actor z.actor same.0 same.1

    on_disk : (o : Option DiskRecords) → s.log.disk ≡ o → (x : DiskRecords) → without_attempt s.log.disk ≡ Some x → OnDisk z x
    on_disk None is x h = absurd (none_some x (ap without_attempt (sym is) ∙ h))
    on_disk (Some y) is x h =
        let now_is : DiskRecords = record { opened = y.opened; durable = y.durable; moments = y.moments; attempt = None; tried = y.tried } in
        let gone : now_is ≡ x = some_is now_is x (ap without_attempt (sym is) ∙ h) in
        subst (OnDisk z) gone (record { durable = rw un.1 (d.disk y is).durable; moments = rw un.0 (d.disk y is).moments; mended = λ _. refl; attempt = λ rs e. absurd (none_some rs e) })

    mended : Durability base z
    mended = record {
      busy = λ j h. rw (same.0 j) (d.busy j h);
      idle = λ j h. let old = d.idle j h in (same.0 j ∙ old.0, same.1 j ∙ old.1);
      moments = d.moments;
      rise = d.rise;
      past = d.past;
      epoch = rw un.0 d.epoch;
      standing = λ h. absurd (true≢false h);
      disk = λ x h. on_disk s.log.disk refl x h;
      count = d.count;
      counts = d.counts;
      spans = d.spans;
      few = d.few;
    }

-- ---- collect, publish and fail

some_first : (n : ℕ) (xs : List Record) → (length xs == 0) ≡ false → 0 < length (take (suc n) xs)
some_first n [] e = absurd (true≢false e)
some_first n (x ∷ xs) e = omega arith

collects_durable : (base : Base) (s : State) (i : Name) → Durability base s → Durability base (after_group s i (collects i s.log s.clock (s.actor i)))
collects_durable base s i d = if_group keeps (is_some s.log.holder) None _ (λ _. d) (λ free. if_group keeps (length s.clock.queue == 0) None _ (λ _. d) (λ some. collected (free_holder s.log.holder free) some))
  where
    keeps : Option GroupMove → Type 0
    keeps m = Durability base (after_group s i m)

    a : Actor
    a = record (s.actor i) { group = take group_most s.clock.queue; looked = None }

    now : Name → Actor
    now = set_name s.actor i a

    z : State
    z = record s { clock = record s.clock { queue = drop group_most s.clock.queue }; log = record s.log { holder = Some i }; actor = now }

    collected : s.log.holder ≡ None → (length s.clock.queue == 0) ≡ false → Durability base z
    collected free some = record {
      busy = λ j h. let e : j ≡ i = same_name_is j i h in rw (ap (λ (b : Actor). b.group) (set_name_here s.actor i a j e)) (some_first 63 s.clock.queue some);
      idle = λ j h. let n : j ≢ i = (λ e. false≢true (sym h ∙ same_name_true j i e)) in let old = idle j in (ap (λ (b : Actor). b.group) (set_name_there s.actor i a j n) ∙ old.0, ap (λ (b : Actor). b.written) (set_name_there s.actor i a j n) ∙ old.1);
      moments = d.moments;
      rise = d.rise;
      past = d.past;
      epoch = rw quiet (d.epoch ∙ ap (λ b. if b then s.clock.last + 1 else s.clock.last) was);
      standing = λ h. quiet;
      disk = λ x h. let old = d.disk x h in record {
        durable = rw nothing (old.durable ∙ ap (λ rs. x.opened ++ (s.clock.records ++ numbered (s.clock.last + 1) rs)) none);
        moments = old.moments ∙ ap (λ b. s.clock.moments ++ unpublished_moment s.log.moment b) (was ∙ sym quiet);
        mended = old.mended;
        attempt = old.attempt;
      };
      count = d.count;
      counts = d.counts;
      spans = d.spans;
      few = d.few;
    }
      where
        idle : (j : Name) → ((s.actor j).group ≡ []) × ((s.actor j).written ≡ false)
        idle j = d.idle j (ap (is_held_by j) free)

        quiet : is_unpublished (Some i) now ≡ false
        quiet = ap (λ (b : Actor). b.written) (set_name_here s.actor i a i refl) ∙ (idle i).1

        nothing : unpublished (Some i) now ≡ []
        nothing = ap (λ b. if b then (now i).group else []) quiet

        was : is_unpublished s.log.holder s.actor ≡ false
        was = ap (λ o. is_unpublished o s.actor) free

        none : unpublished s.log.holder s.actor ≡ []
        none = ap (λ o. unpublished o s.actor) free

-- an actor that has given the log turn back, among the others
given : (base : Base) (s : State) (i : Name) (o : Outcome) → Durability base s → is_held_by i s.log.holder ≡ true
    → (j : Name) → ((set_name s.actor i (without_group o (s.actor i)) j).group ≡ []) × ((set_name s.actor i (without_group o (s.actor i)) j).written ≡ false)
given base s i o d held = name_each (λ j (b : Actor). (b.group ≡ []) × (b.written ≡ false)) s.actor i (without_group o (s.actor i)) (refl, refl)
    (λ j n. d.idle j (ap (is_held_by j) (holder_is i s.log.holder held) ∙ not_held i j n))

publishes_durable : (base : Base) (s : State) (i : Name) → Durability base s → Durability base (after_group s i (publishes i s.log s.clock (s.actor i)))
publishes_durable base s i d = if_group keeps (not (is_held_by i s.log.holder)) None _ (λ _. d) (λ held. if_group keeps (not (s.actor i).written) None _ (λ _. d)
    (λ written. published (not_false (is_held_by i s.log.holder) held) (not_false (s.actor i).written written)))
  where
    keeps : Option GroupMove → Type 0
    keeps m = Durability base (after_group s i m)

    published : is_held_by i s.log.holder ≡ true → (s.actor i).written ≡ true → Durability base (after_group s i (Some (record {
      answer = Rattle.core_states.specs.declared.event.CoreAnswer.TheVariants.Published (s.clock.last + 1);
      log = record s.log { holder = None };
      clock = record s.clock {
        last = s.clock.last + 1;
        moments = s.clock.moments ++ s.log.moment ∷ [];
        pending = s.clock.pending ++ Rattle.core_states.specs.Numbers.pending_of (s.clock.last + 1) (s.actor i).group;
        outcomes = s.clock.outcomes ++ settled_as (Committed (s.clock.last + 1)) (s.actor i).group;
        records = s.clock.records ++ numbered (s.clock.last + 1) (s.actor i).group;
      };
      actor = without_group (Committed (s.clock.last + 1)) (s.actor i);
    })))
    published held written = record {
      busy = λ j h. absurd (false≢true h);
      idle = λ j h. given base s i (Committed (s.clock.last + 1)) d held j;
      moments = (let l = length-append s.clock.moments (s.log.moment ∷ []) in let m = d.moments in omega (arith, l, m));
      rise = rise-push s.log.moment s.clock.moments d.past d.rise;
      past = by-push s.log.moment s.clock.moments d.past;
      epoch = d.epoch ∙ ap (λ b. if b then s.clock.last + 1 else s.clock.last) was;
      standing = λ h. refl;
      disk = λ x h. let old = d.disk x h in record {
        durable = old.durable ∙ ap (λ rs. x.opened ++ (s.clock.records ++ numbered (s.clock.last + 1) rs)) group ∙ ap (λ rs. x.opened ++ rs) (sym (append-nil (s.clock.records ++ numbered (s.clock.last + 1) (s.actor i).group)));
        moments = old.moments ∙ ap (λ b. s.clock.moments ++ unpublished_moment s.log.moment b) was ∙ sym (append-nil (s.clock.moments ++ s.log.moment ∷ []));
        mended = old.mended;
        attempt = λ rs e. absurd (none_some rs (sym (old.mended mended) ∙ e));
      };
      count = d.count;
      counts = counted_append s.log.opening_count s.log.greatest (Committed (s.clock.last + 1)) s.clock.outcomes (s.actor i).group d.counts tt;
      spans = λ t u b a c e x y. d.spans t u b a c e (old_fault t b a x) (old_fault u c e y);
      few = λ b a. (let f = faults_append b a (Committed (s.clock.last + 1)) s.clock.outcomes (s.actor i).group in let g = d.few b a in omega (arith, f, g));
    }
      where
        holder : s.log.holder ≡ Some i
        holder = holder_is i s.log.holder held

        was : is_unpublished s.log.holder s.actor ≡ true
        was = ap (λ o. is_unpublished o s.actor) holder ∙ written

        group : unpublished s.log.holder s.actor ≡ (s.actor i).group
        group = ap (λ o. unpublished o s.actor) holder ∙ ap (λ b. if b then (s.actor i).group else []) written

        mended : s.log.mended ≡ true
        mended = by_test s.log.mended refl
          where
            by_test : (b : Bool) → s.log.mended ≡ b → b ≡ true
            by_test true e = refl
            by_test false e = absurd (true≢false (sym was ∙ d.standing e))

        old_fault : (t b a : ℕ) → outcome_of t (s.clock.outcomes ++ settled_as (Committed (s.clock.last + 1)) (s.actor i).group) ≡ Some (Failed b a) → outcome_of t s.clock.outcomes ≡ Some (Failed b a)
        old_fault t b a is = ⊎_elim (λ (e : outcome_of t s.clock.outcomes ≡ Some (Failed b a)). e) (λ (e : Committed (s.clock.last + 1) ≡ Failed b a). absurd (committed_failed (s.clock.last + 1) b a e))
            (old_or_new t (Failed b a) (Committed (s.clock.last + 1)) s.clock.outcomes (s.actor i).group is)

In-numbered-tid : (e : ℕ) (r : Record) (rs : List Record) → In r (numbered e rs) → has_record r.tid rs ≡ true
In-numbered-tid e r [] m = absurd m
In-numbered-tid e r (x ∷ rs) (inl is) = rw (eq-eqb x.tid r.tid (ap (λ (y : Record). y.tid) (sym is))) refl
In-numbered-tid e r (x ∷ rs) (inr m) = rw (In-numbered-tid e r rs m) (or_true (x.tid == r.tid))
  where
    or_true : (b : Bool) → (b || true) ≡ true
    or_true true = refl
    or_true false = refl

fails_durable : (base : Base) (g : Ghost) (s : State) (i : Name) (f c : ℕ) → Good base g s → Durability base s → Durability base (after_group s i (fails f c i s.log s.clock (s.actor i)))
fails_durable base g s i f c good d = if_group keeps (not (is_held_by i s.log.holder)) None _ (λ _. d) (λ held. if_group keeps (s.actor i).written None _ (λ _. d)
    (λ fresh. if_group keeps (not (nat_lt f c && nat_le s.log.greatest f)) None _ (λ _. d)
    (λ both. let p = and_parts (nat_lt f c) (nat_le s.log.greatest f) (not_false (nat_lt f c && nat_le s.log.greatest f) both) in
    failed (not_false (is_held_by i s.log.holder) held) fresh (ltb-true f c p.0) (leb-true s.log.greatest f p.1))))
  where
    keeps : Option GroupMove → Type 0
    keeps m = Durability base (after_group s i m)

    attempt : List Record
    attempt = numbered (s.log.durable + 1) (s.actor i).group

    z : State
    z = record s {
      clock = record s.clock { outcomes = s.clock.outcomes ++ settled_as (Failed f c) (s.actor i).group };
      log = record s.log { holder = None; mended = false; greatest = c; disk = with_attempt attempt s.log.disk };
      actor = set_name s.actor i (without_group (Failed f c) (s.actor i));
    }

    failed : is_held_by i s.log.holder ≡ true → (s.actor i).written ≡ false → f < c → s.log.greatest ≤ f → Durability base z
    failed held fresh lt up = record {
      busy = λ j h. absurd (false≢true h);
      idle = λ j h. given base s i (Failed f c) d held j;
      moments = d.moments;
      rise = d.rise;
      past = d.past;
      epoch = level;
      standing = λ h. refl;
      disk = λ x h. on_disk s.log.disk refl x h;
      count = (let q = d.count in omega (arith, q, lt, up));
      counts = counted_append s.log.opening_count c (Failed f c) s.clock.outcomes (s.actor i).group (counted_up s.log.opening_count s.log.greatest c s.clock.outcomes (omega (arith, lt, up)) d.counts) ((let q = d.count in omega (arith, q, up)), lt, omega arith);
      spans = λ t u b a x y p q. spans t u b a x y (cases t b a p) (cases u x y q);
      few = few;
    }
      where
        holder : s.log.holder ≡ Some i
        holder = holder_is i s.log.holder held

        was : is_unpublished s.log.holder s.actor ≡ false
        was = ap (λ o. is_unpublished o s.actor) holder ∙ fresh

        level : s.log.durable ≡ s.clock.last
        level = d.epoch ∙ ap (λ b. if b then s.clock.last + 1 else s.clock.last) was

        nothing : unpublished s.log.holder s.actor ≡ []
        nothing = ap (λ o. unpublished o s.actor) holder ∙ ap (λ b. if b then (s.actor i).group else []) fresh

        -- the records of the group have this outcome
        now_failed : (t : ℕ) → has_record t (s.actor i).group ≡ true → HasFailed z t
        now_failed t has = (
          f,
          c,
          outcome_of-append t s.clock.outcomes (settled_as (Failed f c) (s.actor i).group) (good.outcomes t ∙ ap outcome_at (wait_place g s.actor (InGroup i) (s.actor i).group t (good.groups i) has))
              ∙ outcome_of-settled (Failed f c) t (s.actor i).group ∙ rw has refl,
        )

        on_disk : (o : Option DiskRecords) → s.log.disk ≡ o → (x : DiskRecords) → with_attempt attempt s.log.disk ≡ Some x → OnDisk z x
        on_disk None is x h = absurd (none_some x (ap (with_attempt attempt) (sym is) ∙ h))
        on_disk (Some y) is x h =
            let now_is : DiskRecords = record { opened = y.opened; durable = y.durable; moments = y.moments; attempt = Some (first_attempt y.attempt attempt); tried = more_tried y.attempt attempt y.tried } in
            let same : now_is ≡ x = some_is now_is x (ap (with_attempt attempt) (sym is) ∙ h) in
            let old = d.disk y is in
            subst (OnDisk z) same (record {
              durable = old.durable ∙ ap (λ rs. y.opened ++ (s.clock.records ++ numbered (s.clock.last + 1) rs)) nothing;
              moments = old.moments ∙ ap (λ b. s.clock.moments ++ unpublished_moment s.log.moment b) was;
              mended = λ e. absurd (false≢true e);
              attempt = λ rs e. subst (λ qs. AllAt (s.clock.last + 1) qs × ((r : Record) → In r qs → HasFailed z r.tid)) (some_is (first_attempt y.attempt attempt) rs e) (stands old y.attempt refl);
            })
          where
            stands : OnDisk s y → (o : Option (List Record)) → y.attempt ≡ o → AllAt (s.clock.last + 1) (first_attempt o attempt) × ((r : Record) → In r (first_attempt o attempt) → HasFailed z r.tid)
            stands old None at = (subst (λ n. AllAt (n + 1) attempt) level (all_at-numbered (s.log.durable + 1) (s.actor i).group), λ r m. now_failed r.tid (In-numbered-tid (s.log.durable + 1) r (s.actor i).group m))
            stands old (Some qs) at = let a = old.attempt qs at in (a.0, λ r m. let h = a.1 r m in (h.0, h.1, kept_first r.tid (Failed h.0 h.1) s.clock.outcomes (settled_as (Failed f c) (s.actor i).group) h.2))

        cases : (t b a : ℕ) → outcome_of t (s.clock.outcomes ++ settled_as (Failed f c) (s.actor i).group) ≡ Some (Failed b a) → (outcome_of t s.clock.outcomes ≡ Some (Failed b a)) ⊎ ((f ≡ b) × (c ≡ a))
        cases t b a is = ⊎_elim (λ (e : outcome_of t s.clock.outcomes ≡ Some (Failed b a)). inl e) (λ (e : Failed f c ≡ Failed b a). inr (failed_is f c b a e)) (old_or_new t (Failed b a) (Failed f c) s.clock.outcomes (s.actor i).group is)

        spans : (t u b a x y : ℕ) → (outcome_of t s.clock.outcomes ≡ Some (Failed b a)) ⊎ ((f ≡ b) × (c ≡ a)) → (outcome_of u s.clock.outcomes ≡ Some (Failed x y)) ⊎ ((f ≡ x) × (c ≡ y)) → SpansApart b a x y
        spans t u b a x y (inl p) (inl q) = d.spans t u b a x y p q
        spans t u b a x y (inl p) (inr q) = let old = counted_of t s.log.opening_count s.log.greatest b a s.clock.outcomes d.counts p in inr (inl (let h = old.2 in let e = q.0 in omega (arith, h, e, up)))
        spans t u b a x y (inr p) (inl q) = let old = counted_of u s.log.opening_count s.log.greatest x y s.clock.outcomes d.counts q in inr (inr (let h = old.2 in let e = p.0 in omega (arith, h, e, up)))
        spans t u b a x y (inr p) (inr q) = inl (sym p.0 ∙ q.0, sym p.1 ∙ q.1)

        few : (b a : ℕ) → faults b a (s.clock.outcomes ++ settled_as (Failed f c) (s.actor i).group) ≤ group_most
        few b a = by_test (is_fault b a (Failed f c)) refl
          where
            by_test : (x : Bool) → is_fault b a (Failed f c) ≡ x → faults b a (s.clock.outcomes ++ settled_as (Failed f c) (s.actor i).group) ≤ group_most
            by_test true e =
                let same = eqb-true a c (and_parts (b == f) (a == c) e).1 in
                let none = no_faults s.log.opening_count s.log.greatest b a s.clock.outcomes d.counts (omega (arith, same, lt, up)) in
                let all = faults_append b a (Failed f c) s.clock.outcomes (s.actor i).group ∙ ap (λ y. faults b a s.clock.outcomes + (if y then length (s.actor i).group else 0)) e in
                let small = good.short i in
                omega (arith, none, all, small)
            by_test false e =
                let all = faults_append b a (Failed f c) s.clock.outcomes (s.actor i).group ∙ ap (λ y. faults b a s.clock.outcomes + (if y then length (s.actor i).group else 0)) e in
                let old = d.few b a in
                omega (arith, all, old)

-- ---- all events

log_durable : (base : Base) (s : State) (i : Name) (action : Act) → Durability base s → Durability base (after_log s i (log_event action i s.log (s.actor i)))
log_durable base s i act.Open kept = kept
log_durable base s i act.Close kept = kept
log_durable base s i act.Begin kept = kept
log_durable base s i act.Draw kept = kept
log_durable base s i act.Enqueue kept = kept
log_durable base s i act.Collect kept = kept
log_durable base s i act.Publish kept = kept
log_durable base s i (act.Fail f c) kept = kept
log_durable base s i act.Outcome kept = kept
log_durable base s i act.Done kept = kept
log_durable base s i act.Seen kept = kept
log_durable base s i act.End kept = kept
log_durable base s i act.Horizon kept = kept
log_durable base s i (act.Look v) kept = kept
log_durable base s i (act.Put v l d p) kept = kept
log_durable base s i (act.Del v l d) kept = kept
log_durable base s i (act.Set v p) kept = kept
log_durable base s i (act.Drop v) kept = kept
log_durable base s i (act.New v p) kept = kept
log_durable base s i (act.Read q) kept = kept
log_durable base s i (act.Apply v) kept = kept
log_durable base s i (act.Undo v) kept = kept
log_durable base s i (act.WriteGroup m) d = writes_durable base s i m d
log_durable base s i act.Mend d = mends_durable base s i d

group_durable : (base : Base) (g : Ghost) (s : State) (i : Name) (action : Act) → Good base g s → Durability base s → Durability base (after_group s i (group_event action i s.log s.clock (s.actor i)))
group_durable base g s i act.Open good kept = kept
group_durable base g s i act.Close good kept = kept
group_durable base g s i act.Begin good kept = kept
group_durable base g s i act.Draw good kept = kept
group_durable base g s i act.Enqueue good kept = kept
group_durable base g s i act.Collect good d = collects_durable base s i d
group_durable base g s i act.Publish good d = publishes_durable base s i d
group_durable base g s i (act.Fail f c) good d = fails_durable base g s i f c good d
group_durable base g s i act.Outcome good kept = kept
group_durable base g s i act.Done good kept = kept
group_durable base g s i act.Seen good kept = kept
group_durable base g s i act.End good kept = kept
group_durable base g s i act.Horizon good kept = kept
group_durable base g s i (act.Look v) good kept = kept
group_durable base g s i (act.Put v l d p) good kept = kept
group_durable base g s i (act.Del v l d) good kept = kept
group_durable base g s i (act.Set v p) good kept = kept
group_durable base g s i (act.Drop v) good kept = kept
group_durable base g s i (act.New v p) good kept = kept
group_durable base g s i (act.Read q) good kept = kept
group_durable base g s i (act.Apply v) good kept = kept
group_durable base g s i (act.Undo v) good kept = kept
group_durable base g s i (act.WriteGroup m) good kept = kept
group_durable base g s i act.Mend good kept = kept

-- Every event keeps it.
pub step_durable : (base : Base) (g : Ghost) (most : Limits) (s : State) (i : Name) (action : Act) → Good base g s → Durability base s → Durability base (after most s i action)
step_durable base g most s i action good d = by_reach (reach_of action)
  where
    by_reach : (r : Reach) → Durability base (after_at r most s i action)
    by_reach reach.Clock = clock_durable base s i (clock_event action s.clock (s.actor i)) (clock_calm action s.clock (s.actor i)) d
    by_reach (reach.Row v) = row_durable base s i v (row_event most action (s.row v) (s.actor i)) (still most action (s.row v) (s.actor i)) d
    by_reach reach.Log = log_durable base s i action d
    by_reach reach.LogAndClock = group_durable base g s i action good d

-- It holds at the opening.
pub opening_durable : (base : Base) (found : Found) → Durability base (opening base found)
opening_durable base found = record {
  busy = λ i h. absurd (false≢true h);
  idle = λ i h. (refl, refl);
  moments = omega arith;
  rise = tt;
  past = tt;
  epoch = refl;
  standing = λ h. absurd (true≢false h);
  disk = λ x h. on_disk found.records x h;
  count = omega arith;
  counts = tt;
  spans = λ t u b a c e x y. absurd (none_some (Failed b a) x);
  few = λ b a. omega arith;
}
  where
    on_disk : (o : Option (List Record)) → (x : DiskRecords) → found_records o ≡ Some x → OnDisk (opening base found) x
    on_disk None x h = absurd (none_some x h)
    on_disk (Some rs) x h = subst (OnDisk (opening base found)) (some_is (record { opened = rs; durable = rs; moments = []; attempt = None; tried = [] }) x h) (record { durable = sym (append-nil rs); moments = refl; mended = λ _. refl; attempt = λ qs e. absurd (none_some qs e) })
