-- No event takes back a record, a number or an epoch.
use Rattle.core_kept.specs.Bounds.{Kept}
use Rattle.core_kept.proofs.GroupSteps.{if_log, if_group, not_false}
use Rattle.core_states.specs.declared.event.Reach.{Reach}
use Rattle.core_states.specs.LogEvents.{LogMove, GroupMove, writes, mends, collects, publishes, fails}
use Rattle.core_states.specs.declared.disk_records.DiskRecords.{DiskRecords}
use Rattle.core_states.specs.LogParts.{LogPart, with_durable, with_attempt, is_held_by, may_take, without_attempt}
use Rattle.core_states.specs.declared.event.Reach.TheVariants as reach
use Rattle.std.proofs.Common.{◌≡◌, ℕ, ◌+◌, ◌<◌, ◌≤◌, Bool, true, false, ◌&&◌, not, List, [], ◌∷◌, ◌++◌, length, refl, sym, ap, ◌∙◌, subst, arith, append-nil, Option, Some, None, inl, inr, is_some, nat_lt, ltb-false, nat_le, ltb-true, leb-true}
use Rattle.std.proofs.lemmas.Bool.{eq-eqb, both_ways, or_parts, and_parts}
use Rattle.std.specs.Prelude.{if◌then◌else◌, ◌==◌}
use Rattle.graph_model.specs.declared.record.Record.{Record}
use Rattle.core_states.specs.ClockEvents.{ClockMove, for_txn, for_none, done_at, sees}
use Rattle.graph_model.specs.declared.graph.Base.{Base}
use Rattle.core_kept.specs.Good.{In, Ghost, AllAbove, Good}
use Rattle.core_states.specs.Laters.{AllLater, Later, LaterLog, opened_records}
use Rattle.core_kept.proofs.Ending.{visible_up, above_without}
use Rattle.core_states.specs.Names.{Name}
use Rattle.core_states.specs.Numbers.{without_active, all_in, has_record, numbered}
use Rattle.graph_model.specs.Records.{number_end}
use Rattle.core_states.specs.declared.event.Act.TheVariants as act
use Rattle.core_states.specs.RowEvents.{RowMove, Limits}
use Rattle.core_states.specs.States.{after_row, log_event, group_event, after_log, after_group, reach_of}
use Rattle.core_states.specs.States.{State, clock_event, row_event, after_clock, after_at, after}
use Rattle.core_states.specs.Transactions.{is_queued, is_loser, won_epoch, is_working}
use Rattle.core_states.specs.declared.actor.Actor.{Actor}
use Rattle.core_states.specs.declared.clock.Clock.{Clock}
use Rattle.core_states.specs.declared.event.Act.{Act}
use Rattle.core_states.specs.declared.transaction.Transaction.{Transaction}

-- the records are added to, and the numbers do not fall
record Added (k z : Clock) : Type 0 where
  next_tid : k.next_tid ≤ z.next_tid
  next_vertex : k.next_vertex ≤ z.next_vertex
  last : k.last ≤ z.last
  more : List Record
  is : z.records ≡ k.records ++ more
  above : AllLater k.last more
  since : List ℕ
  moments : z.moments ≡ k.moments ++ since

later_same : (k z : Clock) → k.next_tid ≤ z.next_tid → k.next_vertex ≤ z.next_vertex → k.last ≡ z.last → z.records ≡ k.records → z.moments ≡ k.moments → Added k z
later_same k z a b c d m = record { next_tid = a; next_vertex = b; last = omega (arith, c); more = []; is = d ∙ sym (append-nil k.records); above = tt; since = []; moments = m ∙ sym (append-nil k.moments) }

numbered_later : (e : ℕ) (rs : List Record) → AllLater e (numbered (e + 1) rs)
numbered_later e [] = tt
numbered_later e (r ∷ rs) = (omega arith, numbered_later e rs)

abbrev Moves : Clock → Option ClockMove → Type 0
Moves k None = Unit {0}
Moves k (Some m) = Added k m.clock

if_moves : (k : Clock) (b : Bool) (m n : Option ClockMove) → Moves k m → Moves k n → Moves k (if b then m else n)
if_moves k true m n x y = x
if_moves k false m n x y = y

for_moves : (k : Clock) (f : Transaction → Option ClockMove) (o : Option Transaction) → ((x : Transaction) → Moves k (f x)) → Moves k (for_txn f o)
for_moves k f None h = tt
for_moves k f (Some x) h = h x

none_moves : (k : Clock) (m : Option ClockMove) (o : Option Transaction) → Moves k m → Moves k (for_none m o)
none_moves k m None h = h
none_moves k m (Some x) h = tt

stays : (k : Clock) → Added k k
stays k = later_same k k (omega arith) (omega arith) refl refl refl

done_moves : (o : Option ℕ) (x : Transaction) (k : Clock) (a : Actor) → Moves k (done_at o x k a)
done_moves None x k a = tt
done_moves (Some e) x k a = if_moves k (all_in x.touched x.settled) _ None (later_same k _ (omega arith) (omega arith) refl refl refl) tt

sees_moves : (o : Option ℕ) (k : Clock) (a : Actor) → Moves k (sees o k a)
sees_moves None k a = tt
sees_moves (Some e) k a = stays k

moves : (action : Act) (k : Clock) (a : Actor) → Moves k (clock_event action k a)
moves act.Open k a = if_moves k a.row None _ tt (stays k)
moves act.Close k a = none_moves k _ a.txn (if_moves k a.row _ None (stays k) tt)
moves act.Begin k a = none_moves k _ a.txn (if_moves k (not a.row) None _ tt (if_moves k (k.next_tid == number_end) _ _ (stays k) (later_same k _ (omega arith) (omega arith) refl refl refl)))
moves act.Draw k a = for_moves k _ a.txn (λ x. if_moves k (not (is_working x)) None _ tt (if_moves k (k.next_vertex == number_end) _ _ (stays k) (later_same k _ (omega arith) (omega arith) refl refl refl)))
moves act.Enqueue k a = for_moves k _ a.txn (λ x. if_moves k (not (is_working x)) None _ tt (if_moves k (length x.own == 0) None _ tt (later_same k _ (omega arith) (omega arith) refl refl refl)))
moves act.Collect k a = tt
moves act.Publish k a = tt
moves (act.Fail f c) k a = tt
moves (act.WriteGroup m) k a = tt
moves act.Mend k a = tt
moves act.Outcome k a = for_moves k _ a.txn (λ x. if_moves k (not (is_queued x.stage)) None _ tt (stays k))
moves act.Done k a = for_moves k _ a.txn (λ x. done_moves (won_epoch x.stage) x k a)
moves act.Seen k a = none_moves k _ a.txn (sees_moves a.finished k a)
moves act.End k a = for_moves k _ a.txn (λ x. if_moves k (is_loser x.stage && all_in x.touched x.settled) _ None (later_same k _ (omega arith) (omega arith) refl refl refl) tt)
moves act.Horizon k a = stays k
moves (act.Look v) k a = tt
moves (act.Put v l d p) k a = tt
moves (act.Del v l d) k a = tt
moves (act.Set v p) k a = tt
moves (act.Drop v) k a = tt
moves (act.New v p) k a = tt
moves (act.Read q) k a = tt
moves (act.Apply v) k a = tt
moves (act.Undo v) k a = tt

after_moves : (s : State) (i : Name) (m : Option ClockMove) → Moves s.clock m → Added s.clock (after_clock s i m).clock
after_moves s i None h = stays s.clock
after_moves s i (Some m) h = h

row_stays : (s : State) (i : Name) (v : ℕ) (m : Option RowMove) → Added s.clock (after_row s i v m).clock
row_stays s i v None = stays s.clock
row_stays s i v (Some m) = stays s.clock

-- the log part stands, or moves on
abbrev LogMoves : LogPart → Option LogMove → Type 0
LogMoves log None = Unit {0}
LogMoves log (Some m) = LaterLog log m.log

abbrev GroupMoves : LogPart → Clock → Option GroupMove → Type 0
GroupMoves log k None = Unit {0}
GroupMoves log k (Some m) = LaterLog log m.log × Added k m.clock × (k.visible ≤ m.clock.visible)

same_log : (log : LogPart) → LaterLog log log
same_log log = record { durable = omega arith; moment = omega arith; greatest = omega arith; opening_count = refl; firm = refl; opened = refl }

same_opened : (m : ℕ) (rs : List Record) (d : Option DiskRecords) → (opened_records (with_durable m rs d) ≡ opened_records d) × (opened_records (with_attempt rs d) ≡ opened_records d) × (opened_records (without_attempt d) ≡ opened_records d)
same_opened m rs None = (refl, refl, refl)
same_opened m rs (Some d) = (refl, refl, refl)

writes_moves : (moment : ℕ) (i : Name) (log : LogPart) (a : Actor) → LogMoves log (writes moment i log a)
writes_moves moment i log a =
    if_log (LogMoves log) (not (is_held_by i log.holder)) None _ (λ _. tt) (λ _. if_log (LogMoves log) a.written None _ (λ _. tt) (λ _. if_log (LogMoves log) (not log.mended) None _ (λ _. tt)
    (λ _. if_log (LogMoves log) (nat_lt moment log.moment) None _ (λ _. tt) (λ late. record { durable = omega arith; moment = ltb-false moment log.moment late; greatest = omega arith; opening_count = refl; firm = refl; opened = (same_opened moment (numbered (log.durable + 1) a.group) log.disk).0 }))))

mends_moves : (i : Name) (log : LogPart) (a : Actor) → LogMoves log (mends i log a)
mends_moves i log a = if_log (LogMoves log) log.mended None _ (λ _. tt) (λ _. if_log (LogMoves log) (not (may_take i log.holder)) None _ (λ _. tt)
    (λ _. record { durable = omega arith; moment = omega arith; greatest = omega arith; opening_count = refl; firm = refl; opened = (same_opened 0 [] log.disk).2 }))

log_moves : (action : Act) (i : Name) (log : LogPart) (a : Actor) → LogMoves log (log_event action i log a)
log_moves act.Open i log a = tt
log_moves act.Close i log a = tt
log_moves act.Begin i log a = tt
log_moves act.Draw i log a = tt
log_moves act.Enqueue i log a = tt
log_moves act.Collect i log a = tt
log_moves act.Publish i log a = tt
log_moves (act.Fail f c) i log a = tt
log_moves act.Outcome i log a = tt
log_moves act.Done i log a = tt
log_moves act.Seen i log a = tt
log_moves act.End i log a = tt
log_moves act.Horizon i log a = tt
log_moves (act.Look v) i log a = tt
log_moves (act.Put v l d p) i log a = tt
log_moves (act.Del v l d) i log a = tt
log_moves (act.Set v p) i log a = tt
log_moves (act.Drop v) i log a = tt
log_moves (act.New v p) i log a = tt
log_moves (act.Read q) i log a = tt
log_moves (act.Apply v) i log a = tt
log_moves (act.Undo v) i log a = tt
log_moves (act.WriteGroup m) i log a = writes_moves m i log a
log_moves act.Mend i log a = mends_moves i log a

collects_moves : (i : Name) (log : LogPart) (k : Clock) (a : Actor) → GroupMoves log k (collects i log k a)
collects_moves i log k a = if_group (GroupMoves log k) (is_some log.holder) None _ (λ _. tt) (λ _. if_group (GroupMoves log k) (length k.queue == 0) None _ (λ _. tt)
    (λ _. (record { durable = omega arith; moment = omega arith; greatest = omega arith; opening_count = refl; firm = refl; opened = refl }, later_same k _ (omega arith) (omega arith) refl refl refl, omega arith)))

publishes_moves : (i : Name) (log : LogPart) (k : Clock) (a : Actor) → GroupMoves log k (publishes i log k a)
publishes_moves i log k a = if_group (GroupMoves log k) (not (is_held_by i log.holder)) None _ (λ _. tt) (λ _. if_group (GroupMoves log k) (not a.written) None _ (λ _. tt)
    (λ _. (
      record { durable = omega arith; moment = omega arith; greatest = omega arith; opening_count = refl; firm = refl; opened = refl },
      record { next_tid = omega arith; next_vertex = omega arith; last = omega arith; more = numbered (k.last + 1) a.group; is = refl; above = numbered_later k.last a.group; since = log.moment ∷ []; moments = refl },
      omega arith,
    )))

fails_moves : (f c : ℕ) (i : Name) (log : LogPart) (k : Clock) (a : Actor) → GroupMoves log k (fails f c i log k a)
fails_moves f c i log k a = if_group (GroupMoves log k) (not (is_held_by i log.holder)) None _ (λ _. tt) (λ _. if_group (GroupMoves log k) a.written None _ (λ _. tt)
    (λ _. if_group (GroupMoves log k) (not (nat_lt f c && nat_le log.greatest f)) None _ (λ _. tt)
    (λ both. let p = and_parts (nat_lt f c) (nat_le log.greatest f) (not_false (nat_lt f c && nat_le log.greatest f) both) in
    let low = ltb-true f c p.0 in let up = leb-true log.greatest f p.1 in
    (record { durable = omega arith; moment = omega arith; greatest = omega (arith, low, up); opening_count = refl; firm = refl; opened = (same_opened 0 (numbered (log.durable + 1) a.group) log.disk).1 }, later_same k _ (omega arith) (omega arith) refl refl refl, omega arith))))

group_moves : (action : Act) (i : Name) (log : LogPart) (k : Clock) (a : Actor) → GroupMoves log k (group_event action i log k a)
group_moves act.Open i log k a = tt
group_moves act.Close i log k a = tt
group_moves act.Begin i log k a = tt
group_moves act.Draw i log k a = tt
group_moves act.Enqueue i log k a = tt
group_moves act.Collect i log k a = collects_moves i log k a
group_moves act.Publish i log k a = publishes_moves i log k a
group_moves (act.Fail f c) i log k a = fails_moves f c i log k a
group_moves act.Outcome i log k a = tt
group_moves act.Done i log k a = tt
group_moves act.Seen i log k a = tt
group_moves act.End i log k a = tt
group_moves act.Horizon i log k a = tt
group_moves (act.Look v) i log k a = tt
group_moves (act.Put v l d p) i log k a = tt
group_moves (act.Del v l d) i log k a = tt
group_moves (act.Set v p) i log k a = tt
group_moves (act.Drop v) i log k a = tt
group_moves (act.New v p) i log k a = tt
group_moves (act.Read q) i log k a = tt
group_moves (act.Apply v) i log k a = tt
group_moves (act.Undo v) i log k a = tt
group_moves (act.WriteGroup m) i log k a = tt
group_moves act.Mend i log k a = tt

after_log_moves : (s : State) (i : Name) (m : Option LogMove) → LogMoves s.log m → LaterLog s.log (after_log s i m).log
after_log_moves s i None h = same_log s.log
after_log_moves s i (Some m) h = h

log_stays : (s : State) (i : Name) (m : Option LogMove) → Added s.clock (after_log s i m).clock
log_stays s i None = stays s.clock
log_stays s i (Some m) = stays s.clock

log_rises : (s : State) (i : Name) (m : Option LogMove) → s.clock.visible ≤ (after_log s i m).clock.visible
log_rises s i None = omega arith
log_rises s i (Some m) = omega arith

after_group_moves : (s : State) (i : Name) (m : Option GroupMove) → GroupMoves s.log s.clock m → LaterLog s.log (after_group s i m).log × Added s.clock (after_group s i m).clock × (s.clock.visible ≤ (after_group s i m).clock.visible)
after_group_moves s i None h = (same_log s.log, stays s.clock, omega arith)
after_group_moves s i (Some m) h = h

clock_log : (s : State) (i : Name) (m : Option ClockMove) → LaterLog s.log (after_clock s i m).log
clock_log s i None = same_log s.log
clock_log s i (Some m) = same_log s.log

row_log : (s : State) (i : Name) (v : ℕ) (m : Option RowMove) → LaterLog s.log (after_row s i v m).log
row_log s i v None = same_log s.log
row_log s i v (Some m) = same_log s.log

-- What no event takes back of the log part.
pub later_log : (most : Limits) (s : State) (i : Name) (action : Act) → LaterLog s.log (after most s i action).log
later_log most s i action = by_reach (reach_of action)
  where
    by_reach : (r : Reach) → LaterLog s.log (after_at r most s i action).log
    by_reach reach.Clock = clock_log s i (clock_event action s.clock (s.actor i))
    by_reach (reach.Row v) = row_log s i v (row_event most action (s.row v) (s.actor i))
    by_reach reach.Log = after_log_moves s i (log_event action i s.log (s.actor i)) (log_moves action i s.log (s.actor i))
    by_reach reach.LogAndClock = (after_group_moves s i (group_event action i s.log s.clock (s.actor i)) (group_moves action i s.log s.clock (s.actor i))).0

-- every event of every actor
added : (most : Limits) (s : State) (i : Name) (action : Act) → Added s.clock (after most s i action).clock
added most s i action = by_reach (reach_of action)
  where
    by_reach : (r : Reach) → Added s.clock (after_at r most s i action).clock
    by_reach reach.Clock = after_moves s i (clock_event action s.clock (s.actor i)) (moves action s.clock (s.actor i))
    by_reach (reach.Row v) = row_stays s i v (row_event most action (s.row v) (s.actor i))
    by_reach reach.Log = log_stays s i (log_event action i s.log (s.actor i))
    by_reach reach.LogAndClock = (after_group_moves s i (group_event action i s.log s.clock (s.actor i)) (group_moves action i s.log s.clock (s.actor i))).1

-- ---- the visible epoch

abbrev Rises : ℕ → Option ClockMove → Type 0
Rises n None = Unit {0}
Rises n (Some m) = n ≤ m.clock.visible

if_rises : (n : ℕ) (b : Bool) (m o : Option ClockMove) → Rises n m → Rises n o → Rises n (if b then m else o)
if_rises n true m o x y = x
if_rises n false m o x y = y

for_rises : (n : ℕ) (f : Transaction → Option ClockMove) (o : Option Transaction) → ((x : Transaction) → Rises n (f x)) → Rises n (for_txn f o)
for_rises n f None h = tt
for_rises n f (Some x) h = h x

none_rises : (n : ℕ) (m : Option ClockMove) (o : Option Transaction) → Rises n m → Rises n (for_none m o)
none_rises n m None h = h
none_rises n m (Some x) h = tt

done_rises : (o : Option ℕ) (x : Transaction) (k : Clock) (a : Actor) → k.visible ≤ k.last → AllAbove k.visible k.last k.pending → Rises k.visible (done_at o x k a)
done_rises None x k a le above = tt
done_rises (Some e) x k a le above = if_rises k.visible (all_in x.touched x.settled) _ None (visible_up k.visible k.last (without_active x.tid k.pending) le (above_without k.visible k.last x.tid k.pending above)) tt

sees_rises : (o : Option ℕ) (k : Clock) (a : Actor) → Rises k.visible (sees o k a)
sees_rises None k a = tt
sees_rises (Some e) k a = omega arith

rises : (action : Act) (k : Clock) (a : Actor) → k.visible ≤ k.last → AllAbove k.visible k.last k.pending → Rises k.visible (clock_event action k a)
rises act.Open k a le above = if_rises k.visible a.row None _ tt (omega arith)
rises act.Close k a le above = none_rises k.visible _ a.txn (if_rises k.visible a.row _ None (omega arith) tt)
rises act.Begin k a le above = none_rises k.visible _ a.txn (if_rises k.visible (not a.row) None _ tt (if_rises k.visible (k.next_tid == number_end) _ _ (omega arith) (omega arith)))
rises act.Draw k a le above = for_rises k.visible _ a.txn (λ x. if_rises k.visible (not (is_working x)) None _ tt (if_rises k.visible (k.next_vertex == number_end) _ _ (omega arith) (omega arith)))
rises act.Enqueue k a le above = for_rises k.visible _ a.txn (λ x. if_rises k.visible (not (is_working x)) None _ tt (if_rises k.visible (length x.own == 0) None _ tt (omega arith)))
rises act.Collect k a le above = tt
rises act.Publish k a le above = tt
rises (act.Fail f c) k a le above = tt
rises (act.WriteGroup m) k a le above = tt
rises act.Mend k a le above = tt
rises act.Outcome k a le above = for_rises k.visible _ a.txn (λ x. if_rises k.visible (not (is_queued x.stage)) None _ tt (omega arith))
rises act.Done k a le above = for_rises k.visible _ a.txn (λ x. done_rises (won_epoch x.stage) x k a le above)
rises act.Seen k a le above = none_rises k.visible _ a.txn (sees_rises a.finished k a)
rises act.End k a le above = for_rises k.visible _ a.txn (λ x. if_rises k.visible (is_loser x.stage && all_in x.touched x.settled) _ None (omega arith) tt)
rises act.Horizon k a le above = omega arith
rises (act.Look v) k a le above = tt
rises (act.Put v l d p) k a le above = tt
rises (act.Del v l d) k a le above = tt
rises (act.Set v p) k a le above = tt
rises (act.Drop v) k a le above = tt
rises (act.New v p) k a le above = tt
rises (act.Read q) k a le above = tt
rises (act.Apply v) k a le above = tt
rises (act.Undo v) k a le above = tt

after_rises : (s : State) (i : Name) (m : Option ClockMove) → Rises s.clock.visible m → s.clock.visible ≤ (after_clock s i m).clock.visible
after_rises s i None h = omega arith
after_rises s i (Some m) h = h

row_rises : (s : State) (i : Name) (v : ℕ) (m : Option RowMove) → s.clock.visible ≤ (after_row s i v m).clock.visible
row_rises s i v None = omega arith
row_rises s i v (Some m) = omega arith

visible_later : (base : Base) (g : Ghost) (most : Limits) (s : State) (i : Name) (action : Act) → Good base g s → s.clock.visible ≤ (after most s i action).clock.visible
visible_later base g most s i action good = by_reach (reach_of action)
  where
    by_reach : (r : Reach) → s.clock.visible ≤ (after_at r most s i action).clock.visible
    by_reach reach.Clock = after_rises s i (clock_event action s.clock (s.actor i)) (rises action s.clock (s.actor i) good.visible good.pending)
    by_reach (reach.Row v) = row_rises s i v (row_event most action (s.row v) (s.actor i))
    by_reach reach.Log = log_rises s i (log_event action i s.log (s.actor i))
    by_reach reach.LogAndClock = (after_group_moves s i (group_event action i s.log s.clock (s.actor i)) (group_moves action i s.log s.clock (s.actor i))).2

-- What no event takes back.
pub later : (base : Base) (g : Ghost) (most : Limits) (s : State) (i : Name) (action : Act) → Good base g s → Later s.clock (after most s i action).clock
later base g most s i action good =
    let a = added most s i action in
    record { next_tid = a.next_tid; next_vertex = a.next_vertex; last = a.last; visible = visible_later base g most s i action good; more = a.more; is = a.is; above = a.above; since = a.since; moments = a.moments }

pub kept_later : (base : Base) (most : Limits) (s : State) (i : Name) (action : Act) → Kept base most s → Later s.clock (after most s i action).clock
kept_later base most s i action kept = later base kept.0.0 most s i action kept.0.1

-- A record that was not there is of a later epoch than the last one then.
pub new_later : (k z : Clock) (r : Record) → Later k z → has_record r.tid k.records ≡ false → In r z.records → k.last < r.epoch
new_later k z r l none m = split k.records none (subst (λ rs. In r rs) l.is m)
  where
    later_in : (rs : List Record) → AllLater k.last rs → In r rs → k.last < r.epoch
    later_in [] a n = absurd n
    later_in (x ∷ rs) a (inl is) = let e = ap (λ (y : Record). y.epoch) is in let lt = a.0 in omega (arith, e, lt)
    later_in (x ∷ rs) a (inr n) = later_in rs a.1 n

    split : (rs : List Record) → has_record r.tid rs ≡ false → In r (rs ++ l.more) → k.last < r.epoch
    split [] h n = later_in l.more l.above n
    split (x ∷ rs) h (inl is) = absurd (both_ways _ (or_parts (x.tid == r.tid) (has_record r.tid rs) h).0 (eq-eqb x.tid r.tid (ap (λ (y : Record). y.tid) (sym is))))
    split (x ∷ rs) h (inr n) = split rs (or_parts (x.tid == r.tid) (has_record r.tid rs) h).1 n
