-- What the part keeps through each call.
use Rattle.std.proofs.Common.{ℕ, zero, suc, ◌≡◌, ◌≢◌, ◌+◌, ◌-◌, ◌<◌, ◌≤◌, Bool, true, false, ◌||◌, List, [], ◌∷◌, ◌++◌, length, drop, get_or, Option, Some, None, refl, sym, ap, subst, ◌∙◌, arith, is_some, length-append, append-nil}
use Rattle.std.specs.Prelude.{if◌then◌else◌, ◌==◌}
use Rattle.std.proofs.Math.ListN.{set, length-set}
use Rattle.std.proofs.lemmas.Bool.{eq-eqb, ne_eqb, or_from}
use Rattle.graph_model.specs.Records.{number_end, group_most}
use Rattle.graph_model.specs.declared.record.Record.{Record}
use Rattle.graph_model.specs.declared.record.Outcome.{Outcome}
use Rattle.graph_model.specs.declared.record.Outcome.TheVariants.{Committed, Failed}
use Rattle.group_commit.specs.Encoded.{Encoded}
use Rattle.group_commit.specs.Members.{records_at}
use Rattle.commit_queue.specs.Waiting.{Waiting}
use Rattle.reader_table.specs.declared.row.Row.{Row}
use Rattle.core_states.specs.declared.clock.Active.{Active}
use Rattle.core_states.specs.declared.clock.Clock.{Clock}
use Rattle.core_states.specs.declared.clock.KeptOutcome.{KeptOutcome}
use Rattle.core_states.specs.Numbers.{outcome_of, has_record, settled_as, pending_of, without_active, visible_of}
use Rattle.epoch_clock.specs.ActiveRows.{actives_of, Falling, is_running, tid_in}
use Rattle.epoch_clock.specs.Decided.{epoch_in, outcomes_of, undone_of, undecided, KeptOnce, Awaited, is_lost, count_at, Counts, EpochsWithin, BeginsAbove, risen}
use Rattle.epoch_clock.specs.CommitRooms.{HasRoomFor}
use Rattle.epoch_clock.specs.ClockCalls.{ended_clock, finished_clock}
use Rattle.epoch_clock.specs.EpochKept.{rows_in, outcomes_in, pending_in, clock_in, IsKept}
use Rattle.epoch_clock.specs.declared.epoch_part.EpochPart.TheInside.{Inside}
use Rattle.epoch_clock.proofs.Rows.{without_falls, left, in_row, runs_in}
use Rattle.std.specs.VecDeque.{deque_capacity}
use Rattle.std.specs.declared.collections.VecDeque.{VecDeque}
use Rattle.std.specs.declared.alloc.Global.{Global}
use Rattle.epoch_clock.specs.declared.commits.Commits.{Commits}
use Rattle.reader_table.specs.declared.row.Row.TheVariants.{Idle}
use Rattle.reader_table.specs.Rows.{is_active}
use Rattle.std.specs.Prelude.{Result, Ok, Err, is_err, OnOk, slice_get, slice_set}
use Rattle.epoch_clock.proofs.Outcomes.{Ordered, settled, few_awaited, awaited_more, awaited_less, awaited_begun, awaited_ended, not_awaited, running_below, undecided_ended_some, undecided_ended_none, undone_append, undone_published, undone_failed, undone_begun, undone_ended, undone_lost, IsUndone, undone_is}
use Rattle.epoch_clock.proofs.Counting.{Stands, rises, visible_is, stands_more, counts_less, count_there, count_within, within_without}

-- What is kept of the rows, the outcomes, the records that wait, and the counts.
pub record Facts (next last visible many : ℕ) (rows : List Active) (kept : List KeptOutcome) (queue : List Record) (undone : List ℕ) : Type 0 where
  pub falls : Falling next rows
  pub order : Ordered next rows kept queue
  pub counted : many ≡ undecided kept rows
  pub epochs : last + many < next
  pub stands : Stands visible last undone (undone_of kept rows)

pub facts_of : (a : Inside) → IsKept a → Facts a.next_tid a.last a.visible a.undecided (rows_in a) (outcomes_in a) (records_at 0 a.commits.queue.members) a.commits.undone.items
facts_of a h = record {
  falls = h.rows;
  order = record { once = h.once; drawn = h.drawn; awaited = h.queue };
  counted = h.undecided;
  epochs = h.epochs;
  stands = record { ends = h.last; within = h.pending; counts = h.counts; front = h.front };
}

pub kept_of : (a : Inside) → a.next_tid ≤ number_end → a.next_vertex ≤ number_end → HasRoomFor a.undecided a.commits
    → Facts a.next_tid a.last a.visible a.undecided (rows_in a) (outcomes_in a) (records_at 0 a.commits.queue.members) a.commits.undone.items → IsKept a
kept_of a next_tid next_vertex room f = record {
  next_tid = next_tid;
  next_vertex = next_vertex;
  rows = f.falls;
  once = f.order.once;
  drawn = f.order.drawn;
  queue = f.order.awaited;
  undecided = f.counted;
  room = room;
  epochs = f.epochs;
  last = f.stands.ends;
  pending = f.stands.within;
  counts = f.stands.counts;
  front = f.stands.front;
}

-- the same facts of equal lists
pub facts_same : (next last visible many : ℕ) (rows rows' : List Active) (kept kept' : List KeptOutcome) (queue queue' : List Record) (undone undone' : List ℕ)
    → rows' ≡ rows → kept' ≡ kept → queue' ≡ queue → undone' ≡ undone → Facts next last visible many rows kept queue undone → Facts next last visible many rows' kept' queue' undone'
facts_same next last visible many rows rows' kept kept' queue queue' undone undone' a b c d f =
    subst (λ (x : List Active). Facts next last visible many x kept' queue' undone') (sym a)
    (subst (λ (x : List KeptOutcome). Facts next last visible many rows x queue' undone') (sym b)
    (subst (λ (x : List Record). Facts next last visible many rows kept x undone') (sym c)
    (subst (λ (x : List ℕ). Facts next last visible many rows kept queue x) (sym d) f)))

-- a clock by its fields
pub clock_is : (a k : Clock) → a.next_tid ≡ k.next_tid → a.next_vertex ≡ k.next_vertex → a.last ≡ k.last → a.visible ≡ k.visible → a.rows ≡ k.rows → a.queue ≡ k.queue → a.pending ≡ k.pending
    → a.outcomes ≡ k.outcomes → a.records ≡ k.records → a.moments ≡ k.moments → a ≡ k
clock_is a k next_tid next_vertex last visible rows queue pending outcomes records moments = λ i. record {
  next_tid = next_tid i;
  next_vertex = next_vertex i;
  last = last i;
  visible = visible i;
  rows = rows i;
  queue = queue i;
  pending = pending i;
  outcomes = outcomes i;
  records = records i;
  moments = moments i;
}

-- Rows in which the same transactions run.
module _ (a : Inside) (readers : List Row) (same : actives_of readers ≡ actives_of a.readers) where
  pub same_rows_clock : clock_in (record a { readers = readers }) ≡ clock_in a
  same_rows_clock = ap (λ (rows : List Active). record (clock_in a) { rows = rows; pending = undone_of (outcomes_in a) rows }) same

  pub same_rows_kept : IsKept a → IsKept (record a { readers = readers })
  same_rows_kept h = kept_of (record a { readers = readers }) h.next_tid h.next_vertex h.room
      (facts_same a.next_tid a.last a.visible a.undecided (rows_in a) (actives_of readers) (outcomes_in a) (outcomes_in a) _ _ _ _ same refl refl refl (facts_of a h))

module _ (next last visible many : ℕ) (rows : List Active) (kept : List KeptOutcome) (queue : List Record) (undone : List ℕ) (f : Facts next last visible many rows kept queue undone) where
  -- a transaction begins
  begun_row : Active
  begun_row = record { tid = next; epoch = visible }

  pub begun_facts : Facts (next + 1) last visible (many + 1) (record { tid = next; epoch = visible } ∷ rows) kept queue undone
  begun_facts =
      let none = f.order.drawn next (omega arith) in
      let pending = undone_begun (record { tid = next; epoch = visible }) kept rows none in record {
        falls = (omega arith, f.falls);
        order = record {
          once = f.order.once;
          drawn = λ t above. f.order.drawn t (omega arith);
          awaited = awaited_begun (record { tid = next; epoch = visible }) rows kept queue f.order.awaited;
        };
        counted = (let m = f.counted in rw none (omega arith));
        epochs = (let e = f.epochs in omega arith);
        stands = subst (λ (p : List Active). Stands visible last undone p) (sym pending) f.stands;
      }

  -- a record waits
  pub queued_facts : (r : Record) → is_running r.tid rows ≡ true → outcome_of r.tid kept ≡ None → has_record r.tid queue ≡ false → Facts next last visible many rows kept (queue ++ r ∷ []) undone
  queued_facts r runs none other = record {
    falls = f.falls;
    order = record { once = f.order.once; drawn = f.order.drawn; awaited = awaited_more r rows kept queue runs none other f.order.awaited };
    counted = f.counted;
    epochs = f.epochs;
    stands = f.stands;
  }

  -- for which there is room
  pub queued_room : (r : Record) → is_running r.tid rows ≡ true → outcome_of r.tid kept ≡ None → has_record r.tid queue ≡ false → length queue < many
  queued_room r runs none other =
      let g = queued_facts r runs none other in
      let few = few_awaited next rows kept (queue ++ r ∷ []) f.falls g.order in
      let m = f.counted in
      omega (arith, length-append queue (r ∷ []))

  -- the first records wait no more
  pub collected_facts : (n : ℕ) → Facts next last visible many rows kept (drop n queue) undone
  collected_facts n = record {
    falls = f.falls;
    order = record { once = f.order.once; drawn = f.order.drawn; awaited = awaited_less n rows kept queue f.order.awaited };
    counted = f.counted;
    epochs = f.epochs;
    stands = f.stands;
  }

  -- a group that was collected is of transactions that have no outcome
  group_order : (group : List Record) → Awaited rows kept (group ++ queue) → Ordered next rows kept (group ++ queue)
  group_order group waits = record { once = f.order.once; drawn = f.order.drawn; awaited = waits }

  pub group_few : (group : List Record) → Awaited rows kept (group ++ queue) → length group ≤ many
  group_few group waits =
      let few = few_awaited next rows kept (group ++ queue) f.falls (group_order group waits) in
      let m = f.counted in
      omega (arith, length-append group queue)

  -- a group is published
  pub published_pending : (group : List Record) → Awaited rows kept (group ++ queue) → undone_of (kept ++ settled_as (Committed (last + 1)) group) rows ≡ undone_of kept rows ++ pending_of (last + 1) group
  published_pending group waits =
      undone_append kept (settled_as (Committed (last + 1)) group) rows ∙ ap (λ (l : List Active). undone_of kept rows ++ l) (undone_published (last + 1) rows kept group queue waits)

  pub published_facts : (group : List Record) → 0 < length group → Awaited rows kept (group ++ queue)
      → Facts next (last + 1) visible (many - length group) rows (kept ++ settled_as (Committed (last + 1)) group) queue (undone ++ length group ∷ [])
  published_facts group some waits =
      let s = settled next (Committed (last + 1)) rows f.falls group queue kept (group_order group waits) in
      let m = f.counted in let t = s.1 in record {
        falls = f.falls;
        order = s.0;
        counted = omega arith;
        epochs = (let e = f.epochs in omega arith);
        stands = subst (λ (p : List Active). Stands visible (last + 1) (undone ++ length group ∷ []) p) (sym (published_pending group waits))
            (stands_more visible last undone (undone_of kept rows) group some f.stands);
      }

  -- and one fails
  pub failed_pending : (before after : ℕ) (group : List Record) → undone_of (kept ++ settled_as (Failed before after) group) rows ≡ undone_of kept rows
  failed_pending before after group =
      undone_append kept (settled_as (Failed before after) group) rows ∙ ap (λ (l : List Active). undone_of kept rows ++ l) (undone_failed before after rows group) ∙ append-nil (undone_of kept rows)

  pub failed_facts : (before after : ℕ) (group : List Record) → Awaited rows kept (group ++ queue)
      → Facts next last visible (many - length group) rows (kept ++ settled_as (Failed before after) group) queue undone
  failed_facts before after group waits =
      let s = settled next (Failed before after) rows f.falls group queue kept (group_order group waits) in
      let m = f.counted in let t = s.1 in record {
        falls = f.falls;
        order = s.0;
        counted = omega arith;
        epochs = (let e = f.epochs in omega arith);
        stands = subst (λ (p : List Active). Stands visible last undone p) (sym (failed_pending before after group)) f.stands;
      }

  -- a transaction ends that has no record that is published: one that has failed, or none
  ended_order : (t : ℕ) → has_record t queue ≡ false → Ordered next (without_active t rows) kept queue
  ended_order t other = record { once = f.order.once; drawn = f.order.drawn; awaited = awaited_ended t rows kept queue other f.order.awaited }

  pub ended_pending : (t : ℕ) → is_lost (outcome_of t kept) ≡ true → undone_of kept (without_active t rows) ≡ undone_of kept rows
  ended_pending t lost = undone_lost t kept rows f.order.once lost

  pub ended_none : (t : ℕ) → is_running t rows ≡ true → outcome_of t kept ≡ None → has_record t queue ≡ false → (1 ≤ many) × Facts next last visible (many - 1) (without_active t rows) kept queue undone
  ended_none t runs none other =
      let less = undecided_ended_none next t kept rows f.falls runs none in
      let m = f.counted in (
        omega arith,
        record {
          falls = without_falls next t rows f.falls;
          order = ended_order t other;
          counted = omega arith;
          epochs = (let e = f.epochs in omega arith);
          stands = subst (λ (p : List Active). Stands visible last undone p) (sym (ended_pending t (ap is_lost none))) f.stands;
        },
      )

  pub ended_some : (t : ℕ) → is_some (outcome_of t kept) ≡ true → is_lost (outcome_of t kept) ≡ true → Facts next last visible many (without_active t rows) kept queue undone
  ended_some t some lost = record {
    falls = without_falls next t rows f.falls;
    order = ended_order t (not_awaited t rows kept queue some f.order.awaited);
    counted = f.counted ∙ sym (undecided_ended_some t kept rows some);
    epochs = f.epochs;
    stands = subst (λ (p : List Active). Stands visible last undone p) (sym (ended_pending t lost)) f.stands;
  }

  -- a record is done
  pub record Doing (t e : ℕ) : Type 0 where
    pub above : visible < e
    pub until : e ≤ last
    pub some : 0 < get_or undone (e - visible - 1) 0
    pub within : e - visible - 1 < length undone
    pub after : (w : ℕ) (ns : List ℕ) → ns ≡ risen (set undone (e - visible - 1) (get_or undone (e - visible - 1) 0 - 1)) → w + length ns ≡ visible + length undone
        → (w ≡ visible_of last (without_active t (undone_of kept rows))) × Facts next last w many (without_active t rows) kept queue ns

  pub doing : (t e : ℕ) → is_running t (undone_of kept rows) ≡ true → outcome_of t kept ≡ Some (Committed e) → Doing t e
  doing t e undone_yet is =
      let u = undone_is t kept rows f.order.once undone_yet in
      let same : u.epoch ≡ e = the_same u.epoch (sym u.is ∙ is) in
      let counts : (f : ℕ) → count_at f (without_active t (undone_of kept rows)) + (if e == f then 1 else 0) ≡ count_at f (undone_of kept rows) =
      subst (λ (n : ℕ). (f : ℕ) → count_at f (without_active t (undone_of kept rows)) + (if n == f then 1 else 0) ≡ count_at f (undone_of kept rows)) same u.counts in
      let here = subst (λ (b : Bool). count_at e (without_active t (undone_of kept rows)) + (if b then 1 else 0) ≡ count_at e (undone_of kept rows)) (eq-eqb e e refl) (counts e) in
      let some : 0 < count_at e (undone_of kept rows) = omega arith in
      let range = count_within e visible last (undone_of kept rows) some f.stands.within in
      let low = range.0 in let high = range.1 in let ends = f.stands.ends in
      let there = count_there (visible + 1) (e - visible - 1) e undone (undone_of kept rows) (omega arith) (omega arith) f.stands.counts in record {
        above = range.0;
        until = range.1;
        some = omega arith;
        within = omega arith;
        after = λ w ns is_risen up. (
            let fewer : List ℕ = set undone (e - visible - 1) (get_or undone (e - visible - 1) 0 - 1) in
            let long = length-set undone (e - visible - 1) (get_or undone (e - visible - 1) 0 - 1) in
            let stands = rises visible w last (set undone (e - visible - 1) (get_or undone (e - visible - 1) 0 - 1)) (without_active t (undone_of kept rows)) (omega arith)
            (within_without t visible last (undone_of kept rows) f.stands.within)
            (counts_less (visible + 1) (e - visible - 1) e undone (undone_of kept rows) (without_active t (undone_of kept rows)) (omega arith) counts f.stands.counts)
            (subst (λ (l : List ℕ). w + length l ≡ last) is_risen (omega arith)) in (
              visible_is w last (risen (set undone (e - visible - 1) (get_or undone (e - visible - 1) 0 - 1))) (without_active t (undone_of kept rows)) stands,
              record {
                falls = without_falls next t rows f.falls;
                order = ended_order t (not_awaited t rows kept queue (ap is_some is) f.order.awaited);
                counted = f.counted ∙ sym (undecided_ended_some t kept rows (ap is_some is));
                epochs = f.epochs;
                stands = subst (λ (p : List Active). Stands w last ns p) (sym (undone_ended t kept rows))
                    (subst (λ (l : List ℕ). Stands w last l (without_active t (undone_of kept rows))) (sym is_risen) stands);
              },
            ));
      }
    where
      the_same : (d : ℕ) → Some (Committed d) ≡ Some (Committed e) → d ≡ e
      the_same d q = cc

pub length_records : (e : ℕ) (ms : List Encoded) → length (records_at e ms) ≡ length ms
length_records e [] = refl
length_records e (m ∷ ms) = let ih = length_records e ms in omega arith

-- Another queue.
module _ (a : Inside) (waiting : Waiting) (queue : List Record) (same : records_at 0 waiting.members ≡ queue) where
  pub same_queue : waiting.room ≡ a.commits.queue.room → IsKept a → Facts a.next_tid a.last a.visible a.undecided (rows_in a) (outcomes_in a) queue a.commits.undone.items
      → IsKept (record a { commits = record a.commits { queue = waiting } })
  same_queue room h f = kept_of (record a { commits = record a.commits { queue = waiting } }) h.next_tid h.next_vertex
      (record { queue = (let r = h.room.queue in omega arith); outcomes = h.room.outcomes; records = h.room.records; moments = h.room.moments; undone = h.room.undone })
      (subst (λ (q : List Record). Facts a.next_tid a.last a.visible a.undecided (rows_in a) (outcomes_in a) q a.commits.undone.items) (sym same) f)

  pub queue_clock : clock_in (record a { commits = record a.commits { queue = waiting } }) ≡ record (clock_in a) { queue = queue }
  queue_clock = ap (λ (q : List Record). record (clock_in a) { queue = q }) same

-- Other commits of which the same is kept.
module _ (a : Inside) (c : Commits) where
  pub same_commits : c.queue.members ≡ a.commits.queue.members → c.outcomes.kept ≡ a.commits.outcomes.kept → c.undone.items ≡ a.commits.undone.items → HasRoomFor a.undecided c → IsKept a → IsKept (record a { commits = c })
  same_commits queue outcomes undone room h = kept_of (record a { commits = c }) h.next_tid h.next_vertex room
      (facts_same a.next_tid a.last a.visible a.undecided (rows_in a) (rows_in a) (outcomes_in a) (outcomes_of c.outcomes.kept) (records_at 0 a.commits.queue.members) (records_at 0 c.queue.members) a.commits.undone.items c.undone.items
      refl (ap outcomes_of outcomes) (ap (records_at 0) queue) undone (facts_of a h))

pub has_less : (n m : ℕ) (c : Commits) → n ≤ m → HasRoomFor m c → HasRoomFor n c
has_less n m c le h = record {
  queue = (let x = h.queue in omega arith);
  outcomes = (let x = h.outcomes in omega arith);
  records = (let x = h.records in omega arith);
  moments = (let x = h.moments in omega arith);
  undone = (let x = h.undone in omega arith);
}

-- what a call tells that had no error
pub no_error : {T E : Type 0} (r : Result T E) (P : Type 0) → is_err r ≡ false → OnOk r P → P
no_error (Ok x) P ok h = h
no_error (Err e) P ok h = absurd (let e : ⊥ = (cc) in e)

-- The transaction of a row ends.
pub row_left : (a : Inside) (i : ℕ) (readers : List Row) → IsKept a → is_active (slice_get a.readers i) ≡ true → readers ≡ slice_set a.readers i Idle
    → (actives_of readers ≡ without_active (tid_in (slice_get a.readers i)) (rows_in a)) × (is_running (tid_in (slice_get a.readers i)) (rows_in a) ≡ true)
row_left a i readers h active is =
    let runs = in_row a.readers i active in
    (ap actives_of is ∙ left a.readers a.next_tid i (tid_in (slice_get a.readers i)) runs.0 runs.1 h.rows, runs_in a.readers i (tid_in (slice_get a.readers i)) runs.0 runs.1)

pub none_of : {A : Type 0} (o : Option A) → is_some o ≡ false → o ≡ None
none_of None h = refl
none_of (Some x) h = absurd (let e : ⊥ = (cc) in e)

-- A transaction ends that has no record that is published.
module _ (a : Inside) (i : ℕ) (readers : List Row) (h : IsKept a) (active : is_active (slice_get a.readers i) ≡ true) (is : readers ≡ slice_set a.readers i Idle) where
  pub end_none : outcome_of (tid_in (slice_get a.readers i)) (outcomes_in a) ≡ None → has_record (tid_in (slice_get a.readers i)) (records_at 0 a.commits.queue.members) ≡ false
      → (1 ≤ a.undecided) × IsKept (record a { undecided = a.undecided - 1; readers = readers })
  end_none none other =
      let rows = row_left a i readers h active is in
      let e = ended_none a.next_tid a.last a.visible a.undecided (rows_in a) (outcomes_in a) (records_at 0 a.commits.queue.members) a.commits.undone.items (facts_of a h) (tid_in (slice_get a.readers i)) rows.1 none other in (
        e.0,
        kept_of (record a { undecided = a.undecided - 1; readers = readers }) h.next_tid h.next_vertex (has_less (a.undecided - 1) a.undecided a.commits (omega arith) h.room)
            (facts_same a.next_tid a.last a.visible (a.undecided - 1) _ (actives_of readers) (outcomes_in a) (outcomes_in a) _ _ _ _ rows.0 refl refl refl e.1),
      )

  pub end_some : is_some (outcome_of (tid_in (slice_get a.readers i)) (outcomes_in a)) ≡ true → is_lost (outcome_of (tid_in (slice_get a.readers i)) (outcomes_in a)) ≡ true
      → IsKept (record a { readers = readers })
  end_some some lost =
      let rows = row_left a i readers h active is in
      let e = ended_some a.next_tid a.last a.visible a.undecided (rows_in a) (outcomes_in a) (records_at 0 a.commits.queue.members) a.commits.undone.items (facts_of a h) (tid_in (slice_get a.readers i)) some lost in
      kept_of (record a { readers = readers }) h.next_tid h.next_vertex h.room
      (facts_same a.next_tid a.last a.visible a.undecided _ (actives_of readers) (outcomes_in a) (outcomes_in a) _ _ _ _ rows.0 refl refl refl e)

  pub end_clock : is_lost (outcome_of (tid_in (slice_get a.readers i)) (outcomes_in a)) ≡ true → clock_in (record a { readers = readers }) ≡ ended_clock (tid_in (slice_get a.readers i)) (clock_in a)
  end_clock lost =
      let rows = row_left a i readers h active is in
      let pending = ended_pending a.next_tid a.last a.visible a.undecided (rows_in a) (outcomes_in a) (records_at 0 a.commits.queue.members) a.commits.undone.items (facts_of a h) (tid_in (slice_get a.readers i)) lost in
      clock_is _ _ refl refl refl refl rows.0 refl (ap (undone_of (outcomes_in a)) rows.0 ∙ pending) refl refl refl

-- the epoch of a published record that is not done
pub done_epoch : (a : Inside) (t : ℕ) → IsKept a → is_running t (pending_in a) ≡ true → outcome_of t (outcomes_in a) ≡ Some (Committed (epoch_in (outcome_of t (outcomes_in a))))
done_epoch a t h undone_yet =
    let u = undone_is t (outcomes_in a) (rows_in a) h.once undone_yet in
    u.is ∙ ap (λ (e : ℕ). Some (Committed e)) (sym (ap epoch_in u.is))

pub done_of : (a : Inside) (t e : ℕ) (h : IsKept a) → is_running t (pending_in a) ≡ true → e ≡ epoch_in (outcome_of t (outcomes_in a))
    → Doing a.next_tid a.last a.visible a.undecided (rows_in a) (outcomes_in a) (records_at 0 a.commits.queue.members) a.commits.undone.items (facts_of a h) t e
done_of a t e h undone_yet is =
    doing a.next_tid a.last a.visible a.undecided (rows_in a) (outcomes_in a) (records_at 0 a.commits.queue.members) a.commits.undone.items (facts_of a h) t e undone_yet
    (done_epoch a t h undone_yet ∙ ap (λ (n : ℕ). Some (Committed n)) (sym is))

risen_short : (ns : List ℕ) → length (risen ns) ≤ length ns
risen_short [] = omega arith
risen_short (zero ∷ ns) = let ih = risen_short ns in omega arith
risen_short (suc n ∷ ns) = omega arith

-- A record is done: the transaction leaves its row, its epoch has one record less to wait for, and the visible epoch rises.
module _ (a : Inside) (i e w : ℕ) (readers : List Row) (undone : VecDeque ℕ Global) (h : IsKept a) (active : is_active (slice_get a.readers i) ≡ true) (is : readers ≡ slice_set a.readers i Idle)
    (undone_yet : is_running (tid_in (slice_get a.readers i)) (pending_in a) ≡ true) (epoch : e ≡ epoch_in (outcome_of (tid_in (slice_get a.readers i)) (outcomes_in a)))
    (now : undone.items ≡ risen (set a.commits.undone.items (e - a.visible - 1) (get_or a.commits.undone.items (e - a.visible - 1) 0 - 1)))
    (up : w + length undone.items ≡ a.visible + length a.commits.undone.items) (room : deque_capacity undone ≡ deque_capacity a.commits.undone) where
  done_facts : (w ≡ visible_of a.last (without_active (tid_in (slice_get a.readers i)) (pending_in a)))
      × Facts a.next_tid a.last w a.undecided (without_active (tid_in (slice_get a.readers i)) (rows_in a)) (outcomes_in a) (records_at 0 a.commits.queue.members) undone.items
  done_facts =
      let d = done_of a (tid_in (slice_get a.readers i)) e h undone_yet epoch in
      d.after w undone.items now up

  done_room : HasRoomFor a.undecided (record a.commits { undone = undone })
  done_room = record {
    queue = h.room.queue;
    outcomes = h.room.outcomes;
    records = h.room.records;
    moments = h.room.moments;
    undone = (
        let old = a.commits.undone.ok in let new = undone.ok in let r = h.room.undone in
        let short = risen_short (set a.commits.undone.items (e - a.visible - 1) (get_or a.commits.undone.items (e - a.visible - 1) 0 - 1)) in
        let long = length-set a.commits.undone.items (e - a.visible - 1) (get_or a.commits.undone.items (e - a.visible - 1) 0 - 1) in
        let same = ap length now in
        omega arith);
  }

  pub done_kept : IsKept (record a { visible = w; readers = readers; commits = record a.commits { undone = undone } })
  done_kept =
      let rows = row_left a i readers h active is in
      kept_of (record a { visible = w; readers = readers; commits = record a.commits { undone = undone } }) h.next_tid h.next_vertex done_room
      (facts_same a.next_tid a.last w a.undecided _ (actives_of readers) (outcomes_in a) (outcomes_in a) _ _ undone.items undone.items rows.0 refl refl refl done_facts.1)

  pub done_clock : clock_in (record a { visible = w; readers = readers; commits = record a.commits { undone = undone } }) ≡ finished_clock (tid_in (slice_get a.readers i)) (clock_in a)
  done_clock =
      let rows = row_left a i readers h active is in
      clock_is _ _ refl refl refl done_facts.0 rows.0 refl
      (ap (undone_of (outcomes_in a)) rows.0 ∙ undone_ended (tid_in (slice_get a.readers i)) (outcomes_in a) (rows_in a)) refl refl refl

-- for a number that was not drawn nothing is kept, and no record of it waits
pub fresh : (a : Inside) → IsKept a → (outcome_of a.next_tid (outcomes_in a) ≡ None) × (has_record a.next_tid (records_at 0 a.commits.queue.members) ≡ false)
fresh a h = (h.drawn a.next_tid (omega arith), no_record a.next_tid (rows_in a) (outcomes_in a) (records_at 0 a.commits.queue.members) h.rows h.queue)
  where
    no_record : (n : ℕ) (rows : List Active) (kept : List KeptOutcome) (rs : List Record) → Falling n rows → Awaited rows kept rs → has_record n rs ≡ false
    no_record n rows kept [] falls waits = refl
    no_record n rows kept (r ∷ rs) falls waits =
        let below = running_below n r.tid rows falls waits.0 in
        or_from (r.tid == n) (has_record n rs) (ne_eqb r.tid n (λ same. omega arith)) (no_record n rows kept rs falls waits.3)
