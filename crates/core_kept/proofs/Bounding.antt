-- Every event keeps the limits: of numbers, of changes, of logs.
use Rattle.core_states.specs.declared.event.Reach.TheVariants as reach
use Rattle.core_states.proofs.Names.{row_is}
use Rattle.graph_model.specs.Places.{changes_about}
use Rattle.edge_log.specs.Entries.{has_entry_of}
use Rattle.core_rows.specs.Rows.{apply_row}
use Rattle.core_states.specs.RowEvents.{has_change}
use Rattle.core_rows.specs.Rows.{committed_log}
use Rattle.std.proofs.Common.{◌≡◌, ℕ, ◌+◌, ◌<◌, ◌≤◌, Bool, true, false, ◌&&◌, not, List, [], ◌∷◌, ◌++◌, length, take, drop, refl, sym, ap, ◌∙◌, subst, arith, Option, Some, None, is_some}
use Rattle.std.proofs.lemmas.Bool.{ltb-false, and_parts, and_from, eqb-true, eqb-false, true≢false, false≢true}
use Rattle.std.proofs.lemmas.List.{take-append-drop}
use Rattle.std.proofs.lemmas.List.Sums.{sum_by-cons, sum_by_push}
use Rattle.edge_log.specs.Entries.{entry_size}
use Rattle.stamps.specs.Stamps.{converted_stamp, cleared_stamp}
use Rattle.stamps.specs.declared.stamp.Stamp.TheVariants.{By}
use Rattle.std.proofs.lemmas.Bool.Decides.{nat_tests}
use Rattle.std.specs.Prelude.{if◌then◌else◌, ◌==◌, nat_lt, nat_le}
use Rattle.std.specs.List.{list_all}
use Rattle.graph_model.specs.declared.change.Change.{Change}
use Rattle.graph_model.specs.declared.change.Change.TheVariants.{New, Set, Drop, Put, Del}
use Rattle.graph_model.specs.declared.query.Query.{Query}
use Rattle.graph_model.specs.declared.graph.Base.{Base}
use Rattle.graph_model.specs.declared.record.Record.{Record}
use Rattle.graph_model.specs.declared.record.Outcome.{Outcome}
use Rattle.graph_model.specs.declared.record.Outcome.TheVariants.{Committed}
use Rattle.graph_model.specs.Change.{vertex_of, encoded_len, encoded_lens, edge_size}
use Rattle.graph_model.specs.Graph.{pair_to}
use Rattle.graph_model.specs.Records.{number_end, group_most, destination_end, has_destination}
use Rattle.stamps.specs.Stamps.{Reader, Txn}
use Rattle.edge_log.specs.Entries.{Entry, visible, shown, pair_of, converted, cleared, sizes, fresh_entry}
use Rattle.edge_log.specs.Places.{oldest}
use Rattle.edge_log.specs.Contents.{LogContent, empty_content, with_appended, with_converted, with_undone}
use Rattle.vertex_locks.specs.declared.answer.Look.{Look}
use Rattle.vertex_locks.specs.declared.answer.Look.TheVariants.{Taken, Held, Conflict}
use Rattle.core_rows.specs.Rows.{Row, log_at, each_log, ended_log, put_row, del_row, lock_answer}
use Rattle.core_states.specs.declared.transaction.Stage.TheVariants.{Decided}
use Rattle.core_states.specs.declared.transaction.Transaction.{Transaction}
use Rattle.core_states.specs.declared.actor.Actor.{Actor}
use Rattle.core_states.specs.declared.clock.Clock.{Clock}
use Rattle.core_states.specs.declared.event.Act.{Act}
use Rattle.core_states.specs.declared.event.Act.TheVariants as act
use Rattle.core_states.specs.declared.event.CoreAnswer.{CoreAnswer}
use Rattle.core_states.specs.declared.event.CoreAnswer.TheVariants as answer
use Rattle.core_states.specs.Names.{Name, set_at, set_name}
use Rattle.core_states.specs.Numbers.{has_number, all_in, outcome_of, has_record, numbered}
use Rattle.core_states.specs.Transactions.{is_working, is_loser, is_queued, holds, won_epoch, with_stage, after_outcome, with_txn, touching, changing, settling}
use Rattle.core_states.specs.ClockEvents.{ClockMove, for_txn, for_none, begins, draws, enqueues, hears, done_at, sees, ends, queued_record}
use Rattle.core_states.specs.LogParts.{LogPart, is_held_by, may_take}
use Rattle.core_states.specs.LogEvents.{LogMove, GroupMove, told, writes, mends, collects, publishes, fails}
use Rattle.core_states.specs.declared.event.Reach.{Reach}
use Rattle.core_kept.proofs.GroupSteps.{if_log, if_group}
use Rattle.graph_model.specs.declared.record.Outcome.TheVariants.{Failed}
use Rattle.core_states.specs.RowEvents.{RowMove, Limits, sees_edge, is_long, is_full, has_vertex, changed_row, refusal, by_refusal, by_look, changes, puts, news, looks, looks_by, reads, applies_at, undoes}
use Rattle.core_states.specs.States.{State, after_clock, after_row, after_at, after, reach_of, clock_event, row_event, after_log, after_group, log_event, group_event}
use Rattle.core_kept.specs.Good.{Ghost, Good}
use Rattle.core_kept.specs.Bounds.{made_within, ChangesFit, RecordsFit, LogBounded, Bounded}
use Rattle.core_states.proofs.Names.{at_each, name_each, some_is}
use Rattle.row_pasts.proofs.LogLemmas.{end_newest, ended_is}
use Rattle.row_pasts.proofs.LabelLogs.{each_set, each_changed}
use Rattle.core_kept.proofs.Beginning.{none_some}
use Rattle.core_kept.proofs.Changing.{is_new}

-- ---- logs

abbrev pub low_entry : Entry → Bool
low_entry x = nat_lt x.d destination_end

pub sizes-cons : (x : Entry) (xs : List Entry) → sizes (x ∷ xs) ≡ edge_size x.p + sizes xs
sizes-cons x xs = sum_by-cons entry_size x xs

sizes-end_newest : (xs : List Entry) (d e t : ℕ) → sizes (end_newest xs d e t) ≡ sizes xs
sizes-end_newest [] d e t = refl
sizes-end_newest (x ∷ xs) d e t = by_test (visible x e (Txn t) && x.d == d) (sizes-end_newest xs d e t)
  where
    by_test : (b : Bool) → sizes (end_newest xs d e t) ≡ sizes xs → sizes (if b then record { d = x.d; p = x.p; created = x.created; ended = By t } ∷ xs else x ∷ end_newest xs d e t) ≡ sizes (x ∷ xs)
    by_test true ih = sizes-cons (record { d = x.d; p = x.p; created = x.created; ended = By t }) xs ∙ sym (sizes-cons x xs)
    by_test false ih = sizes-cons x (end_newest xs d e t) ∙ ap (λ n. edge_size x.p + n) ih ∙ sym (sizes-cons x xs)

sizes-converted : (xs : List Entry) (t e : ℕ) → sizes (converted t e xs) ≡ sizes xs
sizes-converted [] t e = refl
sizes-converted (x ∷ xs) t e =
    sizes-cons (record { d = x.d; p = x.p; created = converted_stamp t e x.created; ended = converted_stamp t e x.ended }) (converted t e xs)
    ∙ ap (λ n. edge_size x.p + n) (sizes-converted xs t e) ∙ sym (sizes-cons x xs)

sizes-cleared : (xs : List Entry) (t : ℕ) → sizes (cleared t xs) ≡ sizes xs
sizes-cleared [] t = refl
sizes-cleared (x ∷ xs) t =
    sizes-cons (record { d = x.d; p = x.p; created = x.created; ended = cleared_stamp t x.ended }) (cleared t xs)
    ∙ ap (λ n. edge_size x.p + n) (sizes-cleared xs t) ∙ sym (sizes-cons x xs)

sizes-oldest : (xs : List Entry) (k : ℕ) → sizes (oldest k xs) ≤ sizes xs
sizes-oldest [] k = omega arith
sizes-oldest (x ∷ xs) k = by_test (nat_le (length xs + 1) k) (sizes-oldest xs k)
  where
    by_test : (b : Bool) → sizes (oldest k xs) ≤ sizes xs → sizes (if b then x ∷ xs else oldest k xs) ≤ sizes (x ∷ xs)
    by_test true ih = omega arith
    by_test false ih = let c = sizes-cons x xs in omega (arith, ih, c)

low-end_newest : (xs : List Entry) (d e t : ℕ) → list_all low_entry xs ≡ true → list_all low_entry (end_newest xs d e t) ≡ true
low-end_newest [] d e t low = refl
low-end_newest (x ∷ xs) d e t low = let ih = low-end_newest xs d e t in grind (arith, ih)

low-converted : (xs : List Entry) (t e : ℕ) → list_all low_entry xs ≡ true → list_all low_entry (converted t e xs) ≡ true
low-converted [] t e low = refl
low-converted (x ∷ xs) t e low = let p = and_parts (low_entry x) (list_all low_entry xs) low in and_from (low_entry x) (list_all low_entry (converted t e xs)) p.0 (low-converted xs t e p.1)

low-cleared : (xs : List Entry) (t : ℕ) → list_all low_entry xs ≡ true → list_all low_entry (cleared t xs) ≡ true
low-cleared [] t low = refl
low-cleared (x ∷ xs) t low = let p = and_parts (low_entry x) (list_all low_entry xs) low in and_from (low_entry x) (list_all low_entry (cleared t xs)) p.0 (low-cleared xs t p.1)

low-oldest : (xs : List Entry) (k : ℕ) → list_all low_entry xs ≡ true → list_all low_entry (oldest k xs) ≡ true
low-oldest [] k low = refl
low-oldest (x ∷ xs) k low = let p = and_parts (low_entry x) (list_all low_entry xs) low in by_test (nat_le (length xs + 1) k) (low-oldest xs k p.1)
  where
    by_test : (b : Bool) → list_all low_entry (oldest k xs) ≡ true → list_all low_entry (if b then x ∷ xs else oldest k xs) ≡ true
    by_test true ih = low
    by_test false ih = ih

-- an edge that is seen has a destination of the log
low_seen : (xs : List Entry) (d e : ℕ) (who : Reader) → list_all low_entry xs ≡ true → is_some (pair_to d (shown xs e who)) ≡ true → nat_lt d destination_end ≡ true
low_seen [] d e who low seen = absurd (false≢true seen)
low_seen (x ∷ xs) d e who low seen = by_test (visible x e who) (x.d == d) refl seen (low_seen xs d e who p.1)
  where
    p : (low_entry x ≡ true) × (list_all low_entry xs ≡ true)
    p = and_parts (low_entry x) (list_all low_entry xs) low

    by_test : (b c : Bool) → (x.d == d) ≡ c → is_some (pair_to d (if b then pair_of x ∷ shown xs e who else shown xs e who)) ≡ true → (is_some (pair_to d (shown xs e who)) ≡ true → nat_lt d destination_end ≡ true) → nat_lt d destination_end ≡ true
    by_test true true is h ih = ap (λ n. nat_lt n destination_end) (sym (eqb-true x.d d is)) ∙ p.0
    by_test true false is h ih = ih (rw is at h)
    by_test false c is h ih = ih h

pub none_bounded : (most : ℕ) → LogBounded most empty_content
none_bounded most = record { room = omega arith; destinations = refl }

abbrev RowBounded : ℕ → Row → Type 0
RowBounded most row = (l : ℕ) → LogBounded most (log_at row.logs l)

put_bounded : (most : ℕ) (row : Row) (t r l d : ℕ) (p : List ℕ) → sizes (log_at row.logs l).entries + edge_size p ≤ most → nat_lt d destination_end ≡ true → RowBounded most row → RowBounded most (put_row t r l d p row)
put_bounded most row t r l d p room low small = each_set (λ m (log : LogContent). LogBounded most log) row.logs l (with_appended t d p (ended_log d r t (log_at row.logs l)))
    (subst (λ (x : LogContent). LogBounded most (with_appended t d p x)) (sym (ended_is d r t (log_at row.logs l)))
    (record { room = (let s = sizes-end_newest (log_at row.logs l).entries d r t in let c = sizes-cons (fresh_entry d p t) (end_newest (log_at row.logs l).entries d r t) in omega (arith, s, c)); destinations = and_from (nat_lt d destination_end) _ low (low-end_newest (log_at row.logs l).entries d r t (small l).destinations) }))
    (λ m n. small m)

del_bounded : (most : ℕ) (row : Row) (t r l d : ℕ) → RowBounded most row → RowBounded most (del_row t r l d row)
del_bounded most row t r l d small = each_set (λ m (log : LogContent). LogBounded most log) row.logs l (ended_log d r t (log_at row.logs l))
    (subst (λ (x : LogContent). LogBounded most x) (sym (ended_is d r t (log_at row.logs l)))
    (record { room = (let s = sizes-end_newest (log_at row.logs l).entries d r t in let b = (small l).room in omega (arith, s, b)); destinations = low-end_newest (log_at row.logs l).entries d r t (small l).destinations }))
    (λ m n. small m)

-- ---- changes

lens-push : (cs : List Change) (c : Change) → encoded_lens (cs ++ c ∷ []) ≡ encoded_lens cs + encoded_len c
lens-push cs c = sum_by_push encoded_len cs c

all-push : (p : Change → Bool) (cs : List Change) (c : Change) → list_all p cs ≡ true → p c ≡ true → list_all p (cs ++ c ∷ []) ≡ true
all-push p [] c all here = and_from (p c) true here refl
all-push p (d ∷ cs) c all here = let q = and_parts (p d) (list_all p cs) all in and_from (p d) (list_all p (cs ++ c ∷ [])) q.0 (all-push p cs c q.1 here)

changing_fits : (low next : ℕ) (most : Limits) (x : Transaction) (c : Change) → ChangesFit low next most.txn x.own → is_long most x c ≡ false → has_destination c ≡ true → made_within low next c ≡ true → ChangesFit low next most.txn (changing x c).own
changing_fits low next most x c fit short dest made = record {
  lens = (let q = lens-push x.own c in let b = ltb-false most.txn (encoded_lens x.own + encoded_len c) short in omega (arith, q, b));
  destinations = all-push has_destination x.own c fit.destinations dest;
  made = all-push (made_within low next) x.own c fit.made made;
}

made_up : (low next higher : ℕ) (c : Change) → next ≤ higher → made_within low next c ≡ true → made_within low higher c ≡ true
made_up low next higher (New v p) le h = grind (arith, nat_tests)
made_up low next higher (Set v p) le h = refl
made_up low next higher (Drop v) le h = refl
made_up low next higher (Put v l d p) le h = refl
made_up low next higher (Del v l d) le h = refl

all_made_up : (low next higher : ℕ) (cs : List Change) → next ≤ higher → list_all (made_within low next) cs ≡ true → list_all (made_within low higher) cs ≡ true
all_made_up low next higher [] le all = refl
all_made_up low next higher (c ∷ cs) le all =
    let q = and_parts (made_within low next c) (list_all (made_within low next) cs) all in
    and_from (made_within low higher c) (list_all (made_within low higher) cs) (made_up low next higher c le q.0) (all_made_up low next higher cs le q.1)

changes_up : (low next higher most : ℕ) (cs : List Change) → next ≤ higher → ChangesFit low next most cs → ChangesFit low higher most cs
changes_up low next higher most cs le fit = record { lens = fit.lens; destinations = fit.destinations; made = all_made_up low next higher cs le fit.made }

records_up : (low next higher most : ℕ) (rs : List Record) → next ≤ higher → RecordsFit low next most rs → RecordsFit low higher most rs
records_up low next higher most [] le fit = tt
records_up low next higher most (r ∷ rs) le fit = (changes_up low next higher most r.changes le fit.0, fit.1, records_up low next higher most rs le fit.2)

records-append : (low next most : ℕ) (rs us : List Record) → RecordsFit low next most rs → RecordsFit low next most us → RecordsFit low next most (rs ++ us)
records-append low next most [] us a b = b
records-append low next most (r ∷ rs) us a b = (a.0, a.1, records-append low next most rs us a.2 b)

records-take : (low next most n : ℕ) (rs : List Record) → RecordsFit low next most rs → RecordsFit low next most (take n rs) × RecordsFit low next most (drop n rs)
records-take low next most n rs fit = split (take n rs) (drop n rs) (subst (RecordsFit low next most) (sym (take-append-drop n rs)) fit)
  where
    split : (us ws : List Record) → RecordsFit low next most (us ++ ws) → RecordsFit low next most us × RecordsFit low next most ws
    split [] ws h = (tt, h)
    split (r ∷ us) ws h = let ih = split us ws h.2 in ((h.0, h.1, ih.0), ih.1)

records-numbered : (low next most e : ℕ) (rs : List Record) → RecordsFit low next most rs → RecordsFit low next most (numbered e rs)
records-numbered low next most e [] fit = tt
records-numbered low next most e (r ∷ rs) fit = (fit.0, fit.1, records-numbered low next most e rs fit.2)

-- ---- one actor and one row

bounded_row : (base : Base) (most : Limits) (s : State) (i : Name) (v : ℕ) (a : Actor) (row : Row) → RowBounded most.log row → ((y : Transaction) → a.txn ≡ Some y → ChangesFit base.next_vertex s.clock.next_vertex most.txn y.own) → a.group ≡ (s.actor i).group → Bounded base most s
    → Bounded base most (record s { actor = set_name s.actor i a; row = set_at s.row v row })
bounded_row base most s i v a row here own group b = record {
  next_tid = b.next_tid;
  next_vertex = b.next_vertex;
  logs = at_each (λ w (r : Row). RowBounded most.log r) s.row v row here (λ w n. b.logs w);
  txns = name_each (λ j (c : Actor). (y : Transaction) → c.txn ≡ Some y → ChangesFit base.next_vertex s.clock.next_vertex most.txn y.own) s.actor i a own (λ j n. b.txns j);
  queue = b.queue;
  groups = name_each (λ j (c : Actor). RecordsFit base.next_vertex s.clock.next_vertex most.txn c.group) s.actor i a (subst (RecordsFit base.next_vertex s.clock.next_vertex most.txn) (sym group) (b.groups i)) (λ j n. b.groups j);
  records = b.records;
}

same_own : (base : Base) (most : Limits) (s : State) (i : Name) (next : ℕ) (x y : Transaction) (a : Actor) → s.clock.next_vertex ≤ next → (s.actor i).txn ≡ Some x → a.txn ≡ Some y → y.own ≡ x.own → Bounded base most s
    → (z : Transaction) → a.txn ≡ Some z → ChangesFit base.next_vertex next most.txn z.own
same_own base most s i next x y a le before after own b z e =
    subst (λ (u : Transaction). ChangesFit base.next_vertex next most.txn u.own) (some_is y z (sym after ∙ e))
    (subst (ChangesFit base.next_vertex next most.txn) (sym own) (changes_up base.next_vertex s.clock.next_vertex next most.txn x.own le (b.txns i x before)))

quiet_row : (base : Base) (most : Limits) (s : State) (i : Name) (v : ℕ) (x y : Transaction) (a : Actor) → (s.actor i).txn ≡ Some x → a.txn ≡ Some y → y.own ≡ x.own → a.group ≡ (s.actor i).group → Bounded base most s
    → Bounded base most (record s { actor = set_name s.actor i a; row = set_at s.row v (s.row v) })
quiet_row base most s i v x y a at after own group b = bounded_row base most s i v a (s.row v) (b.logs v) (same_own base most s i s.clock.next_vertex x y a (omega arith) at after own b) group b

-- ---- events on rows

-- where a change is not refused it fits
record Room (most : Limits) (x : Transaction) (c : Change) (row : Row) : Type 0 where
  short : is_long most x c ≡ false
  dest : has_destination c ≡ true
  row_is : RowBounded most.log (changed_row x c row)

passes : (b : Bool) (r : CoreAnswer) (o : Option CoreAnswer) → (if b then Some r else o) ≡ None → (b ≡ false) × (o ≡ None)
passes true r o e = absurd (cc)
passes false r o e = (refl, e)

not_not : (b : Bool) → not b ≡ false → b ≡ true
not_not true e = refl
not_not false e = absurd (true≢false e)

room : (most : Limits) (x : Transaction) (c : Change) (row : Row) → RowBounded most.log row → (is_put : (v l d : ℕ) (p : List ℕ) → c ≡ Put v l d p → has_destination c ≡ true) → refusal most x c row ≡ None → Room most x c row
room most x (New v p) row small low none = record { short = (passes (is_long most x (New v p)) answer.TxnFull None none).0; dest = refl; row_is = small }
room most x (Set v p) row small low none = record { short = (passes (is_long most x (Set v p)) answer.TxnFull None none).0; dest = refl; row_is = small }
room most x (Drop v) row small low none = record { short = (passes (is_long most x (Drop v)) answer.TxnFull None none).0; dest = refl; row_is = small }
room most x (Put v l d p) row small low none =
    let one = passes (is_long most x (Put v l d p)) answer.TxnFull (if is_full most row l p then Some answer.LogFull else None) none in
    let two = passes (is_full most row l p) answer.LogFull None one.1 in
    let dest = low v l d p refl in
    record { short = one.0; dest = dest; row_is = put_bounded most.log row x.tid x.read l d p (ltb-false most.log (sizes (log_at row.logs l).entries + edge_size p) two.0) dest small }
room most x (Del v l d) row small low none =
    let one = passes (not (sees_edge x row l d)) answer.Absent (if is_long most x (Del v l d) then Some answer.TxnFull else None) none in
    record {
      short = (passes (is_long most x (Del v l d)) answer.TxnFull None one.1).0;
      dest = low_seen (log_at row.logs l).entries d x.read (Txn x.tid) (small l).destinations (not_not (sees_edge x row l d) one.0);
      row_is = del_bounded most.log row x.tid x.read l d small;
    }

old_made : (low next : ℕ) (c : Change) → is_new c ≡ false → made_within low next c ≡ true
old_made low next (New v p) old = absurd (true≢false old)
old_made low next (Set v p) old = refl
old_made low next (Drop v) old = refl
old_made low next (Put v l d p) old = refl
old_made low next (Del v l d) old = refl

by_refusal_bounded : (base : Base) (most : Limits) (s : State) (i : Name) (x : Transaction) (c : Change) (o : Option CoreAnswer) → ((v l d : ℕ) (p : List ℕ) → c ≡ Put v l d p → has_destination c ≡ true) → is_new c ≡ false → refusal most x c (s.row (vertex_of c)) ≡ o → (s.actor i).txn ≡ Some x → Bounded base most s
    → Bounded base most (after_row s i (vertex_of c) (by_refusal o x c (s.row (vertex_of c)) (s.actor i)))
by_refusal_bounded base most s i x c (Some r) low old is at b = bounded_row base most s i (vertex_of c) (with_txn (s.actor i) (Some (touching x (vertex_of c)))) _ (b.logs (vertex_of c)) (same_own base most s i s.clock.next_vertex x (touching x (vertex_of c)) (with_txn (s.actor i) (Some (touching x (vertex_of c)))) (omega arith) at refl refl b) refl b
by_refusal_bounded base most s i x c None low old is at b =
    let r = room most x c (s.row (vertex_of c)) (b.logs (vertex_of c)) low is in
    bounded_row base most s i (vertex_of c) (with_txn (s.actor i) (Some (changing x c))) (changed_row x c (s.row (vertex_of c))) r.row_is
    (λ z e. subst (λ (u : Transaction). ChangesFit base.next_vertex s.clock.next_vertex most.txn u.own) (some_is (changing x c) z e) (changing_fits base.next_vertex s.clock.next_vertex most x c (b.txns i x at) r.short r.dest (old_made base.next_vertex s.clock.next_vertex c old))) refl b

by_look_bounded : (look : Look) (base : Base) (most : Limits) (s : State) (i : Name) (x : Transaction) (c : Change) → ((v l d : ℕ) (p : List ℕ) → c ≡ Put v l d p → has_destination c ≡ true) → is_new c ≡ false → (s.actor i).txn ≡ Some x → Bounded base most s
    → Bounded base most (after_row s i (vertex_of c) (by_look look most x c (s.row (vertex_of c)) (s.actor i)))
by_look_bounded Taken base most s i x c low old at b = by_refusal_bounded base most s i x c (refusal most x c (s.row (vertex_of c))) low old refl at b
by_look_bounded (Held u) base most s i x c low old at b = b
by_look_bounded (Conflict e) base most s i x c low old at b = b

changes_bounded : (base : Base) (most : Limits) (s : State) (i : Name) (x : Transaction) (c : Change) → ((v l d : ℕ) (p : List ℕ) → c ≡ Put v l d p → has_destination c ≡ true) → is_new c ≡ false → (s.actor i).txn ≡ Some x → Bounded base most s
    → Bounded base most (after_row s i (vertex_of c) (changes most x c (s.row (vertex_of c)) (s.actor i)))
changes_bounded base most s i x c low old at b = by_tests (is_working x) refl (has_vertex x (s.row (vertex_of c))) refl
  where
    by_tests : (w : Bool) → is_working x ≡ w → (d : Bool) → has_vertex x (s.row (vertex_of c)) ≡ d → Bounded base most (after_row s i (vertex_of c) (changes most x c (s.row (vertex_of c)) (s.actor i)))
    by_tests false e d f = rw e b
    by_tests true e false f = rw (e, f) (quiet_row base most s i (vertex_of c) x x (with_txn (s.actor i) (Some x)) at refl refl refl b)
    by_tests true e true f = rw (e, f) (by_look_bounded (lock_answer (s.row (vertex_of c)) x.tid x.read) base most s i x c low old at b)

puts_bounded : (base : Base) (most : Limits) (s : State) (i : Name) (x : Transaction) (c : Change) → is_new c ≡ false → (s.actor i).txn ≡ Some x → Bounded base most s
    → Bounded base most (after_row s i (vertex_of c) (puts most x c (s.row (vertex_of c)) (s.actor i)))
puts_bounded base most s i x c old at b = by_test (has_destination c) refl
  where
    by_test : (d : Bool) → has_destination c ≡ d → Bounded base most (after_row s i (vertex_of c) (if d then changes most x c (s.row (vertex_of c)) (s.actor i) else None))
    by_test false is = b
    by_test true is = changes_bounded base most s i x c (λ v l d p e. is) old at b

news_bounded : (base : Base) (g : Ghost) (most : Limits) (s : State) (i : Name) (v : ℕ) (p : List ℕ) (x : Transaction) → Good base g s → (s.actor i).txn ≡ Some x → Bounded base most s
    → Bounded base most (after_row s i v (news most x v p (s.row v) (s.actor i)))
news_bounded base g most s i v p x good at b = by_tests (is_working x) refl (has_number v x.drawn) refl (is_long most x (New v p)) refl
  where
    by_tests : (w : Bool) → is_working x ≡ w → (d : Bool) → has_number v x.drawn ≡ d → (e : Bool) → is_long most x (New v p) ≡ e → Bounded base most (after_row s i v (news most x v p (s.row v) (s.actor i)))
    by_tests false ew d ed e ee = rw ew b
    by_tests true ew false ed e ee = rw (ew, ed) b
    by_tests true ew true ed true ee = rw (ew, ed, ee) (quiet_row base most s i v x x (with_txn (s.actor i) (Some x)) at refl refl refl b)
    by_tests true ew true ed false ee = rw (ew, ed, ee) (
        let u = good.drawn i x at v ed in
        bounded_row base most s i v (with_txn (s.actor i) (Some (changing x (New v p)))) (changed_row x (New v p) (s.row v)) (b.logs v)
        (λ z e. subst (λ (y : Transaction). ChangesFit base.next_vertex s.clock.next_vertex most.txn y.own) (some_is (changing x (New v p)) z e)
        (changing_fits base.next_vertex s.clock.next_vertex most x (New v p) (b.txns i x at) ee refl (let low = u.above in let high = u.below in grind (arith, nat_tests)))) refl b)

looks_bounded : (base : Base) (most : Limits) (s : State) (i : Name) (v : ℕ) (x : Transaction) → (s.actor i).txn ≡ Some x → Bounded base most s → Bounded base most (after_row s i v (looks x v (s.row v) (s.actor i)))
looks_bounded base most s i v x at b = by_tests (is_working x) refl (has_vertex x (s.row v)) refl
  where
    by_look' : (look : Look) → Bounded base most (after_row s i v (looks_by look x v (s.row v) (s.actor i)))
    by_look' Taken = b
    by_look' (Held u) = quiet_row base most s i v x x _ at refl refl refl b
    by_look' (Conflict e) = quiet_row base most s i v x x _ at refl refl refl b

    by_tests : (w : Bool) → is_working x ≡ w → (d : Bool) → has_vertex x (s.row v) ≡ d → Bounded base most (after_row s i v (looks x v (s.row v) (s.actor i)))
    by_tests false ew d ed = rw ew b
    by_tests true ew false ed = rw (ew, ed) b
    by_tests true ew true ed = rw (ew, ed) (by_look' (lock_answer (s.row v) x.tid x.read))

reads_bounded : (base : Base) (most : Limits) (s : State) (i : Name) (v : ℕ) (q : Query) (x : Transaction) → (s.actor i).txn ≡ Some x → Bounded base most s → Bounded base most (after_row s i v (reads x q (s.row v) (s.actor i)))
reads_bounded base most s i v q x at b = by_test (is_working x) refl
  where
    by_test : (w : Bool) → is_working x ≡ w → Bounded base most (after_row s i v (reads x q (s.row v) (s.actor i)))
    by_test false e = rw e b
    by_test true e = rw e (quiet_row base most s i v x x (with_txn (s.actor i) (Some x)) at refl refl refl b)

committed_bounded : (most t e : ℕ) (log : LogContent) → LogBounded most log → LogBounded most (committed_log t e log)
committed_bounded most t e log small = by_test (has_entry_of t log.entries)
  where
    by_test : (b : Bool) → LogBounded most (if b then with_converted t e log else log)
    by_test false = small
    by_test true = record { room = (let q = sizes-converted log.entries t e in let b = small.room in omega (arith, q, b)); destinations = low-converted log.entries t e small.destinations }

applied_bounded : (most : ℕ) (row : Row) (t e : ℕ) (changed : Bool) → RowBounded most row → RowBounded most (apply_row t e changed row)
applied_bounded most row t e false small l = small l
applied_bounded most row t e true small l = each_changed (LogBounded most) (committed_log t e) row.logs l (λ none. none) (committed_bounded most t e (log_at row.logs l) (small l))

undone_bounded : (most : ℕ) (row : Row) (t : ℕ) → RowBounded most row → (l : ℕ) → LogBounded most (log_at (each_log (with_undone t) row.logs) l)
undone_bounded most row t small l =
    let log = log_at row.logs l in
    each_changed (LogBounded most) (with_undone t) row.logs l (λ _. none_bounded most)
    (record {
      room = (let q = sizes-cleared (oldest log.committed log.entries) t in let r = sizes-oldest log.entries log.committed in let b = (small l).room in omega (arith, q, r, b));
      destinations = low-cleared (oldest log.committed log.entries) t (low-oldest log.entries log.committed (small l).destinations);
    })

applies_bounded : (base : Base) (most : Limits) (s : State) (i : Name) (v : ℕ) (x : Transaction) (o : Option ℕ) → (s.actor i).txn ≡ Some x → Bounded base most s → Bounded base most (after_row s i v (applies_at o x v (s.row v) (s.actor i)))
applies_bounded base most s i v x None at b = b
applies_bounded base most s i v x (Some e) at b = by_test (holds x v) refl
  where
    by_test : (h : Bool) → holds x v ≡ h → Bounded base most (after_row s i v (applies_at (Some e) x v (s.row v) (s.actor i)))
    by_test false h = rw h b
    by_test true h = rw h (bounded_row base most s i v (with_txn (s.actor i) (Some (settling x v))) _ (applied_bounded most.log (s.row v) x.tid e (has_change (changes_about v x.own)) (b.logs v)) (same_own base most s i s.clock.next_vertex x (settling x v) (with_txn (s.actor i) (Some (settling x v))) (omega arith) at refl refl b) refl b)

undoes_bounded : (base : Base) (most : Limits) (s : State) (i : Name) (v : ℕ) (x : Transaction) → (s.actor i).txn ≡ Some x → Bounded base most s → Bounded base most (after_row s i v (undoes x v (s.row v) (s.actor i)))
undoes_bounded base most s i v x at b = by_test (is_loser x.stage && holds x v) refl
  where
    by_test : (h : Bool) → (is_loser x.stage && holds x v) ≡ h → Bounded base most (after_row s i v (undoes x v (s.row v) (s.actor i)))
    by_test false h = rw h b
    by_test true h = rw h (bounded_row base most s i v (record (s.actor i) { txn = Some (settling x v) }) _ (undone_bounded most.log (s.row v) x.tid (b.logs v)) (same_own base most s i s.clock.next_vertex x (settling x v) (record (s.actor i) { txn = Some (settling x v) }) (omega arith) at refl refl b) refl b)

for_bounded : (base : Base) (most : Limits) (s : State) (i : Name) (v : ℕ) (f : Transaction → Option RowMove) (o : Option Transaction) → Bounded base most s → ((x : Transaction) → o ≡ Some x → Bounded base most (after_row s i v (f x))) → Bounded base most (after_row s i v (for_txn f o))
for_bounded base most s i v f None b each = b
for_bounded base most s i v f (Some x) b each = each x refl

row_bounded : (base : Base) (g : Ghost) (most : Limits) (s : State) (i : Name) (v : ℕ) (action : Act) → reach_of action ≡ reach.Row v → Good base g s → Bounded base most s
    → Bounded base most (after_row s i v (row_event most action (s.row v) (s.actor i)))
row_bounded base g most s i v (act.Look w) at good b = subst (λ u. Bounded base most (after_row s i u (row_event most (act.Look w) (s.row u) (s.actor i)))) (row_is w v at)
    (for_bounded base most s i w (λ x. looks x w (s.row w) (s.actor i)) (s.actor i).txn b (λ x e. looks_bounded base most s i w x e b))
row_bounded base g most s i v (act.Put w l d p) at good b = subst (λ u. Bounded base most (after_row s i u (row_event most (act.Put w l d p) (s.row u) (s.actor i)))) (row_is w v at)
    (for_bounded base most s i w (λ x. puts most x (Put w l d p) (s.row w) (s.actor i)) (s.actor i).txn b (λ x e. puts_bounded base most s i x (Put w l d p) refl e b))
row_bounded base g most s i v (act.Del w l d) at good b = subst (λ u. Bounded base most (after_row s i u (row_event most (act.Del w l d) (s.row u) (s.actor i)))) (row_is w v at)
    (for_bounded base most s i w (λ x. changes most x (Del w l d) (s.row w) (s.actor i)) (s.actor i).txn b (λ x e. changes_bounded base most s i x (Del w l d) (λ v l d p q. absurd (cc)) refl e b))
row_bounded base g most s i v (act.Set w p) at good b = subst (λ u. Bounded base most (after_row s i u (row_event most (act.Set w p) (s.row u) (s.actor i)))) (row_is w v at)
    (for_bounded base most s i w (λ x. changes most x (Set w p) (s.row w) (s.actor i)) (s.actor i).txn b (λ x e. changes_bounded base most s i x (Set w p) (λ v l d p q. absurd (cc)) refl e b))
row_bounded base g most s i v (act.Drop w) at good b = subst (λ u. Bounded base most (after_row s i u (row_event most (act.Drop w) (s.row u) (s.actor i)))) (row_is w v at)
    (for_bounded base most s i w (λ x. changes most x (Drop w) (s.row w) (s.actor i)) (s.actor i).txn b (λ x e. changes_bounded base most s i x (Drop w) (λ v l d p q. absurd (cc)) refl e b))
row_bounded base g most s i v (act.New w p) at good b = subst (λ u. Bounded base most (after_row s i u (row_event most (act.New w p) (s.row u) (s.actor i)))) (row_is w v at)
    (for_bounded base most s i w (λ x. news most x w p (s.row w) (s.actor i)) (s.actor i).txn b (λ x e. news_bounded base g most s i w p x good e b))
row_bounded base g most s i v (act.Read q) at good b = for_bounded base most s i v (λ x. reads x q (s.row v) (s.actor i)) (s.actor i).txn b (λ x e. reads_bounded base most s i v q x e b)
row_bounded base g most s i v (act.Apply w) at good b = subst (λ u. Bounded base most (after_row s i u (row_event most (act.Apply w) (s.row u) (s.actor i)))) (row_is w v at)
    (for_bounded base most s i w (λ x. applies_at (won_epoch x.stage) x w (s.row w) (s.actor i)) (s.actor i).txn b (λ x e. applies_bounded base most s i w x (won_epoch x.stage) e b))
row_bounded base g most s i v (act.Undo w) at good b = subst (λ u. Bounded base most (after_row s i u (row_event most (act.Undo w) (s.row u) (s.actor i)))) (row_is w v at)
    (for_bounded base most s i w (λ x. undoes x w (s.row w) (s.actor i)) (s.actor i).txn b (λ x e. undoes_bounded base most s i w x e b))
row_bounded base g most s i v act.Open at good b = b
row_bounded base g most s i v act.Close at good b = b
row_bounded base g most s i v act.Begin at good b = b
row_bounded base g most s i v act.Draw at good b = b
row_bounded base g most s i v act.Enqueue at good b = b
row_bounded base g most s i v act.Collect at good b = b
row_bounded base g most s i v act.Publish at good b = b
row_bounded base g most s i v act.Outcome at good b = b
row_bounded base g most s i v act.Done at good b = b
row_bounded base g most s i v act.Seen at good b = b
row_bounded base g most s i v act.End at good b = b
row_bounded base g most s i v act.Horizon at good b = b
row_bounded base g most s i v (act.Fail f t) at good b = b
row_bounded base g most s i v (act.WriteGroup m) at good b = b
row_bounded base g most s i v act.Mend at good b = b

-- ---- events on the clock

-- What a move of the clock leaves: the numbers do not fall and stay in their range, and each list has records that fit.
record ClockFits (base : Base) (most : Limits) (k : Clock) (z : Clock) (a : Actor) : Type 0 where
  next_tid : z.next_tid ≤ number_end
  next_vertex : z.next_vertex ≤ number_end
  up : k.next_vertex ≤ z.next_vertex
  txn : (y : Transaction) → a.txn ≡ Some y → ChangesFit base.next_vertex z.next_vertex most.txn y.own
  queue : RecordsFit base.next_vertex z.next_vertex most.txn z.queue
  group : RecordsFit base.next_vertex z.next_vertex most.txn a.group
  records : RecordsFit base.next_vertex z.next_vertex most.txn z.records

bounded_clock : (base : Base) (most : Limits) (s : State) (i : Name) (z : Clock) (a : Actor) → ClockFits base most s.clock z a → Bounded base most s → Bounded base most (record s { clock = z; actor = set_name s.actor i a })
bounded_clock base most s i z a f b = record {
  next_tid = f.next_tid;
  next_vertex = f.next_vertex;
  logs = b.logs;
  txns = name_each (λ j (c : Actor). (y : Transaction) → c.txn ≡ Some y → ChangesFit base.next_vertex z.next_vertex most.txn y.own) s.actor i a f.txn (λ j n y e. changes_up base.next_vertex s.clock.next_vertex z.next_vertex most.txn y.own f.up (b.txns j y e));
  queue = f.queue;
  groups = name_each (λ j (c : Actor). RecordsFit base.next_vertex z.next_vertex most.txn c.group) s.actor i a f.group (λ j n. records_up base.next_vertex s.clock.next_vertex z.next_vertex most.txn (s.actor j).group f.up (b.groups j));
  records = f.records;
}

-- a move that leaves the lists of the clock, and the group
plain_move : (base : Base) (most : Limits) (s : State) (i : Name) (z : Clock) (a : Actor) → z.next_tid ≡ s.clock.next_tid → z.next_vertex ≡ s.clock.next_vertex → z.queue ≡ s.clock.queue → z.records ≡ s.clock.records → a.group ≡ (s.actor i).group
    → ((y : Transaction) → a.txn ≡ Some y → ChangesFit base.next_vertex s.clock.next_vertex most.txn y.own) → Bounded base most s → Bounded base most (record s { clock = z; actor = set_name s.actor i a })
plain_move base most s i z a tid vertex queue records group own b = bounded_clock base most s i z a (record {
  next_tid = rw tid b.next_tid;
  next_vertex = rw vertex b.next_vertex;
  up = omega (arith, vertex);
  txn = rw vertex own;
  queue = rw (vertex, queue) b.queue;
  group = rw (vertex, group) (b.groups i);
  records = rw (vertex, records) b.records;
}) b

same_txn : (base : Base) (most : Limits) (s : State) (i : Name) (a : Actor) → a.txn ≡ (s.actor i).txn → Bounded base most s → (y : Transaction) → a.txn ≡ Some y → ChangesFit base.next_vertex s.clock.next_vertex most.txn y.own
same_txn base most s i a same b y e = b.txns i y (sym same ∙ e)

no_txn : (base : Base) (most : Limits) (s : State) (a : Actor) → a.txn ≡ None → (y : Transaction) → a.txn ≡ Some y → ChangesFit base.next_vertex s.clock.next_vertex most.txn y.own
no_txn base most s a none y e = absurd (none_some y (sym none ∙ e))

if_bounded : (base : Base) (most : Limits) (s : State) (i : Name) (c : Bool) (m n : Option ClockMove) → (c ≡ true → Bounded base most (after_clock s i m)) → (c ≡ false → Bounded base most (after_clock s i n)) → Bounded base most (after_clock s i (if c then m else n))
if_bounded base most s i true m n hit miss = hit refl
if_bounded base most s i false m n hit miss = miss refl

for_txn_bounded : (base : Base) (most : Limits) (s : State) (i : Name) (f : Transaction → Option ClockMove) (o : Option Transaction) → Bounded base most s → ((x : Transaction) → o ≡ Some x → Bounded base most (after_clock s i (f x))) → Bounded base most (after_clock s i (for_txn f o))
for_txn_bounded base most s i f None b each = b
for_txn_bounded base most s i f (Some x) b each = each x refl

for_none_bounded : (base : Base) (most : Limits) (s : State) (i : Name) (m : Option ClockMove) (o : Option Transaction) → Bounded base most s → (o ≡ None → Bounded base most (after_clock s i m)) → Bounded base most (after_clock s i (for_none m o))
for_none_bounded base most s i m None b each = each refl
for_none_bounded base most s i m (Some x) b each = b

begins_bounded : (base : Base) (most : Limits) (s : State) (i : Name) → Bounded base most s → Bounded base most (after_clock s i (begins s.clock (s.actor i)))
begins_bounded base most s i b = if_bounded base most s i (not (s.actor i).row) None _ (λ _. b)
    (λ _. if_bounded base most s i (s.clock.next_tid == number_end) _ _
    (λ _. plain_move base most s i s.clock (with_txn (s.actor i) None) refl refl refl refl refl (no_txn base most s (with_txn (s.actor i) None) refl) b)
    (λ e. bounded_clock base most s i _ _ (record {
      next_tid = (let n = eqb-false s.clock.next_tid number_end e in let le = b.next_tid in omega (arith, n, le));
      next_vertex = b.next_vertex;
      up = omega arith;
      txn = λ y q. subst (λ (u : Transaction). ChangesFit base.next_vertex s.clock.next_vertex most.txn u.own) (some_is _ y q) (record { lens = omega arith; destinations = refl; made = refl });
      queue = b.queue;
      group = b.groups i;
      records = b.records;
    }) b))

draws_bounded : (base : Base) (most : Limits) (s : State) (i : Name) (x : Transaction) → (s.actor i).txn ≡ Some x → Bounded base most s → Bounded base most (after_clock s i (draws x s.clock (s.actor i)))
draws_bounded base most s i x at b = if_bounded base most s i (not (is_working x)) None _ (λ _. b)
    (λ _. if_bounded base most s i (s.clock.next_vertex == number_end) _ _
    (λ _. plain_move base most s i s.clock (with_txn (s.actor i) (Some x)) refl refl refl refl refl (same_txn base most s i (with_txn (s.actor i) (Some x)) (sym at) b) b)
    (λ e. bounded_clock base most s i _ _ (record {
      next_tid = b.next_tid;
      next_vertex = (let n = eqb-false s.clock.next_vertex number_end e in let le = b.next_vertex in omega (arith, n, le));
      up = omega arith;
      txn = λ y q. subst (λ (u : Transaction). ChangesFit base.next_vertex (s.clock.next_vertex + 1) most.txn u.own) (some_is _ y q) (changes_up base.next_vertex s.clock.next_vertex (s.clock.next_vertex + 1) most.txn x.own (omega arith) (b.txns i x at));
      queue = records_up base.next_vertex s.clock.next_vertex (s.clock.next_vertex + 1) most.txn s.clock.queue (omega arith) b.queue;
      group = records_up base.next_vertex s.clock.next_vertex (s.clock.next_vertex + 1) most.txn (s.actor i).group (omega arith) (b.groups i);
      records = records_up base.next_vertex s.clock.next_vertex (s.clock.next_vertex + 1) most.txn s.clock.records (omega arith) b.records;
    }) b))

some_changes : (cs : List Change) → (length cs == 0) ≡ false → 0 < length cs
some_changes [] e = absurd (true≢false e)
some_changes (c ∷ cs) e = omega arith

moved_txn : (base : Base) (most : Limits) (s : State) (i : Name) (x y : Transaction) → (s.actor i).txn ≡ Some x → y.own ≡ x.own → Bounded base most s → (z : Transaction) → Some y ≡ Some z → ChangesFit base.next_vertex s.clock.next_vertex most.txn z.own
moved_txn base most s i x y at own b z e = subst (λ (u : Transaction). ChangesFit base.next_vertex s.clock.next_vertex most.txn u.own) (some_is y z e) (subst (ChangesFit base.next_vertex s.clock.next_vertex most.txn) (sym own) (b.txns i x at))

enqueues_bounded : (base : Base) (most : Limits) (s : State) (i : Name) (x : Transaction) → (s.actor i).txn ≡ Some x → Bounded base most s → Bounded base most (after_clock s i (enqueues x s.clock (s.actor i)))
enqueues_bounded base most s i x at b = if_bounded base most s i (not (is_working x)) None _ (λ _. b)
    (λ _. if_bounded base most s i (length x.own == 0) None _ (λ _. b)
    (λ some. bounded_clock base most s i _ _ (record {
      next_tid = b.next_tid;
      next_vertex = b.next_vertex;
      up = omega arith;
      txn = moved_txn base most s i x _ at refl b;
      queue = records-append base.next_vertex s.clock.next_vertex most.txn s.clock.queue (queued_record x ∷ []) b.queue (b.txns i x at, some_changes x.own some, tt);
      group = b.groups i;
      records = b.records;
    }) b))

heard_own : (x : Transaction) (o : Option Outcome) → (after_outcome x o).own ≡ x.own
heard_own x None = refl
heard_own x (Some o) = refl

done_bounded : (base : Base) (most : Limits) (s : State) (i : Name) (x : Transaction) (o : Option ℕ) → Bounded base most s → Bounded base most (after_clock s i (done_at o x s.clock (s.actor i)))
done_bounded base most s i x None b = b
done_bounded base most s i x (Some e) b = if_bounded base most s i (all_in x.touched x.settled) _ None (λ _. plain_move base most s i _ _ refl refl refl refl refl (λ y q. absurd (none_some y q)) b) (λ _. b)

sees_bounded : (base : Base) (most : Limits) (s : State) (i : Name) (o : Option ℕ) → Bounded base most s → Bounded base most (after_clock s i (sees o s.clock (s.actor i)))
sees_bounded base most s i None b = b
sees_bounded base most s i (Some e) b = plain_move base most s i s.clock _ refl refl refl refl refl (b.txns i) b

clock_bounded : (base : Base) (most : Limits) (s : State) (i : Name) (action : Act) → Bounded base most s → Bounded base most (after_clock s i (clock_event action s.clock (s.actor i)))
clock_bounded base most s i act.Open b = if_bounded base most s i (s.actor i).row None _ (λ _. b) (λ _. plain_move base most s i s.clock _ refl refl refl refl refl (b.txns i) b)
clock_bounded base most s i act.Close b = for_none_bounded base most s i _ (s.actor i).txn b (λ _. if_bounded base most s i (s.actor i).row _ None (λ _. plain_move base most s i s.clock _ refl refl refl refl refl (b.txns i) b) (λ _. b))
clock_bounded base most s i act.Begin b = for_none_bounded base most s i _ (s.actor i).txn b (λ _. begins_bounded base most s i b)
clock_bounded base most s i act.Draw b = for_txn_bounded base most s i (λ x. draws x s.clock (s.actor i)) (s.actor i).txn b (λ x at. draws_bounded base most s i x at b)
clock_bounded base most s i act.Enqueue b = for_txn_bounded base most s i (λ x. enqueues x s.clock (s.actor i)) (s.actor i).txn b (λ x at. enqueues_bounded base most s i x at b)
clock_bounded base most s i act.Collect b = b
clock_bounded base most s i act.Publish b = b
clock_bounded base most s i (act.Fail f t) b = b
clock_bounded base most s i (act.WriteGroup m) b = b
clock_bounded base most s i act.Mend b = b
clock_bounded base most s i act.Outcome b = for_txn_bounded base most s i (λ x. hears x s.clock (s.actor i)) (s.actor i).txn b
    (λ x at. if_bounded base most s i (not (is_queued x.stage)) None _ (λ _. b) (λ _. plain_move base most s i s.clock _ refl refl refl refl refl (moved_txn base most s i x (after_outcome x (outcome_of x.tid s.clock.outcomes)) at (heard_own x (outcome_of x.tid s.clock.outcomes)) b) b))
clock_bounded base most s i act.Done b = for_txn_bounded base most s i (λ x. done_at (won_epoch x.stage) x s.clock (s.actor i)) (s.actor i).txn b (λ x at. done_bounded base most s i x (won_epoch x.stage) b)
clock_bounded base most s i act.Seen b = for_none_bounded base most s i _ (s.actor i).txn b (λ _. sees_bounded base most s i (s.actor i).finished b)
clock_bounded base most s i act.End b = for_txn_bounded base most s i (λ x. ends x s.clock (s.actor i)) (s.actor i).txn b
    (λ x at. if_bounded base most s i (is_loser x.stage && all_in x.touched x.settled) _ None (λ _. plain_move base most s i _ _ refl refl refl refl refl (λ y q. absurd (none_some y q)) b) (λ _. b))
clock_bounded base most s i act.Horizon b = plain_move base most s i s.clock _ refl refl refl refl refl (b.txns i) b
clock_bounded base most s i (act.Look v) b = b
clock_bounded base most s i (act.Put v l d p) b = b
clock_bounded base most s i (act.Del v l d) b = b
clock_bounded base most s i (act.Set v p) b = b
clock_bounded base most s i (act.Drop v) b = b
clock_bounded base most s i (act.New v p) b = b
clock_bounded base most s i (act.Read q) b = b
clock_bounded base most s i (act.Apply v) b = b
clock_bounded base most s i (act.Undo v) b = b

-- ---- the events on the log part

bounded_log : (base : Base) (most : Limits) (s : State) (log : LogPart) → Bounded base most s → Bounded base most (record s { log = log })
bounded_log base most s log b = record { next_tid = b.next_tid; next_vertex = b.next_vertex; logs = b.logs; txns = b.txns; queue = b.queue; groups = b.groups; records = b.records }

-- the log part and one actor, with its changes and its group
quiet_bounded : (base : Base) (most : Limits) (s : State) (i : Name) (log : LogPart) (a : Actor) → a.txn ≡ (s.actor i).txn → a.group ≡ (s.actor i).group → Bounded base most s → Bounded base most (record s { log = log; actor = set_name s.actor i a })
quiet_bounded base most s i log a same group b = plain_move base most (record s { log = log }) i s.clock a refl refl refl refl group (same_txn base most s i a same b) (bounded_log base most s log b)

told_own : (base : Base) (most : Limits) (s : State) (i : Name) (d : Outcome) (rs : List Record) (o : Option Transaction) → (s.actor i).txn ≡ o → Bounded base most s → (z : Transaction) → told d rs o ≡ Some z → ChangesFit base.next_vertex s.clock.next_vertex most.txn z.own
told_own base most s i d rs None at b z is = absurd (none_some z is)
told_own base most s i d rs (Some x) at b z is = by_test (has_record x.tid rs) is
  where
    by_test : (h : Bool) → (if h then Some (with_stage x (Decided d)) else Some x) ≡ Some z → ChangesFit base.next_vertex s.clock.next_vertex most.txn z.own
    by_test true q = moved_txn base most s i x (with_stage x (Decided d)) at refl b z q
    by_test false q = moved_txn base most s i x x at refl b z q

writes_bounded : (base : Base) (most : Limits) (s : State) (i : Name) (moment : ℕ) → Bounded base most s → Bounded base most (after_log s i (writes moment i s.log (s.actor i)))
writes_bounded base most s i moment b =
    if_log keeps (not (is_held_by i s.log.holder)) None _ (λ _. b) (λ _. if_log keeps (s.actor i).written None _ (λ _. b) (λ _. if_log keeps (not s.log.mended) None _ (λ _. b)
    (λ _. if_log keeps (nat_lt moment s.log.moment) None _ (λ _. b) (λ _. quiet_bounded base most s i _ _ refl refl b))))
  where
    keeps : Option LogMove → Type 0
    keeps m = Bounded base most (after_log s i m)

mends_bounded : (base : Base) (most : Limits) (s : State) (i : Name) → Bounded base most s → Bounded base most (after_log s i (mends i s.log (s.actor i)))
mends_bounded base most s i b =
    if_log keeps s.log.mended None _ (λ _. b) (λ _. if_log keeps (not (may_take i s.log.holder)) None _ (λ _. b) (λ _. quiet_bounded base most s i _ _ refl refl b))
  where
    keeps : Option LogMove → Type 0
    keeps m = Bounded base most (after_log s i m)

log_bounded : (base : Base) (most : Limits) (s : State) (i : Name) (action : Act) → Bounded base most s → Bounded base most (after_log s i (log_event action i s.log (s.actor i)))
log_bounded base most s i act.Open b = b
log_bounded base most s i act.Close b = b
log_bounded base most s i act.Begin b = b
log_bounded base most s i act.Draw b = b
log_bounded base most s i act.Enqueue b = b
log_bounded base most s i act.Collect b = b
log_bounded base most s i act.Publish b = b
log_bounded base most s i (act.Fail f c) b = b
log_bounded base most s i act.Outcome b = b
log_bounded base most s i act.Done b = b
log_bounded base most s i act.Seen b = b
log_bounded base most s i act.End b = b
log_bounded base most s i act.Horizon b = b
log_bounded base most s i (act.Look v) b = b
log_bounded base most s i (act.Put v l d p) b = b
log_bounded base most s i (act.Del v l d) b = b
log_bounded base most s i (act.Set v p) b = b
log_bounded base most s i (act.Drop v) b = b
log_bounded base most s i (act.New v p) b = b
log_bounded base most s i (act.Read q) b = b
log_bounded base most s i (act.Apply v) b = b
log_bounded base most s i (act.Undo v) b = b
log_bounded base most s i (act.WriteGroup m) b = writes_bounded base most s i m b
log_bounded base most s i act.Mend b = mends_bounded base most s i b

collects_bounded : (base : Base) (most : Limits) (s : State) (i : Name) → Bounded base most s → Bounded base most (after_group s i (collects i s.log s.clock (s.actor i)))
collects_bounded base most s i b = if_group keeps (is_some s.log.holder) None _ (λ _. b)
    (λ _. if_group keeps (length s.clock.queue == 0) None _ (λ _. b)
    (λ _. let two = records-take base.next_vertex s.clock.next_vertex most.txn group_most s.clock.queue b.queue in bounded_clock base most (record s { log = _ }) i _ _ (record {
      next_tid = b.next_tid;
      next_vertex = b.next_vertex;
      up = omega arith;
      txn = b.txns i;
      queue = two.1;
      group = two.0;
      records = b.records;
    }) (bounded_log base most s _ b)))
  where
    keeps : Option GroupMove → Type 0
    keeps m = Bounded base most (after_group s i m)

publishes_bounded : (base : Base) (most : Limits) (s : State) (i : Name) → Bounded base most s → Bounded base most (after_group s i (publishes i s.log s.clock (s.actor i)))
publishes_bounded base most s i b = if_group keeps (not (is_held_by i s.log.holder)) None _ (λ _. b)
    (λ _. if_group keeps (not (s.actor i).written) None _ (λ _. b)
    (λ _. bounded_clock base most (record s { log = _ }) i _ _ (record {
      next_tid = b.next_tid;
      next_vertex = b.next_vertex;
      up = omega arith;
      txn = told_own base most s i (Committed (s.clock.last + 1)) (s.actor i).group (s.actor i).txn refl b;
      queue = b.queue;
      group = tt;
      records = records-append base.next_vertex s.clock.next_vertex most.txn s.clock.records (numbered (s.clock.last + 1) (s.actor i).group) b.records (records-numbered base.next_vertex s.clock.next_vertex most.txn (s.clock.last + 1) (s.actor i).group (b.groups i));
    }) (bounded_log base most s _ b)))
  where
    keeps : Option GroupMove → Type 0
    keeps m = Bounded base most (after_group s i m)

fails_bounded : (base : Base) (most : Limits) (s : State) (i : Name) (f c : ℕ) → Bounded base most s → Bounded base most (after_group s i (fails f c i s.log s.clock (s.actor i)))
fails_bounded base most s i f c b = if_group keeps (not (is_held_by i s.log.holder)) None _ (λ _. b)
    (λ _. if_group keeps (s.actor i).written None _ (λ _. b) (λ _. if_group keeps (not (nat_lt f c && nat_le s.log.greatest f)) None _ (λ _. b)
    (λ _. bounded_clock base most (record s { log = _ }) i _ _ (record {
      next_tid = b.next_tid;
      next_vertex = b.next_vertex;
      up = omega arith;
      txn = told_own base most s i (Failed f c) (s.actor i).group (s.actor i).txn refl b;
      queue = b.queue;
      group = tt;
      records = b.records;
    }) (bounded_log base most s _ b))))
  where
    keeps : Option GroupMove → Type 0
    keeps m = Bounded base most (after_group s i m)

group_bounded : (base : Base) (most : Limits) (s : State) (i : Name) (action : Act) → Bounded base most s → Bounded base most (after_group s i (group_event action i s.log s.clock (s.actor i)))
group_bounded base most s i act.Open b = b
group_bounded base most s i act.Close b = b
group_bounded base most s i act.Begin b = b
group_bounded base most s i act.Draw b = b
group_bounded base most s i act.Enqueue b = b
group_bounded base most s i act.Collect b = collects_bounded base most s i b
group_bounded base most s i act.Publish b = publishes_bounded base most s i b
group_bounded base most s i (act.Fail f c) b = fails_bounded base most s i f c b
group_bounded base most s i act.Outcome b = b
group_bounded base most s i act.Done b = b
group_bounded base most s i act.Seen b = b
group_bounded base most s i act.End b = b
group_bounded base most s i act.Horizon b = b
group_bounded base most s i (act.Look v) b = b
group_bounded base most s i (act.Put v l d p) b = b
group_bounded base most s i (act.Del v l d) b = b
group_bounded base most s i (act.Set v p) b = b
group_bounded base most s i (act.Drop v) b = b
group_bounded base most s i (act.New v p) b = b
group_bounded base most s i (act.Read q) b = b
group_bounded base most s i (act.Apply v) b = b
group_bounded base most s i (act.Undo v) b = b
group_bounded base most s i (act.WriteGroup m) b = b
group_bounded base most s i act.Mend b = b

-- every event keeps the limits
pub step_bounded : (base : Base) (g : Ghost) (most : Limits) (s : State) (i : Name) (action : Act) → Good base g s → Bounded base most s → Bounded base most (after most s i action)
step_bounded base g most s i action good b = by_reach (reach_of action) refl
  where
    by_reach : (r : Reach) → reach_of action ≡ r → Bounded base most (after_at r most s i action)
    by_reach reach.Clock e = clock_bounded base most s i action b
    by_reach (reach.Row v) e = row_bounded base g most s i v action e good b
    by_reach reach.Log e = log_bounded base most s i action b
    by_reach reach.LogAndClock e = group_bounded base most s i action b

-- ---- wider limits

changes_wider : (low next least most : ℕ) (cs : List Change) → least ≤ most → ChangesFit low next least cs → ChangesFit low next most cs
changes_wider low next least most cs le fit = record { lens = (let a = fit.lens in omega (arith, a, le)); destinations = fit.destinations; made = fit.made }

records_wider : (low next least most : ℕ) (rs : List Record) → least ≤ most → RecordsFit low next least rs → RecordsFit low next most rs
records_wider low next least most [] le fit = tt
records_wider low next least most (r ∷ rs) le fit = (changes_wider low next least most r.changes le fit.0, fit.1, records_wider low next least most rs le fit.2)

-- What is within limits is within wider ones.
pub bounded_wider : (base : Base) (least most : Limits) (s : State) → least.txn ≤ most.txn → least.log ≤ most.log → Bounded base least s → Bounded base most s
bounded_wider base least most s txn log b = record {
  next_tid = b.next_tid;
  next_vertex = b.next_vertex;
  logs = λ v l. record { room = (let a = (b.logs v l).room in omega (arith, a, log)); destinations = (b.logs v l).destinations };
  txns = λ i x is. changes_wider base.next_vertex s.clock.next_vertex least.txn most.txn x.own txn (b.txns i x is);
  queue = records_wider base.next_vertex s.clock.next_vertex least.txn most.txn s.clock.queue txn b.queue;
  groups = λ i. records_wider base.next_vertex s.clock.next_vertex least.txn most.txn (s.actor i).group txn (b.groups i);
  records = records_wider base.next_vertex s.clock.next_vertex least.txn most.txn s.clock.records txn b.records;
}
