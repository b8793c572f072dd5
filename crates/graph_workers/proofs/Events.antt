-- What an event leaves of its actor and of the clock, by its answer.
use Rattle.std.proofs.Common.{◌≡◌, ◌≢◌, ℕ, ◌+◌, Bool, true, false, ◌&&◌, not, List, [], ◌∷◌, length, refl, sym, ap, ◌∙◌, subst, inl, inr, ◌⊎◌, Option, Some, None}
use Rattle.std.specs.Prelude.{◌==◌, if◌then◌else◌, nat_le, nat_lt, is_some}
use Rattle.std.proofs.lemmas.Bool.{false≢true, eqb-true}
use Rattle.graph_model.specs.declared.record.Outcome.{Outcome}
use Rattle.graph_model.specs.declared.record.Outcome.TheVariants.{Committed, Failed}
use Rattle.graph_model.specs.declared.change.Change.{Change}
use Rattle.graph_model.specs.declared.change.Change.TheVariants as change
use Rattle.graph_model.specs.declared.query.Query.{Query}
use Rattle.graph_model.specs.declared.query.Answer.{Answer}
use Rattle.graph_model.specs.Change.{vertex_of}
use Rattle.graph_model.specs.Graph.{asked_vertex}
use Rattle.graph_model.specs.Records.{number_end, has_destination}
use Rattle.vertex_locks.specs.declared.answer.Look.{Look}
use Rattle.vertex_locks.specs.declared.answer.Look.TheVariants.{Taken, Held, Conflict}
use Rattle.core_rows.specs.Rows.{Row, lock_answer, undo_row}
use Rattle.core_states.specs.declared.actor.Actor.{Actor}
use Rattle.core_states.specs.declared.clock.Clock.{Clock}
use Rattle.core_states.specs.declared.event.Act.{Act}
use Rattle.core_states.specs.declared.event.Act.TheVariants as act
use Rattle.core_states.specs.declared.event.CoreAnswer.{CoreAnswer}
use Rattle.core_states.specs.declared.event.CoreAnswer.TheVariants as answer
use Rattle.core_states.specs.declared.transaction.Stage.{Stage}
use Rattle.core_states.specs.declared.transaction.Stage.TheVariants.{Queued, Decided}
use Rattle.core_states.specs.declared.transaction.Transaction.{Transaction}
use Rattle.core_states.specs.declared.transaction.End.TheVariants.{CommittedAt}
use Rattle.core_states.specs.Names.{Name}
use Rattle.core_states.specs.Numbers.{has_number, has_record, all_in, outcome_of}
use Rattle.core_states.specs.Transactions.{is_working, is_queued, is_loser, holds, with_stage, after_outcome, with_txn, touching, changing, settling, receipt_of, end_of, won_epoch}
use Rattle.core_states.specs.ClockEvents.{ClockMove, for_txn, for_none, begun_txn, begins, closes, draws, enqueues, hears, done_at, sees, ends}
use Rattle.core_states.specs.LogParts.{is_held_by, may_take}
use Rattle.core_states.specs.LogEvents.{LogMove, GroupMove, told, without_group}
use Rattle.core_states.specs.RowEvents.{RowMove, has_vertex, is_long, made, refusal, by_refusal, by_look, changes, puts, news, looked_at, looks_by, looks, reads, applies_at, undoes}
use Rattle.core_states.specs.States.{State, clock_event, row_event, log_event, group_event, clock_answer, row_answer, after_clock, after_row, after_log, after_group, after, answer_to}
use Rattle.core_states.specs.Openings.{run_limits}
use Rattle.core_states.specs.Sound.{RunsAt}
use Rattle.core_states.proofs.Names.{set_name_here}

-- ---- a move with this answer has this property

abbrev pub ClockTells : CoreAnswer → (ClockMove → Type 0) → Option ClockMove → Type 0
ClockTells says P None = Unit {0}
ClockTells says P (Some m) = m.answer ≡ says → P m

abbrev pub RowTells : CoreAnswer → (RowMove → Type 0) → Option RowMove → Type 0
RowTells says P None = Unit {0}
RowTells says P (Some m) = m.answer ≡ says → P m

clock_if : (says : CoreAnswer) (P : ClockMove → Type 0) (b : Bool) (m n : Option ClockMove) → (b ≡ true → ClockTells says P m) → (b ≡ false → ClockTells says P n) → ClockTells says P (if b then m else n)
clock_if says P true m n f g = f refl
clock_if says P false m n f g = g refl

row_if : (says : CoreAnswer) (P : RowMove → Type 0) (b : Bool) (m n : Option RowMove) → (b ≡ true → RowTells says P m) → (b ≡ false → RowTells says P n) → RowTells says P (if b then m else n)
row_if says P true m n f g = f refl
row_if says P false m n f g = g refl

clock_txn : (says : CoreAnswer) (P : ClockMove → Type 0) (f : Transaction → Option ClockMove) (o : Option Transaction) (x : Transaction) → o ≡ Some x → ClockTells says P (f x) → ClockTells says P (for_txn f o)
clock_txn says P f o x e h = subst (λ z. ClockTells says P (for_txn f z)) (sym e) h

row_txn : (says : CoreAnswer) (P : RowMove → Type 0) (f : Transaction → Option RowMove) (o : Option Transaction) (x : Transaction) → o ≡ Some x → RowTells says P (f x) → RowTells says P (for_txn f o)
row_txn says P f o x e h = subst (λ z. RowTells says P (for_txn f z)) (sym e) h

clock_none : (says : CoreAnswer) (P : ClockMove → Type 0) (m : Option ClockMove) (o : Option Transaction) → o ≡ None → ClockTells says P m → ClockTells says P (for_none m o)
clock_none says P m o e h = subst (λ z. ClockTells says P (for_none m z)) (sym e) h

-- An event was enabled and left this.
pub record ClockLeft (s t : State) (i : Name) (P : ClockMove → Type 0) : Type 0 where
  pub move : ClockMove
  pub tells : P move
  pub actor : t.actor i ≡ move.actor
  pub clock : t.clock ≡ move.clock

pub record RowLeft (s t : State) (i : Name) (P : RowMove → Type 0) : Type 0 where
  pub move : RowMove
  pub tells : P move
  pub actor : t.actor i ≡ move.actor
  pub clock : t.clock ≡ s.clock

clock_left : (s : State) (i : Name) (says : CoreAnswer) (P : ClockMove → Type 0) (m : Option ClockMove) → says ≢ answer.NotEnabled → clock_answer m ≡ says → ClockTells says P m → ClockLeft s (after_clock s i m) i P
clock_left s i says P None ne e h = absurd (ne (sym e))
clock_left s i says P (Some m) ne e h = record { move = m; tells = h e; actor = set_name_here s.actor i m.actor i refl; clock = refl }

row_left : (s : State) (i : Name) (v : ℕ) (says : CoreAnswer) (P : RowMove → Type 0) (m : Option RowMove) → says ≢ answer.NotEnabled → row_answer m ≡ says → RowTells says P m → RowLeft s (after_row s i v m) i P
row_left s i v says P None ne e h = absurd (ne (sym e))
row_left s i v says P (Some m) ne e h = record { move = m; tells = h e; actor = set_name_here s.actor i m.actor i refl; clock = refl }

-- ---- a transaction that goes on, but for what is settled and how far it is

pub record Same (x y : Transaction) : Type 0 where
  pub tid : y.tid ≡ x.tid
  pub read : y.read ≡ x.read
  pub own : y.own ≡ x.own
  pub touched : y.touched ≡ x.touched

pub same_same : (x : Transaction) → Same x x
same_same x = record { tid = refl; read = refl; own = refl; touched = refl }

pub same_more : (x y z : Transaction) → Same x y → Same y z → Same x z
same_more x y z f g = record { tid = g.tid ∙ f.tid; read = g.read ∙ f.read; own = g.own ∙ f.own; touched = g.touched ∙ f.touched }

-- An actor goes on with its transaction.
pub record Mid (x : Transaction) (a b : Actor) : Type 0 where
  pub txn : Transaction
  pub is : b.txn ≡ Some txn
  pub same : Same x txn
  pub receipts : b.receipts ≡ a.receipts
  pub drew : b.drew ≡ a.drew

abbrev pub mid_same : (x : Transaction) (a : Actor) → a.txn ≡ Some x → Mid x a a
mid_same x a e = record { txn = x; is = e; same = same_same x; receipts = refl; drew = refl }

pub mid_more : (x : Transaction) (a b c : Actor) (m : Mid x a b) → Mid m.txn b c → Mid x a c
mid_more x a b c m n = record { txn = n.txn; is = n.is; same = same_more x m.txn n.txn m.same n.same; receipts = n.receipts ∙ m.receipts; drew = n.drew ∙ m.drew }

-- a move leaves an actor that goes on
abbrev ClockMid : Transaction → Actor → Option ClockMove → Type 0
ClockMid x a None = Unit {0}
ClockMid x a (Some m) = Mid x a m.actor

abbrev RowMid : Transaction → Actor → Option RowMove → Type 0
RowMid x a None = Unit {0}
RowMid x a (Some m) = Mid x a m.actor

abbrev LogMid : Transaction → Actor → Option LogMove → Type 0
LogMid x a None = Unit {0}
LogMid x a (Some m) = Mid x a m.actor

abbrev GroupMid : Transaction → Actor → Option GroupMove → Type 0
GroupMid x a None = Unit {0}
GroupMid x a (Some m) = Mid x a m.actor

mid_log_if : (x : Transaction) (a : Actor) (b : Bool) (m n : Option LogMove) → LogMid x a m → LogMid x a n → LogMid x a (if b then m else n)
mid_log_if x a true m n f g = f
mid_log_if x a false m n f g = g

mid_group_if : (x : Transaction) (a : Actor) (b : Bool) (m n : Option GroupMove) → GroupMid x a m → GroupMid x a n → GroupMid x a (if b then m else n)
mid_group_if x a true m n f g = f
mid_group_if x a false m n f g = g

log_mid : (s : State) (i : Name) (x : Transaction) (m : Option LogMove) → RunsAt s i x → LogMid x (s.actor i) m → Mid x (s.actor i) ((after_log s i m).actor i)
log_mid s i x None runs h = mid_same x (s.actor i) runs
log_mid s i x (Some m) runs h = subst (λ b. Mid x (s.actor i) b) (sym (set_name_here s.actor i m.actor i refl)) h

group_mid : (s : State) (i : Name) (x : Transaction) (m : Option GroupMove) → RunsAt s i x → GroupMid x (s.actor i) m → Mid x (s.actor i) ((after_group s i m).actor i)
group_mid s i x None runs h = mid_same x (s.actor i) runs
group_mid s i x (Some m) runs h = subst (λ b. Mid x (s.actor i) b) (sym (set_name_here s.actor i m.actor i refl)) h

mid_if : (x : Transaction) (a : Actor) (b : Bool) (m n : Option ClockMove) → ClockMid x a m → ClockMid x a n → ClockMid x a (if b then m else n)
mid_if x a true m n f g = f
mid_if x a false m n f g = g

mid_row_if : (x : Transaction) (a : Actor) (b : Bool) (m n : Option RowMove) → RowMid x a m → RowMid x a n → RowMid x a (if b then m else n)
mid_row_if x a true m n f g = f
mid_row_if x a false m n f g = g

clock_mid : (s : State) (i : Name) (x : Transaction) (m : Option ClockMove) → RunsAt s i x → ClockMid x (s.actor i) m → Mid x (s.actor i) ((after_clock s i m).actor i)
clock_mid s i x None runs h = mid_same x (s.actor i) runs
clock_mid s i x (Some m) runs h = subst (λ b. Mid x (s.actor i) b) (sym (set_name_here s.actor i m.actor i refl)) h

row_mid : (s : State) (i : Name) (v : ℕ) (x : Transaction) (m : Option RowMove) → RunsAt s i x → RowMid x (s.actor i) m → Mid x (s.actor i) ((after_row s i v m).actor i)
row_mid s i v x None runs h = mid_same x (s.actor i) runs
row_mid s i v x (Some m) runs h = subst (λ b. Mid x (s.actor i) b) (sym (set_name_here s.actor i m.actor i refl)) h

for_mid : (x : Transaction) (a : Actor) (f : Transaction → Option ClockMove) → a.txn ≡ Some x → ClockMid x a (f x) → ClockMid x a (for_txn f a.txn)
for_mid x a f e h = subst (λ z. ClockMid x a (for_txn f z)) (sym e) h

for_row_mid : (x : Transaction) (a : Actor) (f : Transaction → Option RowMove) → a.txn ≡ Some x → RowMid x a (f x) → RowMid x a (for_txn f a.txn)
for_row_mid x a f e h = subst (λ z. RowMid x a (for_txn f z)) (sym e) h

staged : (x : Transaction) (a b : Actor) (stage : Stage) → b.txn ≡ Some (with_stage x stage) → b.receipts ≡ a.receipts → b.drew ≡ a.drew → Mid x a b
staged x a b stage e f g = record { txn = with_stage x stage; is = e; same = record { tid = refl; read = refl; own = refl; touched = refl }; receipts = f; drew = g }

pub mid_enqueue : (s : State) (i : Name) (x : Transaction) → RunsAt s i x → Mid x (s.actor i) ((after run_limits s i act.Enqueue).actor i)
mid_enqueue s i x runs = clock_mid s i x (clock_event act.Enqueue s.clock (s.actor i)) runs
    (for_mid x (s.actor i) (λ y. enqueues y s.clock (s.actor i)) runs
    (mid_if x (s.actor i) (not (is_working x)) None _ tt (mid_if x (s.actor i) (length x.own == 0) None _ tt (staged x (s.actor i) _ Queued refl refl refl))))

pub mid_outcome : (s : State) (i : Name) (x : Transaction) → RunsAt s i x → Mid x (s.actor i) ((after run_limits s i act.Outcome).actor i)
mid_outcome s i x runs = clock_mid s i x (clock_event act.Outcome s.clock (s.actor i)) runs
    (for_mid x (s.actor i) (λ y. hears y s.clock (s.actor i)) runs (mid_if x (s.actor i) (not (is_queued x.stage)) None _ tt (by_outcome (outcome_of x.tid s.clock.outcomes))))
  where
    by_outcome : (o : Option Outcome) → Mid x (s.actor i) (with_txn (s.actor i) (Some (after_outcome x o)))
    by_outcome None = record { txn = x; is = refl; same = same_same x; receipts = refl; drew = refl }
    by_outcome (Some o) = staged x (s.actor i) _ (Decided o) refl refl refl

pub mid_collect : (s : State) (i : Name) (x : Transaction) → RunsAt s i x → Mid x (s.actor i) ((after run_limits s i act.Collect).actor i)
mid_collect s i x runs = group_mid s i x (group_event act.Collect i s.log s.clock (s.actor i)) runs
    (mid_group_if x (s.actor i) (is_some s.log.holder) None _ tt (mid_group_if x (s.actor i) (length s.clock.queue == 0) None _ tt
    (record { txn = x; is = runs; same = same_same x; receipts = refl; drew = refl })))

pub mid_write : (s : State) (i : Name) (x : Transaction) (moment : ℕ) → RunsAt s i x → Mid x (s.actor i) ((after run_limits s i (act.WriteGroup moment)).actor i)
mid_write s i x moment runs = log_mid s i x (log_event (act.WriteGroup moment) i s.log (s.actor i)) runs
    (mid_log_if x (s.actor i) (not (is_held_by i s.log.holder)) None _ tt (mid_log_if x (s.actor i) (s.actor i).written None _ tt
    (mid_log_if x (s.actor i) (not s.log.mended) None _ tt (mid_log_if x (s.actor i) (nat_lt moment s.log.moment) None _ tt
    (record { txn = x; is = runs; same = same_same x; receipts = refl; drew = refl })))))

pub mid_mend : (s : State) (i : Name) (x : Transaction) → RunsAt s i x → Mid x (s.actor i) ((after run_limits s i act.Mend).actor i)
mid_mend s i x runs = log_mid s i x (log_event act.Mend i s.log (s.actor i)) runs
    (mid_log_if x (s.actor i) s.log.mended None _ tt (mid_log_if x (s.actor i) (not (may_take i s.log.holder)) None _ tt
    (record { txn = x; is = runs; same = same_same x; receipts = refl; drew = refl })))

-- where its own record is in the group, its actor knows the outcome
decided : (o : Outcome) (a : Actor) (x : Transaction) → a.txn ≡ Some x → Mid x a (without_group o a)
decided o a x runs = by_told a.txn runs
  where
    own : (b : Bool) → Mid x a (record a { txn = if b then Some (with_stage x (Decided o)) else Some x; group = []; written = false; looked = None })
    own true = staged x a _ (Decided o) refl refl refl
    own false = record { txn = x; is = refl; same = same_same x; receipts = refl; drew = refl }

    by_told : (z : Option Transaction) → z ≡ Some x → Mid x a (record a { txn = told o a.group z; group = []; written = false; looked = None })
    by_told z is = subst (λ y. Mid x a (record a { txn = told o a.group y; group = []; written = false; looked = None })) (sym is) (own (has_record x.tid a.group))

pub mid_publish : (s : State) (i : Name) (x : Transaction) → RunsAt s i x → Mid x (s.actor i) ((after run_limits s i act.Publish).actor i)
mid_publish s i x runs = group_mid s i x (group_event act.Publish i s.log s.clock (s.actor i)) runs
    (mid_group_if x (s.actor i) (not (is_held_by i s.log.holder)) None _ tt (mid_group_if x (s.actor i) (not (s.actor i).written) None _ tt
    (decided (Committed (s.clock.last + 1)) (s.actor i) x runs)))

pub mid_fail : (s : State) (i : Name) (x : Transaction) (before past : ℕ) → RunsAt s i x → Mid x (s.actor i) ((after run_limits s i (act.Fail before past)).actor i)
mid_fail s i x before past runs = group_mid s i x (group_event (act.Fail before past) i s.log s.clock (s.actor i)) runs
    (mid_group_if x (s.actor i) (not (is_held_by i s.log.holder)) None _ tt (mid_group_if x (s.actor i) (s.actor i).written None _ tt
    (mid_group_if x (s.actor i) (not (nat_lt before past && nat_le s.log.greatest before)) None _ tt
    (decided (Failed before past) (s.actor i) x runs))))

pub mid_apply : (s : State) (i : Name) (x : Transaction) (v : ℕ) → RunsAt s i x → Mid x (s.actor i) ((after run_limits s i (act.Apply v)).actor i)
mid_apply s i x v runs = row_mid s i v x (row_event run_limits (act.Apply v) (s.row v) (s.actor i)) runs
    (for_row_mid x (s.actor i) (λ y. applies_at (won_epoch y.stage) y v (s.row v) (s.actor i)) runs (by_epoch (won_epoch x.stage)))
  where
    by_epoch : (o : Option ℕ) → RowMid x (s.actor i) (applies_at o x v (s.row v) (s.actor i))
    by_epoch None = tt
    by_epoch (Some e) = mid_row_if x (s.actor i) (holds x v) _ None (record { txn = settling x v; is = refl; same = record { tid = refl; read = refl; own = refl; touched = refl }; receipts = refl; drew = refl }) tt

-- An undo leaves the stage and the last look, too.
pub record Undone (x : Transaction) (a b : Actor) : Type 0 where
  pub mid : Mid x a b
  pub stage : mid.txn.stage ≡ x.stage
  pub looked : b.looked ≡ a.looked

abbrev RowUndone : Transaction → Actor → Option RowMove → Type 0
RowUndone x a None = Unit {0}
RowUndone x a (Some m) = Undone x a m.actor

pub undone : (s : State) (i : Name) (x : Transaction) (v : ℕ) → RunsAt s i x → Undone x (s.actor i) ((after run_limits s i (act.Undo v)).actor i)
undone s i x v runs = by_move (row_event run_limits (act.Undo v) (s.row v) (s.actor i)) (subst (λ o. RowUndone x (s.actor i) (for_txn (λ y. undoes y v (s.row v) (s.actor i)) o)) (sym runs) (by_test (is_loser x.stage && holds x v)))
  where
    by_test : (b : Bool) → RowUndone x (s.actor i) (if b then Some (record { answer = answer.Done; row = undo_row x.tid (s.row v); actor = record (s.actor i) { txn = Some (settling x v) } }) else None)
    by_test true = record { mid = record { txn = settling x v; is = refl; same = record { tid = refl; read = refl; own = refl; touched = refl }; receipts = refl; drew = refl }; stage = refl; looked = refl }
    by_test false = tt

    by_move : (m : Option RowMove) → RowUndone x (s.actor i) m → Undone x (s.actor i) ((after_row s i v m).actor i)
    by_move None h = record { mid = mid_same x (s.actor i) runs; stage = refl; looked = refl }
    by_move (Some m) h = subst (λ b. Undone x (s.actor i) b) (sym (set_name_here s.actor i m.actor i refl)) h

-- ---- begin and draw

pub record Began (k : Clock) (a : Actor) (n e : ℕ) (m : ClockMove) : Type 0 where
  pub number : n ≡ k.next_tid
  pub read : e ≡ k.visible
  pub next_tid : m.clock.next_tid ≡ k.next_tid + 1
  pub next_vertex : m.clock.next_vertex ≡ k.next_vertex
  pub visible : m.clock.visible ≡ k.visible
  pub txn : m.actor.txn ≡ Some (begun_txn k)
  pub receipts : m.actor.receipts ≡ a.receipts
  pub drew : m.actor.drew ≡ a.drew

pub begun : (s : State) (i : Name) (n e : ℕ) → (s.actor i).txn ≡ None → answer_to run_limits s i act.Begin ≡ answer.Begun n e → ClockLeft s (after run_limits s i act.Begin) i (Began s.clock (s.actor i) n e)
begun s i n e idle h = clock_left s i (answer.Begun n e) (Began s.clock (s.actor i) n e) (clock_event act.Begin s.clock (s.actor i)) (λ f. not_that f) h
    (clock_none _ _ (begins s.clock (s.actor i)) (s.actor i).txn idle
    (clock_if _ _ (not (s.actor i).row) None _ (λ _. tt)
    (λ _. clock_if _ _ (s.clock.next_tid == number_end) _ _ (λ _ f. absurd (not_spent f))
    (λ _ f. record { number = sym (first f); read = sym (second f); next_tid = refl; next_vertex = refl; visible = refl; txn = refl; receipts = refl; drew = refl }))))
  where
    not_that : answer.Begun n e ≡ answer.NotEnabled → ⊥
    not_that f = (cc)

    not_spent : answer.Spent ≡ answer.Begun n e → ⊥
    not_spent f = (cc)

    first : {x y : ℕ} → answer.Begun x y ≡ answer.Begun n e → x ≡ n
    first f = (cc)

    second : {x y : ℕ} → answer.Begun x y ≡ answer.Begun n e → y ≡ e
    second f = (cc)

-- nothing was left to draw
pub record WasSpent (next : Clock → ℕ) (k : Clock) (x : Option Transaction) (a : Actor) (m : ClockMove) : Type 0 where
  pub most : next k ≡ number_end
  pub clock : m.clock ≡ k
  pub txn : m.actor.txn ≡ x
  pub receipts : m.actor.receipts ≡ a.receipts
  pub drew : m.actor.drew ≡ a.drew

pub begin_spent : (s : State) (i : Name) → (s.actor i).txn ≡ None → answer_to run_limits s i act.Begin ≡ answer.Spent → ClockLeft s (after run_limits s i act.Begin) i (WasSpent (λ k. k.next_tid) s.clock None (s.actor i))
begin_spent s i idle h = clock_left s i answer.Spent (WasSpent (λ k. k.next_tid) s.clock None (s.actor i)) (clock_event act.Begin s.clock (s.actor i)) (λ f. not_that f) h
    (clock_none _ _ (begins s.clock (s.actor i)) (s.actor i).txn idle
    (clock_if _ _ (not (s.actor i).row) None _ (λ _. tt)
    (λ _. clock_if _ _ (s.clock.next_tid == number_end) _ _
    (λ b f. record { most = eqb-true s.clock.next_tid number_end b; clock = refl; txn = refl; receipts = refl; drew = refl })
    (λ _ f. absurd (not_begun f)))))
  where
    not_that : answer.Spent ≡ answer.NotEnabled → ⊥
    not_that f = (cc)

    not_begun : {n e : ℕ} → answer.Begun n e ≡ answer.Spent → ⊥
    not_begun f = (cc)

pub record Drew (k : Clock) (x : Transaction) (a : Actor) (v : ℕ) (m : ClockMove) : Type 0 where
  pub number : v ≡ k.next_vertex
  pub next_vertex : m.clock.next_vertex ≡ k.next_vertex + 1
  pub txn : m.actor.txn ≡ Some (record x { drawn = v ∷ x.drawn })
  pub receipts : m.actor.receipts ≡ a.receipts
  pub drew : m.actor.drew ≡ v ∷ a.drew

pub drawn : (s : State) (i : Name) (x : Transaction) (v : ℕ) → RunsAt s i x → answer_to run_limits s i act.Draw ≡ answer.Number v → ClockLeft s (after run_limits s i act.Draw) i (Drew s.clock x (s.actor i) v)
drawn s i x v runs h = clock_left s i (answer.Number v) (Drew s.clock x (s.actor i) v) (clock_event act.Draw s.clock (s.actor i)) (λ f. not_that f) h
    (clock_txn _ _ (λ y. draws y s.clock (s.actor i)) (s.actor i).txn x runs
    (clock_if _ _ (not (is_working x)) None _ (λ _. tt)
    (λ _. clock_if _ _ (s.clock.next_vertex == number_end) _ _ (λ _ f. absurd (not_spent f))
    (λ _ f.
    let e : s.clock.next_vertex ≡ v = the f in
    record { number = sym e; next_vertex = refl; txn = ap (λ n. Some (record x { drawn = n ∷ x.drawn })) e; receipts = refl; drew = ap (λ n. n ∷ (s.actor i).drew) e }))))
  where
    not_that : answer.Number v ≡ answer.NotEnabled → ⊥
    not_that f = (cc)

    not_spent : answer.Spent ≡ answer.Number v → ⊥
    not_spent f = (cc)

    the : {n : ℕ} → answer.Number n ≡ answer.Number v → n ≡ v
    the f = (cc)

pub draw_spent : (s : State) (i : Name) (x : Transaction) → RunsAt s i x → answer_to run_limits s i act.Draw ≡ answer.Spent → ClockLeft s (after run_limits s i act.Draw) i (WasSpent (λ k. k.next_vertex) s.clock (Some x) (s.actor i))
draw_spent s i x runs h = clock_left s i answer.Spent (WasSpent (λ k. k.next_vertex) s.clock (Some x) (s.actor i)) (clock_event act.Draw s.clock (s.actor i)) (λ f. not_that f) h
    (clock_txn _ _ (λ y. draws y s.clock (s.actor i)) (s.actor i).txn x runs
    (clock_if _ _ (not (is_working x)) None _ (λ _. tt)
    (λ _. clock_if _ _ (s.clock.next_vertex == number_end) _ _
    (λ b f. record { most = eqb-true s.clock.next_vertex number_end b; clock = refl; txn = refl; receipts = refl; drew = refl })
    (λ _ f. absurd (not_number f)))))
  where
    not_that : answer.Spent ≡ answer.NotEnabled → ⊥
    not_that f = (cc)

    not_number : {n : ℕ} → answer.Number n ≡ answer.Spent → ⊥
    not_number f = (cc)

-- ---- end, done and seen

pub record WasLeft (x : Transaction) (a : Actor) (m : ClockMove) : Type 0 where
  pub txn : m.actor.txn ≡ None
  pub receipts : m.actor.receipts ≡ receipt_of x (end_of x.stage a.looked) ∷ a.receipts
  pub drew : m.actor.drew ≡ a.drew

pub ended : (s : State) (i : Name) (x : Transaction) → RunsAt s i x → answer_to run_limits s i act.End ≡ answer.Done → ClockLeft s (after run_limits s i act.End) i (WasLeft x (s.actor i))
ended s i x runs h = clock_left s i answer.Done (WasLeft x (s.actor i)) (clock_event act.End s.clock (s.actor i)) (λ f. not_that f) h
    (clock_txn _ _ (λ y. ends y s.clock (s.actor i)) (s.actor i).txn x runs
    (clock_if _ _ (is_loser x.stage && all_in x.touched x.settled) _ None (λ _ _. record { txn = refl; receipts = refl; drew = refl }) (λ _. tt)))
  where
    not_that : answer.Done ≡ answer.NotEnabled → ⊥
    not_that f = (cc)

pub record WasDone (x : Transaction) (a : Actor) (m : ClockMove) : Type 0 where
  pub epoch : ℕ
  pub txn : m.actor.txn ≡ None
  pub receipts : m.actor.receipts ≡ receipt_of x (CommittedAt epoch) ∷ a.receipts
  pub finished : m.actor.finished ≡ Some epoch
  pub drew : m.actor.drew ≡ a.drew

pub done : (s : State) (i : Name) (x : Transaction) → RunsAt s i x → answer_to run_limits s i act.Done ≡ answer.Done → ClockLeft s (after run_limits s i act.Done) i (WasDone x (s.actor i))
done s i x runs h = clock_left s i answer.Done (WasDone x (s.actor i)) (clock_event act.Done s.clock (s.actor i)) (λ f. not_that f) h
    (clock_txn _ _ (λ y. done_at (won_epoch y.stage) y s.clock (s.actor i)) (s.actor i).txn x runs (by_epoch (won_epoch x.stage)))
  where
    not_that : answer.Done ≡ answer.NotEnabled → ⊥
    not_that f = (cc)

    by_epoch : (o : Option ℕ) → ClockTells answer.Done (WasDone x (s.actor i)) (done_at o x s.clock (s.actor i))
    by_epoch None = tt
    by_epoch (Some e) = clock_if _ _ (all_in x.touched x.settled) _ None (λ _ _. record { epoch = e; txn = refl; receipts = refl; finished = refl; drew = refl }) (λ _. tt)

-- what Seen leaves is the actor, but for its last look; and where it says so, the epoch is visible
pub record HasSeen (k : Clock) (a : Actor) (b : Bool) (m : ClockMove) : Type 0 where
  pub clock : m.clock ≡ k
  pub txn : m.actor.txn ≡ None
  pub receipts : m.actor.receipts ≡ a.receipts
  pub finished : m.actor.finished ≡ a.finished
  pub drew : m.actor.drew ≡ a.drew
  pub epoch : ℕ
  pub is : a.finished ≡ Some epoch
  pub visible : nat_le epoch k.visible ≡ b

pub seen : (s : State) (i : Name) (b : Bool) → (s.actor i).txn ≡ None → answer_to run_limits s i act.Seen ≡ answer.Visible b → ClockLeft s (after run_limits s i act.Seen) i (HasSeen s.clock (s.actor i) b)
seen s i b idle h = clock_left s i (answer.Visible b) (HasSeen s.clock (s.actor i) b) (clock_event act.Seen s.clock (s.actor i)) (λ f. not_that f) h
    (clock_none _ _ (sees (s.actor i).finished s.clock (s.actor i)) (s.actor i).txn idle (by_epoch (s.actor i).finished refl))
  where
    not_that : answer.Visible b ≡ answer.NotEnabled → ⊥
    not_that f = (cc)

    the : {c : Bool} → answer.Visible c ≡ answer.Visible b → c ≡ b
    the f = (cc)

    by_epoch : (o : Option ℕ) → (s.actor i).finished ≡ o → ClockTells (answer.Visible b) (HasSeen s.clock (s.actor i) b) (sees o s.clock (s.actor i))
    by_epoch None e = tt
    by_epoch (Some e) is = λ f. record { clock = refl; txn = idle; receipts = refl; finished = refl; drew = refl; epoch = e; is = is; visible = the f }

-- ---- looks, reads and changes

-- a transaction that works finds the vertex, and the lock has this answer
pub record Found (x : Transaction) (v : ℕ) (look : Look) (row : Row) : Type 0 where
  pub works : is_working x ≡ true
  pub has : has_vertex x row ≡ true
  pub lock : lock_answer row x.tid x.read ≡ look

pub record HasLooked (x : Transaction) (v : ℕ) (look : Look) (row : Row) (a : Actor) (m : RowMove) : Type 0 where
  pub found : Found x v look row
  pub txn : m.actor.txn ≡ Some x
  pub looked : m.actor.looked ≡ Some (record { v = v; look = look })
  pub receipts : m.actor.receipts ≡ a.receipts
  pub drew : m.actor.drew ≡ a.drew

not_false : (b : Bool) → not b ≡ false → b ≡ true
not_false true e = refl
not_false false e = absurd (false≢true (sym e))

not_is_true : (b : Bool) → not b ≡ true → b ≡ false
not_is_true true e = absurd (false≢true e)
not_is_true false e = refl

looked_at_is : (x : Transaction) (v : ℕ) (l look : Look) (says answers : CoreAnswer) (row : Row) (a : Actor) → is_working x ≡ true → has_vertex x row ≡ true → lock_answer row x.tid x.read ≡ l → (answers ≡ says → l ≡ look) →
    RowTells says (HasLooked x v look row a) (looked_at x v l answers row a)
looked_at_is x v l look says answers row a w t is same f =
    record { found = record { works = w; has = t; lock = is ∙ same f }; txn = refl; looked = ap (λ k. Some (record { v = v; look = k })) (same f); receipts = refl; drew = refl }

pub held : (s : State) (i : Name) (x : Transaction) (v u : ℕ) → RunsAt s i x → answer_to run_limits s i (act.Look v) ≡ answer.Held u → RowLeft s (after run_limits s i (act.Look v)) i (HasLooked x v (Held u) (s.row v) (s.actor i))
held s i x v u runs h = row_left s i v (answer.Held u) (HasLooked x v (Held u) (s.row v) (s.actor i)) (row_event run_limits (act.Look v) (s.row v) (s.actor i)) (λ f. not_that f) h
    (row_txn _ _ (λ y. looks y v (s.row v) (s.actor i)) (s.actor i).txn x runs
    (row_if _ _ (not (is_working x)) None _ (λ _. tt)
    (λ w. row_if _ _ (not (has_vertex x (s.row v))) None _ (λ _. tt) (λ t. by_lock (lock_answer (s.row v) x.tid x.read) refl (not_false _ w) (not_false _ t)))))
  where
    not_that : answer.Held u ≡ answer.NotEnabled → ⊥
    not_that f = (cc)

    by_lock : (l : Look) → lock_answer (s.row v) x.tid x.read ≡ l → is_working x ≡ true → has_vertex x (s.row v) ≡ true → RowTells (answer.Held u) (HasLooked x v (Held u) (s.row v) (s.actor i)) (looks_by l x v (s.row v) (s.actor i))
    by_lock Taken is w t = tt
    by_lock (Held z) is w t = looked_at_is x v (Held z) (Held u) (answer.Held u) (answer.Held z) (s.row v) (s.actor i) w t is (λ f. let e : z ≡ u = (cc) in ap Held e)
    by_lock (Conflict z) is w t = looked_at_is x v (Conflict z) (Held u) (answer.Held u) (answer.Conflict z) (s.row v) (s.actor i) w t is (λ f. absurd (cc))

pub conflict : (s : State) (i : Name) (x : Transaction) (v e : ℕ) → RunsAt s i x → answer_to run_limits s i (act.Look v) ≡ answer.Conflict e →
    RowLeft s (after run_limits s i (act.Look v)) i (HasLooked x v (Conflict e) (s.row v) (s.actor i))
conflict s i x v e runs h = row_left s i v (answer.Conflict e) (HasLooked x v (Conflict e) (s.row v) (s.actor i)) (row_event run_limits (act.Look v) (s.row v) (s.actor i)) (λ f. not_that f) h
    (row_txn _ _ (λ y. looks y v (s.row v) (s.actor i)) (s.actor i).txn x runs
    (row_if _ _ (not (is_working x)) None _ (λ _. tt)
    (λ w. row_if _ _ (not (has_vertex x (s.row v))) None _ (λ _. tt) (λ t. by_lock (lock_answer (s.row v) x.tid x.read) refl (not_false _ w) (not_false _ t)))))
  where
    not_that : answer.Conflict e ≡ answer.NotEnabled → ⊥
    not_that f = (cc)

    by_lock : (l : Look) → lock_answer (s.row v) x.tid x.read ≡ l → is_working x ≡ true → has_vertex x (s.row v) ≡ true → RowTells (answer.Conflict e) (HasLooked x v (Conflict e) (s.row v) (s.actor i)) (looks_by l x v (s.row v) (s.actor i))
    by_lock Taken is w t = tt
    by_lock (Held z) is w t = looked_at_is x v (Held z) (Conflict e) (answer.Conflict e) (answer.Held z) (s.row v) (s.actor i) w t is (λ f. absurd (cc))
    by_lock (Conflict z) is w t = looked_at_is x v (Conflict z) (Conflict e) (answer.Conflict e) (answer.Conflict z) (s.row v) (s.actor i) w t is (λ f. let g : z ≡ e = (cc) in ap Conflict g)

-- the actor as a read leaves it
pub record HasRead (x : Transaction) (a : Actor) (m : RowMove) : Type 0 where
  pub txn : m.actor.txn ≡ Some x
  pub receipts : m.actor.receipts ≡ a.receipts
  pub drew : m.actor.drew ≡ a.drew

pub read : (s : State) (i : Name) (x : Transaction) (q : Query) (shows : Answer) → RunsAt s i x → answer_to run_limits s i (act.Read q) ≡ answer.Shown shows → RowLeft s (after run_limits s i (act.Read q)) i (HasRead x (s.actor i))
read s i x q shows runs h = row_left s i (asked_vertex q) (answer.Shown shows) (HasRead x (s.actor i)) (row_event run_limits (act.Read q) (s.row (asked_vertex q)) (s.actor i)) (λ f. not_that f) h
    (row_txn _ _ (λ y. reads y q (s.row (asked_vertex q)) (s.actor i)) (s.actor i).txn x runs
    (row_if _ _ (not (is_working x)) None _ (λ _. tt) (λ _ _. record { txn = refl; receipts = refl; drew = refl })))
  where
    not_that : answer.Shown shows ≡ answer.NotEnabled → ⊥
    not_that f = (cc)

-- a vertex is made of a number that was drawn
pub record HasMade (x : Transaction) (v : ℕ) (p : List ℕ) (a : Actor) (m : RowMove) : Type 0 where
  pub works : is_working x ≡ true
  pub drawn : has_number v x.drawn ≡ true
  pub short : is_long run_limits x (change.New v p) ≡ false
  pub txn : m.actor.txn ≡ Some (changing x (change.New v p))
  pub receipts : m.actor.receipts ≡ a.receipts
  pub drew : m.actor.drew ≡ a.drew

pub made_new : (s : State) (i : Name) (x : Transaction) (v : ℕ) (p : List ℕ) → RunsAt s i x → answer_to run_limits s i (act.New v p) ≡ answer.Done → RowLeft s (after run_limits s i (act.New v p)) i (HasMade x v p (s.actor i))
made_new s i x v p runs h = row_left s i v answer.Done (HasMade x v p (s.actor i)) (row_event run_limits (act.New v p) (s.row v) (s.actor i)) (λ f. not_that f) h
    (row_txn _ _ (λ y. news run_limits y v p (s.row v) (s.actor i)) (s.actor i).txn x runs
    (row_if _ _ (not (is_working x)) None _ (λ _. tt)
    (λ w. row_if _ _ (not (has_number v x.drawn)) None _ (λ _. tt)
    (λ d. row_if _ _ (is_long run_limits x (change.New v p)) _ _ (λ _ f. absurd (not_full f))
    (λ l _. record { works = not_false _ w; drawn = not_false _ d; short = l; txn = refl; receipts = refl; drew = refl })))))
  where
    not_that : answer.Done ≡ answer.NotEnabled → ⊥
    not_that f = (cc)

    not_full : answer.TxnFull ≡ answer.Done → ⊥
    not_full f = (cc)

-- a change: its vertex is not there, or it was taken, and the change was refused or made
pub record Missed (x : Transaction) (c : Change) (row : Row) (a : Actor) (says : CoreAnswer) (m : RowMove) : Type 0 where
  pub says_so : says ≡ answer.NoVertex
  pub works : is_working x ≡ true
  pub lacks : has_vertex x row ≡ false
  pub txn : m.actor.txn ≡ Some x

pub record Refused (x : Transaction) (c : Change) (row : Row) (a : Actor) (says : CoreAnswer) (m : RowMove) : Type 0 where
  pub found : Found x (vertex_of c) Taken row
  pub because : refusal run_limits x c row ≡ Some says
  pub txn : m.actor.txn ≡ Some (touching x (vertex_of c))

pub record Changed (x : Transaction) (c : Change) (row : Row) (a : Actor) (says : CoreAnswer) (m : RowMove) : Type 0 where
  pub found : Found x (vertex_of c) Taken row
  pub short : refusal run_limits x c row ≡ None
  pub so : made x c row ≡ says
  pub txn : m.actor.txn ≡ Some (changing x c)

pub record Tried (x : Transaction) (c : Change) (row : Row) (a : Actor) (says : CoreAnswer) (m : RowMove) : Type 0 where
  pub how : Missed x c row a says m ⊎ (Refused x c row a says m ⊎ Changed x c row a says m)
  pub receipts : m.actor.receipts ≡ a.receipts
  pub drew : m.actor.drew ≡ a.drew

changes_tell : (x : Transaction) (c : Change) (row : Row) (a : Actor) (says : CoreAnswer) → RowTells says (Tried x c row a says) (changes run_limits x c row a)
changes_tell x c row a says = row_if _ _ (not (is_working x)) None _ (λ _. tt)
    (λ w. row_if _ _ (not (has_vertex x row)) _ _
    (λ t f. record { how = inl (record { says_so = sym f; works = not_false _ w; lacks = not_is_true _ t; txn = refl }); receipts = refl; drew = refl })
    (λ t. by_lock (lock_answer row x.tid x.read) refl (not_false _ w) (not_false _ t)))
  where
    by_reason : (o : Option CoreAnswer) → refusal run_limits x c row ≡ o → Found x (vertex_of c) Taken row → RowTells says (Tried x c row a says) (by_refusal o x c row a)
    by_reason None e f = λ g. record { how = inr (inr (record { found = f; short = e; so = g; txn = refl })); receipts = refl; drew = refl }
    by_reason (Some z) e f = λ g. record { how = inr (inl (record { found = f; because = e ∙ ap Some g; txn = refl })); receipts = refl; drew = refl }

    by_lock : (l : Look) → lock_answer row x.tid x.read ≡ l → is_working x ≡ true → has_vertex x row ≡ true → RowTells says (Tried x c row a says) (by_look l run_limits x c row a)
    by_lock Taken e w t = by_reason (refusal run_limits x c row) refl (record { works = w; has = t; lock = e })
    by_lock (Held u) e w t = tt
    by_lock (Conflict u) e w t = tt

-- the event of a change of a vertex that is there
abbrev pub act_of : Change → Act
act_of (change.New v p) = act.New v p
act_of (change.Set v p) = act.Set v p
act_of (change.Drop v) = act.Drop v
act_of (change.Put v l d p) = act.Put v l d p
act_of (change.Del v l d) = act.Del v l d

abbrev pub IsNamed : Change → Type 0
IsNamed (change.New v p) = ⊥
IsNamed c = Unit {0}

pub tried : (s : State) (i : Name) (x : Transaction) (c : Change) (says : CoreAnswer) → IsNamed c → says ≢ answer.NotEnabled → RunsAt s i x → answer_to run_limits s i (act_of c) ≡ says →
    RowLeft s (after run_limits s i (act_of c)) i (Tried x c (s.row (vertex_of c)) (s.actor i) says)
tried s i x (change.New v p) says n ne runs h = absurd n
tried s i x (change.Set v p) says n ne runs h = row_left s i v says _ (row_event run_limits (act.Set v p) (s.row v) (s.actor i)) ne h
    (row_txn _ _ (λ y. changes run_limits y (change.Set v p) (s.row v) (s.actor i)) (s.actor i).txn x runs (changes_tell x (change.Set v p) (s.row v) (s.actor i) says))
tried s i x (change.Drop v) says n ne runs h = row_left s i v says _ (row_event run_limits (act.Drop v) (s.row v) (s.actor i)) ne h
    (row_txn _ _ (λ y. changes run_limits y (change.Drop v) (s.row v) (s.actor i)) (s.actor i).txn x runs (changes_tell x (change.Drop v) (s.row v) (s.actor i) says))
tried s i x (change.Put v l d p) says n ne runs h = row_left s i v says _ (row_event run_limits (act.Put v l d p) (s.row v) (s.actor i)) ne h
    (row_txn _ _ (λ y. puts run_limits y (change.Put v l d p) (s.row v) (s.actor i)) (s.actor i).txn x runs
    (row_if _ _ (has_destination (change.Put v l d p)) _ None (λ _. changes_tell x (change.Put v l d p) (s.row v) (s.actor i) says) (λ _. tt)))
tried s i x (change.Del v l d) says n ne runs h = row_left s i v says _ (row_event run_limits (act.Del v l d) (s.row v) (s.actor i)) ne h
    (row_txn _ _ (λ y. changes run_limits y (change.Del v l d) (s.row v) (s.actor i)) (s.actor i).txn x runs (changes_tell x (change.Del v l d) (s.row v) (s.actor i) says))

-- ---- what a record is queued with, and what its outcome leaves

pub record WasQueued (x : Transaction) (m : ClockMove) : Type 0 where
  pub some : (length x.own == 0) ≡ false

pub queued : (s : State) (i : Name) (x : Transaction) (h o : ℕ) → RunsAt s i x → answer_to run_limits s i act.Enqueue ≡ answer.Learnt h o → ClockLeft s (after run_limits s i act.Enqueue) i (WasQueued x)
queued s i x h o runs e = clock_left s i (answer.Learnt h o) (WasQueued x) (clock_event act.Enqueue s.clock (s.actor i)) (λ f. not_that f) e
    (clock_txn _ _ (λ y. enqueues y s.clock (s.actor i)) (s.actor i).txn x runs
    (clock_if _ _ (not (is_working x)) None _ (λ _. tt)
    (λ _. clock_if _ _ (length x.own == 0) None _ (λ _. tt) (λ some _. record { some = some }))))
  where
    not_that : answer.Learnt h o ≡ answer.NotEnabled → ⊥
    not_that f = (cc)

pub record HasHeard (x : Transaction) (o : Outcome) (a : Actor) (m : ClockMove) : Type 0 where
  pub txn : m.actor.txn ≡ Some (with_stage x (Decided o))
  pub receipts : m.actor.receipts ≡ a.receipts
  pub drew : m.actor.drew ≡ a.drew

pub heard : (s : State) (i : Name) (x : Transaction) (o : Outcome) → RunsAt s i x → answer_to run_limits s i act.Outcome ≡ answer.Kept (Some o) → ClockLeft s (after run_limits s i act.Outcome) i (HasHeard x o (s.actor i))
heard s i x o runs e = clock_left s i (answer.Kept (Some o)) (HasHeard x o (s.actor i)) (clock_event act.Outcome s.clock (s.actor i)) (λ f. not_that f) e
    (clock_txn _ _ (λ y. hears y s.clock (s.actor i)) (s.actor i).txn x runs
    (clock_if _ _ (not (is_queued x.stage)) None _ (λ _. tt)
    (λ _ f. record { txn = ap (λ z. Some (after_outcome x z)) (the f); receipts = refl; drew = refl })))
  where
    not_that : answer.Kept (Some o) ≡ answer.NotEnabled → ⊥
    not_that f = (cc)

    the : {z : Option Outcome} → answer.Kept z ≡ answer.Kept (Some o) → z ≡ Some o
    the f = (cc)

-- ---- a session's row: what opens or closes it leaves all else

pub record HasClosed (a : Actor) (m : ClockMove) : Type 0 where
  pub txn : m.actor.txn ≡ a.txn
  pub receipts : m.actor.receipts ≡ a.receipts
  pub drew : m.actor.drew ≡ a.drew

pub closed : (s : State) (i : Name) → (s.actor i).txn ≡ None → answer_to run_limits s i act.Close ≡ answer.Done → ClockLeft s (after run_limits s i act.Close) i (HasClosed (s.actor i))
closed s i idle e = clock_left s i answer.Done (HasClosed (s.actor i)) (clock_event act.Close s.clock (s.actor i)) (λ f. not_that f) e
    (clock_none _ _ (closes s.clock (s.actor i)) (s.actor i).txn idle
    (clock_if _ _ (s.actor i).row _ None (λ _ _. record { txn = refl; receipts = refl; drew = refl }) (λ _. tt)))
  where
    not_that : answer.Done ≡ answer.NotEnabled → ⊥
    not_that f = (cc)

pub opened : (s : State) (i : Name) → answer_to run_limits s i act.Open ≡ answer.Done → ClockLeft s (after run_limits s i act.Open) i (HasClosed (s.actor i))
opened s i e = clock_left s i answer.Done (HasClosed (s.actor i)) (clock_event act.Open s.clock (s.actor i)) (λ f. not_that f) e
    (clock_if _ _ (s.actor i).row None _ (λ _. tt) (λ _ _. record { txn = refl; receipts = refl; drew = refl }))
  where
    not_that : answer.Done ≡ answer.NotEnabled → ⊥
    not_that f = (cc)
