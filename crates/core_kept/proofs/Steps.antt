-- Every event of every actor keeps the state steady.
use Rattle.core_kept.proofs.GroupSteps.{log_keeps, group_keeps}
use Rattle.core_states.specs.declared.event.Reach.TheVariants as reach
use Rattle.core_states.specs.declared.event.Reach.{Reach}
use Rattle.core_states.specs.Durability.{Durability}
use Rattle.core_states.specs.LogEvents.{told}
use Rattle.std.proofs.Common.{◌≡◌, ℕ, suc, ◌+◌, ◌<◌, ◌≤◌, min, Bool, true, false, ◌&&◌, not, List, [], ◌∷◌, length, refl, sym, ap, ◌∙◌, subst, arith, Option, Some, None, ⊎_elim, inl}
use Rattle.std.proofs.lemmas.Bool.{eqb-true, and_parts, false≢true, true≢false, or_cases}
use Rattle.std.specs.Prelude.{if◌then◌else◌, ◌==◌}
use Rattle.graph_model.specs.declared.graph.Base.{Base}
use Rattle.graph_model.specs.declared.record.Outcome.{Outcome}
use Rattle.graph_model.specs.declared.record.Outcome.TheVariants.{Committed}
use Rattle.graph_model.specs.declared.record.Record.{Record}
use Rattle.core_states.specs.ClockEvents.{ClockMove, for_txn, for_none, with_row, begins, draws, learn, enqueues, hears, done_at, sees, ends}
use Rattle.core_kept.specs.Good.{InLog, Ghost, StageOk, LearntOk, Good}
use Rattle.core_states.specs.Names.{Name, set_name}
use Rattle.core_states.specs.Numbers.{all_in, least, least_tid, without_active, has_active, outcome_of}
use Rattle.graph_model.specs.Records.{number_end}
use Rattle.core_states.specs.States.{State, clock_event, after_clock, after_at, after, reach_of}
use Rattle.core_kept.specs.Tellings.{Told}
use Rattle.core_states.specs.Transactions.{is_queued, is_loser, won_epoch, is_working, with_stage, after_outcome, with_txn, end_of}
use Rattle.core_states.specs.declared.actor.Actor.{Actor}
use Rattle.core_states.specs.declared.clock.Active.{Active}
use Rattle.core_states.specs.declared.clock.Clock.{Clock}
use Rattle.core_states.specs.declared.event.Act.{Act}
use Rattle.core_states.specs.declared.event.Act.TheVariants as act
use Rattle.core_states.specs.RowEvents.{Limits}
use Rattle.core_kept.specs.Tellings.{Steady}
use Rattle.core_states.specs.declared.transaction.End.TheVariants.{CommittedAt}
use Rattle.core_states.specs.declared.transaction.Stage.{Stage}
use Rattle.core_states.specs.declared.transaction.Stage.TheVariants.{Queued, Decided}
use Rattle.core_states.specs.declared.transaction.Transaction.{Transaction}
use Rattle.core_kept.proofs.Frames.{quiet_keeps}
use Rattle.core_kept.proofs.OnRows.{row_keeps, won_is}
use Rattle.core_kept.proofs.Beginning.{begin_keeps, begun_ghost}
use Rattle.core_kept.proofs.GoingOn.{draw_keeps, drawn_ghost, drawn_txn, clock_with, enqueue_keeps, queued_ghost, hear_keeps}
use Rattle.core_kept.proofs.Ending.{done_keeps, end_keeps, visible_up, above_without}
use Rattle.core_kept.proofs.Tellings.{turns_on, turns_quiet}
use Rattle.core_kept.proofs.RowTellings.{row_told}
use Rattle.core_kept.proofs.ClockTellings.{told_same, begin_told, told_by, enqueue_told, finish_told, lost_end}

for_txn_keeps : (base : Base) (s : State) (i : Name) (f : Transaction → Option ClockMove) (o : Option Transaction) → Steady base s
    → ((x : Transaction) → o ≡ Some x → Steady base (after_clock s i (f x))) → Steady base (after_clock s i (for_txn f o))
for_txn_keeps base s i f None good each = good
for_txn_keeps base s i f (Some x) good each = each x refl

for_none_keeps : (base : Base) (s : State) (i : Name) (m : Option ClockMove) (o : Option Transaction) → Steady base s → (o ≡ None → Steady base (after_clock s i m)) → Steady base (after_clock s i (for_none m o))
for_none_keeps base s i m None good each = each refl
for_none_keeps base s i m (Some x) good each = good

if_keeps : (base : Base) (s : State) (i : Name) (b : Bool) (m n : Option ClockMove) → (b ≡ true → Steady base (after_clock s i m)) → (b ≡ false → Steady base (after_clock s i n)) → Steady base (after_clock s i (if b then m else n))
if_keeps base s i true m n then_keeps else_keeps = then_keeps refl
if_keeps base s i false m n then_keeps else_keeps = else_keeps refl

none_nil : (xs : List Record) → (length xs == 0) ≡ true → xs ≡ []
none_nil [] e = refl
none_nil (x ∷ xs) e = absurd (omega (arith, eqb-true (suc (length xs)) 0 e))

some_long : (xs : List Record) → (length xs == 0) ≡ false → 0 < length xs
some_long [] e = absurd (true≢false e)
some_long (x ∷ xs) e = omega arith

-- what an actor learns now bounds what is active now
least_low : (n : ℕ) (ps : List Active) → least n ps ≤ n
least_low n [] = omega arith
least_low n (x ∷ ps) = let ih = least_low (min n x.epoch) ps in omega arith

pub least_each : (n t e : ℕ) (ps : List Active) → has_active t e ps ≡ true → least n ps ≤ e
least_each n t e [] has = absurd (false≢true has)
least_each n t e (x ∷ ps) has = ⊎_elim
    (λ (here : ((x.tid == t) && (x.epoch == e)) ≡ true). let q = eqb-true x.epoch e (and_parts (x.tid == t) (x.epoch == e) here).1 in let b = least_low (min n x.epoch) ps in omega (arith, q))
    (λ (there : has_active t e ps ≡ true). least_each (min n x.epoch) t e ps there)
    (or_cases ((x.tid == t) && (x.epoch == e)) (has_active t e ps) has)

least_tid_low : (n : ℕ) (ps : List Active) → least_tid n ps ≤ n
least_tid_low n [] = omega arith
least_tid_low n (x ∷ ps) = let ih = least_tid_low (min n x.tid) ps in omega arith

least_tid_each : (n t e : ℕ) (ps : List Active) → has_active t e ps ≡ true → least_tid n ps ≤ t
least_tid_each n t e [] has = absurd (false≢true has)
least_tid_each n t e (x ∷ ps) has = ⊎_elim
    (λ (here : ((x.tid == t) && (x.epoch == e)) ≡ true). let q = eqb-true x.tid t (and_parts (x.tid == t) (x.epoch == e) here).0 in let b = least_tid_low (min n x.tid) ps in omega (arith, q))
    (λ (there : has_active t e ps ≡ true). least_tid_each (min n x.tid) t e ps there)
    (or_cases ((x.tid == t) && (x.epoch == e)) (has_active t e ps) has)

learns : (k : Clock) → LearntOk k (learn k)
learns k = record { visible = least_low k.visible k.rows; reads = λ t e has. least_each k.visible t e k.rows has; next = least_tid_low k.next_tid k.rows; tids = λ t e has. least_tid_each k.next_tid t e k.rows has }

quiet : (base : Base) (s : State) (i : Name) (a : Actor) → Steady base s → a.txn ≡ (s.actor i).txn → a.group ≡ (s.actor i).group → LearntOk s.clock a.learnt → a.receipts ≡ (s.actor i).receipts → a.looked ≡ None → Steady base (record s { actor = set_name s.actor i a })
quiet base s i a sound same group learnt receipts none = (sound.0, quiet_keeps base sound.0 s i a same group learnt sound.1, told_same base sound.0 s s.clock i a sound.1 (turns_quiet s i a same receipts) (omega arith) (omega arith) (λ r m. m) receipts none sound.2)

loser_free : (stage : Stage) → is_loser stage ≡ true → stage ≡ Queued → ⊥
loser_free stage e q = false≢true (sym (ap is_loser q) ∙ e)

won_free : (stage : Stage) (e : ℕ) → won_epoch stage ≡ Some e → stage ≡ Queued → ⊥
won_free stage e w q = ended_queued (sym (won_is stage e w) ∙ q)
  where
    ended_queued : Decided (Committed e) ≡ Queued → ⊥
    ended_queued q = (cc)

begins_keep : (base : Base) (s : State) (i : Name) → Steady base s → (s.actor i).txn ≡ None → Steady base (after_clock s i (begins s.clock (s.actor i)))
begins_keep base s i sound idle = if_keeps base s i (not (s.actor i).row) None _ (λ _. sound)
    (λ _. if_keeps base s i (s.clock.next_tid == number_end) _ _ (λ _. quiet base s i (with_txn (s.actor i) None) sound (sym idle) refl (sound.1.learnt i) refl refl)
    (λ _. (
      begun_ghost sound.0 s.clock.next_tid i,
      begin_keeps base sound.0 s i sound.1 idle,
      begin_told base sound.0 s _ i _ _ sound.1 idle refl refl (omega arith) (omega arith) (λ r m. m) refl refl sound.2,
    )))

draw_told : (base : Base) (g : Ghost) (s : State) (i : Name) (x : Transaction) → Good base g s → (s.actor i).txn ≡ Some x → Told g s
    → Told (drawn_ghost g s.clock.next_vertex i) (record s { clock = clock_with s.clock (s.clock.next_vertex + 1) s.clock.queue; actor = set_name s.actor i (with_txn (record (s.actor i) { drew = s.clock.next_vertex ∷ (s.actor i).drew }) (Some (drawn_txn x s.clock.next_vertex))) })
draw_told base g s i x good at told =
    told_by base g (drawn_ghost g s.clock.next_vertex i) s _ i _ good (turns_on s i _ x (drawn_txn x s.clock.next_vertex) at refl refl (λ v h. h) refl) (omega arith) (omega arith) (λ t lt. refl) (λ t lt idle. refl) (λ t e is. inl is) (λ r m. m) refl refl told

won_place : (base : Base) (g : Ghost) (s : State) (i : Name) (x : Transaction) (e : ℕ) → Good base g s → (s.actor i).txn ≡ Some x → won_epoch x.stage ≡ Some e → g.place x.tid ≡ InLog e
won_place base g s i x e good at is = subst (λ (y : Stage). StageOk y x.settled (g.place x.tid)) (won_is x.stage e is) (good.txns i x at).stage

draws_keep : (base : Base) (s : State) (i : Name) (x : Transaction) → Steady base s → (s.actor i).txn ≡ Some x → Steady base (after_clock s i (draws x s.clock (s.actor i)))
draws_keep base s i x sound at = if_keeps base s i (not (is_working x)) None _ (λ _. sound)
    (λ w. if_keeps base s i (s.clock.next_vertex == number_end) _ _ (λ _. quiet base s i (with_txn (s.actor i) (Some x)) sound (sym at) refl (sound.1.learnt i) refl refl)
    (λ _. (
      drawn_ghost sound.0 s.clock.next_vertex i,
      draw_keeps base sound.0 s i x sound.1 at (not_false (is_working x) w),
      draw_told base sound.0 s i x sound.1 at sound.2,
    )))
  where
    not_false : (b : Bool) → not b ≡ false → b ≡ true
    not_false true e = refl
    not_false false e = absurd (true≢false e)

not_false : (b : Bool) → not b ≡ false → b ≡ true
not_false true e = refl
not_false false e = absurd (true≢false e)

enqueues_keep : (base : Base) (s : State) (i : Name) (x : Transaction) → Steady base s → (s.actor i).txn ≡ Some x → Steady base (after_clock s i (enqueues x s.clock (s.actor i)))
enqueues_keep base s i x sound at = if_keeps base s i (not (is_working x)) None _ (λ _. sound)
    (λ w. if_keeps base s i (length x.own == 0) None _ (λ _. sound)
    (λ _. (
      queued_ghost sound.0 x.tid,
      enqueue_keeps base sound.0 s i x (learn s.clock) (learns s.clock) sound.1 at (not_false (is_working x) w),
      enqueue_told base sound.0 s _ i _ x (with_stage x Queued) sound.1 at refl refl refl (omega arith) (omega arith) (λ r m. m) refl refl sound.2,
    )))

hears_keep : (base : Base) (s : State) (i : Name) (x : Transaction) → Steady base s → (s.actor i).txn ≡ Some x → Steady base (after_clock s i (hears x s.clock (s.actor i)))
hears_keep base s i x sound at = if_keeps base s i (not (is_queued x.stage)) None _ (λ _. sound) (λ _. by_outcome (outcome_of x.tid s.clock.outcomes) refl)
  where
    by_outcome : (o : Option Outcome) → outcome_of x.tid s.clock.outcomes ≡ o → Steady base (record s { actor = set_name s.actor i (with_txn (s.actor i) (Some (after_outcome x (outcome_of x.tid s.clock.outcomes)))) })
    by_outcome None e = rw e (quiet base s i (with_txn (s.actor i) (Some x)) sound (sym at) refl (sound.1.learnt i) refl refl)
    by_outcome (Some o) e = rw e (sound.0, hear_keeps base sound.0 s i x o sound.1 at e, told_same base sound.0 s s.clock i _ sound.1 (turns_on s i _ x (with_stage x (Decided o)) at refl refl (λ v h. h) refl) (omega arith) (omega arith) (λ r m. m) refl refl sound.2)

dones_keep : (base : Base) (s : State) (i : Name) (x : Transaction) (o : Option ℕ) → won_epoch x.stage ≡ o → Steady base s → (s.actor i).txn ≡ Some x → Steady base (after_clock s i (done_at o x s.clock (s.actor i)))
dones_keep base s i x None is sound at = sound
dones_keep base s i x (Some e) is sound at = if_keeps base s i (all_in x.touched x.settled) _ None
    (λ all. (
      sound.0,
      done_keeps base sound.0 s i x _ sound.1 at refl refl refl (won_free x.stage e is) all,
      finish_told base sound.0 s _ i x (CommittedAt e) _ sound.1 at refl refl (omega arith)
          (visible_up s.clock.visible s.clock.last (without_active x.tid s.clock.pending) sound.1.visible (above_without s.clock.visible s.clock.last x.tid s.clock.pending sound.1.pending))
          (λ r m. m) (let ok = sound.1.txns i x at in let place = won_place base sound.0 s i x e sound.1 at is in (place, ok.recorded e place)) sound.2,
    )) (λ _. sound)

ends_keep : (base : Base) (s : State) (i : Name) (x : Transaction) → Steady base s → (s.actor i).txn ≡ Some x → Steady base (after_clock s i (ends x s.clock (s.actor i)))
ends_keep base s i x sound at = if_keeps base s i (is_loser x.stage && all_in x.touched x.settled) _ None
    (λ both. let p = and_parts (is_loser x.stage) (all_in x.touched x.settled) both in (
      sound.0,
      end_keeps base sound.0 s i x _ sound.1 at refl refl refl (loser_free x.stage p.0) p.1,
      finish_told base sound.0 s _ i x (end_of x.stage (s.actor i).looked) _ sound.1 at refl refl (omega arith) (omega arith) (λ r m. m) (lost_end base sound.0 s i x sound.1 at p.0 sound.2) sound.2,
    )) (λ _. sound)

sees_keep : (base : Base) (s : State) (i : Name) (o : Option ℕ) → Steady base s → Steady base (after_clock s i (sees o s.clock (s.actor i)))
sees_keep base s i None sound = sound
sees_keep base s i (Some e) sound = quiet base s i (with_txn (s.actor i) (s.actor i).txn) sound refl refl (sound.1.learnt i) refl refl

pub clock_keeps : (base : Base) (s : State) (i : Name) (action : Act) → Steady base s → Steady base (after_clock s i (clock_event action s.clock (s.actor i)))
clock_keeps base s i act.Open sound = if_keeps base s i (s.actor i).row None _ (λ _. sound) (λ _. quiet base s i (with_row (s.actor i) true) sound refl refl (sound.1.learnt i) refl refl)
clock_keeps base s i act.Close sound = for_none_keeps base s i _ (s.actor i).txn sound (λ _. if_keeps base s i (s.actor i).row _ None (λ _. quiet base s i (with_row (s.actor i) false) sound refl refl (sound.1.learnt i) refl refl) (λ _. sound))
clock_keeps base s i act.Begin sound = for_none_keeps base s i (begins s.clock (s.actor i)) (s.actor i).txn sound (λ idle. begins_keep base s i sound idle)
clock_keeps base s i act.Draw sound = for_txn_keeps base s i (λ x. draws x s.clock (s.actor i)) (s.actor i).txn sound (λ x at. draws_keep base s i x sound at)
clock_keeps base s i act.Enqueue sound = for_txn_keeps base s i (λ x. enqueues x s.clock (s.actor i)) (s.actor i).txn sound (λ x at. enqueues_keep base s i x sound at)
clock_keeps base s i act.Outcome sound = for_txn_keeps base s i (λ x. hears x s.clock (s.actor i)) (s.actor i).txn sound (λ x at. hears_keep base s i x sound at)
clock_keeps base s i act.Done sound = for_txn_keeps base s i (λ x. done_at (won_epoch x.stage) x s.clock (s.actor i)) (s.actor i).txn sound (λ x at. dones_keep base s i x (won_epoch x.stage) refl sound at)
clock_keeps base s i act.Seen sound = for_none_keeps base s i (sees (s.actor i).finished s.clock (s.actor i)) (s.actor i).txn sound (λ _. sees_keep base s i (s.actor i).finished sound)
clock_keeps base s i act.End sound = for_txn_keeps base s i (λ x. ends x s.clock (s.actor i)) (s.actor i).txn sound (λ x at. ends_keep base s i x sound at)
clock_keeps base s i act.Horizon sound = quiet base s i (record (s.actor i) { learnt = learn s.clock; looked = None }) sound refl refl (learns s.clock) refl refl
clock_keeps base s i act.Collect sound = sound
clock_keeps base s i act.Publish sound = sound
clock_keeps base s i (act.Fail b c) sound = sound
clock_keeps base s i (act.WriteGroup m) sound = sound
clock_keeps base s i act.Mend sound = sound
clock_keeps base s i (act.Look v) sound = sound
clock_keeps base s i (act.Put v l d p) sound = sound
clock_keeps base s i (act.Del v l d) sound = sound
clock_keeps base s i (act.Set v p) sound = sound
clock_keeps base s i (act.Drop v) sound = sound
clock_keeps base s i (act.New v p) sound = sound
clock_keeps base s i (act.Read q) sound = sound
clock_keeps base s i (act.Apply v) sound = sound
clock_keeps base s i (act.Undo v) sound = sound

pub step_keeps : (base : Base) (most : Limits) (s : State) (i : Name) (action : Act) → Steady base s → Durability base s → Steady base (after most s i action)
step_keeps base most s i action sound durable = by_reach (reach_of action) refl
  where
    by_reach : (r : Reach) → reach_of action ≡ r → Steady base (after_at r most s i action)
    by_reach reach.Clock e = clock_keeps base s i action sound
    by_reach (reach.Row v) e = (sound.0, row_keeps base sound.0 s i v most action e sound.1, row_told base sound.0 s i v most action e sound.1 sound.2)
    by_reach reach.Log e = log_keeps base s i action sound
    by_reach reach.LogAndClock e = group_keeps base s i action sound durable
