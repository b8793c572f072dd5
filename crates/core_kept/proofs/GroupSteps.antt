-- The events on the log part keep what is kept: the log part is no matter of it, but for the groups.
use Rattle.std.proofs.Common.{◌≡◌, ℕ, ◌+◌, Bool, true, false, ◌&&◌, not, length, take, drop, refl, sym, subst, arith, Option, Some, None, is_some, inl}
use Rattle.std.proofs.lemmas.Bool.{true≢false}
use Rattle.std.proofs.lemmas.List.{take-append-drop, length-take}
use Rattle.std.specs.Prelude.{if◌then◌else◌, ◌==◌, nat_lt, nat_le}
use Rattle.graph_model.specs.declared.graph.Base.{Base}
use Rattle.graph_model.specs.declared.record.Outcome.TheVariants.{Committed, Failed}
use Rattle.core_states.specs.declared.actor.Actor.{Actor}
use Rattle.core_states.specs.declared.event.Act.{Act}
use Rattle.core_states.specs.declared.event.Act.TheVariants as act
use Rattle.core_states.specs.Durability.{Durability}
use Rattle.core_kept.specs.Good.{Ghost, Good, LearntOk, InQueue, AllWait}
use Rattle.core_states.specs.LogParts.{LogPart, is_held_by, may_take}
use Rattle.core_states.specs.LogEvents.{LogMove, GroupMove, without_group, writes, mends, collects, publishes, fails}
use Rattle.core_states.specs.Names.{Name, set_name}
use Rattle.core_states.specs.Numbers.{numbered}
use Rattle.core_states.specs.States.{State, log_event, group_event, after_log, after_group}
use Rattle.core_kept.specs.Tellings.{Told, Steady}
use Rattle.core_kept.proofs.Frames.{quiet_keeps}
use Rattle.core_kept.proofs.Grouping.{collect_keeps, collected_ghost, wait_front}
use Rattle.core_kept.proofs.Publishing.{publish_keeps, published_ghost, In-left}
use Rattle.core_kept.proofs.Failing.{fail_keeps, failed_ghost}
use Rattle.core_kept.proofs.Tellings.{Grows, receipts_grow, looked_grows, turns_quiet}
use Rattle.core_kept.proofs.ClockTellings.{told_same, collect_told, publish_told, fail_told, told_turns}

-- ---- another log part

good_log : (base : Base) (g : Ghost) (s : State) (log : LogPart) → Good base g s → Good base g (record s { log = log })
good_log base g s log good = record {
  low = good.low;
  visible = good.visible;
  next_tid = good.next_tid;
  next_vertex = good.next_vertex;
  pending = good.pending;
  records = good.records;
  recorded = good.recorded;
  outcomes = good.outcomes;
  nowhere = good.nowhere;
  before = good.before;
  queue = good.queue;
  groups = good.groups;
  txns = good.txns;
  drawn = good.drawn;
  undrawn = good.undrawn;
  held = good.held;
  rows = good.rows;
  active = good.active;
  learnt = good.learnt;
  short = good.short;
  lawful = good.lawful;
}

told_log : (base : Base) (g : Ghost) (s : State) (log : LogPart) → Good base g s → Told g s → Told g (record s { log = log })
told_log base g s log good told i = (receipts_grow g g s z (s.actor i).receipts grows (told i).0, looked_grows g g s z (s.actor i).txn (s.actor i).looked grows (λ x e. (good.txns i x e).read_below) (told i).1)
  where
    z : State
    z = record s { log = log }

    grows : Grows g g s z
    grows = record { next = omega arith; visible = omega arith; idle = λ t lt idle. idle; places = λ t lt idle. refl; logs = λ t e is. inl is; kept = λ r m. m; touched = λ t v lt h. h }

-- ---- the events

pub if_log : (P : Option LogMove → Type 0) (b : Bool) (m n : Option LogMove) → (b ≡ true → P m) → (b ≡ false → P n) → P (if b then m else n)
if_log P true m n x y = x refl
if_log P false m n x y = y refl

pub if_group : (P : Option GroupMove → Type 0) (b : Bool) (m n : Option GroupMove) → (b ≡ true → P m) → (b ≡ false → P n) → P (if b then m else n)
if_group P true m n x y = x refl
if_group P false m n x y = y refl

quiet_log : (base : Base) (s : State) (i : Name) (log : LogPart) (a : Actor) → Steady base s → a.txn ≡ (s.actor i).txn → a.group ≡ (s.actor i).group → a.learnt ≡ (s.actor i).learnt → a.receipts ≡ (s.actor i).receipts → a.looked ≡ None
    → Steady base (record s { log = log; actor = set_name s.actor i a })
quiet_log base s i log a sound same group learnt receipts none =
    let z : State = record s { log = log } in
    let good = good_log base sound.0 s log sound.1 in
    let told = told_log base sound.0 s log sound.1 sound.2 in
    (sound.0, quiet_keeps base sound.0 z i a same group (subst (LearntOk s.clock) (sym learnt) (sound.1.learnt i)) good, told_same base sound.0 z z.clock i a good (turns_quiet z i a same receipts) (omega arith) (omega arith) (λ r m. m) receipts none told)

writes_keep : (base : Base) (s : State) (i : Name) (moment : ℕ) → Steady base s → Steady base (after_log s i (writes moment i s.log (s.actor i)))
writes_keep base s i moment sound =
    if_log keeps (not (is_held_by i s.log.holder)) None _ (λ _. sound) (λ _. if_log keeps (s.actor i).written None _ (λ _. sound) (λ _. if_log keeps (not s.log.mended) None _ (λ _. sound)
    (λ _. if_log keeps (nat_lt moment s.log.moment) None _ (λ _. sound) (λ _. quiet_log base s i _ _ sound refl refl refl refl refl))))
  where
    keeps : Option LogMove → Type 0
    keeps m = Steady base (after_log s i m)

mends_keep : (base : Base) (s : State) (i : Name) → Steady base s → Steady base (after_log s i (mends i s.log (s.actor i)))
mends_keep base s i sound =
    if_log keeps s.log.mended None _ (λ _. sound) (λ _. if_log keeps (not (may_take i s.log.holder)) None _ (λ _. sound) (λ _. quiet_log base s i _ _ sound refl refl refl refl refl))
  where
    keeps : Option LogMove → Type 0
    keeps m = Steady base (after_log s i m)

-- who takes the log turn has no group
free_idle : (base : Base) (s : State) (i : Name) → Durability base s → is_some s.log.holder ≡ false → is_held_by i s.log.holder ≡ false
free_idle base s i durable free = by_holder s.log.holder free
  where
    by_holder : (o : Option Name) → is_some o ≡ false → is_held_by i o ≡ false
    by_holder None e = refl
    by_holder (Some j) e = absurd (true≢false e)

pub not_false : (b : Bool) → not b ≡ false → b ≡ true
not_false true e = refl
not_false false e = absurd (true≢false e)

collects_keep : (base : Base) (s : State) (i : Name) → Steady base s → Durability base s → Steady base (after_group s i (collects i s.log s.clock (s.actor i)))
collects_keep base s i sound durable =
    if_group keeps (is_some s.log.holder) None _ (λ _. sound)
    (λ free. if_group keeps (length s.clock.queue == 0) None _ (λ _. sound)
    (λ _. (
      collected_ghost sound.0 (take 64 s.clock.queue) i,
      collect_keeps base sound.0 z i (take 64 s.clock.queue) (drop 64 s.clock.queue) _ good (sym (take-append-drop 64 s.clock.queue)) (durable.idle i (free_idle base s i durable free)).0 refl refl refl (omega (arith, length-take 64 s.clock.queue)),
      collect_told base sound.0 z _ i (take 64 s.clock.queue) _ good
          (wait_front sound.0 s.actor InQueue (take 64 s.clock.queue) (drop 64 s.clock.queue) (subst (AllWait sound.0 s.actor InQueue) (sym (take-append-drop 64 s.clock.queue)) sound.1.queue))
          refl (omega arith) (omega arith) (λ r m. m) refl refl told,
    )))
  where
    z : State
    z = record s { log = record s.log { holder = Some i } }

    good : Good base sound.0 z
    good = good_log base sound.0 s z.log sound.1

    told : Told sound.0 z
    told = told_log base sound.0 s z.log sound.1 sound.2

    keeps : Option GroupMove → Type 0
    keeps m = Steady base (after_group s i m)

publishes_keep : (base : Base) (s : State) (i : Name) → Steady base s → Durability base s → Steady base (after_group s i (publishes i s.log s.clock (s.actor i)))
publishes_keep base s i sound durable =
    if_group keeps (not (is_held_by i s.log.holder)) None _ (λ _. sound)
    (λ held. if_group keeps (not (s.actor i).written) None _ (λ _. sound)
    (λ _. (
      published_ghost sound.0 (s.actor i).group (s.clock.last + 1),
      publish_keeps base sound.0 z i (s.clock.last + 1) s.log.moment (s.actor i).group _ good refl refl refl refl refl (durable.busy i (not_false (is_held_by i s.log.holder) held)),
      publish_told base sound.0 z _ i (s.clock.last + 1) (s.actor i).group _ good (good.groups i) (let b = good.visible in omega arith)
          (told_turns z i (Committed (s.clock.last + 1)) (s.actor i).group _ (s.actor i).txn refl refl refl) (omega arith) (omega arith) (λ r m. In-left r s.clock.records (numbered (s.clock.last + 1) (s.actor i).group) m) refl refl told,
    )))
  where
    z : State
    z = record s { log = record s.log { holder = None } }

    good : Good base sound.0 z
    good = good_log base sound.0 s z.log sound.1

    told : Told sound.0 z
    told = told_log base sound.0 s z.log sound.1 sound.2

    keeps : Option GroupMove → Type 0
    keeps m = Steady base (after_group s i m)

fails_keep : (base : Base) (s : State) (i : Name) (b c : ℕ) → Steady base s → Steady base (after_group s i (fails b c i s.log s.clock (s.actor i)))
fails_keep base s i b c sound =
    if_group keeps (not (is_held_by i s.log.holder)) None _ (λ _. sound) (λ _. if_group keeps (s.actor i).written None _ (λ _. sound)
    (λ _. if_group keeps (not (nat_lt b c && nat_le s.log.greatest b)) None _ (λ _. sound) (λ _. failed _)))
  where
    keeps : Option GroupMove → Type 0
    keeps m = Steady base (after_group s i m)

    failed : (log : LogPart) → Steady base (record s { clock = Rattle.core_kept.proofs.Failing.failed_clock s.clock (s.actor i).group (Failed b c); log = log; actor = set_name s.actor i (without_group (Failed b c) (s.actor i)) })
    failed log =
        let z : State = record s { log = log } in
        let good = good_log base sound.0 s log sound.1 in
        let told = told_log base sound.0 s log sound.1 sound.2 in (
          failed_ghost sound.0 (s.actor i).group b c,
          fail_keeps base sound.0 z i b c (s.actor i).group (without_group (Failed b c) (s.actor i)) good refl refl refl refl,
          fail_told base sound.0 z _ i b c (s.actor i).group (without_group (Failed b c) (s.actor i)) good (good.groups i)
              (told_turns z i (Failed b c) (s.actor i).group (without_group (Failed b c) (s.actor i)) (s.actor i).txn refl refl refl) (omega arith) (omega arith) (λ r m. m) refl refl told,
        )

pub log_keeps : (base : Base) (s : State) (i : Name) (action : Act) → Steady base s → Steady base (after_log s i (log_event action i s.log (s.actor i)))
log_keeps base s i act.Open sound = sound
log_keeps base s i act.Close sound = sound
log_keeps base s i act.Begin sound = sound
log_keeps base s i act.Draw sound = sound
log_keeps base s i act.Enqueue sound = sound
log_keeps base s i act.Collect sound = sound
log_keeps base s i act.Publish sound = sound
log_keeps base s i (act.Fail b c) sound = sound
log_keeps base s i act.Outcome sound = sound
log_keeps base s i act.Done sound = sound
log_keeps base s i act.Seen sound = sound
log_keeps base s i act.End sound = sound
log_keeps base s i act.Horizon sound = sound
log_keeps base s i (act.Look v) sound = sound
log_keeps base s i (act.Put v l d p) sound = sound
log_keeps base s i (act.Del v l d) sound = sound
log_keeps base s i (act.Set v p) sound = sound
log_keeps base s i (act.Drop v) sound = sound
log_keeps base s i (act.New v p) sound = sound
log_keeps base s i (act.Read q) sound = sound
log_keeps base s i (act.Apply v) sound = sound
log_keeps base s i (act.Undo v) sound = sound
log_keeps base s i (act.WriteGroup m) sound = writes_keep base s i m sound
log_keeps base s i act.Mend sound = mends_keep base s i sound

pub group_keeps : (base : Base) (s : State) (i : Name) (action : Act) → Steady base s → Durability base s → Steady base (after_group s i (group_event action i s.log s.clock (s.actor i)))
group_keeps base s i act.Open sound durable = sound
group_keeps base s i act.Close sound durable = sound
group_keeps base s i act.Begin sound durable = sound
group_keeps base s i act.Draw sound durable = sound
group_keeps base s i act.Enqueue sound durable = sound
group_keeps base s i act.Collect sound durable = collects_keep base s i sound durable
group_keeps base s i act.Publish sound durable = publishes_keep base s i sound durable
group_keeps base s i (act.Fail b c) sound durable = fails_keep base s i b c sound
group_keeps base s i act.Outcome sound durable = sound
group_keeps base s i act.Done sound durable = sound
group_keeps base s i act.Seen sound durable = sound
group_keeps base s i act.End sound durable = sound
group_keeps base s i act.Horizon sound durable = sound
group_keeps base s i (act.Look v) sound durable = sound
group_keeps base s i (act.Put v l d p) sound durable = sound
group_keeps base s i (act.Del v l d) sound durable = sound
group_keeps base s i (act.Set v p) sound durable = sound
group_keeps base s i (act.Drop v) sound durable = sound
group_keeps base s i (act.New v p) sound durable = sound
group_keeps base s i (act.Read q) sound durable = sound
group_keeps base s i (act.Apply v) sound durable = sound
group_keeps base s i (act.Undo v) sound durable = sound
group_keeps base s i (act.WriteGroup m) sound durable = sound
group_keeps base s i act.Mend sound durable = sound
