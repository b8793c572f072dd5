-- Events on the clock keep the receipts and looks true.
use Rattle.graph_model.specs.declared.record.Outcome.{Outcome}
use Rattle.core_kept.proofs.Failing.{failed_ghost}
use Rattle.core_states.specs.LogEvents.{told}
use Rattle.std.proofs.Common.{◌≡◌, ◌≢◌, ℕ, ◌<◌, ◌≤◌, Bool, true, false, List, [], ◌∷◌, refl, sym, ap, ◌∙◌, subst, arith, Option, Some, None, ⊎_elim, ◌⊎◌, inl, inr}
use Rattle.std.proofs.lemmas.Bool.{cases_eq, ne_eqb, false≢true}
use Rattle.std.specs.Prelude.{if◌then◌else◌}
use Rattle.graph_model.specs.declared.graph.Base.{Base}
use Rattle.graph_model.specs.declared.record.Outcome.TheVariants.{Committed, Failed}
use Rattle.graph_model.specs.declared.record.Record.{Record}
use Rattle.vertex_locks.specs.declared.answer.Look.{Look}
use Rattle.vertex_locks.specs.declared.answer.Look.TheVariants.{Taken, Held, Conflict}
use Rattle.edge_log.specs.Entries.{visible}
use Rattle.core_states.proofs.Names.{set_at_here, set_at_there, set_name_here, set_name_there, cases_name}
use Rattle.core_kept.specs.Good.{Nowhere, Place, InQueue, InGroup, InLog, Ghost, StageOk, In, TxnOk, AllWait, Good, InFault}
use Rattle.core_states.specs.Names.{Name, set_name}
use Rattle.core_states.specs.Numbers.{has_number, has_record}
use Rattle.core_states.specs.States.{State, after}
use Rattle.core_states.specs.declared.actor.LastLook.{LastLook}
use Rattle.core_kept.specs.Tellings.{LookIs, IsOver, EndOk, ReceiptOk, AllReceipts, LookOk, LookedOk, Told}
use Rattle.core_states.specs.Transactions.{end_by, is_loser, with_stage, receipt_of, end_of}
use Rattle.core_states.specs.declared.actor.Actor.{Actor}
use Rattle.core_states.specs.declared.clock.Clock.{Clock}
use Rattle.core_states.specs.declared.transaction.End.{End}
use Rattle.core_states.specs.declared.transaction.Stage.{Stage}
use Rattle.core_states.specs.declared.transaction.Stage.TheVariants.{Open, Queued, Decided}
use Rattle.core_states.specs.declared.transaction.Transaction.{Transaction}
use Rattle.core_kept.proofs.Beginning.{none_some, begun_ghost}
use Rattle.core_kept.proofs.GoingOn.{queued_ghost}
use Rattle.core_kept.proofs.Grouping.{collected_ghost}
use Rattle.core_kept.proofs.Publishing.{published_ghost}
use Rattle.core_kept.proofs.Tellings.{Grows, Turns, turns_on, turns_quiet, turns_begin, turns_end, grows_one, told_one, receipts_grow, end_grows, no_look}

-- One actor moved by an event that leaves no look.
pub told_by : (base : Base) (g h : Ghost) (s : State) (k : Clock) (i : Name) (a : Actor) → Good base g s → Turns s (s.actor i) a
    → s.clock.next_tid ≤ k.next_tid → s.clock.visible ≤ k.visible → ((t : ℕ) → t < s.clock.next_tid → h.who t ≡ g.who t)
    → ((t : ℕ) → t < s.clock.next_tid → IsOver s.actor t → h.place t ≡ g.place t) → ((t e : ℕ) → h.place t ≡ InLog e → (g.place t ≡ InLog e) ⊎ (s.clock.visible < e)) → ((r : Record) → In r s.clock.records → In r k.records)
    → a.receipts ≡ (s.actor i).receipts → a.looked ≡ None → Told g s → Told h (record s { clock = k; actor = set_name s.actor i a })
told_by base g h s k i a good turns next visible who places logs kept receipts none told =
    let z : State = record s { clock = k; actor = set_name s.actor i a } in
    let gr = grows_one g h s k i a s.row turns next visible who places logs kept in
    told_one base g h s k i a s.row good gr (subst (AllReceipts h z) (sym receipts) (receipts_grow g h s z (s.actor i).receipts gr (told i).0)) (subst (LookedOk h z a.txn) (sym none) (no_look h z a.txn)) told

-- the same clock numbers and places
pub told_same : (base : Base) (g : Ghost) (s : State) (k : Clock) (i : Name) (a : Actor) → Good base g s → Turns s (s.actor i) a → s.clock.next_tid ≤ k.next_tid → s.clock.visible ≤ k.visible → ((r : Record) → In r s.clock.records → In r k.records)
    → a.receipts ≡ (s.actor i).receipts → a.looked ≡ None → Told g s → Told g (record s { clock = k; actor = set_name s.actor i a })
told_same base g s k i a good turns next visible kept receipts none told = told_by base g g s k i a good turns next visible (λ t lt. refl) (λ t lt idle. refl) (λ t e is. inl is) kept receipts none told

pub begin_told : (base : Base) (g : Ghost) (s : State) (k : Clock) (i : Name) (a : Actor) (y : Transaction) → Good base g s → (s.actor i).txn ≡ None → a.txn ≡ Some y → y.tid ≡ s.clock.next_tid
    → s.clock.next_tid ≤ k.next_tid → s.clock.visible ≤ k.visible → ((r : Record) → In r s.clock.records → In r k.records) → a.receipts ≡ (s.actor i).receipts → a.looked ≡ None → Told g s
    → Told (begun_ghost g s.clock.next_tid i) (record s { clock = k; actor = set_name s.actor i a })
begin_told base g s k i a y good idle after tid next visible kept receipts none told =
    told_by base g (begun_ghost g s.clock.next_tid i) s k i a good (turns_begin s i a y idle after tid receipts) next visible (λ t lt. set_at_there g.who s.clock.next_tid i t (λ e. absurd (omega (arith, e, lt)))) (λ t lt idle. refl) (λ t e is. inl is) kept receipts none told

pub enqueue_told : (base : Base) (g : Ghost) (s : State) (k : Clock) (i : Name) (a : Actor) (x y : Transaction) → Good base g s → (s.actor i).txn ≡ Some x → a.txn ≡ Some y → y.tid ≡ x.tid → y.touched ≡ x.touched
    → s.clock.next_tid ≤ k.next_tid → s.clock.visible ≤ k.visible → ((r : Record) → In r s.clock.records → In r k.records) → a.receipts ≡ (s.actor i).receipts → a.looked ≡ None → Told g s
    → Told (queued_ghost g x.tid) (record s { clock = k; actor = set_name s.actor i a })
enqueue_told base g s k i a x y good at after tid same next visible kept receipts none told =
    told_by base g (queued_ghost g x.tid) s k i a good (turns_on s i a x y at after tid (λ v h. ap (has_number v) same ∙ h) receipts) next visible (λ t lt. refl)
    (λ t lt idle. set_at_there g.place x.tid InQueue t (λ e. idle i x at (sym e)))
    (λ t e is. ⊎_elim (λ (q : t ≡ x.tid). absurd (apart e (sym (set_at_here g.place x.tid InQueue t q) ∙ is))) (λ (n : t ≢ x.tid). inl (sym (set_at_there g.place x.tid InQueue t n) ∙ is)) (cases_eq t x.tid))
    kept receipts none told
  where
    apart : (e : ℕ) → InQueue ≡ InLog e → ⊥
    apart e q = (cc)

-- a number whose record waits runs
wait_runs : (g : Ghost) (actor : Name → Actor) (at : Place) (rs : List Record) (t : ℕ) → AllWait g actor at rs → has_record t rs ≡ true → IsOver actor t → ⊥
wait_runs g actor at [] t wait has idle = false≢true has
wait_runs g actor at (r ∷ rs) t wait has idle = ⊎_elim
    (λ (e : r.tid ≡ t). idle (g.who r.tid) wait.0.txn wait.0.is (wait.0.tid ∙ e))
    (λ (n : r.tid ≢ t). wait_runs g actor at rs t wait.2 (rw (ne_eqb r.tid t n) at has) idle)
    (cases_eq r.tid t)

pub collect_told : (base : Base) (g : Ghost) (s : State) (k : Clock) (i : Name) (rs : List Record) (a : Actor) → Good base g s → AllWait g s.actor InQueue rs → a.txn ≡ (s.actor i).txn
    → s.clock.next_tid ≤ k.next_tid → s.clock.visible ≤ k.visible → ((r : Record) → In r s.clock.records → In r k.records) → a.receipts ≡ (s.actor i).receipts → a.looked ≡ None → Told g s
    → Told (collected_ghost g rs i) (record s { clock = k; actor = set_name s.actor i a })
collect_told base g s k i rs a good wait same next visible kept receipts none told =
    told_by base g (collected_ghost g rs i) s k i a good (turns_quiet s i a same receipts) next visible (λ t lt. refl)
    (λ t lt idle. by_idle t idle (has_record t rs) refl) (λ t e. by_log t e (has_record t rs) refl) kept receipts none told
  where
    apart : (e : ℕ) → InGroup i ≡ InLog e → ⊥
    apart e q = (cc)

    by_idle : (t : ℕ) → IsOver s.actor t → (b : Bool) → has_record t rs ≡ b → (if has_record t rs then InGroup i else g.place t) ≡ g.place t
    by_idle t idle true has = absurd (wait_runs g s.actor InQueue rs t wait has idle)
    by_idle t idle false has = rw has refl

    by_log : (t e : ℕ) (b : Bool) → has_record t rs ≡ b → (if has_record t rs then InGroup i else g.place t) ≡ InLog e → (g.place t ≡ InLog e) ⊎ (s.clock.visible < e)
    by_log t e true has is = absurd (apart e (rw has at is))
    by_log t e false has is = inl (rw has at is)

pub publish_told : (base : Base) (g : Ghost) (s : State) (k : Clock) (i : Name) (e : ℕ) (rs : List Record) (a : Actor) → Good base g s → AllWait g s.actor (InGroup i) rs → s.clock.visible < e → Turns s (s.actor i) a
    → s.clock.next_tid ≤ k.next_tid → s.clock.visible ≤ k.visible → ((r : Record) → In r s.clock.records → In r k.records) → a.receipts ≡ (s.actor i).receipts → a.looked ≡ None → Told g s
    → Told (published_ghost g rs e) (record s { clock = k; actor = set_name s.actor i a })
publish_told base g s k i e rs a good wait late turns next visible kept receipts none told =
    told_by base g (published_ghost g rs e) s k i a good turns next visible (λ t lt. refl)
    (λ t lt idle. by_idle t idle (has_record t rs) refl) (λ t n. by_log t n (has_record t rs) refl) kept receipts none told
  where
    log_is : (m n : ℕ) → InLog m ≡ InLog n → m ≡ n
    log_is m n q = (cc)

    by_idle : (t : ℕ) → IsOver s.actor t → (b : Bool) → has_record t rs ≡ b → (if has_record t rs then InLog e else g.place t) ≡ g.place t
    by_idle t idle true has = absurd (wait_runs g s.actor (InGroup i) rs t wait has idle)
    by_idle t idle false has = rw has refl

    by_log : (t n : ℕ) (b : Bool) → has_record t rs ≡ b → (if has_record t rs then InLog e else g.place t) ≡ InLog n → (g.place t ≡ InLog n) ⊎ (s.clock.visible < n)
    by_log t n true has is = let q = log_is e n (rw has at is) in inr (omega (arith, q))
    by_log t n false has is = inl (rw has at is)

pub fail_told : (base : Base) (g : Ghost) (s : State) (k : Clock) (i : Name) (b c : ℕ) (rs : List Record) (a : Actor) → Good base g s → AllWait g s.actor (InGroup i) rs → Turns s (s.actor i) a
    → s.clock.next_tid ≤ k.next_tid → s.clock.visible ≤ k.visible → ((r : Record) → In r s.clock.records → In r k.records) → a.receipts ≡ (s.actor i).receipts → a.looked ≡ None → Told g s
    → Told (failed_ghost g rs b c) (record s { clock = k; actor = set_name s.actor i a })
fail_told base g s k i b c rs a good wait turns next visible kept receipts none told =
    told_by base g (failed_ghost g rs b c) s k i a good turns next visible (λ t lt. refl)
    (λ t lt idle. by_idle t idle (has_record t rs) refl) (λ t n. by_log t n (has_record t rs) refl) kept receipts none told
  where
    apart : (n : ℕ) → InFault b c ≡ InLog n → ⊥
    apart n q = (cc)

    by_idle : (t : ℕ) → IsOver s.actor t → (d : Bool) → has_record t rs ≡ d → (if has_record t rs then InFault b c else g.place t) ≡ g.place t
    by_idle t idle true has = absurd (wait_runs g s.actor (InGroup i) rs t wait has idle)
    by_idle t idle false has = rw has refl

    by_log : (t n : ℕ) (d : Bool) → has_record t rs ≡ d → (if has_record t rs then InFault b c else g.place t) ≡ InLog n → (g.place t ≡ InLog n) ⊎ (s.clock.visible < n)
    by_log t n true has is = absurd (apart n (rw has at is))
    by_log t n false has is = inl (rw has at is)

-- a publish or a fail leaves what each transaction touched
pub told_turns : (s : State) (i : Name) (d : Outcome) (rs : List Record) (a : Actor) (o : Option Transaction) → (s.actor i).txn ≡ o → a.txn ≡ told d rs (s.actor i).txn → a.receipts ≡ (s.actor i).receipts → Turns s (s.actor i) a
told_turns s i d rs a None is now receipts = turns_quiet s i a (now ∙ ap (told d rs) is ∙ sym is) receipts
told_turns s i d rs a (Some x) is now receipts = by_has (has_record x.tid rs) refl
  where
    by_has : (b : Bool) → has_record x.tid rs ≡ b → Turns s (s.actor i) a
    by_has true has = turns_on s i a x (with_stage x (Decided d)) is (now ∙ ap (told d rs) is ∙ rw has refl) refl (λ v h. h) receipts
    by_has false has = turns_on s i a x x is (now ∙ ap (told d rs) is ∙ rw has refl) refl (λ v h. h) receipts

-- A transaction ends with a receipt.
pub finish_told : (base : Base) (g : Ghost) (s : State) (k : Clock) (i : Name) (x : Transaction) (end : End) (a : Actor) → Good base g s → (s.actor i).txn ≡ Some x → a.txn ≡ None → a.receipts ≡ receipt_of x end ∷ (s.actor i).receipts
    → s.clock.next_tid ≤ k.next_tid → s.clock.visible ≤ k.visible → ((r : Record) → In r s.clock.records → In r k.records) → EndOk g s (receipt_of x end) end → Told g s
    → Told g (record s { clock = k; actor = set_name s.actor i a })
finish_told base g s k i x end a good at after receipts next visible kept ok told =
    told_one base g g s k i a s.row good gr (subst (AllReceipts g z) (sym receipts) (new, receipts_grow g g s z (s.actor i).receipts gr (told i).0)) (subst (λ (o : Option Transaction). LookedOk g z o a.looked) (sym after) tt) told
  where
    z : State
    z = record s { clock = k; actor = set_name s.actor i a }

    gr : Grows g g s z
    gr = grows_one g g s k i a s.row (turns_end s i a x end at after receipts) next visible (λ t lt. refl) (λ t lt idle. refl) (λ t e is. inl is) kept

    xok : TxnOk base g s.clock i x
    xok = good.txns i x at

    gone : IsOver z.actor x.tid
    gone j y e same = ⊎_elim
        (λ (q : j ≡ i). none_some y (sym (ap (λ (b : Actor). b.txn) (set_name_here s.actor i a j q) ∙ after) ∙ e))
        (λ (n : j ≢ i). n (sym (good.txns j y (ap (λ (b : Actor). b.txn) (sym (set_name_there s.actor i a j n)) ∙ e)).who ∙ ap g.who same ∙ xok.who))
        (cases_name j i)

    new : ReceiptOk g z (receipt_of x end)
    new = record {
      below = (let b = xok.below in omega arith);
      idle = gone;
      low = (let b = xok.read_below in omega arith);
      ends = end_grows g g s z (receipt_of x end) end gr xok.read_below refl ok;
    }

-- the end of a transaction without a record
pub lost_end : (base : Base) (g : Ghost) (s : State) (i : Name) (x : Transaction) → Good base g s → (s.actor i).txn ≡ Some x → is_loser x.stage ≡ true → Told g s
    → EndOk g s (receipt_of x (end_of x.stage (s.actor i).looked)) (end_of x.stage (s.actor i).looked)
lost_end base g s i x good at loser told = by_stage x.stage refl loser (good.txns i x at).stage (s.actor i).looked (subst (λ (o : Option Transaction). LookedOk g s o (s.actor i).looked) at (told i).1)
  where
    by_end : (v : ℕ) (look : Look) → g.place x.tid ≡ Nowhere → LookIs g s x.read v look → EndOk g s (receipt_of x (end_by v look)) (end_by v look)
    by_end v Taken none ok = none
    by_end v (Held t) none ok = (none, ok)
    by_end v (Conflict e) none ok = (none, ok)

    by_stage : (stage : Stage) → x.stage ≡ stage → is_loser stage ≡ true → StageOk x.stage x.settled (g.place x.tid) → (looked : Option LastLook) → LookOk g s x.read looked → EndOk g s (receipt_of x (end_of stage looked)) (end_of stage looked)
    by_stage Open is lose ok None look = subst (λ (y : Stage). StageOk y x.settled (g.place x.tid)) is ok
    by_stage Open is lose ok (Some l) look = by_end l.v l.look (subst (λ (y : Stage). StageOk y x.settled (g.place x.tid)) is ok) look
    by_stage Queued is lose ok looked look = absurd (false≢true lose)
    by_stage (Decided (Committed e)) is lose ok looked look = absurd (false≢true lose)
    by_stage (Decided (Failed b a)) is lose ok looked look = subst (λ (y : Stage). StageOk y x.settled (g.place x.tid)) is ok
