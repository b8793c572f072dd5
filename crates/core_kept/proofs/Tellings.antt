-- Receipts and looks stay true.
use Rattle.core_states.specs.LogEvents.{told}
use Rattle.std.proofs.Common.{◌≡◌, ◌≢◌, ℕ, ◌<◌, ◌≤◌, Bool, true, false, ◌&&◌, ◌||◌, List, [], ◌∷◌, refl, sym, ap, ◌∙◌, arith, Option, Some, None, ⊎_elim, ◌⊎◌}
use Rattle.std.specs.Prelude.{◌==◌}
use Rattle.graph_model.specs.declared.graph.Base.{Base}
use Rattle.graph_model.specs.declared.record.Record.{Record}
use Rattle.vertex_locks.specs.declared.answer.Look.{Look}
use Rattle.vertex_locks.specs.declared.answer.Look.TheVariants.{Taken, Held, Conflict}
use Rattle.edge_log.specs.Entries.{visible}
use Rattle.core_rows.specs.Rows.{Row}
use Rattle.core_states.proofs.Names.{name_each, some_is}
use Rattle.core_kept.specs.Good.{InLog, Ghost, In, Good}
use Rattle.core_states.specs.Names.{Name, set_name}
use Rattle.core_states.specs.Numbers.{has_number}
use Rattle.core_states.specs.States.{State, after}
use Rattle.core_states.specs.declared.actor.LastLook.{LastLook}
use Rattle.core_kept.specs.Tellings.{LookIs, IsOver, HeldOk, ConflictOk, EndOk, ReceiptOk, AllReceipts, LookOk, LookedOk, Told}
use Rattle.core_states.specs.Touches.{txn_touched, receipt_touched, touched_in}
use Rattle.core_states.specs.Transactions.{receipt_of}
use Rattle.core_states.specs.declared.actor.Actor.{Actor}
use Rattle.core_states.specs.declared.clock.Clock.{Clock}
use Rattle.core_states.specs.declared.transaction.End.{End}
use Rattle.core_states.specs.declared.transaction.End.TheVariants.{CommittedAt, Faulted, HeldBy, ConflictAt, Without}
use Rattle.core_states.specs.declared.transaction.Receipt.{Receipt}
use Rattle.core_states.specs.declared.transaction.Transaction.{Transaction}
use Rattle.core_kept.proofs.Beginning.{none_some}

-- What an event leaves of what receipts and looks speak of.
pub record Grows (g h : Ghost) (s z : State) : Type 0 where
  pub next : s.clock.next_tid ≤ z.clock.next_tid
  pub visible : s.clock.visible ≤ z.clock.visible
  pub idle : (t : ℕ) → t < s.clock.next_tid → IsOver s.actor t → IsOver z.actor t
  pub places : (t : ℕ) → t < s.clock.next_tid → IsOver s.actor t → h.place t ≡ g.place t
  pub logs : (t e : ℕ) → h.place t ≡ InLog e → (g.place t ≡ InLog e) ⊎ (s.clock.visible < e)
  pub kept : (r : Record) → In r s.clock.records → In r z.clock.records
  pub touched : (t v : ℕ) → t < s.clock.next_tid → touched_in (s.actor (g.who t)) t v ≡ true → touched_in (z.actor (h.who t)) t v ≡ true

held_grows : (g h : Ghost) (s z : State) (v t read : ℕ) → Grows g h s z → read ≤ s.clock.visible → HeldOk g s v t read → HeldOk h z v t read
held_grows g h s z v t read gr low ok = record {
  below = (let a = ok.below in let b = gr.next in omega arith);
  touched = gr.touched t v ok.below ok.touched;
  later = λ e is. ⊎_elim (λ (old : g.place t ≡ InLog e). ok.later e old) (λ (lt : s.clock.visible < e). omega arith) (gr.logs t e is);
}

conflict_grows : (g h : Ghost) (s z : State) (v e : ℕ) → Grows g h s z → ConflictOk s v e → ConflictOk z v e
conflict_grows g h s z v e gr ok = record { record_is = ok.record_is; among = gr.kept ok.record_is ok.among; epoch = ok.epoch; changed = ok.changed }

pub end_grows : (g h : Ghost) (s z : State) (r : Receipt) (end : End) → Grows g h s z → r.read ≤ s.clock.visible → h.place r.tid ≡ g.place r.tid → EndOk g s r end → EndOk h z r end
end_grows g h s z r (CommittedAt e) gr low same ok = (same ∙ ok.0, gr.kept _ ok.1)
end_grows g h s z r (Faulted b a) gr low same ok = same ∙ ok
end_grows g h s z r (HeldBy v t) gr low same ok = (same ∙ ok.0, held_grows g h s z v t r.read gr low ok.1)
end_grows g h s z r (ConflictAt v e) gr low same ok = (same ∙ ok.0, conflict_grows g h s z v e gr ok.1)
end_grows g h s z r Without gr low same ok = same ∙ ok

receipt_grows : (g h : Ghost) (s z : State) (r : Receipt) → Grows g h s z → ReceiptOk g s r → ReceiptOk h z r
receipt_grows g h s z r gr ok = record {
  below = (let a = ok.below in let b = gr.next in omega arith);
  idle = gr.idle r.tid ok.below ok.idle;
  low = (let a = ok.low in let b = gr.visible in omega arith);
  ends = end_grows g h s z r r.ends gr ok.low (gr.places r.tid ok.below ok.idle) ok.ends;
}

pub receipts_grow : (g h : Ghost) (s z : State) (rs : List Receipt) → Grows g h s z → AllReceipts g s rs → AllReceipts h z rs
receipts_grow g h s z [] gr ok = tt
receipts_grow g h s z (r ∷ rs) gr ok = (receipt_grows g h s z r gr ok.0, receipts_grow g h s z rs gr ok.1)

look_is_grows : (g h : Ghost) (s z : State) (read v : ℕ) (look : Look) → Grows g h s z → read ≤ s.clock.visible → LookIs g s read v look → LookIs h z read v look
look_is_grows g h s z read v Taken gr low ok = tt
look_is_grows g h s z read v (Held t) gr low ok = held_grows g h s z v t read gr low ok
look_is_grows g h s z read v (Conflict e) gr low ok = conflict_grows g h s z v e gr ok

pub look_grows : (g h : Ghost) (s z : State) (read : ℕ) (looked : Option LastLook) → Grows g h s z → read ≤ s.clock.visible → LookOk g s read looked → LookOk h z read looked
look_grows g h s z read None gr low ok = tt
look_grows g h s z read (Some l) gr low ok = look_is_grows g h s z read l.v l.look gr low ok

pub looked_grows : (g h : Ghost) (s z : State) (o : Option Transaction) (looked : Option LastLook) → Grows g h s z → ((x : Transaction) → o ≡ Some x → x.read ≤ s.clock.visible) → LookedOk g s o looked → LookedOk h z o looked
looked_grows g h s z None looked gr low ok = tt
looked_grows g h s z (Some x) looked gr low ok = look_grows g h s z x.read looked gr (low x refl) ok

-- no look is kept
pub no_look : (g : Ghost) (s : State) (o : Option Transaction) → LookedOk g s o None
no_look g s None = tt
no_look g s (Some x) = tt

-- One actor moved.
pub told_one : (base : Base) (g h : Ghost) (s : State) (k : Clock) (i : Name) (a : Actor) (row : ℕ → Row) → Good base g s → Grows g h s (record s { clock = k; actor = set_name s.actor i a; row = row })
    → AllReceipts h (record s { clock = k; actor = set_name s.actor i a; row = row }) a.receipts → LookedOk h (record s { clock = k; actor = set_name s.actor i a; row = row }) a.txn a.looked
    → Told g s → Told h (record s { clock = k; actor = set_name s.actor i a; row = row })
told_one base g h s k i a row good gr receipts looked told = name_each (λ j (b : Actor). AllReceipts h z b.receipts × LookedOk h z b.txn b.looked) s.actor i a
    (receipts, looked)
    (λ j n. (receipts_grow g h s z (s.actor j).receipts gr (told j).0, looked_grows g h s z (s.actor j).txn (s.actor j).looked gr (λ x e. (good.txns j x e).read_below) (told j).1))
  where
    z : State
    z = record s { clock = k; actor = set_name s.actor i a; row = row }

-- How an actor's transaction may move: it goes on, it begins, or it ends with a receipt.
pub record Turns (s : State) (a b : Actor) : Type 0 where
  pub idle : (y : Transaction) → b.txn ≡ Some y → (t : ℕ) → t < s.clock.next_tid → IsOver s.actor t → y.tid ≢ t
  pub touched : (t v : ℕ) → touched_in a t v ≡ true → touched_in b t v ≡ true

pub turns_on : (s : State) (i : Name) (b : Actor) (x y : Transaction) → (s.actor i).txn ≡ Some x → b.txn ≡ Some y → y.tid ≡ x.tid → ((v : ℕ) → has_number v x.touched ≡ true → has_number v y.touched ≡ true)
    → b.receipts ≡ (s.actor i).receipts → Turns s (s.actor i) b
turns_on s i b x y before after tid more receipts = record {
  idle = λ z e t lt idle. λ same. idle i x before (sym tid ∙ ap (λ (u : Transaction). u.tid) (some_is y z (sym after ∙ e)) ∙ same);
  touched = λ t v h. ap (λ o. txn_touched o t v || receipt_touched b.receipts t v) after ∙ ap (λ rs. txn_touched (Some y) t v || receipt_touched rs t v) receipts
      ∙ go t v (receipt_touched (s.actor i).receipts t v) (ap (λ o. txn_touched o t v || receipt_touched (s.actor i).receipts t v) (sym before) ∙ h);
}
  where
    go : (t v : ℕ) (b : Bool) → ((x.tid == t && has_number v x.touched) || b) ≡ true → ((y.tid == t && has_number v y.touched) || b) ≡ true
    go t v b h = let m = more v in rw tid (grind (arith, m))

pub turns_quiet : (s : State) (i : Name) (b : Actor) → b.txn ≡ (s.actor i).txn → b.receipts ≡ (s.actor i).receipts → Turns s (s.actor i) b
turns_quiet s i b same receipts = record {
  idle = λ z e t lt idle. idle i z (sym same ∙ e);
  touched = λ t v h. (λ j. txn_touched (same j) t v || receipt_touched (receipts j) t v) ∙ h;
}

pub turns_end : (s : State) (i : Name) (b : Actor) (x : Transaction) (end : End) → (s.actor i).txn ≡ Some x → b.txn ≡ None → b.receipts ≡ receipt_of x end ∷ (s.actor i).receipts → Turns s (s.actor i) b
turns_end s i b x end before after receipts = record {
  idle = λ z e. absurd (none_some z (sym after ∙ e));
  touched = λ t v h. (λ j. txn_touched (after j) t v || receipt_touched (receipts j) t v) ∙ ap (λ o. txn_touched o t v || receipt_touched (s.actor i).receipts t v) (sym before) ∙ h;
}

pub turns_begin : (s : State) (i : Name) (b : Actor) (y : Transaction) → (s.actor i).txn ≡ None → b.txn ≡ Some y → y.tid ≡ s.clock.next_tid → b.receipts ≡ (s.actor i).receipts → Turns s (s.actor i) b
turns_begin s i b y before after tid receipts = record {
  idle = λ z e t lt idle same. absurd (let q = sym (ap (λ (u : Transaction). u.tid) (some_is y z (sym after ∙ e))) ∙ tid in let p = sym same in omega (arith, p, q, ap (λ (u : Transaction). u.tid) (some_is y z (sym after ∙ e)), lt));
  touched = λ t v h. ap (λ o. txn_touched o t v || receipt_touched b.receipts t v) after ∙ ap (λ rs. txn_touched (Some y) t v || receipt_touched rs t v) receipts
      ∙ go t v (receipt_touched (s.actor i).receipts t v) (ap (λ o. txn_touched o t v || receipt_touched (s.actor i).receipts t v) (sym before) ∙ h);
}
  where
    go : (t v : ℕ) (b : Bool) → (false || b) ≡ true → ((y.tid == t && has_number v y.touched) || b) ≡ true
    go t v b h = grind arith

pub grows_one : (g h : Ghost) (s : State) (k : Clock) (i : Name) (a : Actor) (row : ℕ → Row) → Turns s (s.actor i) a
    → s.clock.next_tid ≤ k.next_tid → s.clock.visible ≤ k.visible → ((t : ℕ) → t < s.clock.next_tid → h.who t ≡ g.who t)
    → ((t : ℕ) → t < s.clock.next_tid → IsOver s.actor t → h.place t ≡ g.place t) → ((t e : ℕ) → h.place t ≡ InLog e → (g.place t ≡ InLog e) ⊎ (s.clock.visible < e)) → ((r : Record) → In r s.clock.records → In r k.records)
    → Grows g h s (record s { clock = k; actor = set_name s.actor i a; row = row })
grows_one g h s k i a row turns next visible who places logs kept = record {
  next = next;
  visible = visible;
  idle = λ t lt idle. name_each (λ j (b : Actor). (y : Transaction) → b.txn ≡ Some y → y.tid ≢ t) s.actor i a (λ y e. turns.idle y e t lt idle) (λ j n y e. idle j y e);
  places = places;
  logs = logs;
  kept = kept;
  touched = λ t v lt h. ap (λ w. touched_in (set_name s.actor i a w) t v) (who t lt) ∙ name_each (λ j (b : Actor). touched_in (s.actor j) t v ≡ true → touched_in b t v ≡ true) s.actor i a (turns.touched t v) (λ j n h. h) (g.who t) h;
}
