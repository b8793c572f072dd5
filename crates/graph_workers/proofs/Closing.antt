-- What holds at `close` of the records, and of the receipts of the joined passes.
use Rattle.std.specs.Prelude.{◌≡◌, ◌≢◌, ◌⊎◌, ℕ, ◌<◌, ◌≤◌, true, ◌&&◌, ◌==◌, nat_le, IsTrue, IsFalse, ⊤, List, [], ◌∷◌, Some, None}
use Rattle.std.specs.List.{list_any}
use Rattle.graph_model.specs.declared.record.Record.{Record}
use Rattle.graph_model.specs.declared.graph.Base.{Base}
use Rattle.graph_model.specs.Records.{Continues, changes_vertex, number_end}
use Rattle.request_text.specs.declared.reply.Reply.TheVariants as reply
use Rattle.graph_legal.specs.Lines.{Replied}
use Rattle.graph_legal.specs.Traces.{is_among}
use Rattle.graph_workers.specs.Lines.{Seated}
use Rattle.graph_workers.proofs.Sights.{Txn, End, Committed_at, Held_by, Conflict_at, Without, Receipt, Pass, Grown, seen_epoch, Worked, Served, own_lines}

-- the receipt is among these
abbrev pub In : Receipt → List Receipt → Type 0
In r [] = ⊥
In r (x ∷ xs) = (r ≡ x) ⊎ In r xs

-- a record is among these
abbrev pub InRecords : Record → List Record → Type 0
InRecords r [] = ⊥
InRecords r (x ∷ xs) = (r ≡ x) ⊎ InRecords r xs

abbrev pub record_of : Txn → ℕ → Record
record_of x e = record { tid = x.number; read = x.read; epoch = e; changes = x.own }

-- ---- a pass that goes on

-- What a pass that became another one tells of it.
pub record Leads (base : Base) (p q : Pass) : Type 0 where
  pub told : p.told ≤ q.told
  pub grown : Grown base.epoch p.seen q.seen
  pub next_tid : p.next_tid ≤ q.next_tid
  pub next_vertex : p.next_vertex ≤ q.next_vertex
  pub kept : (r : Receipt) → In r p.receipts → In r q.receipts
  pub drawn : (v : ℕ) → is_among v p.drawn ≡ true → is_among v q.drawn ≡ true
  -- a transaction that is open has a receipt later, or is open still
  pub running : (k : ℕ) (x : Txn) → p.sessions k ≡ Some x → ((r : Receipt) × (r.txn.number ≡ x.number) × In r q.receipts) ⊎ ((y : Txn) × (q.sessions k ≡ Some y) × (y.number ≡ x.number))
  -- a receipt that is new is of a transaction that was open, or began later
  pub came : (r : Receipt) → In r q.receipts →
      In r p.receipts ⊎ (((k : ℕ) × (x : Txn) × (p.sessions k ≡ Some x) × (x.number ≡ r.txn.number)) ⊎ (p.next_tid ≤ r.txn.number))
  pub opened : (k : ℕ) (x : Txn) → q.sessions k ≡ Some x → ((j : ℕ) × (y : Txn) × (p.sessions j ≡ Some y) × (y.number ≡ x.number)) ⊎ (p.next_tid ≤ x.number)
  pub commits : (r : Receipt) (e : ℕ) → In r q.receipts → r.ends ≡ Committed_at e → In r p.receipts ⊎ (seen_epoch base p < e)

-- The sight of one pass is not behind that of another: what a split and a join keep.
pub record Sees (base : Base) (p q : Pass) : Type 0 where
  pub told : p.told ≤ q.told
  pub grown : Grown base.epoch p.seen q.seen
  pub next_tid : p.next_tid ≤ q.next_tid
  pub next_vertex : p.next_vertex ≤ q.next_vertex

-- The transactions that are open at the end of a phase are undone.
pub record WoundUp (base : Base) (p q : Pass) : Type 0 where
  pub sees : Sees base p q
  pub kept : (r : Receipt) → In r p.receipts → In r q.receipts
  pub undone : (k : ℕ) (x : Txn) → p.sessions k ≡ Some x → In (record { txn = x; ends = Without }) q.receipts
  pub only : (r : Receipt) → In r q.receipts → In r p.receipts ⊎ ((k : ℕ) × (x : Txn) × (p.sessions k ≡ Some x) × (r ≡ record { txn = x; ends = Without }))
  pub closed : (k : ℕ) → q.sessions k ≡ None
  pub drawn : q.drawn ≡ p.drawn

-- A pass that a worker starts with.
pub record Starts (base : Base) (p : Pass) : Type 0 where
  pub idle : (k : ℕ) → p.sessions k ≡ None
  pub receipts : p.receipts ≡ []
  pub drawn : p.drawn ≡ []
  pub low : base.epoch ≤ p.told
  pub visible : p.told ≤ seen_epoch base p
  pub next_tid : base.next_tid ≤ p.next_tid
  pub next_vertex : base.next_vertex ≤ p.next_vertex

-- ---- close

-- a receipt agrees with the records
abbrev pub EndHolds : (ℕ → ℕ → Pass) → List Record → Receipt → End → Type 0
EndHolds last records r (Committed_at e) = InRecords (record_of r.txn e) records
EndHolds last records r (Held_by v n) =
    IsFalse (list_any (λ s. s.tid == n && nat_le s.epoch r.txn.read) records)
    × ((ph : ℕ) × (w : ℕ) × (u : Receipt) × In u (last ph w).receipts × (u.txn.number ≡ n) × IsTrue (is_among v u.txn.touched))
EndHolds last records r (Conflict_at v e) = IsTrue (list_any (λ s. s.epoch == e && changes_vertex v s) records)
EndHolds last records r end = ⊤

-- What `close` tells of the records and of the passes, known by phase and worker, that were joined.
pub record Closes (base : Base) (records : List Record) (last : ℕ → ℕ → Pass) : Type 0 where
  pub continues : Continues base records
  -- the state's next numbers
  pub next_tid : ℕ
  pub next_vertex : ℕ
  pub tid_end : next_tid ≤ number_end
  pub vertex_end : next_vertex ≤ number_end
  -- every pass's sight is of this state
  pub grown : (ph w : ℕ) → Grown base.epoch (last ph w).seen records
  pub tids : (ph w : ℕ) → (last ph w).next_tid ≤ next_tid
  pub vertices : (ph w : ℕ) → (last ph w).next_vertex ≤ next_vertex
  -- receipts agree with the records
  pub agree : (ph w : ℕ) (r : Receipt) → In r (last ph w).receipts → EndHolds last records r r.ends
  -- each record has a receipt
  pub recorded : (s : Record) → InRecords s records → (ph : ℕ) × (w : ℕ) × (r : Receipt) × In r (last ph w).receipts × (r.txn.number ≡ s.tid) × (r.ends ≡ Committed_at s.epoch)
  -- a number was drawn by one worker, and none is left out
  pub phase_of : ℕ → ℕ
  pub worker_of : ℕ → ℕ
  pub who : (ph w : ℕ) (r : Receipt) → In r (last ph w).receipts → (phase_of r.txn.number ≡ ph) × (worker_of r.txn.number ≡ w) × (r.txn.number < next_tid)
  pub drawn_tids : (n : ℕ) → base.next_tid ≤ n → n < next_tid → (ph : ℕ) × (w : ℕ) × (r : Receipt) × In r (last ph w).receipts × (r.txn.number ≡ n)
  pub phase_drawing : ℕ → ℕ
  pub worker_drawing : ℕ → ℕ
  pub drawer : (ph w v : ℕ) → is_among v (last ph w).drawn ≡ true → (phase_drawing v ≡ ph) × (worker_drawing v ≡ w) × (v < next_vertex)
  pub drawn_vertices : (v : ℕ) → base.next_vertex ≤ v → v < next_vertex → (ph : ℕ) × (w : ℕ) × (is_among v (last ph w).drawn ≡ true)

-- A holder that a line names is none that ended in an earlier phase.
abbrev pub NotEarlier : (ℕ → ℕ → Pass) → Replied → Type 0
NotEarlier last a = (v n : ℕ) → a.reply ≡ reply.Held v n → (ph w : ℕ) (u : Receipt) → ph < a.phase → In u (last ph w).receipts → u.txn.number ≢ n

abbrev pub AllNotEarlier : (ℕ → ℕ → Pass) → List Replied → Type 0
AllNotEarlier last [] = Unit {0}
AllNotEarlier last (a ∷ above) = NotEarlier last a × AllNotEarlier last above

-- The run of all workers of all phases, up to `close`.
pub record Ran (base : Base) (records : List Record) (lines : List Replied) : Type 0 where
  pub first : ℕ → ℕ → Pass
  pub now : ℕ → ℕ → Pass
  pub last : ℕ → ℕ → Pass
  pub seat : ℕ → ℕ → ℕ
  pub seated : Seated seat lines
  pub starts : (ph w : ℕ) → Starts base (first ph w)
  pub worked : Worked base first lines now
  pub wound_up : (ph w : ℕ) → WoundUp base (now ph w) (last ph w)
  -- the passes of a phase are split from one that knows what those of earlier phases knew
  pub split : (ph w ph2 w2 : ℕ) → ph < ph2 → Sees base (last ph w) (first ph2 w2)
  pub closes : Closes base records last
  pub earlier : AllNotEarlier last lines

-- The run of all workers of all phases, told by each worker: its lines, and its pass before and after them.
pub record AllRan (base : Base) (records : List Record) (lines : List Replied) : Type 0 where
  pub first : ℕ → ℕ → Pass
  pub now : ℕ → ℕ → Pass
  pub last : ℕ → ℕ → Pass
  pub starts : (ph w : ℕ) → Starts base (first ph w)
  pub served : (ph w : ℕ) → Served base (first ph w) (own_lines ph w lines) (now ph w)
  pub wound_up : (ph w : ℕ) → WoundUp base (now ph w) (last ph w)
  pub split : (ph w ph2 w2 : ℕ) → ph < ph2 → Sees base (last ph w) (first ph2 w2)
  pub closes : Closes base records last
  pub earlier : AllNotEarlier last lines
