-- What a pass has seen of the core, in the words of the law on replies: its sight.
use Rattle.std.proofs.Common.{◌≡◌, ℕ, ◌≤◌, true, ◌||◌, List, [], ◌∷◌, refl, ap, ◌∙◌, Option, Some, None}
use Rattle.std.specs.Prelude.{◌==◌, nat_lt, ⊤}
use Rattle.std.specs.List.{list_all}
use Rattle.std.proofs.lemmas.Bool.{and_from, lt-ltb}
use Rattle.graph_model.specs.declared.graph.Base.{Base}
use Rattle.graph_model.specs.declared.record.Record.{Record}
use Rattle.graph_legal.specs.Traces.{is_among}
use Rattle.core_states.specs.declared.transaction.Transaction.{Transaction}
use Rattle.core_states.specs.declared.transaction.Receipt.{Receipt as CoreReceipt}
use Rattle.core_states.specs.declared.transaction.End.{End as CoreEnd}
use Rattle.core_states.specs.declared.transaction.End.TheVariants as core_end
use Rattle.core_states.specs.Names.{Name}
use Rattle.core_states.specs.Numbers.{has_number}
use Rattle.core_states.specs.RowEvents.{Limits}
use Rattle.core_states.specs.States.{State}
use Rattle.core_kept.specs.Bounds.{Kept}
use Rattle.core_states.specs.Laters.{AllLater, Later}
use Rattle.core_states.specs.Sound.{InReceipts}
use Rattle.graph_workers.specs.Passes.{Pass}
use Rattle.graph_workers.proofs.Working.{last_is}
use Rattle.graph_workers.proofs.Sights.{Txn, Receipt, End, Committed_at, Faulted, Held_by, Conflict_at, Without, Grown, Pass as Sight}
use Rattle.graph_workers.proofs.Closing.{In, Sees}

-- a number among others: the two words say the same
pub among : (v : ℕ) (xs : List ℕ) → is_among v xs ≡ has_number v xs
among v [] = refl
among v (x ∷ xs) = ap (λ b. x == v || b) (among v xs)

-- ---- transactions, receipts and passes

abbrev pub txn_view : Transaction → Txn
txn_view x = record { number = x.tid; read = x.read; own = x.own; touched = x.touched }

abbrev pub txn_views : Option Transaction → Option Txn
txn_views None = None
txn_views (Some x) = Some (txn_view x)

abbrev pub sight : (ℕ → Name) → Pass → List Receipt → List ℕ → Sight
sight name p rs ds = record {
  told = p.told;
  seen = p.seen.clock.records;
  next_tid = p.seen.clock.next_tid;
  next_vertex = p.seen.clock.next_vertex;
  sessions = λ k. txn_views (p.seen.actor (name k)).txn;
  receipts = rs;
  drawn = ds;
}

-- The end that an actor keeps, and the end that a reply told: where nothing was told of it, any end of a transaction whose record was not queued will do.
abbrev pub EndAlike : CoreEnd → End → Type 0
EndAlike (core_end.CommittedAt e) (Committed_at f) = e ≡ f
EndAlike (core_end.CommittedAt e) (Faulted b a) = ⊥
EndAlike (core_end.CommittedAt e) (Held_by v n) = ⊥
EndAlike (core_end.CommittedAt e) (Conflict_at v f) = ⊥
EndAlike (core_end.CommittedAt e) Without = ⊥
EndAlike (core_end.Faulted b a) (Committed_at f) = ⊥
EndAlike (core_end.Faulted b a) (Faulted c d) = (b ≡ c) × (a ≡ d)
EndAlike (core_end.Faulted b a) (Held_by v n) = ⊥
EndAlike (core_end.Faulted b a) (Conflict_at v f) = ⊥
EndAlike (core_end.Faulted b a) Without = ⊥
EndAlike (core_end.HeldBy v t) (Committed_at f) = ⊥
EndAlike (core_end.HeldBy v t) (Faulted c d) = ⊥
EndAlike (core_end.HeldBy v t) (Held_by w n) = (v ≡ w) × (t ≡ n)
EndAlike (core_end.HeldBy v t) (Conflict_at w f) = ⊥
EndAlike (core_end.HeldBy v t) Without = ⊤
EndAlike (core_end.ConflictAt v e) (Committed_at f) = ⊥
EndAlike (core_end.ConflictAt v e) (Faulted c d) = ⊥
EndAlike (core_end.ConflictAt v e) (Held_by w n) = ⊥
EndAlike (core_end.ConflictAt v e) (Conflict_at w f) = (v ≡ w) × (e ≡ f)
EndAlike (core_end.ConflictAt v e) Without = ⊤
EndAlike core_end.Without (Committed_at f) = ⊥
EndAlike core_end.Without (Faulted c d) = ⊥
EndAlike core_end.Without (Held_by w n) = ⊥
EndAlike core_end.Without (Conflict_at w f) = ⊥
EndAlike core_end.Without Without = ⊤

pub record Alike (r : CoreReceipt) (u : Receipt) : Type 0 where
  pub number : u.txn.number ≡ r.tid
  pub read : u.txn.read ≡ r.read
  pub own : u.txn.own ≡ r.changes
  pub touched : u.txn.touched ≡ r.touched
  pub ends : EndAlike r.ends u.ends

-- The receipts and drawn numbers of a sight are those of the pass's sessions.
pub record Tallies (name : ℕ → Name) (s : State) (rs : List Receipt) (ds : List ℕ) : Type 0 where
  pub came : (k : ℕ) (r : CoreReceipt) → InReceipts r (s.actor (name k)).receipts → (u : Receipt) × In u rs × Alike r u
  pub back : (u : Receipt) → In u rs → (k : ℕ) × (r : CoreReceipt) × InReceipts r (s.actor (name k)).receipts × Alike r u
  pub drew : (k v : ℕ) → has_number v (s.actor (name k)).drew ≡ true → is_among v ds ≡ true
  pub drawn : (v : ℕ) → is_among v ds ≡ true → (k : ℕ) × (has_number v (s.actor (name k)).drew ≡ true)

-- ---- the sight grows with the clock

all_above : (e : ℕ) (rs : List Record) → AllLater e rs → list_all (λ r. nat_lt e r.epoch) rs ≡ true
all_above e [] h = refl
all_above e (r ∷ rs) h = and_from _ _ (lt-ltb e r.epoch h.0) (all_above e rs h.1)

pub grows : (base : Base) (most : Limits) (s t : State) → Kept base most s → Later s.clock t.clock → Grown base.epoch s.clock.records t.clock.records
grows base most s t kept later = record {
  later = later.more;
  is = later.is;
  above = ap (λ n. list_all (λ (r : Record). nat_lt n r.epoch) later.more) (last_is base most s kept) ∙ all_above s.clock.last later.more later.above;
}

pub sees : (base : Base) (most : Limits) (n m : ℕ → Name) (p q : Pass) (rs us : List Receipt) (ds vs : List ℕ) → Kept base most p.seen → p.told ≤ q.told → Later p.seen.clock q.seen.clock → Sees base (sight n p rs ds) (sight m q us vs)
sees base most n m p q rs us ds vs kept told later = record {
  told = told;
  grown = grows base most p.seen q.seen kept later;
  next_tid = later.next_tid;
  next_vertex = later.next_vertex;
}
