-- What is known of a kept state, and of a transaction that works in it.
use Rattle.std.proofs.Common.{◌≡◌, ℕ, ◌≤◌, ◌<◌, Bool, true, false, List, [], ◌∷◌, length, sym, ap, ◌∙◌, subst, Some}
use Rattle.std.specs.Prelude.{◌==◌, if◌then◌else◌, is_some}
use Rattle.std.proofs.lemmas.Bool.{and_parts, false≢true}
use Rattle.graph_model.specs.declared.graph.Base.{Base}
use Rattle.graph_model.specs.Graph.{vertex_at, after, at, has_edge}
use Rattle.graph_model.specs.Records.{IsGood, last_epoch}
use Rattle.edge_log.specs.Entries.{sizes}
use Rattle.vertex_locks.specs.declared.answer.Look.TheVariants.{Taken}
use Rattle.core_rows.specs.Rows.{log_at, lock_answer}
use Rattle.core_states.specs.declared.transaction.Stage.{Stage}
use Rattle.core_states.specs.declared.transaction.Stage.TheVariants.{Open, Queued, Decided}
use Rattle.core_states.specs.declared.transaction.Transaction.{Transaction}
use Rattle.core_states.specs.Names.{Name}
use Rattle.core_states.specs.Numbers.{has_record, outcome_of}
use Rattle.core_states.specs.Transactions.{is_open, is_working}
use Rattle.core_states.specs.RowEvents.{Limits, has_vertex, sees_edge}
use Rattle.core_states.specs.Changes.{sizes_put}
use Rattle.core_kept.specs.Good.{Place, Nowhere, is_in_log, StageOk}
use Rattle.core_states.specs.States.{State}
use Rattle.core_kept.specs.Bounds.{Kept}
use Rattle.core_states.specs.declared.clock.KeptOutcome.{KeptOutcome}
use Rattle.graph_model.specs.declared.record.Outcome.{Outcome}
use Rattle.graph_model.specs.declared.record.Outcome.TheVariants.{Failed}
use Rattle.core_states.specs.Durability.{IsCounted, AllCounted}
use Rattle.core_states.specs.Sound.{RunsAt}
use Rattle.core_laws.proofs.Histories.{last_groups}
use Rattle.core_laws.proofs.Answering.{sees_row, log_room}

-- the last epoch is that of the last record
pub last_is : (base : Base) (most : Limits) (s : State) → Kept base most s → last_epoch base.epoch s.clock.records ≡ s.clock.last
last_is base most s kept =
    let lawful = kept.0.1.lawful in
    ap (last_epoch base.epoch) (sym lawful.are) ∙ last_groups base.epoch lawful.groups lawful.grouped ∙ lawful.last_is

-- a transaction that works has no record
open_nowhere : (b : Stage) (settled : List ℕ) (p : Place) → is_open b ≡ true → StageOk b settled p → p ≡ Nowhere
open_nowhere Open settled p e ok = ok
open_nowhere Queued settled p e ok = absurd (false≢true e)
open_nowhere (Decided o) settled p e ok = absurd (false≢true e)

pub unrecorded : (base : Base) (most : Limits) (s : State) (i : Name) (x : Transaction) → Kept base most s → RunsAt s i x → is_working x ≡ true → has_record x.tid s.clock.records ≡ false
unrecorded base most s i x kept runs works =
    let good = kept.0.1 in
    let g = kept.0.0 in
    good.recorded x.tid ∙ ap is_in_log (open_nowhere x.stage x.settled (g.place x.tid) (and_parts (is_open x.stage) (length x.settled == 0) works).0 (good.txns i x runs).stage)

-- it finds each vertex and edge as its snapshot has them with its own changes
pub vertex_seen : (base : Base) (most : Limits) (s : State) (i : Name) (v : ℕ) (x : Transaction) → IsGood base → Kept base most s → RunsAt s i x → is_working x ≡ true →
    has_vertex x (s.row v) ≡ is_some (vertex_at v (after x.own (at base.graph s.clock.records x.read)))
vertex_seen base most s i v x good kept runs works = sym (sees_row base kept.0.0 s i x v good kept.0.1 runs works).there

pub edge_seen : (base : Base) (most : Limits) (s : State) (i : Name) (v l d : ℕ) (x : Transaction) → IsGood base → Kept base most s → RunsAt s i x → is_working x ≡ true → has_vertex x (s.row v) ≡ true →
    sees_edge x (s.row v) l d ≡ has_edge (vertex_at v (after x.own (at base.graph s.clock.records x.read))) l d
edge_seen base most s i v l d x good kept runs works has = sym ((sees_row base kept.0.0 s i x v good kept.0.1 runs works).edge l d has)

-- and a log that it may take has no more than what was put there
pub room_for : (base : Base) (most : Limits) (s : State) (i : Name) (v l : ℕ) (x : Transaction) → Kept base most s → RunsAt s i x → is_working x ≡ true → lock_answer (s.row v) x.tid x.read ≡ Taken →
    sizes (log_at (s.row v).logs l).entries ≤ sizes_put base s x v l
room_for base most s i v l x kept runs works look = log_room base kept.0.0 s i x v l kept.0.1 runs works look

-- the counts of an outcome that is kept
pub counted : (t b a low high : ℕ) (os : List KeptOutcome) → AllCounted low high os → outcome_of t os ≡ Some (Failed b a) → (low ≤ b) × (b < a) × (a ≤ high)
counted t b a low high [] all e = absurd (cc)
counted t b a low high (o ∷ os) all e = by_test (o.tid == t) (λ f. counted t b a low high os all.1 f) e
  where
    the : (x y : Outcome) → Some x ≡ Some y → x ≡ y
    the x y f = (cc)

    by_test : (c : Bool) → (outcome_of t os ≡ Some (Failed b a) → (low ≤ b) × (b < a) × (a ≤ high)) → (if c then Some o.outcome else outcome_of t os) ≡ Some (Failed b a) → (low ≤ b) × (b < a) × (a ≤ high)
    by_test true ih f = subst (IsCounted low high) (the o.outcome (Failed b a) f) all.0
    by_test false ih f = ih f
