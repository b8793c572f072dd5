-- What an event of a session with a transaction says, in the words of replies.
use Rattle.std.proofs.Common.{◌≡◌, ◌≢◌, ℕ, ◌+◌, ◌<◌, Bool, true, false, not, List, refl, sym, ap, ◌∙◌, arith, Option, Some, None}
use Rattle.std.specs.Prelude.{if◌then◌else◌, is_some, is_none}
use Rattle.std.proofs.lemmas.Bool.{ltb-true, ltb-false, false≢true}
use Rattle.std.proofs.lemmas.List.Sums.{sum_by-append}
use Rattle.std.proofs.lemmas.Grind.{flat_map-append}
use Rattle.graph_model.specs.declared.graph.Base.{Base}
use Rattle.graph_model.specs.declared.change.Change.{Change}
use Rattle.graph_model.specs.declared.change.Change.TheVariants as change
use Rattle.graph_model.specs.Vertex.{Vertex}
use Rattle.graph_model.specs.Change.{vertex_of, encoded_len, encoded_lens, edge_size, size_at, put_sizes}
use Rattle.graph_model.specs.Graph.{vertex_at, after as after_changes, at, has_edge}
use Rattle.graph_model.specs.Records.{IsGood, all_changes, transaction_most, list_most}
use Rattle.edge_log.specs.Entries.{sizes}
use Rattle.vertex_locks.specs.declared.answer.Look.TheVariants.{Taken}
use Rattle.core_rows.specs.Rows.{Row, log_at}
use Rattle.graph_legal.specs.TraceOk.{Run, here, HasVertex, IsAccepted, IsLogFull}
use Rattle.core_states.specs.declared.event.CoreAnswer.{CoreAnswer}
use Rattle.core_states.specs.declared.event.CoreAnswer.TheVariants as answer
use Rattle.core_states.specs.declared.transaction.Transaction.{Transaction}
use Rattle.core_states.specs.Names.{Name}
use Rattle.core_states.specs.Transactions.{is_working}
use Rattle.core_states.specs.RowEvents.{has_vertex, sees_edge, is_long, is_full, refusal}
use Rattle.core_states.specs.States.{State}
use Rattle.core_states.specs.Openings.{run_limits}
use Rattle.core_states.specs.Laters.{Later}
use Rattle.core_states.specs.Sound.{RunsAt}
use Rattle.graph_workers.specs.Passes.{Pass}
use Rattle.graph_workers.proofs.Working.{last_is, vertex_seen, edge_seen, room_for}
use Rattle.graph_workers.proofs.Growth.{reads_seen}
use Rattle.graph_workers.proofs.Sights.{Receipt, IsFree, as_trace, seen_run}
use Rattle.graph_workers.proofs.Views.{txn_view, sight, Tallies, grows}
use Rattle.graph_workers.proofs.Events.{Found}
use Rattle.graph_workers.proofs.Lining.{Fit}
use Rattle.graph_workers.proofs.Running.{Here}
use Rattle.graph_workers.proofs.Looking.{free}

-- ---- what a refusal says

is_none_if : (b : Bool) (z : CoreAnswer) → (if b then Some z else None) ≡ None → b ≡ false
is_none_if true z e = absurd (cc)
is_none_if false z e = refl

is_some_if : (b : Bool) (z : CoreAnswer) → (if b then Some z else None) ≡ Some z → b ≡ true
is_some_if true z e = refl
is_some_if false z e = absurd (cc)

-- a change that was made is not too long
pub not_long : (x : Transaction) (c : Change) (row : Row) → refusal run_limits x c row ≡ None → is_long run_limits x c ≡ false
not_long x (change.New v p) row e = is_none_if (is_long run_limits x (change.New v p)) answer.TxnFull e
not_long x (change.Set v p) row e = is_none_if (is_long run_limits x (change.Set v p)) answer.TxnFull e
not_long x (change.Drop v) row e = is_none_if (is_long run_limits x (change.Drop v)) answer.TxnFull e
not_long x (change.Put v l d p) row e = by_tests (is_long run_limits x (change.Put v l d p)) (is_full run_limits row l p) e
  where
    by_tests : (b c : Bool) → (if b then Some answer.TxnFull else (if c then Some answer.LogFull else None)) ≡ None → b ≡ false
    by_tests true c e = absurd (cc)
    by_tests false c e = refl
not_long x (change.Del v l d) row e = by_tests (sees_edge x row l d) (is_long run_limits x (change.Del v l d)) e
  where
    by_tests : (b c : Bool) → (if not b then Some answer.Absent else (if c then Some answer.TxnFull else None)) ≡ None → c ≡ false
    by_tests b false e = refl
    by_tests true true e = absurd (cc)
    by_tests false true e = absurd (cc)

pub too_long : (x : Transaction) (c : Change) (row : Row) → refusal run_limits x c row ≡ Some answer.TxnFull → is_long run_limits x c ≡ true
too_long x (change.New v p) row e = is_some_if (is_long run_limits x (change.New v p)) answer.TxnFull e
too_long x (change.Set v p) row e = is_some_if (is_long run_limits x (change.Set v p)) answer.TxnFull e
too_long x (change.Drop v) row e = is_some_if (is_long run_limits x (change.Drop v)) answer.TxnFull e
too_long x (change.Put v l d p) row e = by_tests (is_long run_limits x (change.Put v l d p)) (is_full run_limits row l p) e
  where
    by_tests : (b c : Bool) → (if b then Some answer.TxnFull else (if c then Some answer.LogFull else None)) ≡ Some answer.TxnFull → b ≡ true
    by_tests true c e = refl
    by_tests false true e = absurd (cc)
    by_tests false false e = absurd (cc)
too_long x (change.Del v l d) row e = by_tests (sees_edge x row l d) (is_long run_limits x (change.Del v l d)) e
  where
    by_tests : (b c : Bool) → (if not b then Some answer.Absent else (if c then Some answer.TxnFull else None)) ≡ Some answer.TxnFull → c ≡ true
    by_tests b true e = refl
    by_tests true false e = absurd (cc)
    by_tests false false e = absurd (cc)

-- a Del that is too long, or is made, meets its edge; one that is refused as absent does not
pub del_meets : (x : Transaction) (v l d : ℕ) (row : Row) (o : Option CoreAnswer) → o ≢ Some answer.Absent → refusal run_limits x (change.Del v l d) row ≡ o → sees_edge x row l d ≡ true
del_meets x v l d row o ne e = by_test (sees_edge x row l d) e
  where
    by_test : (b : Bool) → (if not b then Some answer.Absent else (if is_long run_limits x (change.Del v l d) then Some answer.TxnFull else None)) ≡ o → b ≡ true
    by_test true f = refl
    by_test false f = absurd (ne (sym f))

pub del_misses : (x : Transaction) (v l d : ℕ) (row : Row) → refusal run_limits x (change.Del v l d) row ≡ Some answer.Absent → sees_edge x row l d ≡ false
del_misses x v l d row e = by_tests (sees_edge x row l d) (is_long run_limits x (change.Del v l d)) e
  where
    by_tests : (b c : Bool) → (if not b then Some answer.Absent else (if c then Some answer.TxnFull else None)) ≡ Some answer.Absent → b ≡ false
    by_tests false c e = refl
    by_tests true true e = absurd (cc)
    by_tests true false e = absurd (cc)

pub put_full : (x : Transaction) (v l d : ℕ) (p : List ℕ) (row : Row) → refusal run_limits x (change.Put v l d p) row ≡ Some answer.LogFull → is_full run_limits row l p ≡ true
put_full x v l d p row e = by_tests (is_long run_limits x (change.Put v l d p)) (is_full run_limits row l p) e
  where
    by_tests : (b c : Bool) → (if b then Some answer.TxnFull else (if c then Some answer.LogFull else None)) ≡ Some answer.LogFull → c ≡ true
    by_tests true c e = absurd (cc)
    by_tests false true e = refl
    by_tests false false e = absurd (cc)

pub put_added : (b : Bool) → (if b then answer.Replaced else answer.Added) ≡ answer.Added → b ≡ false
put_added true e = absurd (cc)
put_added false e = refl

pub put_replaced : (b : Bool) → (if b then answer.Replaced else answer.Added) ≡ answer.Replaced → b ≡ true
put_replaced true e = refl
put_replaced false e = absurd (cc)

-- ---- at the state of an event

module _ (base : Base) (good : IsGood base) (name : ℕ → Name) (apart : (j k : ℕ) → name j ≡ name k → j ≡ k) (p new : Pass) (fit : Fit base name p) (s : ℕ) (rs : List Receipt) (ds : List ℕ) (t : Tallies name p.seen rs ds)
    (x : Transaction) (was : RunsAt p.seen (name s) x) (now : State) (h : Here base name apart s p.seen (p.seen.actor (name s)) x now) (later : Later now.clock new.seen.clock) where
  -- the snapshot is the same at the event and after the line
  pub snap : at base.graph new.seen.clock.records x.read ≡ at base.graph now.clock.records x.read
  snap = reads_seen base base.graph now.clock.records new.seen.clock.records x.read
      (let a = fit.reads s x was in let b = fit.visible in let c = h.moved.later.visible in let d = h.moved.kept.0.1.visible in let e = last_is base run_limits now h.moved.kept in omega (arith, a, b, c, d, e))
      (grows base run_limits now new.seen h.moved.kept later)

  abbrev run : List Receipt → List ℕ → Run
  run us vs = seen_run base (sight name new us vs)

  works : is_working x ≡ true
  works = fit.works s x was

  stands : (v : ℕ) → has_vertex x (now.row v) ≡ is_some (vertex_at v (after_changes x.own (at base.graph new.seen.clock.records x.read)))
  stands v = vertex_seen base run_limits now (name s) v x good h.moved.kept h.txn works ∙ ap (λ g. is_some (vertex_at v (after_changes x.own g))) (sym snap)

  pub has : (us : List Receipt) (vs : List ℕ) (v : ℕ) → has_vertex x (now.row v) ≡ true → HasVertex (run us vs) (as_trace (txn_view x)) v
  has us vs v e = sym (stands v) ∙ e

  pub lacks : (us : List Receipt) (vs : List ℕ) (v : ℕ) → has_vertex x (now.row v) ≡ false → is_none (here (run us vs) (as_trace (txn_view x)) v) ≡ true
  lacks us vs v e = none_of (here (run us vs) (as_trace (txn_view x)) v) (sym (stands v) ∙ e)
    where
      none_of : (o : Option Vertex) → is_some o ≡ false → is_none o ≡ true
      none_of None e = refl
      none_of (Some n) e = absurd (false≢true (sym e))

  pub edge : (us : List Receipt) (vs : List ℕ) (v l d : ℕ) (b : Bool) → has_vertex x (now.row v) ≡ true → sees_edge x (now.row v) l d ≡ b → has_edge (here (run us vs) (as_trace (txn_view x)) v) l d ≡ b
  edge us vs v l d b e f =
      ap (λ g. has_edge (vertex_at v (after_changes x.own g)) l d) snap ∙ sym (edge_seen base run_limits now (name s) v l d x good h.moved.kept h.txn works e) ∙ f

  pub lock : (v : ℕ) → Found x v Taken (now.row v) → IsFree (sight name p rs ds) s (txn_view x) v
  lock v f = free base good name apart p fit s rs ds t now h.moved x h.txn v f.works f.lock

  pub accepted : (us : List Receipt) (vs : List ℕ) (c : Change) → Found x (vertex_of c) Taken (now.row (vertex_of c)) → refusal run_limits x c (now.row (vertex_of c)) ≡ None →
      IsAccepted (IsFree (sight name p rs ds) s (txn_view x)) (run us vs) (as_trace (txn_view x)) c
  accepted us vs c f e = record {
    vertex = has us vs (vertex_of c) f.has;
    lock = lock (vertex_of c) f;
    room = ltb-false transaction_most (encoded_lens x.own + encoded_len c) (not_long x c (now.row (vertex_of c)) e);
  }

  pub long : (c : Change) → is_long run_limits x c ≡ true → transaction_most < encoded_lens x.own + encoded_len c
  long c e = ltb-true transaction_most (encoded_lens x.own + encoded_len c) e

  pub log_full : (us : List Receipt) (vs : List ℕ) (v l d : ℕ) (q : List ℕ) → Found x v Taken (now.row v) → is_full run_limits (now.row v) l q ≡ true → IsLogFull (run us vs) (as_trace (txn_view x)) (change.Put v l d q)
  log_full us vs v l d q f e =
      let full = ltb-true list_most (sizes (log_at (now.row v).logs l).entries + edge_size q) e in
      let room = room_for base run_limits now (name s) v l x h.moved.kept h.txn works f.lock in
      let whole : put_sizes v l (all_changes new.seen.clock.records) ≡ put_sizes v l (all_changes now.clock.records) + put_sizes v l (all_changes later.more)
      = ap (λ rs. put_sizes v l (all_changes rs)) later.is ∙ ap (put_sizes v l) (flat_map-append (λ r. r.changes) now.clock.records later.more) ∙ sum_by-append (size_at v l) (all_changes now.clock.records) (all_changes later.more) in
      omega (arith, full, room, whole)
