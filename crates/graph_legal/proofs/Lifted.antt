-- What a reply says stays true when later records come: one lemma for each part of what replies say.
use Rattle.std.proofs.Common.{◌≡◌, ℕ, ◌+◌, ◌≤◌, Bool, true, false, not, ◌&&◌, ◌||◌, List, [], ◌∷◌, ◌++◌, refl, sym, ap, ◌∙◌, arith}
use Rattle.std.specs.Prelude.{◌==◌, nat_lt, nat_le, is_some, is_none}
use Rattle.std.specs.List.{list_any, list_all}
use Rattle.std.proofs.lemmas.Bool.{both_ways, ltb-true, lt-leb, and_parts, or_from, or_left, and_right}
use Rattle.std.proofs.lemmas.List.Folds.{list_any-append}
use Rattle.std.proofs.lemmas.List.Sums.{sum_by-append}
use Rattle.std.proofs.lemmas.Grind.{flat_map-append}
use Rattle.graph_model.specs.declared.record.Record.{Record}
use Rattle.graph_model.specs.Vertex.{Vertex}
use Rattle.graph_model.specs.declared.query.Query.{Query}
use Rattle.graph_model.specs.declared.change.Change.{Change}
use Rattle.graph_model.specs.declared.change.Change.TheVariants as change
use Rattle.graph_model.specs.Change.{vertex_of, size_at, put_sizes}
use Rattle.graph_model.specs.Graph.{has_edge, after, see, vertex_at}
use Rattle.graph_model.specs.Records.{changes_vertex, all_changes}
use Rattle.request_text.specs.declared.reply.Reply.{Reply}
use Rattle.request_text.specs.declared.reply.Reply.TheVariants as reply
use Rattle.graph_legal.specs.Lines.{Replied}
use Rattle.graph_legal.specs.Traces.{Trace, has_committed, has_committed_beside, is_held_beside, is_held_elsewhere}
use Rattle.graph_legal.specs.TraceOk.{Run, snapshot, here, HasVertex, MayTakeVertex, IsHeld, IsConflict, sizes_put, ReadHolds, IsAccepted, meets_edge, is_noted, IsLogFull, ChangeHolds, MakeHolds, printed}
use Rattle.graph_legal.proofs.Growing.{at-later, are_new, known-later}

-- Line a of t, with the lines before it; later records of later epochs, of transactions that those lines did not commit.
pub record Facts (t : Trace) (a : Replied) (before : List Replied) (records later : List Record) (lines : List Replied) : Type 0 where
  pub last : ℕ
  pub read : t.read ≤ last
  pub rise : list_all (λ r. nat_lt last r.epoch) later ≡ true
  pub new : are_new before later ≡ true
  -- the records are those that the lines before it committed
  pub known : list_all (λ r. has_committed r.tid before) records ≡ true
  -- one worker does all
  pub elsewhere : (v n : ℕ) → is_held_elsewhere a lines v n ≡ false

none_unseen : (n e last : ℕ) (later : List Record) → e ≤ last → list_all (λ r. nat_lt last r.epoch) later ≡ true → list_any (λ r. r.tid == n && nat_le r.epoch e) later ≡ false
none_unseen n e last [] le h = refl
none_unseen n e last (r ∷ later) le h =
    let parts = and_parts (nat_lt last r.epoch) (list_all (λ s. nat_lt last s.epoch) later) h in
    let lt = ltb-true last r.epoch parts.0 in
    or_from _ _ (and_right (r.tid == n) _ (lt-leb r.epoch e (omega (arith, lt, le)))) (none_unseen n e last later le parts.1)

-- where each element passes q, p with q and p with anything that q implies agree
pub any_known : (p q s : Record → Bool) (records : List Record) → list_all q records ≡ true →
    list_any (λ r. p r && (q r || s r)) records ≡ list_any p records
any_known p q s [] h = refl
any_known p q s (r ∷ records) h =
    let parts = and_parts (q r) (list_all q records) h in
    rw (parts.0, any_known p q s records parts.1) (ap (λ b. b || list_any p records) (and_all (p r)))
  where
    and_all : (b : Bool) → (b && true) ≡ b
    and_all true = refl
    and_all false = refl

module _ (graph : List Vertex) (t : Trace) (a : Replied) (before : List Replied) (records later : List Record) (lines all : List Replied) (f : Facts t a before records later lines) where
  abbrev now : Run
  now = record { graph = graph; records = records; lines = lines }

  abbrev then : Run
  then = record { graph = graph; records = records ++ later; lines = all }

  same_snapshot : snapshot then t ≡ snapshot now t
  same_snapshot = at-later graph records later t.read f.last f.read f.rise

  same_here : (v : ℕ) → here then t v ≡ here now t v
  same_here v = ap (λ g. vertex_at v (after t.own g)) same_snapshot

  has_vertex : (v : ℕ) → HasVertex now t v → HasVertex then t v
  has_vertex v h = ap is_some (same_here v) ∙ h

  has_none : (v : ℕ) → is_none (here now t v) ≡ true → is_none (here then t v) ≡ true
  has_none v h = ap is_none (same_here v) ∙ h

  same_edge : (v l d : ℕ) → has_edge (here then t v) l d ≡ has_edge (here now t v) l d
  same_edge v l d = ap (λ o. has_edge o l d) (same_here v)

  same_meets : (c : Change) → meets_edge then t c ≡ meets_edge now t c
  same_meets (change.Put v l d p) = same_edge v l d
  same_meets (change.Del v l d) = same_edge v l d
  same_meets c = refl

  same_noted : (c : Change) → is_noted then t c ≡ is_noted now t c
  same_noted (change.Del v l d) = same_edge v l d
  same_noted c = refl

  may_take : (v : ℕ) → MayTakeVertex now t a before v → MayTakeVertex then t a before v
  may_take v h = record {
    free = h.free;
    current = known-later (λ r. nat_lt t.read r.epoch && changes_vertex v r) before records later f.new ∙ h.current;
  }

  held : (v n : ℕ) → IsHeld now t a before v n → IsHeld then t a before v n
  held v n h = record {
    other = h.other;
    takes = beside (is_held_beside a before v n) (is_held_elsewhere a lines v n) (is_held_elsewhere a all v n) (f.elsewhere v n) h.takes;
    unseen = list_any-append (λ r. r.tid == n && nat_le r.epoch t.read) records later ∙ or_from _ _ h.unseen (none_unseen n t.read f.last later f.read f.rise);
  }
    where
      beside : (x y z : Bool) → y ≡ false → (x || y) ≡ true → (x || z) ≡ true
      beside true y z e h = refl
      beside false y z e h = absurd (both_ways y e h)

  conflict : (v e : ℕ) → IsConflict now t a before v e → IsConflict then t a before v e
  conflict v e h = record {
    later = h.later;
    changed = list_any-append (λ r. (r.epoch == e && changes_vertex v r) && (has_committed r.tid before || not (has_committed_beside a r.tid all))) records later
        ∙ or_left _ _ (any_known (λ r. r.epoch == e && changes_vertex v r) (λ r. has_committed r.tid before) (λ r. not (has_committed_beside a r.tid all)) records f.known
        ∙ sym (any_known (λ r. r.epoch == e && changes_vertex v r) (λ r. has_committed r.tid before) (λ r. not (has_committed_beside a r.tid lines)) records f.known)
        ∙ h.changed);
    free = h.free;
    last = known-later (λ r. nat_lt e r.epoch && changes_vertex v r) before records later f.new ∙ h.last;
  }

  more_put : (v l : ℕ) → sizes_put now t v l ≤ sizes_put then t v l
  more_put v l =
      let whole : put_sizes v l (all_changes (records ++ later)) ≡ put_sizes v l (all_changes records) + put_sizes v l (all_changes later)
      = ap (put_sizes v l) (flat_map-append (λ r. r.changes) records later) ∙ sum_by-append (size_at v l) (all_changes records) (all_changes later) in
      omega (arith, whole)

  log_full : (c : Change) → IsLogFull now t c → IsLogFull then t c
  log_full (change.Put v l d p) h = omega (arith, h, more_put v l)
  log_full (change.New v p) h = h
  log_full (change.Set v p) h = h
  log_full (change.Drop v) h = h
  log_full (change.Del v l d) h = h

  accepted : (c : Change) → IsAccepted (MayTakeVertex now t a before) now t c → IsAccepted (MayTakeVertex then t a before) then t c
  accepted c h = record { vertex = has_vertex (vertex_of c) h.vertex; lock = may_take (vertex_of c) h.lock; room = h.room }

  pub change_later : (c : Change) (r : Reply) → ChangeHolds (MayTakeVertex now t a before) (IsHeld now t a before) (IsConflict now t a before) now t c r → ChangeHolds (MayTakeVertex then t a before) (IsHeld then t a before) (IsConflict then t a before) then t c r
  change_later c reply.SetDone h = accepted c h
  change_later c reply.Dropped h = accepted c h
  change_later c reply.Added h = (accepted c h.0, same_meets c ∙ h.1)
  change_later c reply.Replaced h = (accepted c h.0, same_meets c ∙ h.1)
  change_later c reply.Gone h = (accepted c h.0, same_meets c ∙ h.1)
  change_later c reply.Absent h = (has_vertex (vertex_of c) h.0, may_take (vertex_of c) h.1, same_meets c ∙ h.2)
  change_later c reply.NoVertex h = has_none (vertex_of c) h
  change_later c (reply.Held v n) h = (has_vertex v h.0, h.1, held v n h.2)
  change_later c (reply.Conflict v e) h = (has_vertex v h.0, h.1, conflict v e h.2)
  change_later c reply.TxnFull h = (has_vertex (vertex_of c) h.0, may_take (vertex_of c) h.1, h.2, same_noted c ∙ h.3)
  change_later c reply.LogFull h = (has_vertex (vertex_of c) h.0, may_take (vertex_of c) h.1, log_full c h.2)
  change_later c r h = h

  pub make_later : (p : List ℕ) (r : Reply) → MakeHolds (MayTakeVertex now t a before) t p r → MakeHolds (MayTakeVertex then t a before) t p r
  make_later p (reply.Vertex v) h = (may_take v h.0, h.1)
  make_later p r h = h

  pub read_later : (q : Query) (r : Reply) → ReadHolds now t q r → ReadHolds then t q r
  read_later q reply.NoMemory h = h
  read_later q r h = h ∙ ap (λ g. printed q (see g t.own q)) (sym same_snapshot)
