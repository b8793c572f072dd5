-- Each reply of each worker holds of all records.
use Rattle.std.proofs.Common.{◌≡◌, ℕ, ◌+◌, ◌≤◌, true, false, ◌&&◌, List, [], ◌∷◌, refl, sym, ap, ◌∙◌, subst, arith, ⊎_elim}
use Rattle.std.specs.Prelude.{◌==◌, Option, Some, None, is_some, is_none}
use Rattle.std.proofs.lemmas.Bool.{eqb-true, cases_Bool}
use Rattle.std.proofs.lemmas.List.Sums.{sum_by-append}
use Rattle.std.proofs.lemmas.Grind.{flat_map-append}
use Rattle.graph_model.specs.declared.record.Record.{Record}
use Rattle.graph_model.specs.declared.graph.Base.{Base}
use Rattle.graph_model.specs.declared.query.Query.{Query}
use Rattle.graph_model.specs.declared.query.Query.TheVariants as query
use Rattle.graph_model.specs.declared.change.Change.{Change}
use Rattle.graph_model.specs.declared.change.Change.TheVariants as change
use Rattle.graph_model.specs.Change.{vertex_of, size_at, put_sizes}
use Rattle.graph_model.specs.Graph.{after, see, vertex_at, has_edge}
use Rattle.graph_model.specs.Records.{all_changes}
use Rattle.request_text.specs.declared.request.Request.{Request}
use Rattle.request_text.specs.declared.request.Request.TheVariants as request
use Rattle.request_text.specs.declared.reply.Reply.{Reply}
use Rattle.request_text.specs.declared.reply.Reply.TheVariants as reply
use Rattle.graph_legal.specs.Lines.{Replied, EachLine, before}
use Rattle.graph_legal.specs.Traces.{Trace, trace_of, is_ending}
use Rattle.graph_legal.specs.Kinds.{is_in_kind}
use Rattle.graph_legal.specs.TraceOk.{Run, snapshot, here, HasVertex, MayTakeVertex, IsHeld, IsConflict, sizes_put, ReadHolds, IsAccepted, meets_edge, is_noted, IsLogFull, ChangeHolds, MakeHolds, CommitHolds, HoldsIn, LineHolds, printed}
use Rattle.graph_workers.proofs.Sights.{Txn, Committed_at, Pass, Grown, as_trace, as_traces, seen_run, CommitSays, Says, IsFree, IsHolder, IsNewest, TxnAfter, NumberDid, end_told, Worked}
use Rattle.graph_workers.specs.Lines.{Seated}
use Rattle.graph_workers.proofs.Closing.{record_of, EndHolds, Leads, Starts, NotEarlier, AllNotEarlier, Ran}
use Rattle.graph_workers.proofs.Growth.{grown_more, reads_seen}
use Rattle.graph_workers.proofs.Leading.{leads_more}
use Rattle.graph_workers.proofs.Standing.{Matches, which, at_pass, leads_all}
use Rattle.graph_workers.proofs.Receipted.{none_some, here as matches_here}
use Rattle.graph_workers.proofs.Recorded.{one_record}
use Rattle.graph_workers.proofs.Locks.{like, may_take, held, conflict, own_receipt}

-- ---- a transaction's read epoch was told to its pass

read_line : (base : Base) (p new : Pass) (q : Request) (r : Reply) (o n : Option Txn) (x : Txn) → TxnAfter q r o n → n ≡ Some x → NumberDid base p new q r → p.told ≤ new.told →
    ((y : Txn) → o ≡ Some y → y.read ≤ p.told) → x.read ≤ new.told
read_line base p new q (reply.Begun number e) o n x h is d told ih =
    let same = read_of (sym h ∙ is) in
    omega (arith, same, d.3)
  where
    read_in : Option Txn → ℕ
    read_in None = 0
    read_in (Some y) = y.read

    read_of : Some (record { number = number; read = e; own = []; touched = [] }) ≡ Some x → e ≡ x.read
    read_of f = ap read_in f
read_line base p new q r None n x h is d told ih = absurd (none_some x (sym h ∙ is))
read_line base p new q r (Some y) None x h is d told ih = absurd (none_some x is)
read_line base p new q r (Some y) (Some z) x h is d told ih =
    let was = ih y refl in
    let step = h.1.read in
    let one = same z x is in
    omega (arith, was, step, one, told)
  where
    same : (a b : Txn) → Some a ≡ Some b → a.read ≡ b.read
    same a b e = let f : a ≡ b = (cc) in ap (λ (c : Txn). c.read) f

pub reads_told : (base : Base) (first now : ℕ → ℕ → Pass) (lines : List Replied) → ((ph k : ℕ) → Starts base (first ph k)) → Worked base first lines now →
    (ph k s : ℕ) (x : Txn) → (now ph k).sessions s ≡ Some x → x.read ≤ (now ph k).told
reads_told base first now [] starts w ph k s x h = absurd (none_some x (sym ((starts ph k).idle s) ∙ ap (λ (p : Pass). p.sessions s) (sym (w ph k)) ∙ h))
reads_told base first now (a ∷ above) starts w ph k s x h = ⊎_elim
    (λ (same : (ph ≡ a.phase) × (k ≡ a.worker)). at_pass (λ i j. (now i j).sessions s ≡ Some x → x.read ≤ (now i j).told) a ph k same.0 same.1
    (λ g. ⊎_elim
    (λ (e : (s == a.session) ≡ true). read_line base (w.0 a.phase a.worker) (now a.phase a.worker) a.request a.reply ((w.0 a.phase a.worker).sessions a.session) ((now a.phase a.worker).sessions a.session) x
    w.2.session (ap (now a.phase a.worker).sessions (sym (eqb-true s a.session e)) ∙ g) w.2.number w.2.told
    (λ y is. reads_told base first w.0 above starts w.1 a.phase a.worker a.session y is))
    (λ (e : (s == a.session) ≡ false).
    let was = reads_told base first w.0 above starts w.1 a.phase a.worker s x (sym (w.2.others s e) ∙ g) in
    let told = w.2.told in
    omega (arith, was, told))
    (cases_Bool (s == a.session))) h)
    (λ (f : (ph == a.phase && k == a.worker) ≡ false). subst (λ (p : Pass). x.read ≤ p.told) (sym (w.3 ph k f))
    (reads_told base first w.0 above starts w.1 ph k s x (ap (λ (p : Pass). p.sessions s) (sym (w.3 ph k f)) ∙ h)))
    (which a ph k)

module _ (base : Base) (records : List Record) (all : List Replied) (R : Ran base records all) (now : ℕ → ℕ → Pass) (a : Replied) (above : List Replied)
    (w : Worked base R.first (a ∷ above) now) (st : Seated R.seat (a ∷ above)) (ends : (ph k : ℕ) → Leads base (now ph k) (R.last ph k)) (early : NotEarlier R.last a) where
  abbrev run : Run
  run = record { graph = base.graph; records = records; lines = all }

  abbrev old : Pass
  old = w.0 a.phase a.worker

  abbrev new : Pass
  new = now a.phase a.worker

  grown : Grown base.epoch new.seen records
  grown = grown_more base.epoch new.seen (R.last a.phase a.worker).seen records (ends a.phase a.worker).grown (R.closes.grown a.phase a.worker)

  module _ (x : Txn) (took unsure : List ℕ) (is : old.sessions a.session ≡ Some x) where
    abbrev t : Trace
    t = like x took unsure

    same_snapshot : snapshot run t ≡ snapshot (seen_run base new) (as_trace x)
    same_snapshot =
        let told = reads_told base R.first w.0 above R.starts w.1 a.phase a.worker a.session x is in
        let more = w.2.told in
        let visible = w.2.visible in
        reads_seen base base.graph new.seen records x.read (omega (arith, told, more, visible)) grown

    same_here : (v : ℕ) → here run t v ≡ here (seen_run base new) (as_trace x) v
    same_here v = ap (λ g. vertex_at v (after x.own g)) same_snapshot

    has_vertex : (v : ℕ) → HasVertex (seen_run base new) (as_trace x) v → HasVertex run t v
    has_vertex v h = ap is_some (same_here v) ∙ h

    same_edge : (v l d : ℕ) → has_edge (here run t v) l d ≡ has_edge (here (seen_run base new) (as_trace x) v) l d
    same_edge v l d = ap (λ o. has_edge o l d) (same_here v)

    same_meets : (c : Change) → meets_edge run t c ≡ meets_edge (seen_run base new) (as_trace x) c
    same_meets (change.Put v l d p) = same_edge v l d
    same_meets (change.Del v l d) = same_edge v l d
    same_meets c = refl

    same_noted : (c : Change) → is_noted run t c ≡ is_noted (seen_run base new) (as_trace x) c
    same_noted (change.Del v l d) = same_edge v l d
    same_noted c = refl

    more_put : (v l : ℕ) → sizes_put (seen_run base new) (as_trace x) v l ≤ sizes_put run t v l
    more_put v l =
        let whole : put_sizes v l (all_changes records) ≡ put_sizes v l (all_changes new.seen) + put_sizes v l (all_changes grown.later)
        = ap (λ rs. put_sizes v l (all_changes rs)) grown.is ∙ ap (put_sizes v l) (flat_map-append (λ r. r.changes) new.seen grown.later) ∙ sum_by-append (size_at v l) (all_changes new.seen) (all_changes grown.later) in
        omega (arith, whole)

    log_full : (c : Change) → IsLogFull (seen_run base new) (as_trace x) c → IsLogFull run t c
    log_full (change.Put v l d p) h = omega (arith, h, more_put v l)
    log_full (change.New v p) h = h
    log_full (change.Set v p) h = h
    log_full (change.Drop v) h = h
    log_full (change.Del v l d) h = h

    lock : (v : ℕ) → IsFree old a.session x v → MayTakeVertex run t a (before a above) v
    lock v h = may_take base records all R now a above w st ends x took unsure v is h

    accepted : (c : Change) → IsAccepted (IsFree old a.session x) (seen_run base new) (as_trace x) c → IsAccepted (MayTakeVertex run t a (before a above)) run t c
    accepted c h = record { vertex = has_vertex (vertex_of c) h.vertex; lock = lock (vertex_of c) h.lock; room = h.room }

    change_holds : (c : Change) (r : Reply) → a.reply ≡ r → ChangeHolds (IsFree old a.session x) (IsHolder old new x) (IsNewest base old new a.session x) (seen_run base new) (as_trace x) c r →
        ChangeHolds (MayTakeVertex run t a (before a above)) (IsHeld run t a (before a above)) (IsConflict run t a (before a above)) run t c r
    change_holds c reply.SetDone e h = accepted c h
    change_holds c reply.Dropped e h = accepted c h
    change_holds c reply.Added e h = (accepted c h.0, same_meets c ∙ h.1)
    change_holds c reply.Replaced e h = (accepted c h.0, same_meets c ∙ h.1)
    change_holds c reply.Gone e h = (accepted c h.0, same_meets c ∙ h.1)
    change_holds c reply.Absent e h = (has_vertex (vertex_of c) h.0, lock (vertex_of c) h.1, same_meets c ∙ h.2)
    change_holds c reply.NoVertex e h = ap is_none (same_here (vertex_of c)) ∙ h
    change_holds c (reply.Held v n) e h = (has_vertex v h.0, h.1, held base records all R now a above w st ends early x took unsure v n e is h.2)
    change_holds c (reply.Conflict v epoch) e h = (has_vertex v h.0, h.1, conflict base records all R now a above w st ends x took unsure v epoch e is h.2)
    change_holds c reply.TxnFull e h = (has_vertex (vertex_of c) h.0, lock (vertex_of c) h.1, h.2, same_noted c ∙ h.3)
    change_holds c reply.LogFull e h = (has_vertex (vertex_of c) h.0, lock (vertex_of c) h.1, log_full c h.2)
    change_holds c r e h = h

    make_holds : (p : List ℕ) (r : Reply) → MakeHolds (IsFree old a.session x) (as_trace x) p r → MakeHolds (MayTakeVertex run t a (before a above)) t p r
    make_holds p (reply.Vertex v) h = (lock v h.0, h.1)
    make_holds p r h = h

    read_holds : (q : Query) (r : Reply) → ReadHolds (seen_run base new) (as_trace x) q r → ReadHolds run t q r
    read_holds q reply.NoMemory h = h
    read_holds q r h = h ∙ ap (λ g. printed q (see g x.own q)) (sym same_snapshot)

    commit_holds : (r : Reply) → a.reply ≡ r → CommitSays x r → CommitHolds run t r
    commit_holds (reply.Committed epoch) e h =
        let mine : EndHolds R.last records (record { txn = x; ends = Committed_at epoch }) (Committed_at epoch) =
        subst (λ q. EndHolds R.last records (record { txn = x; ends = end_told q }) (end_told q)) e (own_receipt base records all R now a above w st ends x is (ap is_ending e)) in
        (h, one_record (record_of x epoch) records R.closes.continues.numbers mine)
    commit_holds reply.Ended e h = h
    commit_holds (reply.LogFault m n) e h = h
    commit_holds r e h = tt

    reply_holds : (q : Request) (r : Reply) → a.reply ≡ r → Says base old new a.session (Some x) q r → HoldsIn run (Some t) a (before a above) q r
    reply_holds request.Commit r e h = commit_holds r e h
    reply_holds (request.Get v) r e h = read_holds (query.Vertex v) r h
    reply_holds (request.Edge v l d) r e h = read_holds (query.Edge v l d) r h
    reply_holds (request.Scan v l) r e h = read_holds (query.Scan v l) r h
    reply_holds (request.Labels v) r e h = read_holds (query.Labels v) r h
    reply_holds (request.Vertex p) r e h = make_holds p r h
    reply_holds (request.Set v p) r e h = change_holds (change.Set v p) r e h
    reply_holds (request.Drop v) r e h = change_holds (change.Drop v) r e h
    reply_holds (request.Put v l d p) r e h = change_holds (change.Put v l d p) r e h
    reply_holds (request.Del v l d) r e h = change_holds (change.Del v l d) r e h
    reply_holds request.Begin r e h = tt
    reply_holds request.Abort r e h = tt
    reply_holds (request.Compact v l) r e h = tt

  holds_in : (t : Option Trace) (o : Option Txn) → Matches t o → old.sessions a.session ≡ o → Says base old new a.session o a.request a.reply → HoldsIn run t a (before a above) a.request a.reply
  holds_in None o m is h = tt
  holds_in (Some t) None m is h = absurd m
  holds_in (Some t) (Some x) m is h =
      let same : t ≡ like x t.took t.unsure = λ i. record { number = m.number i; read = m.read i; own = m.own i; took = t.took; unsure = t.unsure } in
      subst (λ z. HoldsIn run (Some z) a (before a above) a.request a.reply) (sym same) (reply_holds x t.took t.unsure is a.request a.reply refl h)

  pub line_holds : LineHolds run a above
  line_holds = holds_in (trace_of a above) (old.sessions a.session) (matches_here base R.seat R.first now a above R.starts st w) refl w.2.says

kind_same : (t : Option Trace) (o : Option Txn) (q : Request) (r : Reply) → Matches t o → is_in_kind (as_traces o) q r ≡ true → is_in_kind t q r ≡ true
kind_same None None q r m h = h
kind_same None (Some x) q r m h = absurd m
kind_same (Some t) None q r m h = absurd m
kind_same (Some t) (Some x) q r m h = h

module _ (base : Base) (records : List Record) (all : List Replied) (R : Ran base records all) where
  pub kinds : (now : ℕ → ℕ → Pass) (lines : List Replied) → Worked base R.first lines now → Seated R.seat lines → EachLine (λ a above. is_in_kind (trace_of a above) a.request a.reply ≡ true) lines
  kinds now [] w st = tt
  kinds now (a ∷ above) w st =
      (kind_same (trace_of a above) ((w.0 a.phase a.worker).sessions a.session) a.request a.reply (matches_here base R.seat R.first now a above R.starts st w) w.2.kind, kinds w.0 above w.1 st.1)

  -- Each reply of each worker holds.
  pub traces_hold : (now : ℕ → ℕ → Pass) (lines : List Replied) → Worked base R.first lines now → Seated R.seat lines → ((ph k : ℕ) → Leads base (now ph k) (R.last ph k)) → AllNotEarlier R.last lines →
      EachLine (LineHolds (record { graph = base.graph; records = records; lines = all })) lines
  traces_hold now [] w st ends early = tt
  traces_hold now (a ∷ above) w st ends early = (
    line_holds base records all R now a above w st ends early.0,
    traces_hold w.0 above w.1 st.1 (λ ph k. leads_more base (w.0 ph k) (now ph k) (R.last ph k) (leads_all base R.first now a above w ph k) (ends ph k)) early.1,
  )
