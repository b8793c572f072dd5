-- The other lines: reads, new vertices, the ends of transactions, and the lines outside.
use Rattle.std.proofs.Common.{◌≡◌, ℕ, zero, suc, ◌+◌, ◌≤◌, ◌<◌, Bool, true, false, List, [], ◌∷◌, length, refl, sym, ap, ◌∙◌, subst, arith, inl, inr, ◌⊎◌, Option, Some, None}
use Rattle.std.specs.Prelude.{◌==◌, if◌then◌else◌, nat_le}
use Rattle.std.proofs.lemmas.Bool.{false≢true, le-leb, ltb-false, ltb-true}
use Rattle.io_edges.specs.Faults.{Rose}
use Rattle.graph_model.specs.declared.graph.Base.{Base}
use Rattle.graph_model.specs.declared.change.Change.TheVariants as change
use Rattle.graph_model.specs.declared.query.Query.{Query}
use Rattle.graph_model.specs.declared.query.Query.TheVariants as query
use Rattle.graph_model.specs.declared.query.Answer.{Answer}
use Rattle.graph_model.specs.declared.record.Record.{Record}
use Rattle.graph_model.specs.Change.{encoded_len, encoded_lens}
use Rattle.graph_model.specs.Graph.{at, see}
use Rattle.graph_model.specs.Records.{IsGood, transaction_most}
use Rattle.request_text.specs.declared.request.Request.{Request}
use Rattle.request_text.specs.declared.request.Request.TheVariants as request
use Rattle.request_text.specs.declared.reply.Reply.{Reply}
use Rattle.request_text.specs.declared.reply.Reply.TheVariants as reply
use Rattle.graph_legal.specs.Traces.{noted_at, taken_at}
use Rattle.graph_legal.specs.Kinds.{is_reply_inside}
use Rattle.graph_legal.specs.TraceOk.{printed}
use Rattle.vertex_locks.specs.declared.answer.Look.{Look}
use Rattle.vertex_locks.specs.declared.answer.Look.TheVariants.{Taken, Held, Conflict}
use Rattle.core_rows.specs.Rows.{lock_answer}
use Rattle.core_states.specs.declared.actor.Actor.{Actor}
use Rattle.core_states.specs.declared.actor.LastLook.{LastLook}
use Rattle.core_states.specs.declared.event.Act.TheVariants as act
use Rattle.core_states.specs.declared.event.CoreAnswer.TheVariants as answer
use Rattle.core_states.specs.declared.transaction.End.TheVariants as core_end
use Rattle.core_states.specs.declared.transaction.Stage.TheVariants.{Open}
use Rattle.core_states.specs.declared.transaction.Transaction.{Transaction}
use Rattle.core_states.specs.Names.{Name}
use Rattle.core_states.specs.Numbers.{has_record}
use Rattle.core_states.specs.Transactions.{is_working, changing, receipt_of, end_of}
use Rattle.core_states.specs.States.{State, after}
use Rattle.core_states.specs.Openings.{run_limits}
use Rattle.core_states.specs.Laters.{Later}
use Rattle.core_states.specs.declared.transaction.Receipt.{Receipt as CoreReceipt}
use Rattle.core_states.specs.Sound.{RunsAt, InReceipts}
use Rattle.core_states.specs.Sound.{EndAgrees}
use Rattle.core_kept.proofs.Keeping.{run_allowed}
use Rattle.core_laws.proofs.Sounds.{kept_sound}
use Rattle.core_laws.proofs.Laters.{new_later}
use Rattle.core_laws.proofs.Reading.{read_sees}
use Rattle.core_calls.specs.Events.{Told, told, Did}
use Rattle.core_calls.specs.Calls.{First, Once, Nothing, Leaves, Waits, Queues, Applies, Reads}
use Rattle.graph_workers.specs.Requests.{ReadMakes, MakeMakes, CommitMakes}
use Rattle.graph_workers.specs.Passes.{Pass, told_after, IsFaulted, EndIs}
use Rattle.graph_workers.proofs.Working.{last_is, unrecorded, counted}
use Rattle.graph_workers.proofs.Sights.{Receipt, TxnGrows, TxnAfter, receipt_told, end_told, Without, NumberDid, DrawnDid, Says}
use Rattle.graph_workers.proofs.Views.{txn_view, sight, EndAlike, Tallies}
use Rattle.graph_workers.proofs.Events.{same_more, mid_enqueue, drawn, draw_spent, made_new, read, queued}
use Rattle.graph_workers.proofs.Moving.{Moved, moved, moved_on, moved_by, moved_more, did_first, did_nothing}
use Rattle.graph_workers.proofs.Lining.{Fit, LineOut}
use Rattle.graph_workers.proofs.Running.{Here, here_on, at_event, given_up, Waited, waited, committed}
use Rattle.graph_workers.proofs.Looking.{free}
use Rattle.graph_workers.proofs.Inside.{grows_by, grows_none, still_open, stays, leaves}
use Rattle.graph_workers.proofs.Saying.{snap}
use Rattle.graph_workers.proofs.Changes.{start, given_line}

-- an end without a record is like none that was told
pub lost : (l : Option LastLook) → EndAlike (end_of Open l) Without
lost None = tt
lost (Some l) = by_look l.look
  where
    by_look : (k : Look) → EndAlike (end_of Open (Some (record { v = l.v; look = k }))) Without
    by_look Taken = tt
    by_look (Held u) = tt
    by_look (Conflict e) = tt

module _ (base : Base) (good : IsGood base) (name : ℕ → Name) (apart : (j k : ℕ) → name j ≡ name k → j ≡ k) (p new : Pass) (fit : Fit base name p) (s : ℕ) (rs : List Receipt) (ds : List ℕ) (t : Tallies name p.seen rs ds)
    (x : Transaction) (was : RunsAt p.seen (name s) x) where
  abbrev i : Name
  i = name s

  abbrev a : Actor
  a = p.seen.actor (name s)

  abbrev Begin : State → Type 0
  Begin now = Here base name apart s p.seen (p.seen.actor (name s)) x now

  begins : Begin p.seen
  begins = start base good name apart p new fit s rs ds t x was

  works : is_working x ≡ true
  works = fit.works s x was

  -- ---- lines that change nothing

  quiet_line : (q : Request) (r : Reply) (kind : is_reply_inside q r ≡ true) → new.told ≡ p.told → Begin new.seen → receipt_told r (Some (txn_view x)) ≡ [] →
      ((new.seen.actor (name s)).drew ≡ (p.seen.actor (name s)).drew → DrawnDid q r (p.seen.actor (name s)).drew (new.seen.actor (name s)).drew) → (TxnGrows q r (txn_view x) (txn_view x) → TxnAfter q r (Some (txn_view x)) (Some (txn_view x))) →
      noted_at q r ≡ [] → taken_at q r ≡ [] → ((us : List Receipt) (vs : List ℕ) → Says base (sight name p rs ds) (sight name new us vs) s (Some (txn_view x)) q r) →
      ((us : List Receipt) (vs : List ℕ) → NumberDid base (sight name p rs ds) (sight name new us vs) q r) → LineOut base name p rs ds s q r new
  quiet_line q r kind told h none drew wrap notes takes say number = stays base name p new fit s rs ds t x was h.moved q r kind told x h.txn works refl h.receipts (drew h.drew) none (wrap (grows_none q r x x refl refl refl refl notes takes)) say number

  nothing : (es : List Told) → Nothing es → Did base run_limits name (name s) es p.seen new.seen → Begin new.seen
  nothing es e d = here_on base name apart s p.seen (p.seen.actor (name s)) x p.seen new.seen begins (did_nothing base name apart s es p.seen new.seen e d)

  -- ---- reads

  record ReadAt (q : Query) (shows : Answer) : Type 0 where
    here : Begin new.seen
    sees : shows ≡ see (at base.graph new.seen.clock.records x.read) x.own q

  read_at : (q : Query) (shows : Answer) (es : List Told) → Reads q shows es → Did base run_limits name (name s) es p.seen new.seen → ReadAt q shows
  read_at q shows es reads d =
      let e = at_event base name apart s p.seen (p.seen.actor (name s)) x (act.Read q) (answer.Shown shows) [] es p.seen new.seen begins reads d in
      let l = read e.now (name s) x q shows e.here.txn e.so in
      let later : Later e.now.clock new.seen.clock = subst (λ k. Later k new.seen.clock) l.clock e.did.later in
      record {
        here = record {
          moved = moved_more base name apart s p.seen e.now new.seen e.here.moved (moved_more base name apart s e.now (after run_limits e.now (name s) (act.Read q)) new.seen (moved_by base name apart s e.now (act.Read q) e.here.moved.kept)
              (moved_on base name apart s (after run_limits e.now (name s) (act.Read q)) new.seen e.did));
          txn = ap (λ (b : Actor). b.txn) (e.did.same s ∙ l.actor) ∙ l.tells.txn;
          receipts = ap (λ (b : Actor). b.receipts) (e.did.same s ∙ l.actor) ∙ l.tells.receipts ∙ e.here.receipts;
          drew = ap (λ (b : Actor). b.drew) (e.did.same s ∙ l.actor) ∙ l.tells.drew ∙ e.here.drew;
        };
        sees = the (sym e.so ∙ read_sees base run_limits e.now (name s) (act.Read q) good e.here.moved.kept q x refl e.here.txn works)
            ∙ ap (λ g. see g x.own q) (sym (snap base good name apart p new fit s rs ds t x was e.now e.here later));
      }
    where
      the : {y z : Answer} → answer.Shown y ≡ answer.Shown z → y ≡ z
      the f = (cc)

  -- a read that has an answer
  answered_line : (c : Query) (q : Request) (r : Reply) (kind : is_reply_inside q r ≡ true) → new.told ≡ p.told → (es : List Told) → ((y : Answer) × Reads c y es × (r ≡ printed c y)) → Did base run_limits name (name s) es p.seen new.seen → receipt_told r (Some (txn_view x)) ≡ [] →
      ((new.seen.actor (name s)).drew ≡ (p.seen.actor (name s)).drew → DrawnDid q r (p.seen.actor (name s)).drew (new.seen.actor (name s)).drew) → (TxnGrows q r (txn_view x) (txn_view x) → TxnAfter q r (Some (txn_view x)) (Some (txn_view x))) →
      noted_at q r ≡ [] → taken_at q r ≡ [] → ((us : List Receipt) (vs : List ℕ) → r ≡ printed c (see (at base.graph new.seen.clock.records x.read) x.own c) → Says base (sight name p rs ds) (sight name new us vs) s (Some (txn_view x)) q r) →
      ((us : List Receipt) (vs : List ℕ) → NumberDid base (sight name p rs ds) (sight name new us vs) q r) → LineOut base name p rs ds s q r new
  answered_line c q r kind told es makes d none drew wrap notes takes say number =
      let R = read_at c makes.0 es makes.1 d in
      quiet_line q r kind told R.here none drew wrap notes takes (λ us vs. say us vs (makes.2 ∙ ap (printed c) R.sees)) number

  -- and one that has none
  unread_line : (c : Query) (q : Request) (kind : is_reply_inside q reply.NoMemory ≡ true) → new.told ≡ p.told → (es : List Told) → (Nothing es ⊎ ((y : Answer) × Reads c y es)) → Did base run_limits name (name s) es p.seen new.seen →
      ((new.seen.actor (name s)).drew ≡ (p.seen.actor (name s)).drew → DrawnDid q reply.NoMemory (p.seen.actor (name s)).drew (new.seen.actor (name s)).drew) → noted_at q reply.NoMemory ≡ [] → taken_at q reply.NoMemory ≡ [] →
      ((us : List Receipt) (vs : List ℕ) → Says base (sight name p rs ds) (sight name new us vs) s (Some (txn_view x)) q reply.NoMemory) →
      ((us : List Receipt) (vs : List ℕ) → NumberDid base (sight name p rs ds) (sight name new us vs) q reply.NoMemory) → LineOut base name p rs ds s q reply.NoMemory new
  unread_line c q kind told es (inl makes) d drew notes takes say number = quiet_line q reply.NoMemory kind told (nothing es makes d) refl drew (λ g. (refl, g)) notes takes say number
  unread_line c q kind told es (inr makes) d drew notes takes say number = quiet_line q reply.NoMemory kind told (read_at c makes.0 es makes.1 d).here refl drew (λ g. (refl, g)) notes takes say number

  pub get_line : (v : ℕ) (r : Reply) (es : List Told) → is_reply_inside (request.Get v) r ≡ true → new.told ≡ told_after p.told r → ReadMakes (query.Vertex v) r es → Did base run_limits name (name s) es p.seen new.seen → LineOut base name p rs ds s (request.Get v) r new
  get_line v (reply.Value z) es kind told makes d = answered_line (query.Vertex v) (request.Get v) (reply.Value z) kind told es makes d refl (λ e. e) (λ g. (refl, g)) refl refl (λ us vs e. e) (λ us vs. tt)
  get_line v reply.Lacking es kind told makes d = answered_line (query.Vertex v) (request.Get v) reply.Lacking kind told es makes d refl (λ e. e) (λ g. (refl, g)) refl refl (λ us vs e. e) (λ us vs. tt)
  get_line v reply.NoMemory es kind told makes d = unread_line (query.Vertex v) (request.Get v) kind told es makes d (λ e. e) refl refl (λ us vs. tt) (λ us vs. tt)
  get_line v r es kind told makes d = absurd (false≢true kind)

  pub edge_line : (v l w : ℕ) (r : Reply) (es : List Told) → is_reply_inside (request.Edge v l w) r ≡ true → new.told ≡ told_after p.told r → ReadMakes (query.Edge v l w) r es → Did base run_limits name (name s) es p.seen new.seen → LineOut base name p rs ds s (request.Edge v l w) r new
  edge_line v l w (reply.Edge z) es kind told makes d = answered_line (query.Edge v l w) (request.Edge v l w) (reply.Edge z) kind told es makes d refl (λ e. e) (λ g. (refl, g)) refl refl (λ us vs e. e) (λ us vs. tt)
  edge_line v l w reply.Absent es kind told makes d = answered_line (query.Edge v l w) (request.Edge v l w) reply.Absent kind told es makes d refl (λ e. e) (λ g. (refl, g)) refl refl (λ us vs e. e) (λ us vs. tt)
  edge_line v l w reply.NoVertex es kind told makes d = answered_line (query.Edge v l w) (request.Edge v l w) reply.NoVertex kind told es makes d refl (λ e. e) (λ g. (refl, g)) refl refl (λ us vs e. e) (λ us vs. tt)
  edge_line v l w reply.NoMemory es kind told makes d = unread_line (query.Edge v l w) (request.Edge v l w) kind told es makes d (λ e. e) refl refl (λ us vs. tt) (λ us vs. tt)
  edge_line v l w r es kind told makes d = absurd (false≢true kind)

  pub scan_line : (v l : ℕ) (r : Reply) (es : List Told) → is_reply_inside (request.Scan v l) r ≡ true → new.told ≡ told_after p.told r → ReadMakes (query.Scan v l) r es → Did base run_limits name (name s) es p.seen new.seen → LineOut base name p rs ds s (request.Scan v l) r new
  scan_line v l (reply.Edges z) es kind told makes d = answered_line (query.Scan v l) (request.Scan v l) (reply.Edges z) kind told es makes d refl (λ e. e) (λ g. (refl, g)) refl refl (λ us vs e. e) (λ us vs. tt)
  scan_line v l reply.NoVertex es kind told makes d = answered_line (query.Scan v l) (request.Scan v l) reply.NoVertex kind told es makes d refl (λ e. e) (λ g. (refl, g)) refl refl (λ us vs e. e) (λ us vs. tt)
  scan_line v l reply.NoMemory es kind told makes d = unread_line (query.Scan v l) (request.Scan v l) kind told es makes d (λ e. e) refl refl (λ us vs. tt) (λ us vs. tt)
  scan_line v l r es kind told makes d = absurd (false≢true kind)

  pub labels_line : (v : ℕ) (r : Reply) (es : List Told) → is_reply_inside (request.Labels v) r ≡ true → new.told ≡ told_after p.told r → ReadMakes (query.Labels v) r es → Did base run_limits name (name s) es p.seen new.seen → LineOut base name p rs ds s (request.Labels v) r new
  labels_line v (reply.Labels z) es kind told makes d = answered_line (query.Labels v) (request.Labels v) (reply.Labels z) kind told es makes d refl (λ e. e) (λ g. (refl, g)) refl refl (λ us vs e. e) (λ us vs. tt)
  labels_line v reply.NoVertex es kind told makes d = answered_line (query.Labels v) (request.Labels v) reply.NoVertex kind told es makes d refl (λ e. e) (λ g. (refl, g)) refl refl (λ us vs e. e) (λ us vs. tt)
  labels_line v reply.NoMemory es kind told makes d = unread_line (query.Labels v) (request.Labels v) kind told es makes d (λ e. e) refl refl (λ us vs. tt) (λ us vs. tt)
  labels_line v r es kind told makes d = absurd (false≢true kind)

  -- ---- lines without an event

  pub begin_line : (r : Reply) (es : List Told) → is_reply_inside request.Begin r ≡ true → new.told ≡ told_after p.told r → Nothing es → Did base run_limits name (name s) es p.seen new.seen → LineOut base name p rs ds s request.Begin r new
  begin_line reply.TxnOpen es kind told makes d = quiet_line request.Begin reply.TxnOpen kind told (nothing es makes d) refl (λ e. e) (λ g. (refl, g)) refl refl (λ us vs. tt) (λ us vs. tt)
  begin_line r es kind told makes d = absurd (false≢true kind)

  pub compact_line : (v l : ℕ) (r : Reply) (es : List Told) → is_reply_inside (request.Compact v l) r ≡ true → new.told ≡ told_after p.told r → Nothing es → Did base run_limits name (name s) es p.seen new.seen → LineOut base name p rs ds s (request.Compact v l) r new
  compact_line v l reply.Compacted es kind told makes d = quiet_line (request.Compact v l) reply.Compacted kind told (nothing es makes d) refl (λ e. e) (λ g. (refl, g)) refl refl (λ us vs. tt) (λ us vs. tt)
  compact_line v l reply.NoMemory es kind told makes d = quiet_line (request.Compact v l) reply.NoMemory kind told (nothing es makes d) refl (λ e. e) (λ g. (refl, g)) refl refl (λ us vs. tt) (λ us vs. tt)
  compact_line v l r es kind told makes d = absurd (false≢true kind)

  -- ---- a new vertex

  -- a number was drawn
  record DrawnAt (v : ℕ) (rest : List Told) : Type 0 where
    state : State
    moved : Moved base name s p.seen state
    txn : (state.actor (name s)).txn ≡ Some (record x { drawn = v ∷ x.drawn })
    receipts : (state.actor (name s)).receipts ≡ (p.seen.actor (name s)).receipts
    drew : (state.actor (name s)).drew ≡ v ∷ (p.seen.actor (name s)).drew
    low : p.seen.clock.next_vertex ≤ v
    high : v < state.clock.next_vertex
    did : Did base run_limits name (name s) rest state new.seen

  drawn_at : (v : ℕ) (rest es : List Told) → es ≡ told act.Draw (answer.Number v) ∷ rest → Did base run_limits name (name s) es p.seen new.seen → DrawnAt v rest
  drawn_at v rest es is d =
      let e = at_event base name apart s p.seen (p.seen.actor (name s)) x act.Draw (answer.Number v) rest es p.seen new.seen begins is d in
      let l = drawn e.now (name s) x v e.here.txn e.so in
      let st = after run_limits e.now (name s) act.Draw in
      let number = l.tells.number in
      let up = e.here.moved.later.next_vertex in
      let next = ap (λ k. k.next_vertex) l.clock ∙ l.tells.next_vertex in
      record {
        state = st;
        moved = moved_more base name apart s p.seen e.now st e.here.moved (moved_by base name apart s e.now act.Draw e.here.moved.kept);
        txn = ap (λ (b : Actor). b.txn) l.actor ∙ l.tells.txn;
        receipts = ap (λ (b : Actor). b.receipts) l.actor ∙ l.tells.receipts ∙ e.here.receipts;
        drew = ap (λ (b : Actor). b.drew) l.actor ∙ l.tells.drew ∙ ap (λ xs. v ∷ xs) e.here.drew;
        low = omega (arith, number, up);
        high = omega (arith, number, next);
        did = e.did;
      }

  made_vertex : (v : ℕ) (z : List ℕ) (es : List Told) → is_reply_inside (request.Vertex z) (reply.Vertex v) ≡ true → new.told ≡ p.told → First act.Draw (answer.Number v) (Once (act.New v z) answer.Done) es → Did base run_limits name (name s) es p.seen new.seen →
      LineOut base name p rs ds s (request.Vertex z) (reply.Vertex v) new
  made_vertex v z es kind told makes d =
      let D = drawn_at v makes.0 es makes.1 d in
      let f = did_first base name apart s (act.New v z) answer.Done [] makes.0 D.state new.seen makes.2 D.did in
      let y = record x { drawn = v ∷ x.drawn } in
      let run : RunsAt f.0 (name s) y = ap (λ (b : Actor). b.txn) (f.1.same s) ∙ D.txn in
      let l = made_new f.0 (name s) y v z run f.2 in
      let st = after run_limits f.0 (name s) (act.New v z) in
      let m2 = moved_more base name apart s p.seen D.state f.0 D.moved (moved_on base name apart s D.state f.0 f.1) in
      let m3 = moved_more base name apart s p.seen f.0 new.seen m2 (moved_more base name apart s f.0 st new.seen (moved_by base name apart s f.0 (act.New v z) m2.kept) (moved_on base name apart s st new.seen f.3)) in
      let fresh = (kept_sound base run_limits f.0 good run_allowed m2.kept).history.unused (name s) y run v l.tells.drawn in
      let lock : lock_answer (f.0.row v) y.tid y.read ≡ Taken = ap (λ row. lock_answer row y.tid y.read) fresh ∙ is_free y.read in
      let up = f.1.later.next_vertex in
      let up2 : f.0.clock.next_vertex ≤ new.seen.clock.next_vertex = subst (λ k. k.next_vertex ≤ new.seen.clock.next_vertex) l.clock f.3.later.next_vertex in
      stays base name p new fit s rs ds t x was m3 (request.Vertex z) (reply.Vertex v) kind told (changing y (change.New v z)) (ap (λ (b : Actor). b.txn) (f.3.same s ∙ l.actor) ∙ l.tells.txn) works refl
      (ap (λ (b : Actor). b.receipts) (f.3.same s ∙ l.actor) ∙ l.tells.receipts ∙ ap (λ (b : Actor). b.receipts) (f.1.same s) ∙ D.receipts)
      (ap (λ (b : Actor). b.drew) (f.3.same s ∙ l.actor) ∙ l.tells.drew ∙ ap (λ (b : Actor). b.drew) (f.1.same s) ∙ D.drew)
      refl (refl, grows_by (request.Vertex z) (reply.Vertex v) x (changing y (change.New v z)) v refl refl refl refl (inl refl))
      (λ us vs. (free base good name apart p fit s rs ds t f.0 m2 y run v works lock, ltb-false transaction_most (encoded_lens x.own + encoded_len (change.New v z)) l.tells.short))
      (λ us vs. (D.low, omega (arith, D.high, up, up2)))
    where
      is_free : (n : ℕ) → (if nat_le 0 n then Taken else Conflict 0) ≡ Taken
      is_free n = by_test (nat_le 0 n) (le-leb 0 n (omega arith))
        where
          by_test : (b : Bool) → b ≡ true → (if b then Taken else Conflict 0) ≡ Taken
          by_test true e = refl
          by_test false e = absurd (false≢true e)

  pub vertex_line : (z : List ℕ) (r : Reply) (es : List Told) → is_reply_inside (request.Vertex z) r ≡ true → new.told ≡ told_after p.told r → MakeMakes x z r es → Did base run_limits name (name s) es p.seen new.seen → LineOut base name p rs ds s (request.Vertex z) r new
  vertex_line z (reply.Vertex v) es kind told makes d = made_vertex v z es kind told makes d
  vertex_line z reply.TxnFull es kind told makes d = quiet_line (request.Vertex z) reply.TxnFull kind told (nothing es makes.0 d) refl (λ e. e) (λ g. (refl, g)) refl refl
      (λ us vs. ltb-true transaction_most (encoded_lens x.own + encoded_len (change.New 0 z)) makes.1) (λ us vs. tt)
  vertex_line z reply.Spent es kind told makes d =
      let e = at_event base name apart s p.seen (p.seen.actor (name s)) x act.Draw answer.Spent [] es p.seen new.seen begins makes d in
      let l = draw_spent e.now (name s) x e.here.txn e.so in
      let st = after run_limits e.now (name s) act.Draw in
      let most = l.tells.most in
      let up : e.now.clock.next_vertex ≤ new.seen.clock.next_vertex = subst (λ k. k.next_vertex ≤ new.seen.clock.next_vertex) (l.clock ∙ l.tells.clock) e.did.later.next_vertex in
      quiet_line (request.Vertex z) reply.Spent kind told
      (record {
        moved = moved_more base name apart s p.seen e.now new.seen e.here.moved (moved_more base name apart s e.now st new.seen (moved_by base name apart s e.now act.Draw e.here.moved.kept) (moved_on base name apart s st new.seen e.did));
        txn = ap (λ (b : Actor). b.txn) (e.did.same s ∙ l.actor) ∙ l.tells.txn;
        receipts = ap (λ (b : Actor). b.receipts) (e.did.same s ∙ l.actor) ∙ l.tells.receipts ∙ e.here.receipts;
        drew = ap (λ (b : Actor). b.drew) (e.did.same s ∙ l.actor) ∙ l.tells.drew ∙ e.here.drew;
      }) refl (λ g. g) (λ g. (refl, g)) refl refl (λ us vs. tt) (λ us vs. omega (arith, most, up))
  vertex_line z reply.NoMemory es kind told (inl makes) d = quiet_line (request.Vertex z) reply.NoMemory kind told (nothing es makes d) refl (λ e. inl e) (λ g. (refl, g)) refl refl (λ us vs. tt) (λ us vs. tt)
  vertex_line z reply.NoMemory es kind told (inr makes) d =
      let D = drawn_at makes.0 [] es makes.1 d in
      let y = record x { drawn = makes.0 ∷ x.drawn } in
      stays base name p new fit s rs ds t x was (moved_more base name apart s p.seen D.state new.seen D.moved (moved_on base name apart s D.state new.seen D.did)) (request.Vertex z) reply.NoMemory kind told y
      (ap (λ (b : Actor). b.txn) (D.did.same s) ∙ D.txn) works refl (ap (λ (b : Actor). b.receipts) (D.did.same s) ∙ D.receipts) (inr (makes.0, ap (λ (b : Actor). b.drew) (D.did.same s) ∙ D.drew)) refl
      (refl, grows_none (request.Vertex z) reply.NoMemory x y refl refl refl refl refl refl) (λ us vs. tt) (λ us vs. tt)
  vertex_line z r es kind told makes d = absurd (false≢true kind)

  -- ---- the ends

  -- the transaction is left as it stands
  left_line : (q : Request) (r : Reply) (kind : is_reply_inside q r ≡ true) (es : List Told) → new.told ≡ p.told → Leaves Nothing es → Did base run_limits name (name s) es p.seen new.seen → receipt_told r (Some (txn_view x)) ≡ record { txn = txn_view x; ends = end_told r } ∷ [] →
      TxnAfter q r (Some (txn_view x)) None → ((new.seen.actor (name s)).drew ≡ (p.seen.actor (name s)).drew → DrawnDid q r (p.seen.actor (name s)).drew (new.seen.actor (name s)).drew) → end_told r ≡ Without →
      ((us : List Receipt) (vs : List ℕ) → NumberDid base (sight name p rs ds) (sight name new us vs) q r) →
      ((us : List Receipt) (vs : List ℕ) → Says base (sight name p rs ds) (sight name new us vs) s (Some (txn_view x)) q r) → LineOut base name p rs ds s q r new
  left_line q r kind es told leave d one ends drew ending number say =
      let g = given_up base name apart s es x p.seen new.seen was leave d in
      given_line base good name apart p new fit s rs ds t x was q r kind told (moved base name apart s es p.seen new.seen d) one ends drew number say
      x (p.seen.actor (name s)) (record { tid = refl; read = refl; own = refl; touched = refl }) g refl refl
      (subst (λ z. EndAlike (end_of g.txn.stage (p.seen.actor (name s)).looked) z) (sym ending)
      (subst (λ z. EndAlike (end_of z (p.seen.actor (name s)).looked) Without) (sym (g.stage ∙ still_open x works)) (lost (p.seen.actor (name s)).looked)))

  pub abort_line : (r : Reply) (es : List Told) → is_reply_inside request.Abort r ≡ true → new.told ≡ told_after p.told r → Leaves Nothing es → Did base run_limits name (name s) es p.seen new.seen → LineOut base name p rs ds s request.Abort r new
  abort_line reply.Aborted es kind told makes d = left_line request.Abort reply.Aborted kind es told makes d refl refl (λ e. e) refl (λ us vs. tt) (λ us vs. tt)
  abort_line r es kind told makes d = absurd (false≢true kind)

  -- the record was queued, and has waited
  record QueuedAt (Rest : List Told → Type 0) : Type 0 where
    some : 0 < length x.own
    now : State
    here : Begin now
    wait : Waited base name apart s x (now.actor (name s)) p.seen Rest new.seen

  queued_at : (Rest : List Told → Type 0) (es : List Told) → Queues (Waits Rest) es → Did base run_limits name (name s) es p.seen new.seen → QueuedAt Rest
  queued_at Rest es makes d =
      let f = makes.2 in
      let e = at_event base name apart s p.seen (p.seen.actor (name s)) x act.Enqueue (answer.Learnt makes.0 makes.1) f.0 es p.seen new.seen begins f.1 d in
      let l = queued e.now (name s) x makes.0 makes.1 e.here.txn e.so in
      let st = after run_limits e.now (name s) act.Enqueue in
      record {
        some = more (length x.own) l.tells.some;
        now = e.now;
        here = e.here;
        wait = waited base name apart s f.0 Rest x (e.now.actor (name s)) p.seen st new.seen (mid_enqueue e.now (name s) x e.here.txn)
            (moved_more base name apart s p.seen e.now st e.here.moved (moved_by base name apart s e.now act.Enqueue e.here.moved.kept)) f.2 e.did;
      }
    where
      more : (n : ℕ) → (n == 0) ≡ false → 0 < n
      more zero e = absurd (false≢true (sym e))
      more (suc n) e = omega arith

  committed_line : (n : ℕ) (es : List Told) → is_reply_inside request.Commit (reply.Committed n) ≡ true → new.told ≡ n → (new.seen.actor (name s)).finished ≡ Some n → Queues (Waits Applies) es → Did base run_limits name (name s) es p.seen new.seen →
      LineOut base name p rs ds s request.Commit (reply.Committed n) new
  committed_line n es kind told fin makes d =
      let Q = queued_at Applies es makes d in
      let W = Q.wait in
      let C = committed base name apart s W.events W.mid.txn W.state new.seen W.mid.is W.rest W.did in
      let m = moved_more base name apart s p.seen W.state new.seen W.moved (moved base name apart s W.events W.state new.seen W.did) in
      let same = same_more x W.mid.txn C.txn W.mid.same C.same in
      let epoch : C.epoch ≡ n = the C.epoch n (sym C.finished ∙ fin) in
      let c = receipt_of C.txn (core_end.CommittedAt C.epoch) in
      let sound = kept_sound base run_limits new.seen good run_allowed m.kept in
      let logged = sound.receipts.ends (name s) c (subst (InReceipts c) (sym C.receipts) (inl refl)) in
      let r : Record = record { tid = C.txn.tid; read = C.txn.read; epoch = C.epoch; changes = C.txn.own } in
      let late : p.seen.clock.last < r.epoch = new_later p.seen.clock new.seen.clock r m.later (ap (λ k. has_record k p.seen.clock.records) same.tid ∙ unrecorded base run_limits p.seen (name s) x fit.kept was works) logged in
      let a1 = fit.visible in
      let a2 = fit.kept.0.1.visible in
      let a3 = C.visible in
      let a4 = last_is base run_limits p.seen fit.kept in
      leaves base name p new fit s rs ds t x was m request.Commit (reply.Committed n) kind (omega (arith, told, a1, a2, late, epoch)) (omega (arith, told, a3, epoch)) c C.idle
      (C.receipts ∙ ap (λ us. c ∷ us) (W.mid.receipts ∙ Q.here.receipts))
      (record { number = sym same.tid; read = sym same.read; own = sym same.own; touched = sym same.touched; ends = epoch })
      (C.drew ∙ W.mid.drew ∙ Q.here.drew) refl refl (λ us vs. Q.some) (λ us vs. (omega (arith, a4, late, epoch), omega (arith, told)))
    where
      the : (y z : ℕ) → Some y ≡ Some z → y ≡ z
      the y z f = (cc)

  -- the counts rose, and are those of the receipt
  faulted_end : (b f : ℕ) (c : CoreReceipt) (old us : List CoreReceipt) → us ≡ c ∷ old → IsFaulted b f us → c.ends ≡ core_end.Faulted b f
  faulted_end b f c old us e h = subst (IsFaulted b f) e h

  faulted_line : (b f : ℕ) (es : List Told) → is_reply_inside request.Commit (reply.LogFault b f) ≡ true → new.told ≡ p.told → IsFaulted b f (new.seen.actor (name s)).receipts → Queues (Waits (Leaves Nothing)) es → Did base run_limits name (name s) es p.seen new.seen →
      LineOut base name p rs ds s request.Commit (reply.LogFault b f) new
  faulted_line b f es kind told counts makes d =
      let Q = queued_at (Leaves Nothing) es makes d in
      let W = Q.wait in
      let y = W.mid.txn in
      let a = W.state.actor (name s) in
      let g = given_up base name apart s W.events y W.state new.seen W.mid.is W.rest W.did in
      let c = receipt_of g.txn (end_of g.txn.stage a.looked) in
      let m = moved_more base name apart s p.seen W.state new.seen W.moved (moved base name apart s W.events W.state new.seen W.did) in
      let ends : end_of g.txn.stage a.looked ≡ core_end.Faulted b f = faulted_end b f c a.receipts (new.seen.actor (name s)).receipts g.receipts counts in
      let sound = kept_sound base run_limits new.seen good run_allowed m.kept in
      let among : InReceipts c (new.seen.actor (name s)).receipts = subst (InReceipts c) (sym g.receipts) (inl refl) in
      let holds : EndAgrees new.seen c (core_end.Faulted b f) = subst (EndAgrees new.seen c) ends (sound.receipts.ends (name s) c among) in
      let rose : Rose b f = inl (counted c.tid b f new.seen.log.opening_count new.seen.log.greatest new.seen.clock.outcomes sound.durability.counts holds.1).1 in
      given_line base good name apart p new fit s rs ds t x was request.Commit (reply.LogFault b f) kind told m refl refl (λ e. e) (λ us vs. tt) (λ us vs. (Q.some, rose))
      y a W.mid.same g
      (W.mid.receipts ∙ Q.here.receipts)
      (W.mid.drew ∙ Q.here.drew)
      (subst (λ z. EndAlike z (end_told (reply.LogFault b f))) (sym ends) (refl, refl))

  pub commit_line : (r : Reply) (es : List Told) → is_reply_inside request.Commit r ≡ true → new.told ≡ told_after p.told r → EndIs r (new.seen.actor (name s)) → CommitMakes x r es → Did base run_limits name (name s) es p.seen new.seen → LineOut base name p rs ds s request.Commit r new
  commit_line (reply.Committed n) es kind told fin makes d = committed_line n es kind told fin makes d
  commit_line reply.Ended es kind told fin makes d = left_line request.Commit reply.Ended kind es told makes.1 d refl refl (λ e. e) refl (λ us vs. tt) (λ us vs. makes.0)
  commit_line (reply.LogFault b f) es kind told fin makes d = faulted_line b f es kind told fin makes d
  commit_line r es kind told fin makes d = absurd (false≢true kind)
