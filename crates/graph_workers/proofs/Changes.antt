-- The lines that change a vertex that is named.
use Rattle.std.proofs.Common.{◌≡◌, ◌≢◌, ℕ, ◌+◌, ◌<◌, Bool, true, false, not, List, [], ◌∷◌, ◌++◌, refl, sym, ap, ◌∙◌, subst, arith, ⊎_elim, inl, inr, ◌⊎◌, Option, Some, None}
use Rattle.std.specs.Prelude.{suc, if◌then◌else◌, is_none}
use Rattle.std.proofs.lemmas.Bool.{false≢true}
use Rattle.graph_model.specs.declared.graph.Base.{Base}
use Rattle.graph_model.specs.declared.change.Change.{Change}
use Rattle.graph_model.specs.declared.change.Change.TheVariants as change
use Rattle.graph_model.specs.Change.{vertex_of, encoded_len, encoded_lens}
use Rattle.graph_model.specs.Graph.{has_edge}
use Rattle.graph_model.specs.Records.{IsGood, transaction_most}
use Rattle.request_text.specs.declared.request.Request.{Request}
use Rattle.request_text.specs.declared.request.Request.TheVariants as request
use Rattle.request_text.specs.declared.reply.Reply.{Reply}
use Rattle.request_text.specs.declared.reply.Reply.TheVariants as reply
use Rattle.graph_legal.specs.Traces.{noted_at, taken_at, unsure_at}
use Rattle.graph_legal.specs.Kinds.{is_reply_inside}
use Rattle.graph_legal.specs.TraceOk.{HasVertex, IsAccepted, here}
use Rattle.vertex_locks.specs.declared.answer.Look.{Look}
use Rattle.vertex_locks.specs.declared.answer.Look.TheVariants.{Taken, Held, Conflict}
use Rattle.core_rows.specs.Rows.{Row}
use Rattle.core_states.specs.declared.actor.Actor.{Actor}
use Rattle.core_states.specs.declared.event.Act.TheVariants as act
use Rattle.core_states.specs.declared.event.CoreAnswer.{CoreAnswer}
use Rattle.core_states.specs.declared.event.CoreAnswer.TheVariants as answer
use Rattle.core_states.specs.declared.transaction.End.{End as CoreEnd}
use Rattle.core_states.specs.declared.transaction.End.TheVariants as core_end
use Rattle.core_states.specs.declared.transaction.Stage.TheVariants.{Open}
use Rattle.core_states.specs.declared.transaction.Transaction.{Transaction}
use Rattle.core_states.specs.Names.{Name}
use Rattle.core_states.specs.Transactions.{is_working, touching, changing, receipt_of, end_of}
use Rattle.core_states.specs.RowEvents.{RowMove, is_long, is_full, sees_edge, refusal, made}
use Rattle.core_states.specs.States.{State, after}
use Rattle.core_states.specs.Openings.{run_limits}
use Rattle.core_states.specs.Laters.{Later}
use Rattle.core_states.specs.Sound.{RunsAt, InReceipts, WasChanged}
use Rattle.core_states.specs.Sound.{EndAgrees}
use Rattle.core_kept.proofs.Keeping.{run_allowed}
use Rattle.core_laws.proofs.Sounds.{kept_sound}
use Rattle.core_calls.proofs.OnParts.{later_more, later_log_more}
use Rattle.core_calls.specs.Events.{Told, told, GoesOn, Did}
use Rattle.core_calls.specs.Calls.{First, Once, Nothing, AtMost, InVain, Leaves, Takes, RunsOut, retries}
use Rattle.graph_workers.specs.Requests.{ChangeMakes}
use Rattle.graph_workers.specs.Passes.{Pass, told_after}
use Rattle.graph_workers.proofs.Sights.{Receipt, IsFree, IsHolder, IsNewest, TxnGrows, TxnAfter, receipt_told, end_told, Held_by, Conflict_at, NumberDid, DrawnDid, Says, as_trace, seen_run}
use Rattle.graph_workers.proofs.Views.{txn_view, sight, EndAlike, Tallies}
use Rattle.graph_workers.proofs.Events.{RowLeft, Tried, Missed, Refused, Changed, Found, HasLooked, act_of, IsNamed, tried, held, conflict, Same}
use Rattle.graph_workers.proofs.Moving.{Moved, moved, moved_by, did_nothing}
use Rattle.graph_workers.proofs.Lining.{Fit, LineOut}
use Rattle.graph_workers.proofs.Running.{Here, here_on, WasGiven, at_most, in_vain, at_event, given_up}
use Rattle.graph_workers.proofs.Looking.{holder, newest}
use Rattle.graph_workers.proofs.Inside.{grows_by, grows_none, still_open, at_start, stays, leaves}
use Rattle.graph_workers.proofs.Saying.{has, lacks, edge, lock, accepted, long, log_full, too_long, del_meets, del_misses, put_full, put_added, put_replaced}

-- ---- which answers come how

-- 0: the vertex is not there; 1: it was taken, and the change refused; 2: the change was made; 3: none of these
abbrev kind_of : CoreAnswer → ℕ
kind_of answer.NoVertex = 0
kind_of answer.TxnFull = 1
kind_of answer.LogFull = 1
kind_of answer.Absent = 1
kind_of answer.Done = 2
kind_of answer.Added = 2
kind_of answer.Replaced = 2
kind_of answer.Gone = 2
kind_of a = 3

kind_if : (b : Bool) (y z : CoreAnswer) → kind_of y ≡ 1 → (if b then Some y else None) ≡ Some z → kind_of z ≡ 1
kind_if true y z k e = ap kind_of (sym (the e)) ∙ k
  where
    the : Some y ≡ Some z → y ≡ z
    the e = (cc)
kind_if false y z k e = absurd (cc)

kind_if_else : (b : Bool) (y z : CoreAnswer) (o : Option CoreAnswer) → kind_of y ≡ 1 → (o ≡ Some z → kind_of z ≡ 1) → (if b then Some y else o) ≡ Some z → kind_of z ≡ 1
kind_if_else true y z o k f e = ap kind_of (sym (the e)) ∙ k
  where
    the : Some y ≡ Some z → y ≡ z
    the e = (cc)
kind_if_else false y z o k f e = f e

refused_kind : (x : Transaction) (c : Change) (row : Row) (z : CoreAnswer) → refusal run_limits x c row ≡ Some z → kind_of z ≡ 1
refused_kind x (change.New v p) row z e = kind_if (is_long run_limits x (change.New v p)) answer.TxnFull z refl e
refused_kind x (change.Set v p) row z e = kind_if (is_long run_limits x (change.Set v p)) answer.TxnFull z refl e
refused_kind x (change.Drop v) row z e = kind_if (is_long run_limits x (change.Drop v)) answer.TxnFull z refl e
refused_kind x (change.Put v l d p) row z e = kind_if_else (is_long run_limits x (change.Put v l d p)) answer.TxnFull z _ refl (kind_if (is_full run_limits row l p) answer.LogFull z refl) e
refused_kind x (change.Del v l d) row z e = kind_if_else (not (sees_edge x row l d)) answer.Absent z _ refl (kind_if (is_long run_limits x (change.Del v l d)) answer.TxnFull z refl) e

made_kind : (x : Transaction) (c : Change) (row : Row) → kind_of (made x c row) ≡ 2
made_kind x (change.New v p) row = refl
made_kind x (change.Set v p) row = refl
made_kind x (change.Drop v) row = refl
made_kind x (change.Put v l d p) row = by_test (sees_edge x row l d)
  where
    by_test : (b : Bool) → kind_of (if b then answer.Replaced else answer.Added) ≡ 2
    by_test true = refl
    by_test false = refl
made_kind x (change.Del v l d) row = refl

module _ (x : Transaction) (c : Change) (row : Row) (a : Actor) (says : CoreAnswer) (m : RowMove) (t : Tried x c row a says m) where
  the_change : kind_of says ≡ 2 → Changed x c row a says m
  the_change k = ⊎_elim
      (λ (f : Missed x c row a says m). absurd (let e = ap kind_of f.says_so in omega (arith, e, k)))
      (λ (g : Refused x c row a says m ⊎ Changed x c row a says m). ⊎_elim
      (λ (f : Refused x c row a says m). absurd (let e = refused_kind x c row says f.because in omega (arith, e, k)))
      (λ (f : Changed x c row a says m). f) g)
      t.how

  the_refusal : kind_of says ≡ 1 → Refused x c row a says m
  the_refusal k = ⊎_elim
      (λ (f : Missed x c row a says m). absurd (let e = ap kind_of f.says_so in omega (arith, e, k)))
      (λ (g : Refused x c row a says m ⊎ Changed x c row a says m). ⊎_elim
      (λ (f : Refused x c row a says m). f)
      (λ (f : Changed x c row a says m). absurd (let e = made_kind x c row in let d = ap kind_of f.so in omega (arith, e, d, k))) g)
      t.how

  the_miss : kind_of says ≡ 0 → Missed x c row a says m
  the_miss k = ⊎_elim
      (λ (f : Missed x c row a says m). f)
      (λ (g : Refused x c row a says m ⊎ Changed x c row a says m). ⊎_elim
      (λ (f : Refused x c row a says m). absurd (let e = refused_kind x c row says f.because in omega (arith, e, k)))
      (λ (f : Changed x c row a says m). absurd (let e = made_kind x c row in let d = ap kind_of f.so in omega (arith, e, d, k))) g)
      t.how

-- ---- the lines

module _ (base : Base) (good : IsGood base) (name : ℕ → Name) (apart : (j k : ℕ) → name j ≡ name k → j ≡ k) (p new : Pass) (fit : Fit base name p) (s : ℕ) (rs : List Receipt) (ds : List ℕ) (t : Tallies name p.seen rs ds)
    (x : Transaction) (was : RunsAt p.seen (name s) x) where
  abbrev Start : State → Type 0
  Start now = Here base name apart s p.seen (p.seen.actor (name s)) x now

  pub start : Start p.seen
  start = record { moved = at_start base name p s fit; txn = was; receipts = refl; drew = refl }

  record TriedAt (c : Change) (says : CoreAnswer) : Type 0 where
    now : State
    here : Start now
    out : RowLeft now (after run_limits now (name s) (act_of c)) (name s) (Tried x c (now.row (vertex_of c)) (now.actor (name s)) says)
    last : GoesOn base run_limits name (after run_limits now (name s) (act_of c)) new.seen

  tried_once : (c : Change) (says : CoreAnswer) (es : List Told) (st : State) → IsNamed c → says ≢ answer.NotEnabled → Start st → Once (act_of c) says es → Did base run_limits name (name s) es st new.seen → TriedAt c says
  tried_once c says es st named ne h once d =
      let e = at_event base name apart s p.seen (p.seen.actor (name s)) x (act_of c) says [] es st new.seen h once d in
      record { now = e.now; here = e.here; out = tried e.now (name s) x c says named ne e.here.txn e.so; last = e.did }

  tried_at : (c : Change) (says : CoreAnswer) (n v : ℕ) (es : List Told) → IsNamed c → says ≢ answer.NotEnabled → AtMost n v (Once (act_of c) says) es → Did base run_limits name (name s) es p.seen new.seen → TriedAt c says
  tried_at c says n v es named ne once d =
      let r = at_most base name apart s p.seen (p.seen.actor (name s)) x n v (Once (act_of c) says) es p.seen new.seen start once d in
      tried_once c says r.events r.state named ne r.here r.rest r.did

  module _ (c : Change) (says : CoreAnswer) (T : TriedAt c says) where
    later_now : Later T.now.clock new.seen.clock
    later_now = subst (λ k. Later k new.seen.clock) T.out.clock T.last.later

    txn_now : (y : Transaction) → T.out.move.actor.txn ≡ Some y → (new.seen.actor (name s)).txn ≡ Some y
    txn_now y e = ap (λ (b : Actor). b.txn) (T.last.same s ∙ T.out.actor) ∙ e

    receipts_now : (new.seen.actor (name s)).receipts ≡ (p.seen.actor (name s)).receipts
    receipts_now = ap (λ (b : Actor). b.receipts) (T.last.same s ∙ T.out.actor) ∙ T.out.tells.receipts ∙ T.here.receipts

    drew_now : (new.seen.actor (name s)).drew ≡ (p.seen.actor (name s)).drew
    drew_now = ap (λ (b : Actor). b.drew) (T.last.same s ∙ T.out.actor) ∙ T.out.tells.drew ∙ T.here.drew

    moved_now : Moved base name s p.seen new.seen
    moved_now = record {
      kept = T.last.kept;
      later = later_more p.seen.clock T.now.clock new.seen.clock T.here.moved.later later_now;
      later_log = later_log_more p.seen.log T.now.log new.seen.log T.here.moved.later_log
          (later_log_more T.now.log (after run_limits T.now (name s) (act_of c)).log new.seen.log (moved_by base name apart s T.now (act_of c) T.here.moved.kept).later_log T.last.later_log);
      receipts = λ i z among. T.last.receipts i z ((moved_by base name apart s T.now (act_of c) T.here.moved.kept).receipts i z (T.here.moved.receipts i z among));
      others = λ j ne. T.last.same j ∙ (moved_by base name apart s T.now (act_of c) T.here.moved.kept).others j ne ∙ T.here.moved.others j ne;
    }

    module _ (q : Request) (r : Reply) (kind : is_reply_inside q r ≡ true) (told : new.told ≡ p.told) (none : receipt_told r (Some (txn_view x)) ≡ [])
        (drew : (new.seen.actor (name s)).drew ≡ (p.seen.actor (name s)).drew → DrawnDid q r (p.seen.actor (name s)).drew (new.seen.actor (name s)).drew)
        (wrap : (y : Transaction) → TxnGrows q r (txn_view x) (txn_view y) → TxnAfter q r (Some (txn_view x)) (Some (txn_view y)))
        (number : (us : List Receipt) (vs : List ℕ) → NumberDid base (sight name p rs ds) (sight name new us vs) q r)
        (say : (us : List Receipt) (vs : List ℕ) → Says base (sight name p rs ds) (sight name new us vs) s (Some (txn_view x)) q r) where
      went_on : (y : Transaction) → T.out.move.actor.txn ≡ Some y → is_working y ≡ true → y.read ≡ x.read → TxnGrows q r (txn_view x) (txn_view y) → LineOut base name p rs ds s q r new
      went_on y e w read grows = stays base name p new fit s rs ds t x was moved_now q r kind told y (txn_now y e) w read receipts_now (drew drew_now) none (wrap y grows) say number

      made_line : kind_of says ≡ 2 → noted_at q r ≡ c ∷ [] → taken_at q r ≡ vertex_of c ∷ [] → LineOut base name p rs ds s q r new
      made_line k notes takes = went_on (changing x c) (the_change x c _ _ says T.out.move T.out.tells k).txn (fit.works s x was) refl
          (grows_by q r x (changing x c) (vertex_of c) refl refl (ap (λ cs. x.own ++ cs) (sym notes)) refl (inl takes))

      refused_line : kind_of says ≡ 1 → noted_at q r ≡ [] → ((taken_at q r ≡ vertex_of c ∷ []) ⊎ ((taken_at q r ≡ []) × (unsure_at q r ≡ vertex_of c ∷ []))) → LineOut base name p rs ds s q r new
      refused_line k notes takes = went_on (touching x (vertex_of c)) (the_refusal x c _ _ says T.out.move T.out.tells k).txn (fit.works s x was) refl
          (grows_by q r x (touching x (vertex_of c)) (vertex_of c) refl refl (sym (ap (λ cs. x.own ++ cs) notes ∙ append_none x.own)) refl takes)
        where
          append_none : (cs : List Change) → cs ++ [] ≡ cs
          append_none [] = refl
          append_none (z ∷ cs) = ap (λ ys. z ∷ ys) (append_none cs)

      missed_line : kind_of says ≡ 0 → noted_at q r ≡ [] → taken_at q r ≡ [] → LineOut base name p rs ds s q r new
      missed_line k notes takes = went_on x (the_miss x c _ _ says T.out.move T.out.tells k).txn (fit.works s x was) refl (grows_none q r x x refl refl refl refl notes takes)

  -- ---- the lines by which the transaction is left

  module _ (q : Request) (r : Reply) (kind : is_reply_inside q r ≡ true) (told : new.told ≡ p.told) (moved_now : Moved base name s p.seen new.seen)
      (one : receipt_told r (Some (txn_view x)) ≡ record { txn = txn_view x; ends = end_told r } ∷ []) (ends : TxnAfter q r (Some (txn_view x)) None)
      (drew : (new.seen.actor (name s)).drew ≡ (p.seen.actor (name s)).drew → DrawnDid q r (p.seen.actor (name s)).drew (new.seen.actor (name s)).drew)
      (number : (us : List Receipt) (vs : List ℕ) → NumberDid base (sight name p rs ds) (sight name new us vs) q r)
      (say : (us : List Receipt) (vs : List ℕ) → Says base (sight name p rs ds) (sight name new us vs) s (Some (txn_view x)) q r) where
    pub given_line : (y : Transaction) (a : Actor) → Same x y → (g : WasGiven base name apart s y a (new.seen.actor (name s))) → a.receipts ≡ (p.seen.actor (name s)).receipts → a.drew ≡ (p.seen.actor (name s)).drew →
        EndAlike (end_of g.txn.stage a.looked) (end_told r) → LineOut base name p rs ds s q r new
    given_line y a same g receipts drew_before alike = leaves base name p new fit s rs ds t x was moved_now q r kind
        (omega (arith, told)) (let b = fit.visible in let c = moved_now.later.visible in omega (arith, told, b, c))
        (receipt_of g.txn (end_of g.txn.stage a.looked)) g.idle (g.receipts ∙ ap (λ us. receipt_of g.txn (end_of g.txn.stage a.looked) ∷ us) receipts)
        (record { number = sym (g.same.tid ∙ same.tid); read = sym (g.same.read ∙ same.read); own = sym (g.same.own ∙ same.own); touched = sym (g.same.touched ∙ same.touched); ends = alike })
        (drew (g.drew ∙ drew_before)) one ends say number

  record LookedAt (v : ℕ) (look : Look) : Type 0 where
    now : State
    here : Start now
    found : Found x v look (now.row v)
    after_it : Actor
    looked : after_it.looked ≡ Some (record { v = v; look = look })
    receipts : after_it.receipts ≡ (p.seen.actor (name s)).receipts
    drew : after_it.drew ≡ (p.seen.actor (name s)).drew
    given : WasGiven base name apart s x after_it (new.seen.actor (name s))
    later : Later now.clock new.seen.clock
    moved_now : Moved base name s p.seen new.seen

  looked_at : (v : ℕ) (look : Look) (rest : List Told) (now : State) → Start now → RowLeft now (after run_limits now (name s) (act.Look v)) (name s) (HasLooked x v look (now.row v) (now.actor (name s))) → Leaves Nothing rest →
      Did base run_limits name (name s) rest (after run_limits now (name s) (act.Look v)) new.seen → LookedAt v look
  looked_at v look rest now h l leave d =
      let st = after run_limits now (name s) (act.Look v) in
      let by = moved_by base name apart s now (act.Look v) h.moved.kept in
      let on = moved base name apart s rest st new.seen d in
      record {
        now = now;
        here = h;
        found = l.tells.found;
        after_it = st.actor (name s);
        looked = ap (λ (b : Actor). b.looked) l.actor ∙ l.tells.looked;
        receipts = ap (λ (b : Actor). b.receipts) l.actor ∙ l.tells.receipts ∙ h.receipts;
        drew = ap (λ (b : Actor). b.drew) l.actor ∙ l.tells.drew ∙ h.drew;
        given = given_up base name apart s rest x st new.seen (ap (λ (b : Actor). b.txn) l.actor ∙ l.tells.txn) leave d;
        later = later_more now.clock st.clock new.seen.clock by.later on.later;
        moved_now = record {
          kept = on.kept;
          later = later_more p.seen.clock now.clock new.seen.clock h.moved.later (later_more now.clock st.clock new.seen.clock by.later on.later);
          later_log = later_log_more p.seen.log now.log new.seen.log h.moved.later_log (later_log_more now.log st.log new.seen.log by.later_log on.later_log);
          receipts = λ i z among. on.receipts i z (by.receipts i z (h.moved.receipts i z among));
          others = λ j ne. on.others j ne ∙ by.others j ne ∙ h.moved.others j ne;
        };
      }

  held_at : (v u : ℕ) (es : List Told) (st : State) → Start st → First (act.Look v) (answer.Held u) (Leaves Nothing) es → Did base run_limits name (name s) es st new.seen → LookedAt v (Held u)
  held_at v u es st h f d =
      let e = at_event base name apart s p.seen (p.seen.actor (name s)) x (act.Look v) (answer.Held u) f.0 es st new.seen h f.1 d in
      looked_at v (Held u) f.0 e.now e.here (held e.now (name s) x v u e.here.txn e.so) f.2 e.did

  conflict_at : (v n : ℕ) (es : List Told) (st : State) → Start st → First (act.Look v) (answer.Conflict n) (Leaves Nothing) es → Did base run_limits name (name s) es st new.seen → LookedAt v (Conflict n)
  conflict_at v n es st h f d =
      let e = at_event base name apart s p.seen (p.seen.actor (name s)) x (act.Look v) (answer.Conflict n) f.0 es st new.seen h f.1 d in
      looked_at v (Conflict n) f.0 e.now e.here (conflict e.now (name s) x v n e.here.txn e.so) f.2 e.did

  -- how it ended
  ended_so : (v : ℕ) (look : Look) (L : LookedAt v look) → end_of L.given.txn.stage L.after_it.looked ≡ end_of Open (Some (record { v = v; look = look }))
  ended_so v look L i = end_of ((L.given.stage ∙ still_open x (fit.works s x was)) i) (L.looked i)

  held_line : (q : Request) (w u v : ℕ) (es : List Told) → is_reply_inside q (reply.Held w u) ≡ true → new.told ≡ p.told → w ≡ v → InVain retries v (First (act.Look v) (answer.Held u) (Leaves Nothing)) es → Did base run_limits name (name s) es p.seen new.seen →
      ((new.seen.actor (name s)).drew ≡ (p.seen.actor (name s)).drew → DrawnDid q (reply.Held w u) (p.seen.actor (name s)).drew (new.seen.actor (name s)).drew) → TxnAfter q (reply.Held w u) (Some (txn_view x)) None →
      ((us : List Receipt) (vs : List ℕ) → HasVertex (seen_run base (sight name new us vs)) (as_trace (txn_view x)) w → IsHolder (sight name p rs ds) (sight name new us vs) (txn_view x) w u →
      Says base (sight name p rs ds) (sight name new us vs) s (Some (txn_view x)) q (reply.Held w u)) → LineOut base name p rs ds s q (reply.Held w u) new
  held_line q w u v es kind told is makes d drew ends say =
      let r = in_vain base name apart s p.seen (p.seen.actor (name s)) x retries v (First (act.Look v) (answer.Held u) (Leaves Nothing)) es p.seen new.seen start makes d in
      let L = held_at v u r.events r.state r.here r.rest r.did in
      given_line q (reply.Held w u) kind told L.moved_now refl ends drew (λ us vs. tt)
      (λ us vs. say us vs
      (subst (λ n. HasVertex (seen_run base (sight name new us vs)) (as_trace (txn_view x)) n) (sym is) (has base good name apart p new fit s rs ds t x was L.now L.here L.later us vs v L.found.has))
      (subst (λ n. IsHolder (sight name p rs ds) (sight name new us vs) (txn_view x) n u) (sym is)
      (holder base good name apart p fit s rs ds t L.now L.here.moved x L.here.txn new us vs v u was L.later L.here.receipts L.found.lock)))
      x L.after_it (record { tid = refl; read = refl; own = refl; touched = refl }) L.given L.receipts L.drew
      (subst (λ (z : CoreEnd). EndAlike z (Held_by w u)) (sym (ended_so v (Held u) L)) (sym is, refl))

  -- a conflict is found of a record
  was_changed : (v n : ℕ) (L : LookedAt v (Conflict n)) → WasChanged new.seen v n
  was_changed v n L =
      let sound = kept_sound base run_limits new.seen good run_allowed L.moved_now.kept in
      let c = receipt_of L.given.txn (end_of L.given.txn.stage L.after_it.looked) in
      let among : InReceipts c (new.seen.actor (name s)).receipts = subst (InReceipts c) (sym L.given.receipts) (inl refl) in
      let holds : EndAgrees new.seen c (core_end.ConflictAt v n) = subst (λ (z : CoreEnd). EndAgrees new.seen c z) (ended_so v (Conflict n) L) (sound.receipts.ends (name s) c among) in
      holds.1

  conflict_line : (q : Request) (w n v : ℕ) (es : List Told) → is_reply_inside q (reply.Conflict w n) ≡ true → new.told ≡ p.told → w ≡ v → AtMost retries v (First (act.Look v) (answer.Conflict n) (Leaves Nothing)) es → Did base run_limits name (name s) es p.seen new.seen →
      ((new.seen.actor (name s)).drew ≡ (p.seen.actor (name s)).drew → DrawnDid q (reply.Conflict w n) (p.seen.actor (name s)).drew (new.seen.actor (name s)).drew) → TxnAfter q (reply.Conflict w n) (Some (txn_view x)) None →
      ((us : List Receipt) (vs : List ℕ) → HasVertex (seen_run base (sight name new us vs)) (as_trace (txn_view x)) w → IsNewest base (sight name p rs ds) (sight name new us vs) s (txn_view x) w n →
      Says base (sight name p rs ds) (sight name new us vs) s (Some (txn_view x)) q (reply.Conflict w n)) → LineOut base name p rs ds s q (reply.Conflict w n) new
  conflict_line q w n v es kind told is makes d drew ends say =
      let r = at_most base name apart s p.seen (p.seen.actor (name s)) x retries v (First (act.Look v) (answer.Conflict n) (Leaves Nothing)) es p.seen new.seen start makes d in
      let L = conflict_at v n r.events r.state r.here r.rest r.did in
      let new_one = λ (us : List Receipt) (vs : List ℕ). newest base good name apart p fit s rs ds t L.now L.here.moved x L.here.txn new us vs v n L.moved_now.kept (was_changed v n L) L.found.lock in
      given_line q (reply.Conflict w n) kind told L.moved_now refl ends drew (λ us vs. (new_one us vs).met)
      (λ us vs. say us vs
      (subst (λ z. HasVertex (seen_run base (sight name new us vs)) (as_trace (txn_view x)) z) (sym is) (has base good name apart p new fit s rs ds t x was L.now L.here L.later us vs v L.found.has))
      (subst (λ z. IsNewest base (sight name p rs ds) (sight name new us vs) s (txn_view x) z n) (sym is) (new_one us vs)))
      x L.after_it (record { tid = refl; read = refl; own = refl; touched = refl }) L.given L.receipts L.drew
      (subst (λ (z : CoreEnd). EndAlike z (Conflict_at w n)) (sym (ended_so v (Conflict n) L)) (sym is, refl))

  -- ---- each reply to a change

  of_change : (c : Change) (says : CoreAnswer) (T : TriedAt c says) → kind_of says ≡ 2 → Changed x c (T.now.row (vertex_of c)) (T.now.actor (name s)) says T.out.move
  of_change c says T k = the_change x c (T.now.row (vertex_of c)) (T.now.actor (name s)) says T.out.move T.out.tells k

  of_refusal : (c : Change) (says : CoreAnswer) (T : TriedAt c says) → kind_of says ≡ 1 → Refused x c (T.now.row (vertex_of c)) (T.now.actor (name s)) says T.out.move
  of_refusal c says T k = the_refusal x c (T.now.row (vertex_of c)) (T.now.actor (name s)) says T.out.move T.out.tells k

  of_miss : (c : Change) (says : CoreAnswer) (T : TriedAt c says) → kind_of says ≡ 0 → Missed x c (T.now.row (vertex_of c)) (T.now.actor (name s)) says T.out.move
  of_miss c says T k = the_miss x c (T.now.row (vertex_of c)) (T.now.actor (name s)) says T.out.move T.out.tells k

  taken : (c : Change) (says : CoreAnswer) (T : TriedAt c says) (k : kind_of says ≡ 2) (us : List Receipt) (vs : List ℕ) → IsAccepted (IsFree (sight name p rs ds) s (txn_view x)) (seen_run base (sight name new us vs)) (as_trace (txn_view x)) c
  taken c says T k us vs =
      let f = of_change c says T k in
      accepted base good name apart p new fit s rs ds t x was T.now T.here (later_now c says T) us vs c f.found f.short

  stands_there : (c : Change) (says : CoreAnswer) (T : TriedAt c says) → Found x (vertex_of c) Taken (T.now.row (vertex_of c)) → (us : List Receipt) (vs : List ℕ) → HasVertex (seen_run base (sight name new us vs)) (as_trace (txn_view x)) (vertex_of c)
  stands_there c says T f us vs = has base good name apart p new fit s rs ds t x was T.now T.here (later_now c says T) us vs (vertex_of c) f.has

  may_take : (c : Change) (says : CoreAnswer) (T : TriedAt c says) → Found x (vertex_of c) Taken (T.now.row (vertex_of c)) → IsFree (sight name p rs ds) s (txn_view x) (vertex_of c)
  may_take c says T f = lock base good name apart p new fit s rs ds t x was T.now T.here (later_now c says T) (vertex_of c) f

  is_missing : (c : Change) (T : TriedAt c answer.NoVertex) (us : List Receipt) (vs : List ℕ) → is_none (here (seen_run base (sight name new us vs)) (as_trace (txn_view x)) (vertex_of c)) ≡ true
  is_missing c T us vs = lacks base good name apart p new fit s rs ds t x was T.now T.here (later_now c answer.NoVertex T) us vs (vertex_of c) (of_miss c answer.NoVertex T refl).lacks

  is_too_long : (c : Change) (T : TriedAt c answer.TxnFull) → transaction_most < encoded_lens x.own + encoded_len c
  is_too_long c T = long base good name apart p new fit s rs ds t x was T.now T.here (later_now c answer.TxnFull T) c (too_long x c (T.now.row (vertex_of c)) (of_refusal c answer.TxnFull T refl).because)

  edge_is : (c : Change) (says : CoreAnswer) (T : TriedAt c says) (us : List Receipt) (vs : List ℕ) (l d : ℕ) (b : Bool) → Found x (vertex_of c) Taken (T.now.row (vertex_of c)) → sees_edge x (T.now.row (vertex_of c)) l d ≡ b →
      has_edge (here (seen_run base (sight name new us vs)) (as_trace (txn_view x)) (vertex_of c)) l d ≡ b
  edge_is c says T us vs l d b f e = edge base good name apart p new fit s rs ds t x was T.now T.here (later_now c says T) us vs (vertex_of c) l d b f.has e

  -- memory ran out
  no_memory_line : (c : Change) (q : Request) (es : List Told) → is_reply_inside q reply.NoMemory ≡ true → new.told ≡ p.told → RunsOut (vertex_of c) es → Did base run_limits name (name s) es p.seen new.seen →
      ((new.seen.actor (name s)).drew ≡ (p.seen.actor (name s)).drew → DrawnDid q reply.NoMemory (p.seen.actor (name s)).drew (new.seen.actor (name s)).drew) → noted_at q reply.NoMemory ≡ [] → taken_at q reply.NoMemory ≡ [] →
      unsure_at q reply.NoMemory ≡ vertex_of c ∷ [] → ((us : List Receipt) (vs : List ℕ) → NumberDid base (sight name p rs ds) (sight name new us vs) q reply.NoMemory) →
      ((us : List Receipt) (vs : List ℕ) → Says base (sight name p rs ds) (sight name new us vs) s (Some (txn_view x)) q reply.NoMemory) → LineOut base name p rs ds s q reply.NoMemory new
  no_memory_line c q es kind told makes d drew notes takes unsure number say =
      let r = at_most base name apart s p.seen (p.seen.actor (name s)) x (suc retries) (vertex_of c) (λ xs. Nothing xs ⊎ Takes (vertex_of c) xs) es p.seen new.seen start makes d in
      ⊎_elim
      (λ (none : Nothing r.events).
      let h = here_on base name apart s p.seen (p.seen.actor (name s)) x r.state new.seen r.here (did_nothing base name apart s r.events r.state new.seen none r.did) in
      stays base name p new fit s rs ds t x was h.moved q reply.NoMemory kind told x h.txn (fit.works s x was) refl h.receipts (drew h.drew) refl (refl, grows_none q reply.NoMemory x x refl refl refl refl notes takes) say_it number)
      (λ (some : Takes (vertex_of c) r.events). by_refusal some.0 some.1 (tried_once (change.Del (vertex_of c) some.0 some.1) answer.Absent r.events r.state tt (λ e. (cc)) r.here some.2 r.did))
      r.rest
    where
      say_it : (us : List Receipt) (vs : List ℕ) → Says base (sight name p rs ds) (sight name new us vs) s (Some (txn_view x)) q reply.NoMemory
      say_it = say

      by_refusal : (l e : ℕ) → TriedAt (change.Del (vertex_of c) l e) answer.Absent → LineOut base name p rs ds s q reply.NoMemory new
      by_refusal l e T = refused_line (change.Del (vertex_of c) l e) answer.Absent T q reply.NoMemory kind told refl drew (λ y g. (refl, g)) number say refl notes (inr (takes, unsure))

  missing_line : (c : Change) (q : Request) → (T : TriedAt c answer.NoVertex) → is_reply_inside q reply.NoVertex ≡ true → new.told ≡ p.told → ((new.seen.actor (name s)).drew ≡ (p.seen.actor (name s)).drew → DrawnDid q reply.NoVertex (p.seen.actor (name s)).drew (new.seen.actor (name s)).drew) →
      noted_at q reply.NoVertex ≡ [] → taken_at q reply.NoVertex ≡ [] → ((us : List Receipt) (vs : List ℕ) → NumberDid base (sight name p rs ds) (sight name new us vs) q reply.NoVertex) →
      ((us : List Receipt) (vs : List ℕ) → Says base (sight name p rs ds) (sight name new us vs) s (Some (txn_view x)) q reply.NoVertex) → LineOut base name p rs ds s q reply.NoVertex new
  missing_line c q T kind told drew notes takes number say = missed_line c answer.NoVertex T q reply.NoVertex kind told refl drew (λ y g. (refl, g)) number say refl notes takes

  full_line : (c : Change) (q : Request) → (T : TriedAt c answer.TxnFull) → is_reply_inside q reply.TxnFull ≡ true → new.told ≡ p.told → ((new.seen.actor (name s)).drew ≡ (p.seen.actor (name s)).drew → DrawnDid q reply.TxnFull (p.seen.actor (name s)).drew (new.seen.actor (name s)).drew) →
      noted_at q reply.TxnFull ≡ [] → taken_at q reply.TxnFull ≡ vertex_of c ∷ [] → ((us : List Receipt) (vs : List ℕ) → NumberDid base (sight name p rs ds) (sight name new us vs) q reply.TxnFull) →
      ((us : List Receipt) (vs : List ℕ) → Says base (sight name p rs ds) (sight name new us vs) s (Some (txn_view x)) q reply.TxnFull) → LineOut base name p rs ds s q reply.TxnFull new
  full_line c q T kind told drew notes takes number say = refused_line c answer.TxnFull T q reply.TxnFull kind told refl drew (λ y g. (refl, g)) number say refl notes (inl takes)

  -- ---- the four requests

  pub set_line : (v : ℕ) (z : List ℕ) (r : Reply) (es : List Told) → is_reply_inside (request.Set v z) r ≡ true → new.told ≡ told_after p.told r → ChangeMakes v (act.Set v z) r es → Did base run_limits name (name s) es p.seen new.seen → LineOut base name p rs ds s (request.Set v z) r new
  set_line v z reply.SetDone es kind told makes d =
      let c = change.Set v z in
      let T = tried_at c answer.Done retries v es tt (λ e. (cc)) makes d in
      made_line c answer.Done T (request.Set v z) reply.SetDone kind told refl (λ e. e) (λ y g. (refl, g)) (λ us vs. tt) (taken c answer.Done T refl) refl refl refl
  set_line v z reply.NoVertex es kind told makes d =
      let c = change.Set v z in
      let T = tried_at c answer.NoVertex retries v es tt (λ e. (cc)) makes d in
      missing_line c (request.Set v z) T kind told (λ e. e) refl refl (λ us vs. tt) (is_missing c T)
  set_line v z reply.TxnFull es kind told makes d =
      let c = change.Set v z in
      let T = tried_at c answer.TxnFull retries v es tt (λ e. (cc)) makes d in
      let f = (of_refusal c answer.TxnFull T refl).found in
      full_line c (request.Set v z) T kind told (λ e. e) refl refl (λ us vs. tt) (λ us vs. (stands_there c answer.TxnFull T f us vs, may_take c answer.TxnFull T f, is_too_long c T, refl))
  set_line v z reply.NoMemory es kind told makes d = no_memory_line (change.Set v z) (request.Set v z) es kind told makes d (λ e. e) refl refl refl (λ us vs. tt) (λ us vs. tt)
  set_line v z (reply.Held w u) es kind told makes d = held_line (request.Set v z) w u v es kind told makes.0 makes.1 d (λ e. e) refl (λ us vs a b. (a, makes.0, b))
  set_line v z (reply.Conflict w n) es kind told makes d = conflict_line (request.Set v z) w n v es kind told makes.0 makes.1 d (λ e. e) refl (λ us vs a b. (a, makes.0, b))
  set_line v z r es kind told makes d = absurd (false≢true kind)

  pub drop_line : (v : ℕ) (r : Reply) (es : List Told) → is_reply_inside (request.Drop v) r ≡ true → new.told ≡ told_after p.told r → ChangeMakes v (act.Drop v) r es → Did base run_limits name (name s) es p.seen new.seen → LineOut base name p rs ds s (request.Drop v) r new
  drop_line v reply.Dropped es kind told makes d =
      let c = change.Drop v in
      let T = tried_at c answer.Done retries v es tt (λ e. (cc)) makes d in
      made_line c answer.Done T (request.Drop v) reply.Dropped kind told refl (λ e. e) (λ y g. (refl, g)) (λ us vs. tt) (taken c answer.Done T refl) refl refl refl
  drop_line v reply.NoVertex es kind told makes d =
      let c = change.Drop v in
      let T = tried_at c answer.NoVertex retries v es tt (λ e. (cc)) makes d in
      missing_line c (request.Drop v) T kind told (λ e. e) refl refl (λ us vs. tt) (is_missing c T)
  drop_line v reply.TxnFull es kind told makes d =
      let c = change.Drop v in
      let T = tried_at c answer.TxnFull retries v es tt (λ e. (cc)) makes d in
      let f = (of_refusal c answer.TxnFull T refl).found in
      full_line c (request.Drop v) T kind told (λ e. e) refl refl (λ us vs. tt) (λ us vs. (stands_there c answer.TxnFull T f us vs, may_take c answer.TxnFull T f, is_too_long c T, refl))
  drop_line v reply.NoMemory es kind told makes d = no_memory_line (change.Drop v) (request.Drop v) es kind told makes d (λ e. e) refl refl refl (λ us vs. tt) (λ us vs. tt)
  drop_line v (reply.Held w u) es kind told makes d = held_line (request.Drop v) w u v es kind told makes.0 makes.1 d (λ e. e) refl (λ us vs a b. (a, makes.0, b))
  drop_line v (reply.Conflict w n) es kind told makes d = conflict_line (request.Drop v) w n v es kind told makes.0 makes.1 d (λ e. e) refl (λ us vs a b. (a, makes.0, b))
  drop_line v r es kind told makes d = absurd (false≢true kind)

  pub put_line : (v l e : ℕ) (z : List ℕ) (r : Reply) (es : List Told) → is_reply_inside (request.Put v l e z) r ≡ true → new.told ≡ told_after p.told r → ChangeMakes v (act.Put v l e z) r es → Did base run_limits name (name s) es p.seen new.seen →
      LineOut base name p rs ds s (request.Put v l e z) r new
  put_line v l e z reply.Added es kind told makes d =
      let c = change.Put v l e z in
      let T = tried_at c answer.Added retries v es tt (λ f. (cc)) makes d in
      let f = of_change c answer.Added T refl in
      made_line c answer.Added T (request.Put v l e z) reply.Added kind told refl (λ g. g) (λ y g. (refl, g)) (λ us vs. tt)
      (λ us vs. (taken c answer.Added T refl us vs, edge_is c answer.Added T us vs l e false f.found (put_added (sees_edge x (T.now.row v) l e) f.so))) refl refl refl
  put_line v l e z reply.Replaced es kind told makes d =
      let c = change.Put v l e z in
      let T = tried_at c answer.Replaced retries v es tt (λ f. (cc)) makes d in
      let f = of_change c answer.Replaced T refl in
      made_line c answer.Replaced T (request.Put v l e z) reply.Replaced kind told refl (λ g. g) (λ y g. (refl, g)) (λ us vs. tt)
      (λ us vs. (taken c answer.Replaced T refl us vs, edge_is c answer.Replaced T us vs l e true f.found (put_replaced (sees_edge x (T.now.row v) l e) f.so))) refl refl refl
  put_line v l e z reply.LogFull es kind told makes d =
      let c = change.Put v l e z in
      let T = tried_at c answer.LogFull retries v es tt (λ f. (cc)) makes d in
      let f = of_refusal c answer.LogFull T refl in
      refused_line c answer.LogFull T (request.Put v l e z) reply.LogFull kind told refl (λ g. g) (λ y g. (refl, g)) (λ us vs. tt)
      (λ us vs. (
        stands_there c answer.LogFull T f.found us vs,
        may_take c answer.LogFull T f.found,
        log_full base good name apart p new fit s rs ds t x was T.now T.here (later_now c answer.LogFull T) us vs v l e z f.found (put_full x v l e z (T.now.row v) f.because),
      )) refl refl (inl refl)
  put_line v l e z reply.NoVertex es kind told makes d =
      let c = change.Put v l e z in
      let T = tried_at c answer.NoVertex retries v es tt (λ f. (cc)) makes d in
      missing_line c (request.Put v l e z) T kind told (λ g. g) refl refl (λ us vs. tt) (is_missing c T)
  put_line v l e z reply.TxnFull es kind told makes d =
      let c = change.Put v l e z in
      let T = tried_at c answer.TxnFull retries v es tt (λ f. (cc)) makes d in
      let f = (of_refusal c answer.TxnFull T refl).found in
      full_line c (request.Put v l e z) T kind told (λ g. g) refl refl (λ us vs. tt) (λ us vs. (stands_there c answer.TxnFull T f us vs, may_take c answer.TxnFull T f, is_too_long c T, refl))
  put_line v l e z reply.NoMemory es kind told makes d = no_memory_line (change.Put v l e z) (request.Put v l e z) es kind told makes d (λ g. g) refl refl refl (λ us vs. tt) (λ us vs. tt)
  put_line v l e z (reply.Held w u) es kind told makes d = held_line (request.Put v l e z) w u v es kind told makes.0 makes.1 d (λ g. g) refl (λ us vs a b. (a, makes.0, b))
  put_line v l e z (reply.Conflict w n) es kind told makes d = conflict_line (request.Put v l e z) w n v es kind told makes.0 makes.1 d (λ g. g) refl (λ us vs a b. (a, makes.0, b))
  put_line v l e z r es kind told makes d = absurd (false≢true kind)

  pub del_line : (v l e : ℕ) (r : Reply) (es : List Told) → is_reply_inside (request.Del v l e) r ≡ true → new.told ≡ told_after p.told r → ChangeMakes v (act.Del v l e) r es → Did base run_limits name (name s) es p.seen new.seen → LineOut base name p rs ds s (request.Del v l e) r new
  del_line v l e reply.Gone es kind told makes d =
      let c = change.Del v l e in
      let T = tried_at c answer.Gone retries v es tt (λ f. (cc)) makes d in
      let f = of_change c answer.Gone T refl in
      made_line c answer.Gone T (request.Del v l e) reply.Gone kind told refl (λ g. g) (λ y g. (refl, g)) (λ us vs. tt)
      (λ us vs. (taken c answer.Gone T refl us vs, edge_is c answer.Gone T us vs l e true f.found (del_meets x v l e (T.now.row v) None (λ g. (cc)) f.short))) refl refl refl
  del_line v l e reply.Absent es kind told makes d =
      let c = change.Del v l e in
      let T = tried_at c answer.Absent retries v es tt (λ f. (cc)) makes d in
      let f = of_refusal c answer.Absent T refl in
      refused_line c answer.Absent T (request.Del v l e) reply.Absent kind told refl (λ g. g) (λ y g. (refl, g)) (λ us vs. tt)
      (λ us vs. (stands_there c answer.Absent T f.found us vs, may_take c answer.Absent T f.found, edge_is c answer.Absent T us vs l e false f.found (del_misses x v l e (T.now.row v) f.because))) refl refl (inl refl)
  del_line v l e reply.NoVertex es kind told makes d =
      let c = change.Del v l e in
      let T = tried_at c answer.NoVertex retries v es tt (λ f. (cc)) makes d in
      missing_line c (request.Del v l e) T kind told (λ g. g) refl refl (λ us vs. tt) (is_missing c T)
  del_line v l e reply.TxnFull es kind told makes d =
      let c = change.Del v l e in
      let T = tried_at c answer.TxnFull retries v es tt (λ f. (cc)) makes d in
      let f = of_refusal c answer.TxnFull T refl in
      full_line c (request.Del v l e) T kind told (λ g. g) refl refl (λ us vs. tt)
      (λ us vs. (stands_there c answer.TxnFull T f.found us vs, may_take c answer.TxnFull T f.found, is_too_long c T, edge_is c answer.TxnFull T us vs l e true f.found (del_meets x v l e (T.now.row v) (Some answer.TxnFull) (λ g. not_absent g) f.because)))
    where
      not_absent : Some answer.TxnFull ≡ Some answer.Absent → ⊥
      not_absent g = (cc)
  del_line v l e reply.NoMemory es kind told makes d = no_memory_line (change.Del v l e) (request.Del v l e) es kind told makes d (λ g. g) refl refl refl (λ us vs. tt) (λ us vs. tt)
  del_line v l e (reply.Held w u) es kind told makes d = held_line (request.Del v l e) w u v es kind told makes.0 makes.1 d (λ g. g) refl (λ us vs a b. (a, makes.0, b))
  del_line v l e (reply.Conflict w n) es kind told makes d = conflict_line (request.Del v l e) w n v es kind told makes.0 makes.1 d (λ g. g) refl (λ us vs a b. (a, makes.0, b))
  del_line v l e r es kind told makes d = absurd (false≢true kind)
