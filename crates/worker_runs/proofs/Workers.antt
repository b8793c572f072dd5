-- What one worker's lines make of a run, from the notes of its pass.
use Rattle.std.proofs.Common.{◌≡◌, ◌≢◌, ℕ, ◌≤◌, IsTrue, List, [], ◌∷◌, ◌++◌, refl, sym, ap, ◌∙◌, subst, ⊎_elim, append-nil, append_assoc}
use Rattle.std.proofs.lemmas.Bool.{cases_eq}
use Rattle.graph_model.specs.declared.graph.Base.{Base}
use Rattle.graph_legal.specs.Lines.{Replied}
use Rattle.graph_legal.specs.Kinds.{is_in_kind}
use Rattle.core_states.specs.declared.actor.Actor.{Actor}
use Rattle.core_states.specs.Openings.{run_limits, fresh_actor}
use Rattle.core_states.specs.States.{State}
use Rattle.core_kept.specs.Bounds.{Kept}
use Rattle.core_calls.specs.Events.{Told, GoesOn, Did}
use Rattle.graph_workers.specs.Requests.{LineMakes}
use Rattle.graph_workers.specs.Passes.{Pass, trace_of_txn, told_after, EndIs, SessionCloses, AllOpen, AllClose, LineRan, Served, Starts, WoundUp}
use Rattle.turn_board.specs.Views.{Done, Noted}
use Rattle.worker_runs.specs.Ahead.{ahead, Answered, did_ahead}
use Rattle.worker_runs.specs.Notes.{session, OneDid, NoneDid, AllOpened, LinesDid, AllClosed, WorkerDid}
use Rattle.worker_runs.proofs.Ahead.{ahead_both, did_both, answered_first, answered_last, quiet, Cut, cut, Follows, follows}
use Rattle.worker_runs.proofs.Sessions.{goes, one}

module _ (base : Base) (p : List ℕ) where
  -- the sessions are as the notes have them
  abbrev AreAt : State → (ℕ → Actor) → Type 0
  AreAt s actors = (k : ℕ) → s.actor (session p k) ≡ actors k

  one_did : (k : ℕ) (evs : List Told) (es : List Done) (s : State) (old : ℕ → Actor) (notes : List Noted) (new : ℕ → Actor) → Kept base run_limits s → Answered run_limits s es → AreAt s old
      → OneDid p k evs old notes new → did_ahead run_limits p s es ≡ notes → Did base run_limits (session p) (session p k) evs s (ahead run_limits s es) × AreAt (ahead run_limits s es) new
  one_did k evs es s old notes new kept answered at d is =
      let r = one base run_limits p k evs es s (old k) (new k) notes kept answered (at k) d.are is in (
        r.did,
        (λ j. ⊎_elim
            (λ (e : j ≡ k). subst (λ (i : ℕ). (ahead run_limits s es).actor (session p i) ≡ new i) (sym e) r.now)
            (λ (ne : j ≢ k). r.apart j ne ∙ (at j ∙ sym (d.others j ne)))
            (cases_eq j k)),
      )

  none_did : (es : List Done) (s : State) (old : ℕ → Actor) (notes : List Noted) (new : ℕ → Actor) → Kept base run_limits s → AreAt s old → NoneDid old notes new → did_ahead run_limits p s es ≡ notes
      → GoesOn base run_limits (session p) s (ahead run_limits s es) × AreAt (ahead run_limits s es) new
  none_did es s old notes new kept at none is =
      let same = quiet run_limits p s es (is ∙ none.0) in
      (goes base run_limits p s (ahead run_limits s es) (follows run_limits base s es kept) same, (λ k. same k ∙ (at k ∙ sym (none.1 k))))

  -- the state after a run that is cut in two
  at_cut : (s : State) (es : List Done) (xs ys : List Noted) (c : Cut run_limits p s es xs ys) → ahead run_limits (ahead run_limits s c.early) c.late ≡ ahead run_limits s es
  at_cut s es xs ys c = sym (ap (λ z. ahead run_limits s z) c.are ∙ ahead_both run_limits s c.early c.late)

  opens_all : (ks : List ℕ) (es : List Done) (s : State) (old : ℕ → Actor) (notes : List Noted) (new : ℕ → Actor) → Kept base run_limits s → Answered run_limits s es → AreAt s old
      → AllOpened p ks old notes new → did_ahead run_limits p s es ≡ notes → AllOpen base (session p) ks s (ahead run_limits s es) × AreAt (ahead run_limits s es) new
  opens_all [] es s old notes new kept answered at o is = none_did es s old notes new kept at o is
  opens_all (k ∷ ks) es s old notes new kept answered at o is =
      let c = cut run_limits p es s o.3 o.4 (is ∙ o.5) in
      let all = subst (λ z. Answered run_limits s z) c.are answered in
      let here = one_did k o.1 c.early s old o.3 o.0 kept (answered_first run_limits s c.early c.late all) at o.6 c.first in
      let rest = opens_all ks c.late (ahead run_limits s c.early) o.0 o.4 new (follows run_limits base s c.early kept).kept (answered_last run_limits s c.early c.late all) here.1 o.7 c.last in
      subst (λ t. AllOpen base (session p) (k ∷ ks) s t × AreAt t new) (at_cut s es o.3 o.4 c) ((ahead run_limits s c.early, o.1, o.2, here.0, rest.0), rest.1)

  closes_all : (ks : List ℕ) (es : List Done) (s : State) (old : ℕ → Actor) (notes : List Noted) (new : ℕ → Actor) → Kept base run_limits s → Answered run_limits s es → AreAt s old
      → AllClosed p ks old notes new → did_ahead run_limits p s es ≡ notes → AllClose base (session p) ks s (ahead run_limits s es)
  closes_all [] es s old notes new kept answered at o is = (none_did es s old notes new kept at o is).0
  closes_all (k ∷ ks) es s old notes new kept answered at o is =
      let c = cut run_limits p es s o.3 o.4 (is ∙ o.5) in
      let all = subst (λ z. Answered run_limits s z) c.are answered in
      let here = one_did k o.1 c.early s old o.3 o.0 kept (answered_first run_limits s c.early c.late all) at o.6 c.first in
      let rest = closes_all ks c.late (ahead run_limits s c.early) o.0 o.4 new (follows run_limits base s c.early kept).kept (answered_last run_limits s c.early c.late all) here.1 o.7 c.last in
      subst (λ t. AllClose base (session p) (k ∷ ks) s t) (at_cut s es o.3 o.4 c)
      (ahead run_limits s c.early, o.1, subst (λ (a : Actor). SessionCloses a.txn o.1) (sym (at k)) o.2, here.0, rest)

  -- Lines were served in the first events of a run; in those behind them the pass did nothing.
  record ServedTo (n : ℕ) (s : State) (lines : List Replied) (es : List Done) (new : ℕ → Actor) : Type 0 where
    early : List Done
    late : List Done
    are : es ≡ early ++ late
    none : did_ahead run_limits p (ahead run_limits s early) late ≡ []
    told : ℕ
    served : Served base (session p) (record { told = n; seen = s }) lines (record { told = told; seen = ahead run_limits s early })
    now : AreAt (ahead run_limits s early) new

  serves_all : (n : ℕ) (lines : List Replied) (es : List Done) (s : State) (old : ℕ → Actor) (notes : List Noted) (new : ℕ → Actor) → Kept base run_limits s → Answered run_limits s es → AreAt s old
      → LinesDid p old lines notes new → did_ahead run_limits p s es ≡ notes → ServedTo n s lines es new
  serves_all n [] es s old notes new kept answered at l is = record { early = []; late = es; are = refl; none = is ∙ l.0; told = n; served = refl; now = λ k. at k ∙ sym (l.1 k) }
  serves_all n (a ∷ above) es s old notes new kept answered at l is =
      let c = cut run_limits p es s l.1 l.2 (is ∙ l.3) in
      let all = subst (λ z. Answered run_limits s z) c.are answered in
      let r = serves_all n above c.early s old l.1 l.0 kept (answered_first run_limits s c.early c.late all) at l.4 c.first in
      let mid : State = ahead run_limits s r.early in
      let more : List Done = r.late ++ c.late in
      let whole : es ≡ r.early ++ (r.late ++ c.late) = c.are ∙ (ap (λ z. z ++ c.late) r.are ∙ append_assoc r.early r.late c.late) in
      let then : ahead run_limits (ahead run_limits s r.early) r.late ≡ ahead run_limits s c.early = sym (ap (λ z. ahead run_limits s z) r.are ∙ ahead_both run_limits s r.early r.late) in
      let noted : did_ahead run_limits p (ahead run_limits s r.early) (r.late ++ c.late) ≡ l.2 =
      did_both run_limits p (ahead run_limits s r.early) r.late c.late ∙ ((λ i. r.none i ++ did_ahead run_limits p (then i) c.late) ∙ c.last) in
      let o = one_did a.session l.5.events (r.late ++ c.late) (ahead run_limits s r.early) l.0 l.2 new (follows run_limits base s r.early kept).kept
      (answered_last run_limits s r.early (r.late ++ c.late) (subst (λ z. Answered run_limits s z) whole answered)) r.now l.5.did noted in
      let ran : LineRan base (session p) (record { told = r.told; seen = ahead run_limits s r.early }) a.session a.request a.reply (record { told = told_after r.told a.reply; seen = ahead run_limits (ahead run_limits s r.early) (r.late ++ c.late) }) =
      record {
        kind = subst (λ (b : Actor). IsTrue (is_in_kind (trace_of_txn b.txn) a.request a.reply)) (sym (r.now a.session))
            (l.5.kind base (session p) (session p a.session) (ahead run_limits s r.early) (ahead run_limits (ahead run_limits s r.early) (r.late ++ c.late)) o.0);
        events = l.5.events;
        makes = subst (λ (b : Actor). LineMakes b.txn a.request a.reply l.5.events) (sym (r.now a.session)) l.5.makes;
        did = o.0;
        told = refl;
        ends = subst (λ (b : Actor). EndIs a.reply b) (sym (o.1 a.session)) l.5.ends;
      } in
      let end : ahead run_limits (ahead run_limits s r.early) (r.late ++ c.late) ≡ ahead run_limits s es = sym (ap (λ z. ahead run_limits s z) whole ∙ ahead_both run_limits s r.early (r.late ++ c.late)) in
      record {
        early = es;
        late = [];
        are = sym (append-nil es);
        none = refl;
        told = told_after r.told a.reply;
        served = (record { told = r.told; seen = ahead run_limits s r.early }, r.served, subst (λ t. LineRan base (session p) (record { told = r.told; seen = ahead run_limits s r.early }) a.session a.request a.reply (record { told = told_after r.told a.reply; seen = t })) end ran);
        now = subst (λ t. AreAt t new) end o.1;
      }

  -- What a worker's pass was before its lines, after them, and in the end, where it starts from a state and was told of this epoch.
  pub record WorkerRan (n : ℕ) (s : State) (lines : List Replied) (t : State) : Type 0 where
    pub first : Pass
    pub now : Pass
    pub last : Pass
    pub starts : Starts base (session p) first
    pub served : Served base (session p) first lines now
    pub wound_up : WoundUp base (session p) now last
    pub told : first.told ≡ n
    pub begins : Follows run_limits base s first.seen
    pub goes_on : Follows run_limits base now.seen last.seen
    pub ends : last.seen ≡ t

  pub worker_ran : (n : ℕ) (lines : List Replied) (es : List Done) (s : State) (notes : List Noted) → Kept base run_limits s → Answered run_limits s es → AreAt s (λ k. fresh_actor base)
      → WorkerDid base p lines notes → did_ahead run_limits p s es ≡ notes → base.epoch ≤ n → n ≤ s.clock.visible → WorkerRan n s lines (ahead run_limits s es)
  worker_ran n lines es s notes kept answered at w is low visible =
      let c = cut run_limits p es s w.opening (w.serving ++ w.closing) (is ∙ w.are) in
      let all = subst (λ z. Answered run_limits s z) c.are answered in
      let o = opens_all w.opened c.early s (λ k. fresh_actor base) w.opening w.at_first kept (answered_first run_limits s c.early c.late all) at w.opens c.first in
      let f = follows run_limits base s c.early kept in
      let d = cut run_limits p c.late (ahead run_limits s c.early) w.serving w.closing c.last in
      let rest = answered_last run_limits s c.early c.late all in
      let all2 = subst (λ z. Answered run_limits (ahead run_limits s c.early) z) d.are rest in
      let r = serves_all n lines d.early (ahead run_limits s c.early) w.at_first w.serving w.at_end f.kept (answered_first run_limits (ahead run_limits s c.early) d.early d.late all2) o.1 w.serves d.first in
      let whole : c.late ≡ r.early ++ (r.late ++ d.late) = d.are ∙ (ap (λ z. z ++ d.late) r.are ∙ append_assoc r.early r.late d.late) in
      let then : ahead run_limits (ahead run_limits (ahead run_limits s c.early) r.early) r.late ≡ ahead run_limits (ahead run_limits s c.early) d.early =
      sym (ap (λ z. ahead run_limits (ahead run_limits s c.early) z) r.are ∙ ahead_both run_limits (ahead run_limits s c.early) r.early r.late) in
      let noted : did_ahead run_limits p (ahead run_limits (ahead run_limits s c.early) r.early) (r.late ++ d.late) ≡ w.closing =
      did_both run_limits p (ahead run_limits (ahead run_limits s c.early) r.early) r.late d.late ∙ ((λ i. r.none i ++ did_ahead run_limits p (then i) d.late) ∙ d.last) in
      let g = follows run_limits base (ahead run_limits s c.early) r.early f.kept in
      let closed = closes_all w.closed (r.late ++ d.late) (ahead run_limits (ahead run_limits s c.early) r.early) w.at_end w.closing w.left g.kept
      (answered_last run_limits (ahead run_limits s c.early) r.early (r.late ++ d.late) (subst (λ z. Answered run_limits (ahead run_limits s c.early) z) whole rest)) r.now w.closes noted in
      record {
        first = record { told = n; seen = ahead run_limits s c.early };
        now = record { told = r.told; seen = ahead run_limits (ahead run_limits s c.early) r.early };
        last = record { told = r.told; seen = ahead run_limits (ahead run_limits (ahead run_limits s c.early) r.early) (r.late ++ d.late) };
        starts = record { low = low; before = s; visible = visible; fresh = at; sessions = w.opened; opened = o.0 };
        served = r.served;
        wound_up = record { told = refl; sessions = w.closed; closed = closed; others = λ k none. ap (λ (a : Actor). a.txn) (r.now k) ∙ w.others k none };
        told = refl;
        begins = f;
        goes_on = follows run_limits base (ahead run_limits (ahead run_limits s c.early) r.early) (r.late ++ d.late) g.kept;
        ends = sym (ahead_both run_limits (ahead run_limits s c.early) r.early (r.late ++ d.late)) ∙ (ap (λ z. ahead run_limits (ahead run_limits s c.early) z) (sym whole) ∙ at_cut s es w.opening (w.serving ++ w.closing) c);
      }
