-- What a session's actor does over a list of events.
use Rattle.std.proofs.Common.{◌≡◌, ℕ, zero, suc, ◌≤◌, true, List, [], ◌∷◌, refl, sym, ap, ◌∙◌, subst, arith, inl, inr, Some, None}
use Rattle.std.proofs.lemmas.Bool.{leb-true}
use Rattle.graph_model.specs.declared.graph.Base.{Base}
use Rattle.core_states.specs.declared.actor.Actor.{Actor}
use Rattle.core_states.specs.declared.event.Act.{Act}
use Rattle.core_states.specs.declared.event.Act.TheVariants as act
use Rattle.core_states.specs.declared.event.CoreAnswer.{CoreAnswer}
use Rattle.core_states.specs.declared.event.CoreAnswer.TheVariants as answer
use Rattle.core_states.specs.declared.transaction.Transaction.{Transaction}
use Rattle.core_states.specs.declared.transaction.End.TheVariants.{CommittedAt}
use Rattle.core_states.specs.Names.{Name}
use Rattle.core_states.specs.Transactions.{receipt_of, end_of}
use Rattle.core_states.specs.States.{State, after, answer_to}
use Rattle.core_states.specs.Openings.{run_limits}
use Rattle.core_kept.specs.Bounds.{Kept}
use Rattle.core_states.specs.Sound.{RunsAt}
use Rattle.core_calls.specs.Events.{Told, told, GoesOn, Did}
use Rattle.core_calls.specs.Calls.{Nothing, AtMost, InVain, Leaves, Sees, Applies, IsWait, Waits}
use Rattle.graph_workers.proofs.Events.{Same, same_same, same_more, Mid, mid_more, mid_outcome, mid_collect, mid_write, mid_publish, mid_fail, mid_mend, mid_apply, undone, ended, done, seen, held}
use Rattle.graph_workers.proofs.Moving.{Moved, moved_on, moved_by, moved_more, did_first, did_nothing}

module _ (base : Base) (name : ℕ → Name) (apart : (j k : ℕ) → name j ≡ name k → j ≡ k) (k : ℕ) where
  abbrev me : State → Actor
  me s = s.actor (name k)

  -- The actor has this transaction still, and nothing else of it changed since a.
  pub record Here (from : State) (a : Actor) (x : Transaction) (s : State) : Type 0 where
    pub moved : Moved base name k from s
    pub txn : (s.actor (name k)).txn ≡ Some x
    pub receipts : (s.actor (name k)).receipts ≡ a.receipts
    pub drew : (s.actor (name k)).drew ≡ a.drew

  pub here_on : (from : State) (a : Actor) (x : Transaction) (s t : State) → Here from a x s → GoesOn base run_limits name s t → Here from a x t
  here_on from a x s t h g = record {
    moved = moved_more base name apart k from s t h.moved (moved_on base name apart k s t g);
    txn = ap (λ (b : Actor). b.txn) (g.same k) ∙ h.txn;
    receipts = ap (λ (b : Actor). b.receipts) (g.same k) ∙ h.receipts;
    drew = ap (λ (b : Actor). b.drew) (g.same k) ∙ h.drew;
  }

  pub here_by : (from : State) (a : Actor) (x y : Transaction) (s : State) (action : Act) → Here from a x s → (me (after run_limits s (name k) action)).txn ≡ Some y → (me (after run_limits s (name k) action)).receipts ≡ (me s).receipts →
      (me (after run_limits s (name k) action)).drew ≡ (me s).drew → Here from a y (after run_limits s (name k) action)
  here_by from a x y s action h e f g = record {
    moved = moved_more base name apart k from s (after run_limits s (name k) action) h.moved (moved_by base name apart k s action h.moved.kept);
    txn = e;
    receipts = f ∙ h.receipts;
    drew = g ∙ h.drew;
  }

  -- ---- looks in vain

  -- The actor has come to the rest of its events.
  pub record AtRest (from : State) (a : Actor) (x : Transaction) (Rest : List Told → Type 0) (t : State) : Type 0 where
    pub state : State
    pub here : Here from a x state
    pub events : List Told
    pub rest : Rest events
    pub did : Did base run_limits name (name k) events state t

  look_by : (from : State) (a : Actor) (x : Transaction) (v u : ℕ) (now : State) → Here from a x now → answer_to run_limits now (name k) (act.Look v) ≡ answer.Held u → Here from a x (after run_limits now (name k) (act.Look v))
  look_by from a x v u now h e =
      let l = held now (name k) x v u h.txn e in
      here_by from a x x now (act.Look v) h (ap (λ (b : Actor). b.txn) l.actor ∙ l.tells.txn) (ap (λ (b : Actor). b.receipts) l.actor ∙ l.tells.receipts) (ap (λ (b : Actor). b.drew) l.actor ∙ l.tells.drew)

  pub at_most : (from : State) (a : Actor) (x : Transaction) (n v : ℕ) (Rest : List Told → Type 0) (es : List Told) (s t : State) → Here from a x s → AtMost n v Rest es → Did base run_limits name (name k) es s t → AtRest from a x Rest t
  at_most from a x zero v Rest es s t h r d = record { state = s; here = h; events = es; rest = r; did = d }
  at_most from a x (suc n) v Rest es s t h (inl r) d = record { state = s; here = h; events = es; rest = r; did = d }
  at_most from a x (suc n) v Rest es s t h (inr r) d =
      let f = did_first base name apart k (act.Look v) (answer.Held r.0) r.1.0 es s t r.1.1 d in
      at_most from a x n v Rest r.1.0 (after run_limits f.0 (name k) (act.Look v)) t (look_by from a x v r.0 f.0 (here_on from a x s f.0 h f.1) f.2) r.1.2 f.3

  pub in_vain : (from : State) (a : Actor) (x : Transaction) (n v : ℕ) (Rest : List Told → Type 0) (es : List Told) (s t : State) → Here from a x s → InVain n v Rest es → Did base run_limits name (name k) es s t → AtRest from a x Rest t
  in_vain from a x zero v Rest es s t h r d = record { state = s; here = h; events = es; rest = r; did = d }
  in_vain from a x (suc n) v Rest es s t h r d =
      let f = did_first base name apart k (act.Look v) (answer.Held r.0) r.1.0 es s t r.1.1 d in
      in_vain from a x n v Rest r.1.0 (after run_limits f.0 (name k) (act.Look v)) t (look_by from a x v r.0 f.0 (here_on from a x s f.0 h f.1) f.2) r.1.2 f.3

  -- One event is next.
  pub record AtEvent (from : State) (a : Actor) (x : Transaction) (action : Act) (says : CoreAnswer) (rest : List Told) (t : State) : Type 0 where
    pub now : State
    pub here : Here from a x now
    pub so : answer_to run_limits now (name k) action ≡ says
    pub did : Did base run_limits name (name k) rest (after run_limits now (name k) action) t

  pub at_event : (from : State) (a : Actor) (x : Transaction) (action : Act) (says : CoreAnswer) (rest es : List Told) (s t : State) → Here from a x s → es ≡ told action says ∷ rest → Did base run_limits name (name k) es s t →
      AtEvent from a x action says rest t
  at_event from a x action says rest es s t h e d =
      let f = did_first base name apart k action says rest es s t e d in
      record { now = f.0; here = here_on from a x s f.0 h f.1; so = f.2; did = f.3 }

  -- ---- leaving

  -- The transaction was undone and has ended.
  pub record WasGiven (x : Transaction) (a b : Actor) : Type 0 where
    pub txn : Transaction
    pub same : Same x txn
    pub stage : txn.stage ≡ x.stage
    pub idle : b.txn ≡ None
    pub receipts : b.receipts ≡ receipt_of txn (end_of txn.stage a.looked) ∷ a.receipts
    pub drew : b.drew ≡ a.drew

  -- and the rest of the events follows
  pub record GivenTo (x : Transaction) (a : Actor) (Rest : List Told → Type 0) (t : State) : Type 0 where
    pub state : State
    pub given : WasGiven x a (me state)
    pub kept : Kept base run_limits state
    pub events : List Told
    pub rest : Rest events
    pub did : Did base run_limits name (name k) events state t

  pub given_to : (Rest : List Told → Type 0) (es : List Told) (x : Transaction) (s t : State) → RunsAt s (name k) x → Leaves Rest es → Did base run_limits name (name k) es s t → GivenTo x (me s) Rest t
  given_to Rest [] x s t runs l d = absurd l
  given_to Rest (e ∷ es) x s t runs (inl l) d =
      let now = d.0 in
      let run : RunsAt now (name k) x = ap (λ (b : Actor). b.txn) (d.1.same k) ∙ runs in
      let so : answer_to run_limits now (name k) act.End ≡ answer.Done = ap (λ (z : Told). answer_to run_limits now (name k) z.act) (sym l.0) ∙ d.2 ∙ ap (λ (z : Told). z.says) l.0 in
      let out = ended now (name k) x run so in
      record {
        state = after run_limits now (name k) act.End;
        given = record {
          txn = x;
          same = same_same x;
          stage = refl;
          idle = ap (λ (b : Actor). b.txn) out.actor ∙ out.tells.txn;
          receipts = ap (λ (b : Actor). b.receipts) out.actor ∙ out.tells.receipts ∙ ap (λ (b : Actor). receipt_of x (end_of x.stage b.looked) ∷ b.receipts) (d.1.same k);
          drew = ap (λ (b : Actor). b.drew) out.actor ∙ out.tells.drew ∙ ap (λ (b : Actor). b.drew) (d.1.same k);
        };
        kept = (moved_by base name apart k now act.End d.1.kept).kept;
        events = es;
        rest = l.1;
        did = subst (λ (z : Act). Did base run_limits name (name k) es (after run_limits now (name k) z) t) (ap (λ (z : Told). z.act) l.0) d.3;
      }
  given_to Rest (e ∷ es) x s t runs (inr l) d =
      let now = d.0 in
      let v = l.0.0 in
      let run : RunsAt now (name k) x = ap (λ (b : Actor). b.txn) (d.1.same k) ∙ runs in
      let u = undone now (name k) x v run in
      let rest : Did base run_limits name (name k) es (after run_limits now (name k) (act.Undo v)) t = subst (λ (z : Act). Did base run_limits name (name k) es (after run_limits now (name k) z) t) (ap (λ (z : Told). z.act) l.0.1) d.3 in
      let o = given_to Rest es u.mid.txn (after run_limits now (name k) (act.Undo v)) t u.mid.is l.1 rest in
      let ih = o.given in
      record {
        state = o.state;
        given = record {
          txn = ih.txn;
          same = same_more x u.mid.txn ih.txn u.mid.same ih.same;
          stage = ih.stage ∙ u.stage;
          idle = ih.idle;
          receipts = ih.receipts ∙ (λ i. receipt_of ih.txn (end_of ih.txn.stage ((u.looked ∙ ap (λ (b : Actor). b.looked) (d.1.same k)) i)) ∷ (u.mid.receipts ∙ ap (λ (b : Actor). b.receipts) (d.1.same k)) i);
          drew = ih.drew ∙ u.mid.drew ∙ ap (λ (b : Actor). b.drew) (d.1.same k);
        };
        kept = o.kept;
        events = o.events;
        rest = o.rest;
        did = o.did;
      }

  -- nothing follows
  pub given_up : (es : List Told) (x : Transaction) (s t : State) → RunsAt s (name k) x → Leaves Nothing es → Did base run_limits name (name k) es s t → WasGiven x (me s) (me t)
  given_up es x s t runs l d =
      let o = given_to Nothing es x s t runs l d in
      let g = did_nothing base name apart k o.events o.state t o.rest o.did in
      subst (WasGiven x (me s)) (sym (g.same k)) o.given

  -- ---- waiting, applying and seeing

  wait_mid : (s : State) (x : Transaction) (e : Told) → RunsAt s (name k) x → IsWait e → Mid x (me s) (me (after run_limits s (name k) e.act))
  wait_mid s x e runs (inl w) = subst (λ (z : Told). Mid x (me s) (me (after run_limits s (name k) z.act))) (sym w.1) (mid_outcome s (name k) x runs)
  wait_mid s x e runs (inr (inl w)) = subst (λ (z : Told). Mid x (me s) (me (after run_limits s (name k) z.act))) (sym w.1) (mid_collect s (name k) x runs)
  wait_mid s x e runs (inr (inr (inl w))) = subst (λ (z : Told). Mid x (me s) (me (after run_limits s (name k) z.act))) (sym w.1) (mid_write s (name k) x w.0 runs)
  wait_mid s x e runs (inr (inr (inr (inl w)))) = subst (λ (z : Told). Mid x (me s) (me (after run_limits s (name k) z.act))) (sym w.1) (mid_publish s (name k) x runs)
  wait_mid s x e runs (inr (inr (inr (inr (inl w))))) = subst (λ (z : Told). Mid x (me s) (me (after run_limits s (name k) z.act))) (sym w.2) (mid_fail s (name k) x w.0 w.1 runs)
  wait_mid s x e runs (inr (inr (inr (inr (inr w))))) = subst (λ (z : Told). Mid x (me s) (me (after run_limits s (name k) z.act))) (sym w) (mid_mend s (name k) x runs)

  -- The record has waited.
  pub record Waited (x : Transaction) (a : Actor) (from : State) (Rest : List Told → Type 0) (t : State) : Type 0 where
    pub state : State
    pub mid : Mid x a (me state)
    pub moved : Moved base name k from state
    pub events : List Told
    pub rest : Rest events
    pub did : Did base run_limits name (name k) events state t

  pub waited : (es : List Told) (Rest : List Told → Type 0) (x : Transaction) (a : Actor) (from s t : State) → Mid x a (me s) → Moved base name k from s → Waits Rest es → Did base run_limits name (name k) es s t → Waited x a from Rest t
  waited [] Rest x a from s t mid m w d = record { state = s; mid = mid; moved = m; events = []; rest = w; did = d }
  waited (e ∷ es) Rest x a from s t mid m (inl w) d = record { state = s; mid = mid; moved = m; events = e ∷ es; rest = w; did = d }
  waited (e ∷ es) Rest x a from s t mid m (inr w) d =
      let now = d.0 in
      let there : Mid x a (me now) = subst (Mid x a) (sym (d.1.same k)) mid in
      let next = wait_mid now there.txn e there.is w.0 in
      waited es Rest x a from (after run_limits now (name k) e.act) t (mid_more x a (me now) (me (after run_limits now (name k) e.act)) there next)
      (moved_more base name apart k from s (after run_limits now (name k) e.act) m (moved_more base name apart k s now (after run_limits now (name k) e.act) (moved_on base name apart k s now d.1) (moved_by base name apart k now e.act d.1.kept)))
      w.1 d.3

  -- The record is done and visible.
  pub record IsSeen (e : ℕ) (a b : Actor) (t : State) : Type 0 where
    pub idle : b.txn ≡ None
    pub receipts : b.receipts ≡ a.receipts
    pub finished : b.finished ≡ Some e
    pub drew : b.drew ≡ a.drew
    pub visible : e ≤ t.clock.visible

  pub is_seen : (es : List Told) (e : ℕ) (s t : State) → (me s).txn ≡ None → (me s).finished ≡ Some e → Sees es → Did base run_limits name (name k) es s t → IsSeen e (me s) (me t) t
  is_seen [] e s t idle fin w d = absurd w
  is_seen (x ∷ es) e s t idle fin (inl w) d =
      let now = d.0 in
      let free : (me now).txn ≡ None = ap (λ (b : Actor). b.txn) (d.1.same k) ∙ idle in
      let so : answer_to run_limits now (name k) act.Seen ≡ answer.Visible true = ap (λ (z : Told). answer_to run_limits now (name k) z.act) (sym w.0) ∙ d.2 ∙ ap (λ (z : Told). z.says) w.0 in
      let out = seen now (name k) true free so in
      let last : GoesOn base run_limits name (after run_limits now (name k) act.Seen) t = subst (λ xs. Did base run_limits name (name k) xs (after run_limits now (name k) act.Seen) t) w.1
      (subst (λ (z : Act). Did base run_limits name (name k) es (after run_limits now (name k) z) t) (ap (λ (z : Told). z.act) w.0) d.3) in
      let was : (me now).finished ≡ Some e = ap (λ (b : Actor). b.finished) (d.1.same k) ∙ fin in
      let same : out.tells.epoch ≡ e = the out.tells.epoch (sym out.tells.is ∙ was) in
      let up = last.later.visible in
      let now_visible = ap (λ c. c.visible) (out.clock ∙ out.tells.clock) in
      let le = leb-true out.tells.epoch now.clock.visible out.tells.visible in
      record {
        idle = ap (λ (b : Actor). b.txn) (last.same k ∙ out.actor) ∙ out.tells.txn;
        receipts = ap (λ (b : Actor). b.receipts) (last.same k ∙ out.actor) ∙ out.tells.receipts ∙ ap (λ (b : Actor). b.receipts) (d.1.same k);
        finished = ap (λ (b : Actor). b.finished) (last.same k ∙ out.actor) ∙ out.tells.finished ∙ was;
        drew = ap (λ (b : Actor). b.drew) (last.same k ∙ out.actor) ∙ out.tells.drew ∙ ap (λ (b : Actor). b.drew) (d.1.same k);
        visible = omega (arith, same, up, now_visible, le);
      }
    where
      the : (n : ℕ) → Some n ≡ Some e → n ≡ e
      the n f = (cc)
  is_seen (x ∷ es) e s t idle fin (inr w) d =
      let now = d.0 in
      let free : (me now).txn ≡ None = ap (λ (b : Actor). b.txn) (d.1.same k) ∙ idle in
      let so : answer_to run_limits now (name k) act.Seen ≡ answer.Visible w.0.0 = ap (λ (z : Told). answer_to run_limits now (name k) z.act) (sym w.0.1) ∙ d.2 ∙ ap (λ (z : Told). z.says) w.0.1 in
      let out = seen now (name k) w.0.0 free so in
      let rest : Did base run_limits name (name k) es (after run_limits now (name k) act.Seen) t = subst (λ (z : Act). Did base run_limits name (name k) es (after run_limits now (name k) z) t) (ap (λ (z : Told). z.act) w.0.1) d.3 in
      let ih = is_seen es e (after run_limits now (name k) act.Seen) t (ap (λ (b : Actor). b.txn) out.actor ∙ out.tells.txn)
      (ap (λ (b : Actor). b.finished) out.actor ∙ out.tells.finished ∙ ap (λ (b : Actor). b.finished) (d.1.same k) ∙ fin) w.1 rest in
      record {
        idle = ih.idle;
        receipts = ih.receipts ∙ ap (λ (b : Actor). b.receipts) out.actor ∙ out.tells.receipts ∙ ap (λ (b : Actor). b.receipts) (d.1.same k);
        finished = ih.finished;
        drew = ih.drew ∙ ap (λ (b : Actor). b.drew) out.actor ∙ out.tells.drew ∙ ap (λ (b : Actor). b.drew) (d.1.same k);
        visible = ih.visible;
      }

  -- The record was applied and done, and is visible.
  pub record WasCommitted (x : Transaction) (a b : Actor) (t : State) : Type 0 where
    pub txn : Transaction
    pub same : Same x txn
    pub epoch : ℕ
    pub idle : b.txn ≡ None
    pub receipts : b.receipts ≡ receipt_of txn (CommittedAt epoch) ∷ a.receipts
    pub finished : b.finished ≡ Some epoch
    pub drew : b.drew ≡ a.drew
    pub visible : epoch ≤ t.clock.visible

  pub committed : (es : List Told) (x : Transaction) (s t : State) → RunsAt s (name k) x → Applies es → Did base run_limits name (name k) es s t → WasCommitted x (me s) (me t) t
  committed [] x s t runs w d = absurd w
  committed (e ∷ es) x s t runs (inl w) d =
      let now = d.0 in
      let run : RunsAt now (name k) x = ap (λ (b : Actor). b.txn) (d.1.same k) ∙ runs in
      let so : answer_to run_limits now (name k) act.Done ≡ answer.Done = ap (λ (z : Told). answer_to run_limits now (name k) z.act) (sym w.0) ∙ d.2 ∙ ap (λ (z : Told). z.says) w.0 in
      let out = done now (name k) x run so in
      let rest : Did base run_limits name (name k) es (after run_limits now (name k) act.Done) t = subst (λ (z : Act). Did base run_limits name (name k) es (after run_limits now (name k) z) t) (ap (λ (z : Told). z.act) w.0) d.3 in
      let ih = is_seen es out.tells.epoch (after run_limits now (name k) act.Done) t (ap (λ (b : Actor). b.txn) out.actor ∙ out.tells.txn) (ap (λ (b : Actor). b.finished) out.actor ∙ out.tells.finished) w.1 rest in
      record {
        txn = x;
        same = same_same x;
        epoch = out.tells.epoch;
        idle = ih.idle;
        receipts = ih.receipts ∙ ap (λ (b : Actor). b.receipts) out.actor ∙ out.tells.receipts ∙ ap (λ (b : Actor). receipt_of x (CommittedAt out.tells.epoch) ∷ b.receipts) (d.1.same k);
        finished = ih.finished;
        drew = ih.drew ∙ ap (λ (b : Actor). b.drew) out.actor ∙ out.tells.drew ∙ ap (λ (b : Actor). b.drew) (d.1.same k);
        visible = ih.visible;
      }
  committed (e ∷ es) x s t runs (inr w) d =
      let now = d.0 in
      let run : RunsAt now (name k) x = ap (λ (b : Actor). b.txn) (d.1.same k) ∙ runs in
      let mid = mid_apply now (name k) x w.0.0 run in
      let rest : Did base run_limits name (name k) es (after run_limits now (name k) (act.Apply w.0.0)) t = subst (λ (z : Act). Did base run_limits name (name k) es (after run_limits now (name k) z) t) (ap (λ (z : Told). z.act) w.0.1) d.3 in
      let ih = committed es mid.txn (after run_limits now (name k) (act.Apply w.0.0)) t mid.is w.1 rest in
      record {
        txn = ih.txn;
        same = same_more x mid.txn ih.txn mid.same ih.same;
        epoch = ih.epoch;
        idle = ih.idle;
        receipts = ih.receipts ∙ ap (λ xs. receipt_of ih.txn (CommittedAt ih.epoch) ∷ xs) (mid.receipts ∙ ap (λ (b : Actor). b.receipts) (d.1.same k));
        finished = ih.finished;
        drew = ih.drew ∙ mid.drew ∙ ap (λ (b : Actor). b.drew) (d.1.same k);
        visible = ih.visible;
      }
