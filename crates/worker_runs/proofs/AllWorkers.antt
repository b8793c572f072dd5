-- What all workers' lines make of a run, from the notes of their passes.
use Rattle.std.proofs.Common.{◌≡◌, ◌⊎◌, inl, inr, ℕ, ◌+◌, ◌≤◌, ◌<◌, Bool, true, false, List, [], ◌∷◌, ◌++◌, refl, sym, ap, ◌∙◌, subst, ⊎_elim, append-nil, arith}
use Rattle.std.proofs.lemmas.Bool.{ltb-true, ltb-false}
use Rattle.std.specs.Prelude.{nat_lt, if◌then◌else◌}
use Rattle.graph_model.specs.declared.graph.Base.{Base}
use Rattle.graph_legal.specs.Lines.{Replied}
use Rattle.core_states.specs.declared.actor.Actor.{Actor}
use Rattle.core_states.specs.LogParts.{Found}
use Rattle.core_states.specs.Names.{Name, same_pass}
use Rattle.core_states.specs.Openings.{opening, run_limits, fresh_actor, MayOpen}
use Rattle.core_states.specs.States.{State}
use Rattle.core_calls.proofs.OnParts.{others}
use Rattle.graph_workers.specs.Passes.{own_lines}
use Rattle.graph_workers.specs.Workers.{Knows, AllRan}
use Rattle.graph_workers.proofs.Serving.{told_visible}
use Rattle.turn_board.specs.Views.{Done, Noted, Did, Start}
use Rattle.turn_board.specs.Histories.{AnswersIn, if_of, did, noted}
use Rattle.worker_runs.specs.Ahead.{in_order, did_ahead, state_at}
use Rattle.worker_runs.specs.Notes.{session, WorkerDid}
use Rattle.worker_runs.specs.Runs.{Passes}
use Rattle.worker_runs.proofs.Ahead.{same_passes, not_session, Follows, follows_still, follows, state_more, did_more, answers_more, kept_at}
use Rattle.worker_runs.proofs.Workers.{WorkerRan, worker_ran}

-- nothing was done by a pass whose events are not there
pub no_notes : (xs : List Noted) (x : Noted) → xs ++ x ∷ [] ≡ [] → ⊥
no_notes [] x e = let no_such : ⊥ = (cc) in no_such
no_notes (y ∷ xs) x e = let no_such : ⊥ = (cc) in no_such

pub if_mine : (p : List ℕ) (e : Done) (xs : List Noted) (a : Actor) → xs ++ if_of p e a ≡ [] → (xs ≡ []) × (same_pass p e.by.pass ≡ false)
if_mine p e xs a none = by_pass (same_pass p e.by.pass) refl
  where
    by_pass : (b : Bool) → same_pass p e.by.pass ≡ b → (xs ≡ []) × (same_pass p e.by.pass ≡ false)
    by_pass true is = absurd (no_notes xs (Did e a) (ap (λ b. xs ++ (if b then Did e a ∷ [] else [])) (sym is) ∙ none))
    by_pass false is = (sym (append-nil xs) ∙ (ap (λ b. xs ++ (if b then Did e a ∷ [] else [])) (sym is) ∙ none), is)

if_theirs : (p : List ℕ) (e : Done) (xs : List Noted) (a : Actor) → same_pass p e.by.pass ≡ false → xs ++ if_of p e a ≡ xs
if_theirs p e xs a is = ap (λ b. xs ++ (if b then Did e a ∷ [] else [])) is ∙ append-nil xs

-- so its sessions have done nothing
fresh_yet : (start : Start) (p : List ℕ) (run : List Done) → did start p run ≡ [] → (k : ℕ) → (state_at start run).actor (session p k) ≡ fresh_actor start.base
fresh_yet start p [] none k = refl
fresh_yet start p (e ∷ run) none k =
    let parts = if_mine p e (did start p run) ((state_at start (e ∷ run)).actor e.by) none in
    others start.limits (state_at start run) e.by (session p k) e.act (not_session p k e.by parts.1) ∙ fresh_yet start p run parts.0 k

-- These events are of phases up to this one.
abbrev pub AreUpTo : (List ℕ → ℕ) → ℕ → List Done → Type 0
AreUpTo phase_of n [] = Unit {0}
AreUpTo phase_of n (e ∷ es) = (phase_of e.by.pass ≤ n) × AreUpTo phase_of n es

-- In a run, whose last event stands first, no event is of a phase before that of an earlier event.
abbrev pub ByPhase : (List ℕ → ℕ) → List Done → Type 0
ByPhase phase_of [] = Unit {0}
ByPhase phase_of (e ∷ es) = AreUpTo phase_of (phase_of e.by.pass) es × ByPhase phase_of es

-- ---- the events before a phase

module _ (phase_of : List ℕ → ℕ) where
  -- the run up to the last event of a phase before this one
  abbrev early : ℕ → List Done → List Done
  early n [] = []
  early n (e ∷ run) = if nat_lt (phase_of e.by.pass) n then e ∷ run else early n run

  -- what was done after
  abbrev Late : List Done → List Done → Type 0
  Late run part = (more : List Done) × (run ≡ more ++ part)

  early_of : (n : ℕ) (run : List Done) → Late run (early n run)
  early_of n [] = ([], refl)
  early_of n (e ∷ run) = by_test (nat_lt (phase_of e.by.pass) n) (early_of n run)
    where
      by_test : (b : Bool) → Late run (early n run) → Late (e ∷ run) (if b then e ∷ run else early n run)
      by_test true ih = ([], refl)
      by_test false ih = (e ∷ ih.0, ap (λ z. e ∷ z) ih.1)

  early_both : (m n : ℕ) (run : List Done) → m ≤ n → Late (early n run) (early m run)
  early_both m n [] le = ([], refl)
  early_both m n (e ∷ run) le = by_test (nat_lt (phase_of e.by.pass) n) (nat_lt (phase_of e.by.pass) m) refl refl (early_of m (e ∷ run)) (early_both m n run le)
    where
      by_test : (b c : Bool) → nat_lt (phase_of e.by.pass) n ≡ b → nat_lt (phase_of e.by.pass) m ≡ c → Late (e ∷ run) (early m (e ∷ run)) → Late (early n run) (early m run) → Late (if b then e ∷ run else early n run) (early m (e ∷ run))
      by_test true c is was whole ih = whole
      by_test false true is was whole ih = let low = ltb-true (phase_of e.by.pass) m was in let high = ltb-false (phase_of e.by.pass) n is in absurd (omega (arith, low, high, le))
      by_test false false is was whole ih = (ih.0, ih.1 ∙ ap (λ b. ih.0 ++ (if b then e ∷ run else early m run)) (sym was))

  -- a pass of an earlier phase did all of its events there
  all_early : (start : Start) (p : List ℕ) (n : ℕ) (run : List Done) → phase_of p < n → did start p run ≡ did start p (early n run)
  all_early start p n [] lt = refl
  all_early start p n (e ∷ run) lt = by_test (nat_lt (phase_of e.by.pass) n) refl (all_early start p n run lt)
    where
      other : nat_lt (phase_of e.by.pass) n ≡ false → (b : Bool) → same_pass p e.by.pass ≡ b → same_pass p e.by.pass ≡ false
      other is true same = let high = ltb-false (phase_of e.by.pass) n is in let eq = ap phase_of (same_passes p e.by.pass same) in absurd (omega (arith, high, lt, eq))
      other is false same = same

      by_test : (b : Bool) → nat_lt (phase_of e.by.pass) n ≡ b → did start p run ≡ did start p (early n run) → did start p (e ∷ run) ≡ did start p (if b then e ∷ run else early n run)
      by_test true is ih = refl
      by_test false is ih = if_theirs p e (did start p run) ((state_at start (e ∷ run)).actor e.by) (other is (same_pass p e.by.pass) refl) ∙ ih

  -- and its sessions are as they were then
  still : (start : Start) (p : List ℕ) (n : ℕ) (run : List Done) → phase_of p < n → (k : ℕ) → (state_at start run).actor (session p k) ≡ (state_at start (early n run)).actor (session p k)
  still start p n [] lt k = refl
  still start p n (e ∷ run) lt k = by_test (nat_lt (phase_of e.by.pass) n) refl (still start p n run lt k)
    where
      other : nat_lt (phase_of e.by.pass) n ≡ false → (b : Bool) → same_pass p e.by.pass ≡ b → same_pass p e.by.pass ≡ false
      other is true same = let high = ltb-false (phase_of e.by.pass) n is in let eq = ap phase_of (same_passes p e.by.pass same) in absurd (omega (arith, high, lt, eq))
      other is false same = same

      by_test : (b : Bool) → nat_lt (phase_of e.by.pass) n ≡ b → (state_at start run).actor (session p k) ≡ (state_at start (early n run)).actor (session p k)
          → (state_at start (e ∷ run)).actor (session p k) ≡ (state_at start (if b then e ∷ run else early n run)).actor (session p k)
      by_test true is ih = refl
      by_test false is ih = others start.limits (state_at start run) e.by (session p k) e.act (not_session p k e.by (other is (same_pass p e.by.pass) refl)) ∙ ih

  -- a pass of no earlier phase did nothing yet
  none_up_to : (start : Start) (p : List ℕ) (n : ℕ) (run : List Done) → AreUpTo phase_of n run → n < phase_of p → did start p run ≡ []
  none_up_to start p n [] up lt = refl
  none_up_to start p n (e ∷ run) up lt = if_theirs p e (did start p run) ((state_at start (e ∷ run)).actor e.by) (other (same_pass p e.by.pass) refl) ∙ none_up_to start p n run up.1 lt
    where
      other : (b : Bool) → same_pass p e.by.pass ≡ b → same_pass p e.by.pass ≡ false
      other true same = let low = up.0 in let eq = ap phase_of (same_passes p e.by.pass same) in absurd (omega (arith, low, lt, eq))
      other false same = same

  none_early : (start : Start) (p : List ℕ) (n : ℕ) (run : List Done) → ByPhase phase_of run → n ≤ phase_of p → did start p (early n run) ≡ []
  none_early start p n [] order le = refl
  none_early start p n (e ∷ run) order le = by_test (nat_lt (phase_of e.by.pass) n) refl (none_early start p n run order.1 le)
    where
      by_test : (b : Bool) → nat_lt (phase_of e.by.pass) n ≡ b → did start p (early n run) ≡ [] → did start p (if b then e ∷ run else early n run) ≡ []
      by_test true is ih = let low = ltb-true (phase_of e.by.pass) n is in none_up_to start p (phase_of e.by.pass) (e ∷ run) (omega arith, order.0) (omega (arith, low, le))
      by_test false is ih = ih

answers_late : (start : Start) (more run : List Done) → AnswersIn start.limits start.base start.found (more ++ run) → AnswersIn start.limits start.base start.found run
answers_late start [] run all = all
answers_late start (e ∷ more) run all = answers_late start more run all.1

-- ---- all workers

module _ (base : Base) (found : Found) (shards : ℕ) (may : MayOpen base run_limits) (run : List Done) (answers : AnswersIn run_limits base found run) (events : List Noted) (lines : List Replied) (pass : ℕ → ℕ → List ℕ) (passes : Passes pass)
    (workers : (ph w : ℕ) → WorkerDid base (pass ph w) (own_lines ph w lines) (noted (pass ph w) events)) (only : (p : List ℕ) → (noted p events ≡ []) ⊎ ((ph : ℕ) × (w : ℕ) × (p ≡ pass ph w))) where
  abbrev start : Start
  start = record { base = base; limits = run_limits; found = found; shards = shards }

  abbrev phase_of : List ℕ → ℕ
  phase_of = passes.phase_of

  abbrev name : ℕ → ℕ → ℕ → Name
  name ph w k = session (pass ph w) k

  module _ (is : (p : List ℕ) → did start p run ≡ noted p events) (order : ByPhase phase_of run) where
    -- the state between the phases
    abbrev between : ℕ → State
    between n = state_at start (early phase_of n run)

    goes_to : (part later : List Done) → Late phase_of later part → Follows run_limits base (state_at start part) (state_at start later)
    goes_to part later l = subst (λ t. Follows run_limits base (state_at start part) t) (sym (ap (λ z. state_at start z) l.1 ∙ state_more start l.0 part))
        (follows run_limits base (state_at start part) (in_order l.0) (kept_at start may part))

    on : (m n : ℕ) → m ≤ n → Follows run_limits base (between m) (between n)
    on m n le = goes_to (early phase_of m run) (early phase_of n run) (early_both phase_of m n run le)

    from_opening : (part : List Done) → Follows run_limits base (opening base found) (state_at start part)
    from_opening part = goes_to [] part (whole part)
      where
        whole : (r : List Done) → Late phase_of r []
        whole r = (r, sym (append-nil r))

    abbrev at_first : ℕ → ℕ
    at_first ph = (between ph).clock.visible

    worker : (ph w : ℕ) → WorkerRan base (pass ph w) (at_first ph) (between ph) (own_lines ph w lines) (between (ph + 1))
    worker ph w =
        let mid = early_both phase_of ph (ph + 1) run (omega arith) in
        let of = early_of phase_of (ph + 1) run in
        let phase = passes.phase ph w in
        let none : did start (pass ph w) (early phase_of ph run) ≡ [] = none_early phase_of start (pass ph w) ph run order (omega (arith, phase)) in
        let its : did_ahead run_limits (pass ph w) (between ph) (in_order mid.0) ≡ noted (pass ph w) events =
        ap (λ z. z ++ did_ahead run_limits (pass ph w) (between ph) (in_order mid.0)) (sym none)
        ∙ (sym (did_more start (pass ph w) mid.0 (early phase_of ph run)) ∙ (ap (λ z. did start (pass ph w) z) (sym mid.1) ∙ (sym (all_early phase_of start (pass ph w) (ph + 1) run (omega (arith, phase))) ∙ is (pass ph w)))) in
        let told = answers_more start mid.0 (early phase_of ph run) (subst (λ z. AnswersIn run_limits base found z) mid.1 (answers_late start of.0 (early phase_of (ph + 1) run) (subst (λ z. AnswersIn run_limits base found z) of.1 answers))) in
        let low = (from_opening (early phase_of ph run)).later.visible in
        subst (λ t. WorkerRan base (pass ph w) (at_first ph) (between ph) (own_lines ph w lines) t) (sym (ap (λ z. state_at start z) mid.1 ∙ state_more start mid.0 (early phase_of ph run)))
        (worker_ran base (pass ph w) (at_first ph) (own_lines ph w lines) (in_order mid.0) (between ph) (noted (pass ph w) events) (kept_at start may (early phase_of ph run)) told
        (fresh_yet start (pass ph w) (early phase_of ph run) none) (workers ph w) its low (omega arith))

    apart : (ph w j k : ℕ) → name ph w j ≡ name ph w k → j ≡ k
    apart ph w j k e = ap (λ (n : Name). n.index) e

    knows : (ph w ph2 w2 : ℕ) → ph < ph2 → Knows (worker ph w).last (worker ph2 w2).first
    knows ph w ph2 w2 lt =
        let a = worker ph w in
        let b = worker ph2 w2 in
        let f = follows_still run_limits base (between (ph + 1)) (between ph2) b.first.seen (on (ph + 1) ph2 (omega (arith, lt))) b.begins in
        let g : Follows run_limits base a.last.seen b.first.seen = subst (λ s. Follows run_limits base s b.first.seen) (sym a.ends) f in
        let up : (between (ph + 1)).clock.visible ≤ (between ph2).clock.visible = (on (ph + 1) ph2 (omega (arith, lt))).later.visible in
        let low = told_visible base (name ph w) a.first (own_lines ph w lines) a.now may.good (apart ph w) a.starts a.served in
        let more = a.goes_on.later.visible in
        let end : a.last.seen.clock.visible ≡ (between (ph + 1)).clock.visible = ap (λ (s : State). s.clock.visible) a.ends in
        let same = a.wound_up.told in
        let told = b.told in
        record { told = omega (arith, up, low, more, end, same, told); later = g.later; receipts = g.receipts }

    pub all_ran : AllRan base found (state_at start run) lines
    all_ran = record {
      name = name;
      named = record {
        phase_of = λ n. phase_of n.pass;
        worker_of = λ n. passes.worker_of n.pass;
        session_of = λ n. n.index;
        phase = λ ph w k. passes.phase ph w;
        worker = λ ph w k. passes.worker ph w;
        session = λ ph w k. refl;
      };
      first = λ ph w. (worker ph w).first;
      now = λ ph w. (worker ph w).now;
      last = λ ph w. (worker ph w).last;
      starts = λ ph w. (worker ph w).starts;
      served = λ ph w. (worker ph w).served;
      wound_up = λ ph w. (worker ph w).wound_up;
      split = knows;
      closed = record {
        kept = kept_at start may run;
        opened = (from_opening run).later_log;
        later = λ ph w. (subst (λ s. Follows run_limits base s (state_at start run)) (sym (worker ph w).ends) (goes_to (early phase_of (ph + 1) run) run (early_of phase_of (ph + 1) run))).later;
        same = λ ph w k. let phase = passes.phase ph w in
            still phase_of start (pass ph w) (ph + 1) run (omega (arith, phase)) k ∙ ap (λ (s : State). s.actor (name ph w k)) (sym (worker ph w).ends);
        only = λ i. ⊎_elim
            (λ (none : noted i.pass events ≡ []). let fresh = fresh_yet start i.pass run (is i.pass ∙ none) i.index in inl (record {
              txn = ap (λ (a : Actor). a.txn) fresh;
              receipts = ap (λ (a : Actor). a.receipts) fresh;
              drew = ap (λ (a : Actor). a.drew) fresh;
            }))
            (λ (of : (ph : ℕ) × (w : ℕ) × (i.pass ≡ pass ph w)). inr (of.0, of.1, i.index, λ j. record { pass = of.2 j; index = i.index }))
            (only i.pass);
      };
    }
