-- Runs that go on: their states, and what a pass did in them.
use Rattle.std.proofs.Common.{◌≡◌, ◌≢◌, ℕ, Bool, true, false, List, [], ◌∷◌, ◌++◌, refl, sym, ap, ◌∙◌, append-nil, append_assoc}
use Rattle.std.specs.Prelude.{if◌then◌else◌}
use Rattle.graph_model.specs.declared.graph.Base.{Base}
use Rattle.core_states.specs.declared.actor.Actor.{Actor}
use Rattle.core_states.specs.Names.{Name, same_pass}
use Rattle.core_states.specs.Openings.{MayOpen}
use Rattle.core_states.specs.RowEvents.{Limits}
use Rattle.core_states.specs.States.{State, after, answer_to}
use Rattle.core_states.specs.Laters.{Later, LaterLog, ReceiptsStay}
use Rattle.core_states.proofs.Names.{same_name_is, same_name_true}
use Rattle.core_kept.specs.Bounds.{Kept}
use Rattle.core_kept.proofs.Keeping.{opening_kept, step_kept}
use Rattle.core_laws.proofs.Laters.{kept_later, later_log}
use Rattle.core_laws.proofs.Orders.{later_self, later_still, log_self, log_still}
use Rattle.core_laws.proofs.FailedRecords.{receipts_stay}
use Rattle.core_calls.proofs.OnParts.{others}
use Rattle.turn_board.specs.Views.{Done, Noted, Did, Start}
use Rattle.turn_board.specs.Histories.{AnswersIn, if_of, did}
use Rattle.worker_runs.specs.Ahead.{in_order, ahead, Answered, did_ahead, state_at}
use Rattle.worker_runs.specs.Notes.{session}

-- ---- passes

abbrev named : List ℕ → Name
named p = record { pass = p; index = 0 }

pub same_passes : (p q : List ℕ) → same_pass p q ≡ true → p ≡ q
same_passes p q e = ap (λ (n : Name). n.pass) (same_name_is (named p) (named q) e)

-- an actor of another pass is no session of this one
pub not_session : (p : List ℕ) (k : ℕ) (n : Name) → same_pass p n.pass ≡ false → session p k ≢ n
not_session p k n other e = let same : same_pass p n.pass ≡ true = ap (λ (m : Name). same_pass p m.pass) (sym e) ∙ same_name_true (named p) (named p) refl in let no_such : ⊥ = (cc) in no_such

-- ---- a run from a state on

module _ (most : Limits) where
  pub ahead_both : (s : State) (xs ys : List Done) → ahead most s (xs ++ ys) ≡ ahead most (ahead most s xs) ys
  ahead_both s [] ys = refl
  ahead_both s (x ∷ xs) ys = ahead_both (after most s x.by x.act) xs ys

  pub did_both : (p : List ℕ) (s : State) (xs ys : List Done) → did_ahead most p s (xs ++ ys) ≡ did_ahead most p s xs ++ did_ahead most p (ahead most s xs) ys
  did_both p s [] ys = refl
  did_both p s (x ∷ xs) ys = ap (λ z. if_of p x ((after most s x.by x.act).actor x.by) ++ z) (did_both p (after most s x.by x.act) xs ys)
      ∙ sym (append_assoc (if_of p x ((after most s x.by x.act).actor x.by)) (did_ahead most p (after most s x.by x.act) xs) (did_ahead most p (ahead most (after most s x.by x.act) xs) ys))

  pub answered_first : (s : State) (xs ys : List Done) → Answered most s (xs ++ ys) → Answered most s xs
  answered_first s [] ys all = tt
  answered_first s (x ∷ xs) ys all = (all.0, answered_first (after most s x.by x.act) xs ys all.1)

  pub answered_last : (s : State) (xs ys : List Done) → Answered most s (xs ++ ys) → Answered most (ahead most s xs) ys
  answered_last s [] ys all = all
  answered_last s (x ∷ xs) ys all = answered_last (after most s x.by x.act) xs ys all.1

  answered_both : (s : State) (xs ys : List Done) → Answered most s xs → Answered most (ahead most s xs) ys → Answered most s (xs ++ ys)
  answered_both s [] ys one two = two
  answered_both s (x ∷ xs) ys one two = (one.0, answered_both (after most s x.by x.act) xs ys one.1 two)

  -- the first event is one of the pass, or it is not
  pub did_here : (p : List ℕ) (s : State) (e : Done) (es : List Done) → same_pass p e.by.pass ≡ true
      → did_ahead most p s (e ∷ es) ≡ Did e ((after most s e.by e.act).actor e.by) ∷ did_ahead most p (after most s e.by e.act) es
  did_here p s e es is = ap (λ b. (if b then Did e ((after most s e.by e.act).actor e.by) ∷ [] else []) ++ did_ahead most p (after most s e.by e.act) es) is

  pub did_there : (p : List ℕ) (s : State) (e : Done) (es : List Done) → same_pass p e.by.pass ≡ false → did_ahead most p s (e ∷ es) ≡ did_ahead most p (after most s e.by e.act) es
  did_there p s e es is = ap (λ b. (if b then Did e ((after most s e.by e.act).actor e.by) ∷ [] else []) ++ did_ahead most p (after most s e.by e.act) es) is

  -- where a pass does nothing its sessions stay as they are
  pub quiet : (p : List ℕ) (s : State) (es : List Done) → did_ahead most p s es ≡ [] → (k : ℕ) → (ahead most s es).actor (session p k) ≡ s.actor (session p k)
  quiet p s [] none k = refl
  quiet p s (e ∷ es) none k = by_pass (λ n. quiet p (after most s e.by e.act) es n k) (same_pass p e.by.pass) refl
    where
      by_pass : (did_ahead most p (after most s e.by e.act) es ≡ [] → (ahead most s (e ∷ es)).actor (session p k) ≡ (after most s e.by e.act).actor (session p k))
          → (b : Bool) → same_pass p e.by.pass ≡ b → (ahead most s (e ∷ es)).actor (session p k) ≡ s.actor (session p k)
      by_pass ih true is = let some : Did e ((after most s e.by e.act).actor e.by) ∷ did_ahead most p (after most s e.by e.act) es ≡ [] = sym (did_here p s e es is) ∙ none in let no_such : ⊥ = (cc) in absurd no_such
      by_pass ih false is = ih (sym (did_there p s e es is) ∙ none) ∙ others most s e.by (session p k) e.act (not_session p k e.by is)

  -- What a pass did is cut in two: so is the run.
  pub record Cut (p : List ℕ) (s : State) (es : List Done) (xs ys : List Noted) : Type 0 where
    pub early : List Done
    pub late : List Done
    pub are : es ≡ early ++ late
    pub first : did_ahead most p s early ≡ xs
    pub last : did_ahead most p (ahead most s early) late ≡ ys

  pub cut : (p : List ℕ) (es : List Done) (s : State) (xs ys : List Noted) → did_ahead most p s es ≡ xs ++ ys → Cut p s es xs ys
  cut p es s [] ys is = record { early = []; late = es; are = refl; first = refl; last = is }
  cut p [] s (x ∷ xs) ys is = let no_such : ⊥ = (cc) in absurd no_such
  cut p (e ∷ es) s (x ∷ xs) ys is = by_pass (λ zs. cut p es (after most s e.by e.act) zs ys) (same_pass p e.by.pass) refl
    where
      by_pass : ((zs : List Noted) → did_ahead most p (after most s e.by e.act) es ≡ zs ++ ys → Cut p (after most s e.by e.act) es zs ys) → (b : Bool) → same_pass p e.by.pass ≡ b → Cut p s (e ∷ es) (x ∷ xs) ys
      by_pass ih true mine =
          let both : Did e ((after most s e.by e.act).actor e.by) ∷ did_ahead most p (after most s e.by e.act) es ≡ x ∷ (xs ++ ys) = sym (did_here p s e es mine) ∙ is in
          let head : Did e ((after most s e.by e.act).actor e.by) ≡ x = (cc) in
          let tail : did_ahead most p (after most s e.by e.act) es ≡ xs ++ ys = (cc) in
          let rest = ih xs tail in
          record { early = e ∷ rest.early; late = rest.late; are = ap (λ z. e ∷ z) rest.are; first = did_here p s e rest.early mine ∙ (λ i. head i ∷ rest.first i); last = rest.last }
      by_pass ih false theirs =
          let rest = ih (x ∷ xs) (sym (did_there p s e es theirs) ∙ is) in
          record { early = e ∷ rest.early; late = rest.late; are = ap (λ z. e ∷ z) rest.are; first = did_there p s e rest.early theirs ∙ rest.first; last = rest.last }

  -- A state that comes after another, of whatever events.
  pub record Follows (base : Base) (s t : State) : Type 0 where
    pub kept : Kept base most t
    pub later : Later s.clock t.clock
    pub later_log : LaterLog s.log t.log
    pub receipts : ReceiptsStay s t

  pub follows_self : (base : Base) (s : State) → Kept base most s → Follows base s s
  follows_self base s kept = record { kept = kept; later = later_self s.clock; later_log = log_self s.log; receipts = λ i r m. m }

  pub follows_still : (base : Base) (s t u : State) → Follows base s t → Follows base t u → Follows base s u
  follows_still base s t u f g = record { kept = g.kept; later = later_still s.clock t.clock u.clock f.later g.later; later_log = log_still s.log t.log u.log f.later_log g.later_log; receipts = λ i r m. g.receipts i r (f.receipts i r m) }

  pub follows_one : (base : Base) (s : State) (e : Done) → Kept base most s → Follows base s (after most s e.by e.act)
  follows_one base s e kept = record { kept = step_kept base most s e.by e.act kept; later = kept_later base most s e.by e.act kept; later_log = later_log most s e.by e.act; receipts = receipts_stay most s e.by e.act }

  pub follows : (base : Base) (s : State) (es : List Done) → Kept base most s → Follows base s (ahead most s es)
  follows base s [] kept = follows_self base s kept
  follows base s (e ∷ es) kept = let one = follows_one base s e kept in follows_still base s (after most s e.by e.act) (ahead most s (e ∷ es)) one (follows base (after most s e.by e.act) es one.kept)

-- ---- a run of a board, which is kept with its last event first

module _ (start : Start) where
  pub state_more : (more run : List Done) → state_at start (more ++ run) ≡ ahead start.limits (state_at start run) (in_order more)
  state_more [] run = refl
  state_more (e ∷ more) run = (λ i. after start.limits (state_more more run i) e.by e.act) ∙ sym (ahead_both start.limits (state_at start run) (in_order more) (e ∷ []))

  pub did_more : (p : List ℕ) (more run : List Done) → did start p (more ++ run) ≡ did start p run ++ did_ahead start.limits p (state_at start run) (in_order more)
  did_more p [] run = sym (append-nil (did start p run))
  did_more p (e ∷ more) run =
      (λ i. did_more p more run i ++ if_of p e ((after start.limits (state_more more run i) e.by e.act).actor e.by))
      ∙ (append_assoc (did start p run) (did_ahead start.limits p (state_at start run) (in_order more)) (if_of p e last)
      ∙ ap (λ z. did start p run ++ z)
      (ap (λ z. did_ahead start.limits p (state_at start run) (in_order more) ++ z) (sym (append-nil (if_of p e last)))
      ∙ sym (did_both start.limits p (state_at start run) (in_order more) (e ∷ []))))
    where
      last : Actor
      last = (after start.limits (ahead start.limits (state_at start run) (in_order more)) e.by e.act).actor e.by

  pub answers_more : (more run : List Done) → AnswersIn start.limits start.base start.found (more ++ run) → Answered start.limits (state_at start run) (in_order more)
  answers_more [] run all = tt
  answers_more (e ∷ more) run all = answered_both start.limits (state_at start run) (in_order more) (e ∷ []) (answers_more more run all.1)
      (all.0 ∙ (λ i. answer_to start.limits (state_more more run i) e.by e.act), tt)

  pub kept_at : MayOpen start.base start.limits → (run : List Done) → Kept start.base start.limits (state_at start run)
  kept_at may [] = opening_kept start.base start.found start.limits may
  kept_at may (e ∷ run) = step_kept start.base start.limits (state_at start run) e.by e.act (kept_at may run)
