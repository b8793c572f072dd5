-- The events of one session in a run, from their notes.
use Rattle.std.proofs.Common.{◌≡◌, ◌≢◌, ℕ, Bool, true, false, List, [], ◌∷◌, refl, sym, ap, ◌∙◌, subst}
use Rattle.graph_model.specs.declared.graph.Base.{Base}
use Rattle.core_states.specs.declared.actor.Actor.{Actor}
use Rattle.core_states.specs.declared.event.Act.{Act}
use Rattle.core_states.specs.Names.{Name, same_pass}
use Rattle.core_states.specs.RowEvents.{Limits}
use Rattle.core_states.specs.States.{State, after, answer_to}
use Rattle.core_kept.specs.Bounds.{Kept}
use Rattle.core_calls.specs.Events.{Told, GoesOn, Did}
use Rattle.core_calls.proofs.OnParts.{others}
use Rattle.turn_board.specs.Views.{Done, Noted}
use Rattle.turn_board.specs.Views.{Did as DidNote}
use Rattle.worker_runs.specs.Ahead.{ahead, Answered, did_ahead}
use Rattle.worker_runs.specs.Notes.{session, AreNotes}
use Rattle.worker_runs.proofs.Ahead.{not_session, did_here, did_there, Follows, follows_self, follows_still, follows_one}

module _ (base : Base) (most : Limits) (p : List ℕ) where
  pub goes : (s t : State) → Follows most base s t → ((k : ℕ) → t.actor (session p k) ≡ s.actor (session p k)) → GoesOn base most (session p) s t
  goes s t f same = record { kept = f.kept; later = f.later; later_log = f.later_log; receipts = f.receipts; same = same }

  -- others may do events before
  pub goes_more : (s t u : State) → GoesOn base most (session p) s t → GoesOn base most (session p) t u → GoesOn base most (session p) s u
  goes_more s t u f g = goes s u
      (follows_still most base s t u (record { kept = f.kept; later = f.later; later_log = f.later_log; receipts = f.receipts }) (record { kept = g.kept; later = g.later; later_log = g.later_log; receipts = g.receipts }))
      (λ k. g.same k ∙ f.same k)

  pub did_before : (i : Name) (evs : List Told) (s t u : State) → GoesOn base most (session p) s t → Did base most (session p) i evs t u → Did base most (session p) i evs s u
  did_before i [] s t u g d = goes_more s t u g d
  did_before i (e ∷ evs) s t u g d = (d.0, goes_more s t d.0 g d.1, d.2, d.3)

  -- What one session's events leave.
  pub record OneRan (k : ℕ) (evs : List Told) (s t : State) (b : Actor) : Type 0 where
    pub did : Did base most (session p) (session p k) evs s t
    pub now : t.actor (session p k) ≡ b
    pub apart : (j : ℕ) → j ≢ k → t.actor (session p j) ≡ s.actor (session p j)

  -- the same of the events from a state on, whatever they are
  abbrev Goes : ℕ → List Done → State → Actor → Type 0
  Goes k es s b = (told : List Told) (c : Actor) (xs : List Noted) → s.actor (session p k) ≡ c → AreNotes (session p k) told c b xs → did_ahead most p s es ≡ xs → OneRan k told s (ahead most s es) b

  pub one : (k : ℕ) (evs : List Told) (es : List Done) (s : State) (a b : Actor) (notes : List Noted) → Kept base most s → Answered most s es → s.actor (session p k) ≡ a
      → AreNotes (session p k) evs a b notes → did_ahead most p s es ≡ notes → OneRan k evs s (ahead most s es) b
  one k [] [] s a b notes kept answered at are is = record { did = goes s s (follows_self most base s kept) (λ j. refl); now = at ∙ sym are.1; apart = λ j ne. refl }
  one k (e ∷ evs) [] s a b notes kept answered at are is = let none = is ∙ are.2 in let no_such : ⊥ = (cc) in absurd no_such
  one k evs (d ∷ es) s a b notes kept answered at are is =
      by_pass (λ told c xs. one k told es (after most s d.by d.act) c b xs (follows_one most base s d kept).kept answered.1) (same_pass p d.by.pass) refl
    where
      f : Follows most base s (after most s d.by d.act)
      f = follows_one most base s d kept

      mine : Goes k es (after most s d.by d.act) b → (told : List Told) → AreNotes (session p k) told a b notes → same_pass p d.by.pass ≡ true → OneRan k told s (ahead most s (d ∷ es)) b
      mine ih [] none m = let some = sym (did_here most p s d es m) ∙ (is ∙ none.0) in let no_such : ⊥ = (cc) in absurd no_such
      mine ih (e ∷ rest) noted m =
          let both : DidNote d ((after most s d.by d.act).actor d.by) ∷ did_ahead most p (after most s d.by d.act) es ≡ DidNote (record { by = session p k; act = e.act; answer = e.says }) noted.0 ∷ noted.1 =
          sym (did_here most p s d es m) ∙ (is ∙ noted.2) in
          let done : d ≡ record { by = session p k; act = e.act; answer = e.says } = (cc) in
          let left : (after most s d.by d.act).actor d.by ≡ noted.0 = (cc) in
          let more : did_ahead most p (after most s d.by d.act) es ≡ noted.1 = (cc) in
          let by : d.by ≡ session p k = ap (λ (z : Done). z.by) done in
          let action : d.act ≡ e.act = ap (λ (z : Done). z.act) done in
          let r = ih rest noted.0 noted.1 (ap (λ n. (after most s d.by d.act).actor n) (sym by) ∙ left) noted.3 more in
          record {
            did = (
              s,
              goes s s (follows_self most base s kept) (λ j. refl),
              (λ i. answer_to most s (sym by i) (sym action i)) ∙ (sym answered.0 ∙ ap (λ (z : Done). z.answer) done),
              subst (λ (z : Name × Act). Did base most (session p) (session p k) rest (after most s z.0 z.1) (ahead most s (d ∷ es))) (λ i. (by i, action i)) r.did,
            );
            now = r.now;
            apart = λ j ne. r.apart j ne ∙ others most s d.by (session p j) d.act (λ same. ne (ap (λ (n : Name). n.index) (same ∙ by)));
          }

      by_pass : Goes k es (after most s d.by d.act) b → (x : Bool) → same_pass p d.by.pass ≡ x → OneRan k evs s (ahead most s (d ∷ es)) b
      by_pass ih true m = mine ih evs are m
      by_pass ih false theirs =
          let same : (j : ℕ) → (after most s d.by d.act).actor (session p j) ≡ s.actor (session p j) = λ j. others most s d.by (session p j) d.act (not_session p j d.by theirs) in
          let r = ih evs a notes (same k ∙ at) are (sym (did_there most p s d es theirs) ∙ is) in
          record {
            did = did_before (session p k) evs s (after most s d.by d.act) (ahead most s (d ∷ es)) (goes s (after most s d.by d.act) f same) r.did;
            now = r.now;
            apart = λ j ne. r.apart j ne ∙ same j;
          }
