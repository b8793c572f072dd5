-- What a worker's pass notes is of that pass alone.
use Rattle.std.proofs.Common.{◌≡◌, ◌≢◌, ℕ, List, [], ◌∷◌, ◌++◌, refl, sym, ap, ◌∙◌, subst}
use Rattle.std.specs.Prelude.{if◌then◌else◌}
use Rattle.graph_model.specs.declared.graph.Base.{Base}
use Rattle.graph_legal.specs.Lines.{Replied}
use Rattle.core_states.specs.declared.actor.Actor.{Actor}
use Rattle.core_states.proofs.Names.{same_name_true}
use Rattle.core_calls.specs.Events.{Told}
use Rattle.turn_board.specs.Views.{Noted, Did, Busy}
use Rattle.turn_board.specs.Histories.{noted}
use Rattle.turn_board.proofs.Named.{named, if_other}
use Rattle.worker_runs.specs.Notes.{session, AreNotes, AllOpened, LinesDid, AllClosed, WorkerDid}

-- each is of an event of this pass
AreBy : List ℕ → List Noted → Type 0
AreBy p [] = Unit {0}
AreBy p (Did e a ∷ xs) = (e.by.pass ≡ p) × AreBy p xs
AreBy p (Busy k ∷ xs) = ⊥

by_both : (p : List ℕ) (xs ys : List Noted) → AreBy p xs → AreBy p ys → AreBy p (xs ++ ys)
unfolding AreBy
by_both p [] ys one two = two
by_both p (Did e a ∷ xs) ys one two = (one.0, by_both p xs ys one.1 two)
by_both p (Busy k ∷ xs) ys one two = absurd one

by_notes : (p : List ℕ) (k : ℕ) (evs : List Told) (a b : Actor) (notes : List Noted) → AreNotes (session p k) evs a b notes → AreBy p notes
unfolding AreBy
by_notes p k [] a b notes are = subst (λ z. AreBy p z) (sym are.0) tt
by_notes p k (e ∷ evs) a b notes are = subst (λ z. AreBy p z) (sym are.2) (refl, by_notes p k evs are.0 b are.1 are.3)

by_opened : (p : List ℕ) (ks : List ℕ) (old : ℕ → Actor) (notes : List Noted) (new : ℕ → Actor) → AllOpened p ks old notes new → AreBy p notes
unfolding AreBy
by_opened p [] old notes new o = subst (λ z. AreBy p z) (sym o.0) tt
by_opened p (k ∷ ks) old notes new o = subst (λ z. AreBy p z) (sym o.5) (by_both p o.3 o.4 (by_notes p k o.1 (old k) (o.0 k) o.3 o.6.are) (by_opened p ks o.0 o.4 new o.7))

by_lines : (p : List ℕ) (old : ℕ → Actor) (lines : List Replied) (notes : List Noted) (new : ℕ → Actor) → LinesDid p old lines notes new → AreBy p notes
unfolding AreBy
by_lines p old [] notes new l = subst (λ z. AreBy p z) (sym l.0) tt
by_lines p old (a ∷ above) notes new l = subst (λ z. AreBy p z) (sym l.3) (by_both p l.1 l.2 (by_lines p old above l.1 l.0 l.4) (by_notes p a.session l.5.events (l.0 a.session) (new a.session) l.2 l.5.did.are))

by_closed : (p : List ℕ) (ks : List ℕ) (old : ℕ → Actor) (notes : List Noted) (new : ℕ → Actor) → AllClosed p ks old notes new → AreBy p notes
unfolding AreBy
by_closed p [] old notes new o = subst (λ z. AreBy p z) (sym o.0) tt
by_closed p (k ∷ ks) old notes new o = subst (λ z. AreBy p z) (sym o.5) (by_both p o.3 o.4 (by_notes p k o.1 (old k) (o.0 k) o.3 o.6.are) (by_closed p ks o.0 o.4 new o.7))

by_worker : (base : Base) (p : List ℕ) (lines : List Replied) (notes : List Noted) → WorkerDid base p lines notes → AreBy p notes
by_worker base p lines notes w = subst (λ z. AreBy p z) (sym w.are)
    (by_both p w.opening (w.serving ++ w.closing) (by_opened p w.opened _ w.opening w.at_first w.opens)
    (by_both p w.serving w.closing (by_lines p w.at_first lines w.serving w.at_end w.serves) (by_closed p w.closed w.at_end w.closing w.left w.closes)))

all_own : (p : List ℕ) (xs : List Noted) → AreBy p xs → noted p xs ≡ xs
unfolding AreBy
all_own p [] by = refl
all_own p (Did e a ∷ xs) by = (λ i. (if (same_name_true (named p) (named e.by.pass) (ap (λ z. named z) (sym by.0))) i then Did e a ∷ [] else []) ++ noted p xs) ∙ (λ i. Did e a ∷ all_own p xs by.1 i)
all_own p (Busy k ∷ xs) by = absurd by

none_other : (p q : List ℕ) (xs : List Noted) → p ≢ q → AreBy p xs → noted q xs ≡ []
unfolding AreBy
none_other p q [] ne by = refl
none_other p q (Did e a ∷ xs) ne by = (λ i. if_other q e a (λ same. ne (sym by.0 ∙ sym same)) i ++ noted q xs) ∙ none_other p q xs ne by.1
none_other p q (Busy k ∷ xs) ne by = absurd by

pub worker_own : (base : Base) (p : List ℕ) (lines : List Replied) (notes : List Noted) → WorkerDid base p lines notes → noted p notes ≡ notes
worker_own base p lines notes w = all_own p notes (by_worker base p lines notes w)

pub worker_others : (base : Base) (p q : List ℕ) (lines : List Replied) (notes : List Noted) → p ≢ q → WorkerDid base p lines notes → noted q notes ≡ []
worker_others base p q lines notes ne w = none_other p q notes ne (by_worker base p lines notes w)
