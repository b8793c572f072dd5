-- What a worker's pass notes.
use Rattle.std.proofs.Common.{◌≡◌, ℕ, List, [], ◌∷◌, ◌++◌, refl, sym, ap, ◌∙◌, subst, Option, Some, None}
use Rattle.core_states.specs.declared.actor.Actor.{Actor}
use Rattle.core_states.specs.declared.event.Act.TheVariants as act
use Rattle.core_states.specs.declared.event.CoreAnswer.TheVariants as answer
use Rattle.core_states.specs.declared.transaction.Transaction.{Transaction}
use Rattle.core_states.specs.Names.{Name}
use Rattle.core_calls.specs.Events.{Told, told}
use Rattle.graph_workers.specs.Passes.{SessionCloses}
use Rattle.turn_board.specs.Views.{Did, Noted, Start, View, fresh_view, start_of}
use Rattle.store_turns.specs.declared.session.Work.{Work}
use Rattle.store_turns.specs.Fits.{IsWorkOf, name_in}
use Rattle.store_turns.specs.Grows.{Grew}
use Rattle.store_turns.specs.Grows.{AreNotes as TurnNotes}
use Rattle.worker_runs.specs.Notes.{session, AreNotes, OneDid}
use Rattle.worker_sessions.specs.Notes.{actors_in, AreOf}
use Rattle.worker_sessions.specs.Sessions.{Noting}

-- the notes of an event under a turn are those of the law, and of the actor's pass
same-notes : (n : Name) (ts : List Told) (a b : Actor) (notes : List Noted) → TurnNotes n ts a b notes → AreNotes n ts a b notes
same-notes n [] a b notes are = are
same-notes n (t ∷ ts) a b notes are = (are.0, are.1, are.2, same-notes n ts are.0 b are.1 are.3)

notes-of : (n : Name) (ts : List Told) (a b : Actor) (notes : List Noted) → TurnNotes n ts a b notes → AreOf n.pass notes
notes-of n [] a b notes are = subst (AreOf n.pass) (sym are.0) tt
notes-of n (t ∷ ts) a b notes are = subst (AreOf n.pass) (sym are.2) (refl, notes-of n ts are.0 b are.1 are.3)

pub of-both : (p : List ℕ) (xs ys : List Noted) → AreOf p xs → AreOf p ys → AreOf p (xs ++ ys)
of-both p [] ys one two = two
of-both p (Did e a ∷ xs) ys one two = (one.0, of-both p xs ys one.1 two)
of-both p (Rattle.turn_board.specs.Views.Busy k ∷ xs) ys one two = absurd one

-- what a session's events make of its pass
abbrev pub Stepped : ℕ → List Told → View → View → Type 0
Stepped k ts v w = Noting (λ p old notes new. OneDid p k ts old notes new) v w

pub stepped : (k : ℕ) (ts : List Told) (v w : View) → Grew (name_in v k) ts v w → Stepped k ts v w
stepped k ts v w g =
    let number : w.number ≡ v.number = ap (λ (u : View). u.number) g.same in
    let named : (j : ℕ) → Rattle.core_states.specs.Parts.actor_of w.base w.actors (session v.number j) ≡ actors_in w j
    = λ j. ap (λ (p : List ℕ). Rattle.core_states.specs.Parts.actor_of w.base w.actors (session p j)) (sym number) in
    record {
      notes = g.notes;
      did = record {
        are = subst (λ (b : Actor). AreNotes (session v.number k) ts (actors_in v k) b g.notes) (named k) (same-notes (name_in v k) ts _ _ g.notes g.are);
        others = λ j ne. sym (named j) ∙ g.others (session v.number j) (λ e. ne (ap (λ (n : Name). n.index) e));
      };
      are = notes-of (name_in v k) ts _ _ g.notes g.are;
      events = g.events;
      start_is = ap (λ (u : View). start_of u) g.same;
      number = number;
      joined = ap (λ (u : View). u.joined) g.same;
      made = ap (λ (u : View). u.made) g.same;
    }

pub no-txn : (w : Option Work) (x : Option Transaction) → IsWorkOf w x → w ≡ None → x ≡ None
no-txn None None is none = refl
no-txn None (Some x) is none = absurd is
no-txn (Some t) x is none = absurd (let bad : ⊥ = (cc) in bad)

pub closing-one : (x : Option Transaction) (es : List Told) → x ≡ None → es ≡ told act.Close answer.Done ∷ [] → SessionCloses x es
closing-one None es none is = is
closing-one (Some x) es none is = absurd (let bad : ⊥ = (cc) in bad)
