-- What a session's work says of the actor that it stands for.
use Rattle.std.proofs.Common.{◌≡◌, ℕ, ◌≤◌, Bool, true, false, ◌&&◌, ◌||◌, List, [], ◌∷◌, length, refl, sym, ap, ◌∙◌, subst, Option, Some, None, is_some}
use Rattle.std.specs.Prelude.{◌==◌}
use Rattle.std.proofs.lemmas.Bool.{eq-eqb, ne_eqb, or_left, or_right}
use Rattle.std.proofs.lemmas.List.{take_all}
use Rattle.core_states.specs.declared.actor.Actor.{Actor}
use Rattle.core_states.specs.declared.clock.Active.{Active}
use Rattle.core_states.specs.declared.transaction.Transaction.{Transaction}
use Rattle.core_states.specs.declared.transaction.Stage.TheVariants.{Open}
use Rattle.core_states.specs.Numbers.{has_number, all_in, has_active, has_record, outcome_of}
use Rattle.core_states.specs.Names.{Name}
use Rattle.core_states.specs.States.{State}
use Rattle.core_states.specs.Transactions.{is_open, is_working}
use Rattle.graph_model.specs.declared.graph.Base.{Base}
use Rattle.graph_model.specs.declared.record.Record.{Record}
use Rattle.core_kept.specs.Good.{Ghost, Good, StageOk, Nowhere, InQueue, Waits, AllWait, outcome_at}
use Rattle.epoch_clock.specs.ActiveRows.{is_running}
use Rattle.store_turns.specs.declared.session.Session.{Session}
use Rattle.store_turns.specs.declared.session.Work.{Work}
use Rattle.store_turns.specs.Takes.{flag_of}
use Rattle.store_turns.specs.Fits.{IsWork, IsWorkOf, IsSessionOf}

-- no transaction runs, and one does
pub no_txn : (w : Option Work) (o : Option Transaction) → IsWorkOf w o → w ≡ None → o ≡ None
no_txn None None fits is = refl
no_txn None (Some x) fits is = absurd fits
no_txn (Some t) None fits is = absurd fits
no_txn (Some t) (Some x) fits is = absurd (let e : ⊥ = (cc) in e)

pub txn_of : (w : Option Work) (t : Work) (o : Option Transaction) → IsWorkOf w o → w ≡ Some t → (x : Transaction) × (o ≡ Some x) × IsWork t x
txn_of None t o fits is = absurd (let e : ⊥ = (cc) in e)
txn_of (Some u) t None fits is = absurd fits
txn_of (Some u) t (Some x) fits is = let same : u ≡ t = (cc) in (x, refl, subst (λ z. IsWork z x) same fits)

-- it works until its record is queued, or it gives a vertex free
pub works : (t : Work) (x : Transaction) → IsWork t x → t.stage ≡ Open → t.settled ≡ 0 → is_working x ≡ true
works t x work is_new none = λ i. is_open ((work.stage ∙ is_new) i) && (length (work.working none i) == 0)

-- all numbers of one list are in another that has what it has
pub all_from : (xs ys : List ℕ) → ((v : ℕ) → has_number v xs ≡ true → has_number v ys ≡ true) → all_in xs ys ≡ true
all_from [] ys has = refl
all_from (x ∷ xs) ys has =
    rw (has x (or_left (x == x) (has_number x xs) (eq-eqb x x refl))) (all_from xs ys (λ v there. has v (or_right (x == v) (has_number v xs) there)))

-- once it has given free all that it took
pub all_free : (t : Work) (x : Transaction) → IsWork t x → length t.touched.taken ≤ t.settled → all_in x.touched x.settled ≡ true
all_free t x work free = all_from x.touched x.settled (λ v there. work.settled v ∙ ap (λ taken. is_some (flag_of v taken)) (take_all t.settled t.touched.taken free) ∙ sym (work.touched v) ∙ there)

-- what is kept of the state says of a transaction without a record
module _ (base : Base) (g : Ghost) (s : State) (good : Good base g s) (i : Name) (x : Transaction) (runs : (s.actor i).txn ≡ Some x) (working : x.stage ≡ Open) where
  nowhere : g.place x.tid ≡ Nowhere
  nowhere = subst (λ stage. StageOk stage x.settled (g.place x.tid)) working (good.txns i x runs).stage

  pub no_outcome : outcome_of x.tid s.clock.outcomes ≡ None
  no_outcome = good.outcomes x.tid ∙ ap outcome_at nowhere

  pub is_active : has_active x.tid x.read s.clock.rows ≡ true
  is_active = (good.txns i x runs).row

  not_among : (rs : List Record) → AllWait g s.actor InQueue rs → has_record x.tid rs ≡ false
  not_among [] all = refl
  not_among (r ∷ rs) all = rw (other r all.0) (not_among rs all.2)
    where
      other : (r : Record) → Waits g s.actor InQueue r → (r.tid == x.tid) ≡ false
      other r waits = ne_eqb r.tid x.tid (λ same. let e : Nowhere ≡ InQueue = sym nowhere ∙ ap g.place (sym same) ∙ waits.place in cc)

  pub not_queued : has_record x.tid s.clock.queue ≡ false
  not_queued = not_among s.clock.queue good.queue

pub running_from : (t e : ℕ) (rows : List Active) → has_active t e rows ≡ true → is_running t rows ≡ true
running_from t e [] has = has
running_from t e (x ∷ rows) has = by_head (x.tid == t) refl (running_from t e rows)
  where
    by_head : (b : Bool) → (x.tid == t) ≡ b → (has_active t e rows ≡ true → is_running t rows ≡ true) → (b || is_running t rows) ≡ true
    by_head true is ih = refl
    by_head false is ih = ih (rw is at has)

-- what a session says of an actor beside its transaction stays
pub record StaysBeside (a a' : Actor) : Type 0 where
  pub row : a'.row ≡ a.row
  pub finished : a'.finished ≡ a.finished
  pub group : a'.group ≡ a.group
  pub written : a'.written ≡ a.written

pub beside : (a a' : Actor) → a'.row ≡ a.row → a'.finished ≡ a.finished → a'.group ≡ a.group → a'.written ≡ a.written → StaysBeside a a'
beside a a' row finished group written = record { row = row; finished = finished; group = group; written = written }

-- an actor whose transaction is that of a session, which is like another but for its transaction
pub session_with : (s s' : Session) (t : Work) (a a' : Actor) (x : Transaction) → IsSessionOf s a → s'.is_open ≡ s.is_open → s'.finished ≡ s.finished → s'.work ≡ Some t → StaysBeside a a' → a'.txn ≡ Some x → IsWork t x → IsSessionOf s' a'
session_with s s' t a a' x fit opens finished is stays txn work = record {
  row = stays.row ∙ fit.row ∙ sym opens;
  work = subst (λ (z : Option Work × Option Transaction). IsWorkOf z.0 z.1) (λ i. (sym is i, sym txn i)) work;
  finished = stays.finished ∙ fit.finished ∙ sym finished;
  leads = (stays.group ∙ fit.leads.0, stays.written ∙ fit.leads.1);
}

-- an actor whose transaction is the session's still
pub still : (s : Session) (t : Work) (a a' : Actor) (x : Transaction) → IsSessionOf s a → s.work ≡ Some t → StaysBeside a a' → a'.txn ≡ Some x → IsWork t x → IsSessionOf s a'
still s t a a' x fit is stays txn work = session_with s s t a a' x fit refl refl is stays txn work
