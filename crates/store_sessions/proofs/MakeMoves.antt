-- A number is drawn, and the vertex of it made.
use Rattle.std.proofs.Common.{arith, ◌≡◌, ℕ, ◌+◌, ◌<◌, true, List, [], ◌∷◌, refl, sym, ap, ◌∙◌, subst, inr, Option, Some, None, Result, Ok, Err}
use Rattle.std.proofs.lemmas.Bool.Decides.{nat_tests}
use Rattle.std.specs.Prelude.{nat_lt}
use Rattle.atomic_table.specs.declared.shared.Seat.{Seat}
use Rattle.graph_model.specs.Change.{encoded_len, encoded_lens}
use Rattle.graph_model.specs.Records.{transaction_most}
use Rattle.graph_model.specs.declared.change.Change.TheVariants.{New}
use Rattle.core_calls.specs.Calls.{IsTooLong}
use Rattle.core_calls.specs.Events.{Told, told}
use Rattle.core_states.specs.declared.event.Act.TheVariants as act
use Rattle.core_states.specs.declared.event.CoreAnswer.{CoreAnswer}
use Rattle.core_states.specs.declared.event.CoreAnswer.TheVariants as answer
use Rattle.core_states.specs.declared.transaction.Transaction.{Transaction}
use Rattle.core_states.specs.Openings.{run_limits}
use Rattle.turn_board.specs.Views.{View}
use Rattle.turn_board.specs.declared.board.TurnBoard.{TurnBoard}
use Rattle.store_turns.specs.declared.session.Session.{Session}
use Rattle.store_turns.specs.declared.session.Work.{Work}
use Rattle.store_turns.specs.Fits.{IsWorkOf}
use Rattle.store_turns.specs.Grows.{told_if}
use Rattle.store_turns.specs.Moves.{Works, DrawsNumber, KeepsAll, KeepsWorkOf, KeepsSession, MakesNew}
use Rattle.store_board.specs.Standing.{Stands, Goes}
use Rattle.store_board.proofs.Standing.{stays, goes_on}
use Rattle.store_sessions.specs.declared.refusal.Refusal.{Refusal}
use Rattle.store_sessions.specs.declared.refusal.Refusal.TheVariants as refusal
use Rattle.store_sessions.specs.Changing.{IsAtWork, StaysAtWork}
use Rattle.store_sessions.specs.Making.{NewTells, MakeTells, DrawTells, DrawLeaves, drawn_by}
use Rattle.store_sessions.proofs.Tries.{stays_on, at_work_still}

-- ---- too long

over : (m a l n : ℕ) → a + l ≡ m → l < n → nat_lt m (a + n) ≡ true
over m a l n all less = grind (arith, nat_tests)

-- the transaction would be too long
pub too_long : (s : Session) (p : List ℕ) (t : Work) → s.work ≡ Some t → t.left < encoded_len (New 0 p) → (x : Transaction) → IsWorkOf s.work (Some x) → IsTooLong run_limits x p []
too_long s p t is less x work = (refl, over transaction_most (encoded_lens x.own) t.left (encoded_len (New 0 p)) (subst (λ (o : Option Work). IsWorkOf o (Some x)) is work).left less)

-- ---- the draw

pub draw_so : (o : Option CoreAnswer) (s s' : Session) → IsAtWork s → DrawsNumber o s s' → DrawTells (drawn_by o) (told_if (λ _. act.Draw) o) × DrawLeaves (drawn_by o) s s'
draw_so None s s' at leaves = absurd (leaves.0 at.0 at.1)
draw_so (Some answer.NotEnabled) s s' at leaves = absurd leaves
draw_so (Some answer.Done) s s' at leaves = absurd leaves
draw_so (Some (answer.Begun n e)) s s' at leaves = absurd leaves
draw_so (Some (answer.Number v)) s s' at leaves = (refl, leaves)
draw_so (Some answer.Spent) s s' at leaves = (refl, leaves)
draw_so (Some (answer.Learnt h o)) s s' at leaves = absurd leaves
draw_so (Some (answer.Collected n)) s s' at leaves = absurd leaves
draw_so (Some (answer.Published e)) s s' at leaves = absurd leaves
draw_so (Some (answer.Kept o)) s s' at leaves = absurd leaves
draw_so (Some (answer.Visible y)) s s' at leaves = absurd leaves
draw_so (Some (answer.Held u)) s s' at leaves = absurd leaves
draw_so (Some (answer.Conflict e)) s s' at leaves = absurd leaves
draw_so (Some answer.NoVertex) s s' at leaves = absurd leaves
draw_so (Some answer.TxnFull) s s' at leaves = absurd leaves
draw_so (Some answer.LogFull) s s' at leaves = absurd leaves
draw_so (Some answer.Added) s s' at leaves = absurd leaves
draw_so (Some answer.Replaced) s s' at leaves = absurd leaves
draw_so (Some answer.Gone) s s' at leaves = absurd leaves
draw_so (Some answer.Absent) s s' at leaves = absurd leaves
draw_so (Some (answer.Shown x)) s s' at leaves = absurd leaves

-- the session after the draw
drawn_works : (v : ℕ) (s s' : Session) (t : Work) → Works s t → s' ≡ record s { work = Some (record t { drawn = Some v }) } → Works s' (record t { drawn = Some v })
drawn_works v s s' t works is = record { is = ap (λ (z : Session). z.work) is; stage = works.stage; settled = works.settled }

drawn_stays : (v : ℕ) (s s' : Session) → DrawLeaves (Ok v) s s' → StaysAtWork s s'
drawn_stays v s s' leaves = record {
  is_open = ap (λ (z : Session). z.is_open) leaves.2;
  finished = ap (λ (z : Session). z.finished) leaves.2;
  before = leaves.0;
  after = record leaves.0 { drawn = Some v };
  worked = leaves.1;
  works = drawn_works v s s' leaves.0 leaves.1 leaves.2;
  tid = refl;
  read = refl;
}

-- ---- the vertex

-- nothing that contracts speak of is another
kept_stays : (s s' : Session) → IsAtWork s → KeepsSession s s' → StaysAtWork s s'
kept_stays s s' at keeps = by_work s'.work refl (subst (λ (o : Option Work). KeepsWorkOf o s'.work) at.1.is keeps.work)
  where
    by_work : (o : Option Work) → s'.work ≡ o → KeepsWorkOf (Some at.0) s'.work → StaysAtWork s s'
    by_work None is work = absurd (subst (λ (o : Option Work). KeepsWorkOf (Some at.0) o) is work)
    by_work (Some t) is work = kept (subst (λ (o : Option Work). KeepsWorkOf (Some at.0) o) is work)
      where
        kept : KeepsAll at.0 t → StaysAtWork s s'
        kept k = record {
          is_open = keeps.is_open;
          finished = keeps.finished;
          before = at.0;
          after = t;
          worked = at.1;
          works = record { is = is; stage = k.stage ∙ at.1.stage; settled = k.settled ∙ at.1.settled };
          tid = k.tid;
          read = k.read;
        }

pub make_stays : (v : ℕ) (p : List ℕ) (o : Option CoreAnswer) (s s' : Session) → IsAtWork s → MakesNew v p o s s' → StaysAtWork s s'
make_stays v p None s s' at leaves = kept_stays s s' at leaves
make_stays v p (Some says) s s' at leaves =
    let made = leaves.6 in record {
      is_open = ap (λ (z : Session). z.is_open) leaves.5;
      finished = ap (λ (z : Session). z.finished) leaves.5;
      before = leaves.1;
      after = leaves.2;
      worked = leaves.3;
      works = record { is = ap (λ (z : Session). z.work) leaves.5; stage = made.stage ∙ leaves.3.stage; settled = made.settled ∙ leaves.3.settled };
      tid = made.tid;
      read = made.read;
    }

new_so : (s : Session) (v : ℕ) (p : List ℕ) (r : Result ℕ Refusal) (us : List Told) → MakeTells v p r us → NewTells s p r (told act.Draw (answer.Number v) ∷ us)
new_so s v p (Ok w) us made = subst (λ (z : ℕ). NewTells s p (Ok z) (told act.Draw (answer.Number v) ∷ us)) (sym made.0) (us, refl, made.1)
new_so s v p (Err refusal.NoMemory) us made = inr (v, ap (λ (ts : List Told). told act.Draw (answer.Number v) ∷ ts) made)
new_so s v p (Err (refusal.Held w u n)) us made = absurd made
new_so s v p (Err (refusal.Conflict w e r)) us made = absurd made
new_so s v p (Err refusal.NoVertex) us made = absurd made
new_so s v p (Err refusal.TxnFull) us made = absurd made
new_so s v p (Err refusal.LogFull) us made = absurd made
new_so s v p (Err (refusal.LogFault b a)) us made = absurd made
new_so s v p (Err refusal.Spent) us made = absurd made
new_so s v p (Err (refusal.Busy t)) us made = absurd made

module _ {H : Type 0} (board : TurnBoard H) (shards : ℕ) where
  -- memory ran out, or the transaction would be too long
  pub new_nothing : (p : Seat (Option H) View) (s : Session) (x : List ℕ) (r : Refusal) → Stands board shards p s → NewTells s x (Err r) [] → (ts : List Told) × NewTells s x (Err r) ts × Goes board shards ts p p s s
  new_nothing p s x r stands tells = ([], tells, stays board shards p s stands)

  module _ (o : Option CoreAnswer) (p q : Seat (Option H) View) (s s' : Session) (at : IsAtWork s) (goes : Goes board shards (told_if (λ _. act.Draw) o) p q s s') (leaves : DrawsNumber o s s') where
    pub drew_tells : (r : Result ℕ Refusal) → r ≡ drawn_by o → DrawTells r (told_if (λ _. act.Draw) o)
    drew_tells r is = subst (λ (z : Result ℕ Refusal). DrawTells z (told_if (λ _. act.Draw) o)) (sym is) (draw_so o s s' at leaves).0

    pub drew_leaves : (r : Result ℕ Refusal) → r ≡ drawn_by o → DrawLeaves r s s'
    drew_leaves r is = subst (λ (z : Result ℕ Refusal). DrawLeaves z s s') (sym is) (draw_so o s s' at leaves).1

    -- the number is drawn
    pub has_drawn : (v : ℕ) → Ok v ≡ drawn_by o → (t : Work) × Works s' t × (t.drawn ≡ Some v)
    has_drawn v is =
        let left = drew_leaves (Ok v) is in (record left.0 { drawn = Some v }, drawn_works v s s' left.0 left.1 left.2, refl)

    pub new_drawn : (v : ℕ) (x : List ℕ) (end : Seat (Option H) View) (last : Session) (r : Result ℕ Refusal) → Ok v ≡ drawn_by o → ((us : List Told) × MakeTells v x r us × Goes board shards us q end s' last)
        → (ts : List Told) × NewTells s x r ts × Goes board shards ts p end s last
    new_drawn v x end last r is made = (
      told act.Draw (answer.Number v) ∷ made.0,
      new_so s v x r made.0 made.1,
      goes_on board shards p q end s s' last (told act.Draw (answer.Number v) ∷ []) made.0 (subst (λ (ts : List Told). Goes board shards ts p q s s') (drew_tells (Ok v) is) goes) made.2,
    )

    pub new_stays : (v : ℕ) (last : Session) → Ok v ≡ drawn_by o → StaysAtWork s' last → StaysAtWork s last
    new_stays v last is after = stays_on s s' last (drawn_stays v s s' (drew_leaves (Ok v) is)) after

    -- no number is drawn
    pub none_stays : (r : Refusal) → Err r ≡ drawn_by o → StaysAtWork s s'
    none_stays r is = subst (λ (z : Session). StaysAtWork s z) (sym (drew_leaves (Err r) is)) (at_work_still s at)
