-- A record is applied vertex by vertex, and done.
use Rattle.std.proofs.Common.{arith, ◌≡◌, ℕ, ◌-◌, ◌<◌, List, [], ◌∷◌, ◌++◌, length, refl, sym, ap, ◌∙◌, subst, Option, Some, None}
use Rattle.std.proofs.lemmas.Option.{slice_get_within}
use Rattle.atomic_table.specs.declared.shared.Seat.{Seat}
use Rattle.core_calls.specs.Events.{Told, told}
use Rattle.core_states.specs.declared.event.Act.TheVariants as act
use Rattle.core_states.specs.declared.event.CoreAnswer.{CoreAnswer}
use Rattle.core_states.specs.declared.event.CoreAnswer.TheVariants as answer
use Rattle.core_states.proofs.Names.{some_is}
use Rattle.turn_board.specs.Views.{View}
use Rattle.turn_board.specs.declared.board.TurnBoard.{TurnBoard}
use Rattle.store_turns.specs.declared.session.Session.{Session}
use Rattle.store_turns.specs.declared.session.Work.{Work}
use Rattle.store_turns.specs.Grows.{told_if}
use Rattle.store_turns.specs.Moves.{Won, IsFree, IsNext, AppliesNext}
use Rattle.store_board.specs.Standing.{Stands, Goes}
use Rattle.store_board.proofs.Standing.{stays, goes_on}
use Rattle.store_sessions.specs.Undoing.{taken_in}
use Rattle.store_commits.specs.Committing.{AreApplies, HasApplied}

one_more : (es : List Told) (v : ℕ) → AreApplies es → AreApplies (es ++ told (act.Apply v) answer.Done ∷ [])
one_more [] v applies = ((v, refl), tt)
one_more (e ∷ es) v applies = (applies.0, one_more es v applies.1)

module _ {H : Type 0} (board : TurnBoard H) (shards : ℕ) where
  pub applied_none : (p : Seat (Option H) View) (s : Session) → Stands board shards p s → (t : Work) (e : ℕ) → Won s t e → HasApplied board shards e p p s s
  applied_none p s stands t e won = record {
    events = [];
    applies = tt;
    goes = stays board shards p s stands;
    work = t;
    is = λ i. record s { work = won.is i };
    won = won.stage;
  }

  module _ (e : ℕ) (p q r : Seat (Option H) View) (s s' s'' : Session) (v : ℕ) (so_far : HasApplied board shards e p q s s') (t : Work) (is : s'.work ≡ Some t) (next : IsNext v t) where
    won_now : Won s' t e
    won_now = record {
      is = is;
      stage = ap (λ (w : Work). w.stage) (some_is t so_far.work (sym is ∙ ap (λ (z : Session). z.work) so_far.is)) ∙ so_far.won;
    }

    pub applied_more : (o : Option CoreAnswer) → Goes board shards (told_if (λ _. act.Apply v) o) q r s' s'' → AppliesNext v o s' s'' → HasApplied board shards e p r s s''
    applied_more None goes applies = absurd (applies.0 t e won_now next)
    applied_more (Some says) goes applies = record {
      events = so_far.events ++ told (act.Apply v) answer.Done ∷ [];
      applies = one_more so_far.events v so_far.applies;
      goes = goes_on board shards p q r s s' s'' so_far.events (told (act.Apply v) answer.Done ∷ []) so_far.goes
          (subst (λ (z : CoreAnswer). Goes board shards (told (act.Apply v) z ∷ []) q r s' s'') applies.0 goes);
      work = applies.2;
      is = applies.5 ∙ ap (λ (z : Session). record z { work = Some applies.2 }) so_far.is;
      won = applies.7.stage ∙ ap (λ (w : Work). w.stage) (some_is applies.1 t (sym applies.4.is ∙ is)) ∙ won_now.stage;
    }

    pub fewer : (o : Option CoreAnswer) → AppliesNext v o s' s'' → taken_in s''.work < taken_in s'.work
    fewer None applies = absurd (applies.0 t e won_now next)
    fewer (Some says) applies =
        let was : taken_in s'.work ≡ length applies.1.touched.taken - applies.1.settled = ap taken_in applies.4.is in
        let now : taken_in s''.work ≡ length applies.2.touched.taken - applies.2.settled = ap (λ (z : Session). taken_in z.work) applies.5 in
        let there = slice_get_within applies.1.touched.taken applies.1.settled (v, applies.6.0) applies.6.1 in
        let same = ap length applies.7.touched in
        let one = applies.7.settled in omega (arith, was, now, there, same, one)

  -- where all is applied the record may be done
  pub won_still : (e : ℕ) (p q : Seat (Option H) View) (s s' : Session) (so_far : HasApplied board shards e p q s s') → ((t : Work) → s'.work ≡ Some t → IsFree t) → (u : Work) × Won s' u e × IsFree u × (s' ≡ record s { work = Some u })
  won_still e p q s s' so_far free =
      let is = ap (λ (z : Session). z.work) so_far.is in (so_far.work, record { is = is; stage = so_far.won }, free so_far.work is, so_far.is)
