-- A transaction is undone vertex by vertex, and ends.
use Rattle.std.proofs.Common.{arith, ◌≡◌, ℕ, ◌-◌, ◌<◌, Bool, true, false, List, [], ◌∷◌, ◌++◌, length, refl, sym, ap, ◌∙◌, subst, inl, inr, Option, Some, None}
use Rattle.std.specs.Prelude.{◌&&◌, if◌then◌else◌}
use Rattle.std.proofs.lemmas.Option.{slice_get_within}
use Rattle.atomic_table.specs.declared.shared.Seat.{Seat}
use Rattle.core_calls.specs.Events.{Told, told}
use Rattle.core_calls.specs.Calls.{Gives}
use Rattle.core_states.specs.declared.event.Act.TheVariants as act
use Rattle.core_states.specs.declared.event.CoreAnswer.{CoreAnswer}
use Rattle.core_states.specs.declared.event.CoreAnswer.TheVariants as answer
use Rattle.core_states.specs.declared.actor.Actor.{Actor}
use Rattle.core_states.specs.declared.clock.Clock.{Clock}
use Rattle.core_states.specs.declared.transaction.Stage.{Stage}
use Rattle.core_states.specs.declared.transaction.Stage.TheVariants.{Decided}
use Rattle.core_states.specs.declared.transaction.Transaction.{Transaction}
use Rattle.core_states.specs.ClockEvents.{ClockMove, for_txn, same_clock, ends as clock_ends}
use Rattle.core_states.specs.Names.{Name}
use Rattle.core_states.specs.Numbers.{all_in, without_active}
use Rattle.core_states.specs.States.{clock_event}
use Rattle.core_states.specs.Transactions.{is_loser, receipt_of, end_of}
use Rattle.graph_model.specs.declared.record.Outcome.TheVariants.{Failed}
use Rattle.graph_workers.specs.Passes.{IsFaulted}
use Rattle.turn_board.specs.Board.{known}
use Rattle.store_turns.specs.Fits.{actor_at, name_in}
use Rattle.store_turns.specs.Seeing.{MeetsClock}
use Rattle.store_turns.proofs.Sessions.{txn_of}
use Rattle.core_states.proofs.Names.{some_is}
use Rattle.turn_board.specs.Views.{View}
use Rattle.turn_board.specs.declared.board.TurnBoard.{TurnBoard}
use Rattle.store_turns.specs.declared.session.Session.{Session}
use Rattle.store_turns.specs.declared.session.Work.{Work}
use Rattle.store_turns.specs.Grows.{told_if}
use Rattle.store_turns.specs.Moves.{IsLost, IsFree, IsNext, Settles, EndsWork}
use Rattle.store_board.specs.Standing.{Stands, Goes}
use Rattle.store_board.proofs.Standing.{stays, goes_on}
use Rattle.store_sessions.specs.Undoing.{AreUndos, Undoes, taken_in}

one_more : (es : List Told) (v : ℕ) → AreUndos es → AreUndos (es ++ told (act.Undo v) answer.Done ∷ [])
one_more [] v undos = ((v, refl), tt)
one_more (e ∷ es) v undos = (undos.0, one_more es v undos.1)

-- undos, and an end
left_after : (es : List Told) → AreUndos es → Gives (es ++ told act.End answer.Done ∷ [])
left_after [] undos = inl (refl, refl)
left_after (e ∷ es) undos = inr (undos.0, left_after es undos.1)

module _ {H : Type 0} (board : TurnBoard H) (shards : ℕ) where
  pub undoes_none : (p : Seat (Option H) View) (s : Session) → Stands board shards p s → (t : Work) → s.work ≡ Some t → IsLost t → Undoes board shards p p s s
  undoes_none p s stands t is lost = record {
    events = [];
    undos = tt;
    goes = stays board shards p s stands;
    work = t;
    is = λ i. record s { work = is i };
    lost = lost;
    stage = λ u was. ap (λ (w : Work). w.stage) (some_is t u (sym is ∙ was));
  }

  module _ (p q r : Seat (Option H) View) (s s' s'' : Session) (v : ℕ) (so_far : Undoes board shards p q s s') (t : Work) (is : s'.work ≡ Some t) (next : IsNext v t) where
    work_is : t ≡ so_far.work
    work_is = some_is t so_far.work (sym is ∙ ap (λ (z : Session). z.work) so_far.is)

    lost_now : IsLost t
    lost_now = subst (λ (w : Work). IsLost w) (sym work_is) so_far.lost

    pub undoes_more : (o : Option CoreAnswer) → Goes board shards (told_if (λ _. act.Undo v) o) q r s' s'' → Settles v o s' s'' → Undoes board shards p r s s''
    undoes_more None goes settles = absurd (settles.0 t is lost_now next)
    undoes_more (Some says) goes settles = record {
      events = so_far.events ++ told (act.Undo v) answer.Done ∷ [];
      undos = one_more so_far.events v so_far.undos;
      goes = goes_on board shards p q r s s' s'' so_far.events (told (act.Undo v) answer.Done ∷ []) so_far.goes
          (subst (λ (z : CoreAnswer). Goes board shards (told (act.Undo v) z ∷ []) q r s' s'') settles.0 goes);
      work = settles.2;
      is = settles.4 ∙ ap (λ (z : Session). record z { work = Some settles.2 }) so_far.is;
      lost = ap is_loser (settles.6.stage ∙ ap (λ (w : Work). w.stage) (some_is settles.1 t (sym settles.3 ∙ is))) ∙ lost_now;
      stage = λ u was. settles.6.stage ∙ ap (λ (w : Work). w.stage) (some_is settles.1 t (sym settles.3 ∙ is) ∙ work_is) ∙ so_far.stage u was;
    }

    pub fewer : (o : Option CoreAnswer) → Settles v o s' s'' → taken_in s''.work < taken_in s'.work
    fewer None settles = absurd (settles.0 t is lost_now next)
    fewer (Some says) settles =
        let was : taken_in s'.work ≡ length settles.1.touched.taken - settles.1.settled = ap taken_in settles.3 in
        let now : taken_in s''.work ≡ length settles.2.touched.taken - settles.2.settled = ap (λ (z : Session). taken_in z.work) settles.4 in
        let there = slice_get_within settles.1.touched.taken settles.1.settled (v, settles.5.0) settles.5.1 in
        let same = ap length settles.6.touched in
        let one = settles.6.settled in omega (arith, was, now, there, same, one)

  pub ends : (p q r : Seat (Option H) View) (s s' s'' : Session) (so_far : Undoes board shards p q s s') → ((t : Work) → s'.work ≡ Some t → IsFree t) → (o : Option CoreAnswer)
      → Goes board shards (told_if (λ _. act.End) o) q r s' s'' → EndsWork o s' s'' → ((ts : List Told) × Gives ts × Goes board shards ts p r s s'') × (s'' ≡ record s { work = None })
  ends p q r s s' s'' so_far free None goes ended = absurd (ended.0 so_far.work (ap (λ (z : Session). z.work) so_far.is) so_far.lost (free so_far.work (ap (λ (z : Session). z.work) so_far.is)))
  ends p q r s s' s'' so_far free (Some says) goes ended = (
    (
      so_far.events ++ told act.End answer.Done ∷ [],
      left_after so_far.events so_far.undos,
      goes_on board shards p q r s s' s'' so_far.events (told act.End answer.Done ∷ []) so_far.goes (subst (λ (z : CoreAnswer). Goes board shards (told act.End z ∷ []) q r s' s'') ended.0 goes),
    ),
    ended.1 ∙ ap (λ (z : Session). record z { work = None }) so_far.is,
  )

  -- the receipt of one that has failed says so
  pub ends_faulted : (p q r : Seat (Option H) View) (s s' : Session) (so_far : Undoes board shards p q s s') (s'' : Session) → ((t : Work) → s'.work ≡ Some t → IsFree t) → (o : Option CoreAnswer) → EndsWork o s' s''
      → MeetsClock (λ _. act.End) o (name_in (known q) s'.index) (known q) (known r)
      → (before after : ℕ) (t : Work) → s.work ≡ Some t → t.stage ≡ Decided (Failed before after) → IsFaulted before after (actor_at (known r) (name_in (known p) s.index)).receipts
  ends_faulted p q r s s' so_far s'' free None ended meets before after t is failed = absurd (ended.0 so_far.work (ap (λ (z : Session). z.work) so_far.is) so_far.lost (free so_far.work (ap (λ (z : Session). z.work) so_far.is)))
  ends_faulted p q r s s' so_far s'' free (Some says) ended meets before after t is failed =
      let f = txn_of s'.work so_far.work (actor_at (known q) (name_in (known q) s'.index)).txn so_far.goes.stands.1.work (ap (λ (z : Session). z.work) so_far.is) in
      subst (λ (z : Name). IsFaulted before after (actor_at (known r) z).receipts) same_name
      (subst (λ (z : Actor). IsFaulted before after z.receipts) meets.actor
      (end_receipt before after meets.clock (actor_at (known q) (name_in (known q) s'.index)) f.0 meets.move f.1 (f.2.stage ∙ so_far.stage t is ∙ failed) meets.is))
    where
      same_name : name_in (known q) s'.index ≡ name_in (known p) s.index
      same_name = λ i. record { pass = (so_far.goes.grew.same i).number; index = so_far.goes.index i }

      end_receipt : (b c : ℕ) (k : Clock) (a : Actor) (x : Transaction) (m : ClockMove) → a.txn ≡ Some x → x.stage ≡ Decided (Failed b c) → clock_event act.End k a ≡ Some m → IsFaulted b c m.actor.receipts
      end_receipt b c k a x m at stage is = by_test (is_loser x.stage && all_in x.touched x.settled) (ap (λ z. for_txn (λ y. clock_ends y k a) z) (sym at) ∙ is)
        where
          by_test : (d : Bool) → (if d then same_clock answer.Done (record k { rows = without_active x.tid k.rows }) (record a { txn = None; looked = None; receipts = receipt_of x (end_of x.stage a.looked) ∷ a.receipts }) else None) ≡ Some m → IsFaulted b c m.actor.receipts
          by_test true e =
              let same : ◌≡◌ {A = ClockMove} (record { answer = answer.Done; clock = record k { rows = without_active x.tid k.rows }; actor = record a { txn = None; looked = None; receipts = receipt_of x (end_of x.stage a.looked) ∷ a.receipts } }) m = (cc) in
              subst (λ (z : ClockMove). IsFaulted b c z.actor.receipts) same (ap (λ (z : Stage). end_of z a.looked) stage)
          by_test false e = absurd (let bad : ⊥ = (cc) in bad)
