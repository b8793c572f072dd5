-- A session that asks until its epoch is visible.
use Rattle.std.proofs.Common.{◌≡◌, ℕ, ◌≤◌, Bool, true, List, [], ◌∷◌, ◌++◌, refl, sym, ap, ◌∙◌, subst, inl, inr, arith, Option, Some, None}
use Rattle.std.specs.Prelude.{nat_le}
use Rattle.std.proofs.lemmas.Bool.{leb-true}
use Rattle.atomic_table.specs.declared.shared.Seat.{Seat}
use Rattle.core_calls.specs.Calls.{Sees}
use Rattle.core_calls.specs.Events.{Told, told}
use Rattle.core_states.specs.declared.actor.Actor.{Actor}
use Rattle.core_states.specs.declared.clock.Clock.{Clock}
use Rattle.core_states.specs.declared.event.Act.TheVariants as act
use Rattle.core_states.specs.declared.event.CoreAnswer.{CoreAnswer}
use Rattle.core_states.specs.declared.event.CoreAnswer.TheVariants as answer
use Rattle.core_states.specs.ClockEvents.{ClockMove, for_none, sees}
use Rattle.core_states.specs.States.{clock_event}
use Rattle.core_states.specs.Transactions.{with_txn}
use Rattle.core_states.proofs.Names.{some_is}
use Rattle.turn_board.specs.Views.{View}
use Rattle.turn_board.specs.declared.board.TurnBoard.{TurnBoard}
use Rattle.store_turns.specs.declared.session.Session.{Session}
use Rattle.store_turns.specs.Fits.{Fits, actor_at, name_in}
use Rattle.store_turns.specs.Grows.{told_if}
use Rattle.store_turns.specs.Moves.{SeesEpoch}
use Rattle.store_turns.specs.Seeing.{HasSeen, MeetsClock}
use Rattle.store_turns.proofs.Sessions.{no_txn}
use Rattle.store_board.specs.Standing.{Stands, Goes}
use Rattle.store_board.proofs.Standing.{stays, goes_on}
use Rattle.store_commits.specs.Committing.{says_visible, AreSeen, HasAsked}

one_more : (es : List Told) (b : Bool) → AreSeen es → AreSeen (es ++ told act.Seen (answer.Visible b) ∷ [])
one_more [] b seen = ((b, refl), tt)
one_more (e ∷ es) b seen = (seen.0, one_more es b seen.1)

sees_after : (es : List Told) → AreSeen es → Sees (es ++ told act.Seen (answer.Visible true) ∷ [])
sees_after [] seen = inl (refl, refl)
sees_after (e ∷ es) seen = inr (seen.0, sees_after es seen.1)

-- a clock on which it is answered that an epoch is visible shows it, and stays as it was
abbrev seen_move : ℕ → Clock → Actor → ClockMove
seen_move e k a = record { answer = answer.Visible (nat_le e k.visible); clock = k; actor = with_txn a a.txn }

shows_epoch : (e : ℕ) (k : Clock) (a : Actor) (m : ClockMove) → a.finished ≡ Some e → a.txn ≡ None → clock_event act.Seen k a ≡ Some m → says_visible (Some m.answer) ≡ true → e ≤ m.clock.visible
shows_epoch e k a m done idle is shown =
    let asked : for_none (sees a.finished k a) a.txn ≡ sees (Some e) k a = (λ i. for_none (sees a.finished k a) (idle i)) ∙ (λ i. sees (done i) k a) in
    let one : ◌≡◌ {A = ClockMove} (seen_move e k a) m = some_is (seen_move e k a) m (sym asked ∙ is) in
    let low : e ≤ k.visible = leb-true e k.visible (ap (λ (z : ClockMove). says_visible (Some z.answer)) one ∙ shown) in
    let same : k.visible ≡ m.clock.visible = ap (λ (z : ClockMove). z.clock.visible) one in omega (arith, low, same)

-- where a session is answered so of its last epoch, the pass has seen it
pub saw : (v w : View) (s s' : Session) (o : Option CoreAnswer) (e : ℕ) → Fits s v → s.work ≡ None → s.finished ≡ Some e → SeesEpoch o s s' → MeetsClock (λ _. act.Seen) o (name_in v s.index) v w → says_visible o ≡ true → HasSeen e w
saw v w s s' None e fits idle done asked meets shown = absurd (asked.0 e idle done)
saw v w s s' (Some says) e fits idle done asked meets shown =
    let a : Actor = actor_at v (name_in v s.index) in
    let low : e ≤ meets.move.clock.visible
    = shows_epoch e meets.clock a meets.move (fits.finished ∙ done) (no_txn s.work a.txn fits.work idle) meets.is (ap (λ (z : CoreAnswer). says_visible (Some z)) meets.answer ∙ shown) in
    λ k met. let later = (meets.later k met).visible in omega (arith, low, later)

module _ {H : Type 0} (board : TurnBoard H) (shards : ℕ) where
  -- one question
  pub asks : (p q : Seat (Option H) View) (s s' : Session) (o : Option CoreAnswer) (e : ℕ) → s.finished ≡ Some e → s.work ≡ None → SeesEpoch o s s' → Goes board shards (told_if (λ _. act.Seen) o) p q s s' → (b : Bool) → b ≡ says_visible o → Goes board shards (told act.Seen (answer.Visible b) ∷ []) p q s s'
  asks p q s s' None e done idle sees goes b is = absurd (sees.0 e idle done)
  asks p q s s' (Some says) e done idle sees goes b is =
      let visible : says ≡ answer.Visible sees.1.0 = sees.1.1 in
      let same : b ≡ sees.1.0 = is ∙ ap (λ (z : CoreAnswer). says_visible (Some z)) visible in
      subst (λ (z : CoreAnswer). Goes board shards (told act.Seen z ∷ []) p q s s') (visible ∙ (λ i. answer.Visible (sym same i))) goes

  pub asks_keeps : (s s' : Session) (o : Option CoreAnswer) → SeesEpoch o s s' → s' ≡ s
  asks_keeps s s' None sees = sees.1
  asks_keeps s s' (Some says) sees = sees.0

  pub asked_none : (p : Seat (Option H) View) (s : Session) → Stands board shards p s → HasAsked board shards p p s s
  asked_none p s stands = record { events = []; seen = tt; goes = stays board shards p s stands; same = refl }

  pub asked_more : (p q r : Seat (Option H) View) (s s' s'' : Session) (b : Bool) → HasAsked board shards p q s s' → Goes board shards (told act.Seen (answer.Visible b) ∷ []) q r s' s'' → s'' ≡ s' → HasAsked board shards p r s s''
  asked_more p q r s s' s'' b so_far goes same = record {
    events = so_far.events ++ told act.Seen (answer.Visible b) ∷ [];
    seen = one_more so_far.events b so_far.seen;
    goes = goes_on board shards p q r s s' s'' so_far.events (told act.Seen (answer.Visible b) ∷ []) so_far.goes goes;
    same = same ∙ so_far.same;
  }

  pub seen_after : (p q r : Seat (Option H) View) (s s' s'' : Session) (b : Bool) → b ≡ true → HasAsked board shards p q s s' → Goes board shards (told act.Seen (answer.Visible b) ∷ []) q r s' s'' → (ts : List Told) × Sees ts × Goes board shards ts p r s s''
  seen_after p q r s s' s'' b is_so so_far goes = (
    so_far.events ++ told act.Seen (answer.Visible true) ∷ [],
    sees_after so_far.events so_far.seen,
    goes_on board shards p q r s s' s'' so_far.events (told act.Seen (answer.Visible true) ∷ []) so_far.goes (subst (λ z. Goes board shards (told act.Seen (answer.Visible z) ∷ []) q r s' s'') is_so goes),
  )
