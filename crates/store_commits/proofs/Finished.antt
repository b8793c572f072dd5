-- A record is done, and it is asked whether its epoch is visible, under one turn of the clock.
use Rattle.std.proofs.Common.{◌≡◌, ℕ, ◌+◌, ◌-◌, ◌≤◌, inl, inr, Bool, true, false, List, [], ◌∷◌, refl, sym, ap, ◌∙◌, subst, arith, Option, Some, None}
use Rattle.std.specs.Prelude.{nat_le}
use Rattle.std.proofs.lemmas.Bool.{leb-true}
use Rattle.atomic_table.specs.declared.shared.Seat.{Seat}
use Rattle.core_calls.specs.Calls.{Sees}
use Rattle.core_calls.specs.Events.{Told, told}
use Rattle.core_laws.proofs.Actors.{actor_here, actor_there}
use Rattle.core_states.specs.declared.actor.Actor.{Actor}
use Rattle.core_states.specs.declared.clock.Clock.{Clock}
use Rattle.core_states.specs.declared.event.Act.TheVariants as act
use Rattle.core_states.specs.declared.event.CoreAnswer.TheVariants as answer
use Rattle.core_states.specs.ClockEvents.{ClockMove}
use Rattle.core_states.specs.Laters.{Later}
use Rattle.core_states.specs.Moves.{clock_move}
use Rattle.core_states.specs.Names.{Name}
use Rattle.core_states.specs.Parts.{OfClock, actor_of}
use Rattle.core_states.specs.States.{clock_event}
use Rattle.turn_board.specs.Board.{Knows, known, slots_of, Knowing, SameSeat}
use Rattle.turn_board.specs.Ones.{DoesOne}
use Rattle.turn_board.specs.Turns.{IsNewest}
use Rattle.turn_board.specs.Views.{Done, Did, Held, View, EachSeen, taking}
use Rattle.turn_board.specs.Works.{Leads, giving}
use Rattle.turn_board.specs.declared.board.TurnBoard.{TurnBoard}
use Rattle.turn_board.proofs.Ones.{clock_leads}
use Rattle.store_calls.proofs.CommitMoves.{does_see}
use Rattle.store_turns.specs.declared.session.Session.{Session}
use Rattle.store_turns.specs.Fits.{DoesClock, Fits, IsSessionOf, name_in}
use Rattle.store_turns.specs.Grows.{Grew, Went, done_by}
use Rattle.store_turns.specs.Seeing.{HasSeen}
use Rattle.store_turns.proofs.ClockSteps.{session_then, two_less}
use Rattle.store_turns.proofs.Growing.{seen_still, went_on}
use Rattle.store_board.specs.Standing.{Stands, Goes}
use Rattle.store_board.proofs.Standing.{goes_by, goes_on}
use Rattle.store_commits.proofs.Firsts.{going_on_clock, clock_first_leads}

-- the two events, as they are told and as an actor does them
abbrev pub finished_told : Bool → List Told
finished_told b = told act.Done answer.Done ∷ told act.Seen (answer.Visible b) ∷ []

abbrev pub finished_done : Name → Bool → List Done
finished_done n b = done_by n (told act.Done answer.Done) ∷ done_by n (told act.Seen (answer.Visible b)) ∷ []

module _ (turn : ℕ) (v : View) (s s' : Session) (k k' : Clock) (e : ℕ) (b : Bool) (free : v.held ≡ []) (fits : Fits s v) (same : s'.index ≡ s.index) (does : DoesClock (λ _. act.Done) k s (Some answer.Done) k' s') (idle : s'.work ≡ None) (finished : s'.finished ≡ Some e)
    (shown : b ≡ nat_le e k'.visible) where
  abbrev n : Name
  n = name_in v s.index

  abbrev a : Actor
  a = actor_of v.base v.actors n

  abbrev mid : View
  mid = taking turn (OfClock k) v

  -- the first event, and the second one after it
  first : (m : ClockMove) × (clock_event act.Done k a ≡ Some m) × (m.answer ≡ answer.Done) × (m.clock ≡ k') × IsSessionOf s' m.actor
  first = does a fits

  abbrev m : ClockMove
  m = first.0

  second : (l : ClockMove) × (clock_event act.Seen k' m.actor ≡ Some l) × (l.answer ≡ answer.Visible b) × (l.clock ≡ k') × IsSessionOf s' l.actor
  second = does_see k' s' e b idle finished shown m.actor first.4

  abbrev l : ClockMove
  l = second.0

  abbrev done1 : Done
  done1 = done_by n (told act.Done answer.Done)

  abbrev done2 : Done
  done2 = done_by n (told act.Seen (answer.Visible b))

  abbrev next : View
  next = going_on_clock turn m done1 mid

  here : actor_of next.base next.actors n ≡ m.actor
  here = actor_here v.base (record { name = n; actor = m.actor }) v.actors n refl

  asked : clock_event act.Seen m.clock (actor_of next.base next.actors n) ≡ Some l
  asked = (λ i. clock_event act.Seen (first.3 i) (here i)) ∙ second.1

  then : DoesOne turn next done2 (OfClock l.clock) [] l.actor
  then = clock_leads turn next m.clock done2 l (inl refl) refl refl (ap (λ o. clock_move m.clock (actor_of next.base next.actors n) o) asked) (sym second.2)

  both : Leads turn mid (finished_done n b) (OfClock l.clock) × (giving (finished_done n b) mid ≡ giving (done2 ∷ []) next)
  both = clock_first_leads turn mid k done1 m (done2 ∷ []) (OfClock l.clock) (inl refl) (λ i. record { turn = turn; part = OfClock k } ∷ free i) refl (ap (λ o. clock_move k a o) first.1) (sym first.2) then.leads

  pub finish_leads : Leads turn mid (finished_done n b) (OfClock k')
  finish_leads = subst (λ c. Leads turn mid (finished_done n b) (OfClock c)) second.3 both.0

  went_first : Went n (told act.Done answer.Done ∷ []) next.held v next
  went_first = record {
    notes = Did done1 m.actor ∷ [];
    are = (m.actor, [], refl, (refl, here));
    events = refl;
    others = λ o ne. actor_there v.base (record { name = n; actor = m.actor }) v.actors o ne;
    held = refl;
    same = refl;
    seen = λ c all. all;
  }

  went_second : IsNewest (OfClock l.clock) v → Went n (told act.Seen (answer.Visible b) ∷ []) [] next (giving (done2 ∷ []) next)
  went_second newest = record {
    notes = Did done2 l.actor ∷ [];
    are = (l.actor, [], refl, (refl, then.actor));
    events = then.notes;
    others = then.others;
    held = then.held;
    same = refl;
    seen = λ c all. seen_still (OfClock l.clock) next newest c (subst (λ z. EachSeen (λ x. Later x c) z) then.seen all);
  }

  pub finish_grew : IsNewest (OfClock k') v → Grew n (finished_told b) v (giving (finished_done n b) mid)
  finish_grew newest =
      let whole : Went n (finished_told b) [] v (giving (done2 ∷ []) next)
      = went_on n (told act.Done answer.Done ∷ []) (told act.Seen (answer.Visible b) ∷ []) next.held [] v next (giving (done2 ∷ []) next) went_first (went_second (subst (λ c. IsNewest (OfClock c) v) (sym second.3) newest)) in
      subst (λ (z : View × List Held). Went n (finished_told b) z.1 v z.0) (λ i. (sym both.1 i, sym free i)) whole

  pub finish_fits : Fits s' (giving (finished_done n b) mid)
  finish_fits = session_then v s s' same (giving (finished_done n b) mid) l.actor (ap (λ (z : View). z.number) both.1) (ap (λ (z : View). actor_of z.base z.actors n) both.1 ∙ then.actor) second.4

  pub finish_seen : b ≡ true → HasSeen e (giving (finished_done n b) mid)
  finish_seen is_so c met =
      let low : e ≤ k'.visible = leb-true e k'.visible (sym shown ∙ is_so) in
      let all : EachSeen (λ (x : Clock). Later x c) (l.clock ∷ []) = subst (λ (xs : List Clock). EachSeen (λ (x : Clock). Later x c) xs) (ap (λ (z : View). z.seen) both.1 ∙ then.seen) met.1 in
      let later = all.0.visible in
      let is : l.clock.visible ≡ k'.visible = ap (λ (z : Clock). z.visible) second.3 in omega (arith, low, later, is)

-- the same of a pass that took the turn, and gave it back
module _ {H : Type 0} (board : TurnBoard H) (shards : ℕ) (p took r : Seat (Option H) View) (s s' : Session) (k k' : Clock) (e : ℕ) (b : Bool) (stands : Stands board shards p s) (taken : known took ≡ taking shards (OfClock k) (known p)) (same : s'.index ≡ s.index)
    (does : DoesClock (λ _. act.Done) k s (Some answer.Done) k' s') (idle : s'.work ≡ None) (finished : s'.finished ≡ Some e) (shown : b ≡ nat_le e k'.visible) where
  pub finish_led : (many : ℕ) → shards + 2 ≡ many → Leads (many - 2) (known took) (finished_done (name_in (known took) s'.index) b) (OfClock k')
  finish_led many is = subst (λ (z : ℕ × View × ℕ). Leads z.0 z.1 (finished_done (name_in z.1 z.2) b) (OfClock k')) (λ i. (two_less shards many is i, sym taken i, sym same i))
      (finish_leads shards (known p) s s' k k' e b stands.0.held stands.1 same does idle finished shown)

  module _ (given : Knowing r (giving (finished_done (name_in (known took) s'.index) b) (known took))) where
    is_giving : known r ≡ giving (finished_done (name_in (known p) s.index) b) (taking shards (OfClock k) (known p))
    is_giving = ap (λ m. m.0) given ∙ (λ i. giving (finished_done (name_in (taken i) (same i)) b) (taken i))

    pub finish_goes : IsNewest (OfClock k') (known took) → SameSeat p took → SameSeat took r → Goes board shards (finished_told b) p r s s'
    finish_goes newest kept kept_again = goes_by board shards p r s s' (finished_told b) stands.0
        (subst (λ z. Grew (name_in (known p) s.index) (finished_told b) (known p) z) (sym is_giving)
        (finish_grew shards (known p) s s' k k' e b stands.0.held stands.1 same does idle finished shown (subst (λ (z : View). IsNewest (OfClock k') z) taken newest)))
        (subst (λ z. Fits s' z) (sym is_giving) (finish_fits shards (known p) s s' k k' e b stands.0.held stands.1 same does idle finished shown))
        same
        (subst (λ (m : Knows H). (m.0.spent ≡ false) × (m.1 ≡ slots_of m.0.held)) (sym given) (ap (λ (z : View). z.spent) taken ∙ stands.0.ready.0, refl))
        (kept_again.0 ∙ kept.0, kept_again.1 ∙ kept.1)

    pub finish_has_seen : b ≡ true → HasSeen e (known r)
    finish_has_seen is_so = subst (λ z. HasSeen e z) (sym is_giving) (finish_seen shards (known p) s s' k k' e b stands.0.held stands.1 same does idle finished shown is_so)

-- it is asked again until the epoch is visible
module _ {H : Type 0} (board : TurnBoard H) (shards : ℕ) (p q r : Seat (Option H) View) (s s' s'' : Session) (b : Bool) (goes : Goes board shards (finished_told b) p q s s') where
  pub finish_then : ((ts : List Told) × Sees ts × Goes board shards ts q r s' s'') → (ts : List Told) × Sees ts × Goes board shards (told act.Done answer.Done ∷ ts) p r s s''
  finish_then seen = (
    told act.Seen (answer.Visible b) ∷ seen.0,
    inr ((b, refl), seen.1),
    goes_on board shards p q r s s' s'' (finished_told b) seen.0 goes seen.2,
  )
