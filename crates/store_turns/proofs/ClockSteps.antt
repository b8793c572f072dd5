-- What an event on the clock, or none, adds to what the pass knows.
use Rattle.std.proofs.Common.{◌≡◌, ℕ, ◌+◌, ◌-◌, inl, List, [], ◌∷◌, refl, sym, ap, ◌∙◌, subst, arith, Option, Some, None}
use Rattle.core_states.specs.declared.actor.Actor.{Actor}
use Rattle.core_states.specs.declared.clock.Clock.{Clock}
use Rattle.core_states.specs.declared.event.Act.{Act}
use Rattle.core_states.specs.declared.event.CoreAnswer.{CoreAnswer}
use Rattle.core_states.specs.declared.event.Reach.TheVariants as reach
use Rattle.core_states.specs.ClockEvents.{ClockMove}
use Rattle.core_states.specs.Moves.{clock_move}
use Rattle.core_states.specs.Names.{Name}
use Rattle.core_states.specs.Parts.{OfClock, actor_of}
use Rattle.core_states.specs.Laters.{Later}
use Rattle.core_states.specs.States.{clock_event, reach_of}
use Rattle.core_calls.specs.Events.{Told, told}
use Rattle.turn_board.specs.Views.{Done, View, EachSeen, taking}
use Rattle.turn_board.specs.Works.{giving, Leads}
use Rattle.turn_board.specs.Ones.{DoesOne}
use Rattle.turn_board.specs.Turns.{IsNewest}
use Rattle.turn_board.proofs.Ones.{clock_leads}
use Rattle.store_turns.specs.declared.session.Session.{Session}
use Rattle.store_turns.specs.Grows.{Grew, told_if, done_if, done_by}
use Rattle.store_turns.specs.Fits.{Fits, IsSessionOf, DoesClock, name_in}
use Rattle.store_turns.specs.Seeing.{MayMeet, MeetsClock}
use Rattle.store_turns.proofs.Growing.{grew_one, grew_none}

pub two_less : (turn n : ℕ) → turn + 2 ≡ n → turn ≡ n - 2
two_less turn n e = omega (arith, e)

-- the session stands for the actor that an event left
pub session_then : (v : View) (s s' : Session) → s'.index ≡ s.index → (w : View) (a' : Actor) → w.number ≡ v.number → actor_of w.base w.actors (name_in v s.index) ≡ a' → IsSessionOf s' a' → Fits s' w
session_then v s s' same w a' number is fit = subst (λ z. IsSessionOf s' z) (sym (ap (λ (m : Name). actor_of w.base w.actors m) (λ i. record { pass = number i; index = same i }) ∙ is)) fit

module _ (turn : ℕ) (v : View) (s s' : Session) (k k' : Clock) (acts : CoreAnswer → Act) (free : v.held ≡ []) (clock : (says : CoreAnswer) → reach_of (acts says) ≡ reach.Clock) (fits : Fits s v) (same : s'.index ≡ s.index) where
  abbrev n : Name
  n = name_in v s.index

  abbrev a : Actor
  a = actor_of v.base v.actors n

  abbrev mid : View
  mid = taking turn (OfClock k) v

  -- what is asked of a give, and what the pass knows after it
  abbrev pub Stepped : Option CoreAnswer → Type 0
  Stepped answer = Leads turn mid (done_if n acts answer) (OfClock k')
      × ((IsNewest (OfClock k') v → Grew n (told_if acts answer) v (giving (done_if n acts answer) mid)) × Fits s' (giving (done_if n acts answer) mid)
      × (MayMeet v k → MeetsClock acts answer n v (giving (done_if n acts answer) mid)))

  one : (says : CoreAnswer) (m : ClockMove) → clock_event (acts says) k a ≡ Some m → m.answer ≡ says → m.clock ≡ k' → IsSessionOf s' m.actor → Stepped (Some says)
  one says m is answers leaves fit =
      let t : Told = told (acts says) says in let e : Done = done_by n t in
      let does : DoesOne turn mid e (OfClock k') [] m.actor = subst (λ z. DoesOne turn mid e (OfClock z) [] m.actor) leaves
      (clock_leads turn mid k e m (inl refl) (λ i. record { turn = turn; part = OfClock k } ∷ free i) (clock says) (ap (clock_move k a) is) (sym answers)) in (
        does.leads,
        (
          grew_one turn turn v (OfClock k) (OfClock k') n t m.actor free does,
          session_then v s s' same (giving (e ∷ []) mid) m.actor refl does.actor fit,
          (λ met. record {
            clock = k;
            met = met;
            move = m;
            is = is;
            answer = answers;
            actor = sym does.actor;
            later = λ z meets.
                let given : EachSeen (λ (old : Clock). Later old z) (k' ∷ []) = subst (λ (cs : List Clock). EachSeen (λ (old : Clock). Later old z) cs) does.seen meets.1 in
                subst (λ (c : Clock). Later c z) (sym leaves) given.0;
          }),
        ),
      )

  pub stepped : (answer : Option CoreAnswer) → DoesClock acts k s answer k' s' → Stepped answer
  stepped None does = (
    (tt, does.0),
    (
      (λ newest. grew_none turn v (OfClock k) n (subst (λ z. IsNewest (OfClock z) v) does.0 newest)),
      session_then v s s' same (giving [] mid) a refl refl (does.1 a fits),
      (λ met. refl),
    ),
  )
  stepped (Some says) does = let m = does a fits in one says m.0 m.1 m.2 m.3 m.4

-- the same of a pass that took the turn, and gave it back
pub gives : (turn : ℕ) (v took new : View) (s s' : Session) (k k' : Clock) (acts : CoreAnswer → Act) → v.held ≡ [] → ((says : CoreAnswer) → reach_of (acts says) ≡ reach.Clock) → Fits s v → s'.index ≡ s.index → MayMeet v k
    → (answer : Option CoreAnswer) → DoesClock acts k s answer k' s' → took ≡ taking turn (OfClock k) v → new ≡ giving (done_if (name_in took s'.index) acts answer) took → IsNewest (OfClock k') took
    → Grew (name_in v s.index) (told_if acts answer) v new × Fits s' new × MeetsClock acts answer (name_in v s.index) v new
gives turn v took new s s' k k' acts free clock fits same met answer does taken given newest =
    let step = stepped turn v s s' k k' acts free clock fits same answer does in
    let is : new ≡ giving (done_if (name_in v s.index) acts answer) (taking turn (OfClock k) v) = given ∙ (λ i. giving (done_if (name_in (taken i) (same i)) acts answer) (taken i)) in (
      subst (λ z. Grew (name_in v s.index) (told_if acts answer) v z) (sym is) (step.1.0 (subst (λ (z : View). IsNewest (OfClock k') z) taken newest)),
      subst (λ z. Fits s' z) (sym is) step.1.1,
      subst (λ z. MeetsClock acts answer (name_in v s.index) v z) (sym is) (step.1.2 met),
    )

pub leads : (turns turn : ℕ) (v took : View) (s s' : Session) (k k' : Clock) (acts : CoreAnswer → Act) → turn + 2 ≡ turns → v.held ≡ [] → ((says : CoreAnswer) → reach_of (acts says) ≡ reach.Clock) → Fits s v → s'.index ≡ s.index
    → (answer : Option CoreAnswer) → DoesClock acts k s answer k' s' → took ≡ taking turn (OfClock k) v → Leads (turns - 2) took (done_if (name_in took s'.index) acts answer) (OfClock k')
leads turns turn v took s s' k k' acts many free clock fits same answer does taken =
    subst (λ (z : ℕ × View × ℕ). Leads z.0 z.1 (done_if (name_in z.1 z.2) acts answer) (OfClock k')) (λ i. (two_less turn turns many i, sym taken i, sym same i)) (stepped turn v s s' k k' acts free clock fits same answer does).0
