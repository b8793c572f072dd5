-- An event on the clock whose turn was taken in one try.
use Rattle.std.proofs.Common.{◌≡◌, ◌∙◌, ℕ, sym, ap, subst, Option}
use Rattle.atomic_table.specs.declared.shared.Seat.{Seat}
use Rattle.core_states.specs.declared.clock.Clock.{Clock}
use Rattle.core_states.specs.declared.event.Act.{Act}
use Rattle.core_states.specs.declared.event.CoreAnswer.{CoreAnswer}
use Rattle.core_states.specs.declared.event.Reach.TheVariants as reach
use Rattle.core_states.specs.Parts.{OfClock}
use Rattle.core_states.specs.States.{reach_of}
use Rattle.turn_board.specs.Board.{known, turns, Knowing, Ready, SameSeat, slots_of}
use Rattle.turn_board.specs.Spread.{turns_in}
use Rattle.turn_board.specs.Turns.{Told, IsNewest}
use Rattle.turn_board.specs.Views.{View, taking}
use Rattle.turn_board.specs.Works.{giving}
use Rattle.turn_board.specs.declared.board.TurnBoard.{TurnBoard}
use Rattle.store_turns.specs.declared.session.Session.{Session}
use Rattle.store_turns.specs.Fits.{DoesClock, Known, name_in}
use Rattle.store_turns.specs.Grows.{told_if, done_if}
use Rattle.store_turns.specs.Seeing.{MeetsClock}
use Rattle.store_turns.proofs.ClockSteps.{gives}
use Rattle.store_turns.proofs.Knowing.{known_clock, met_clock}
use Rattle.store_board.specs.Standing.{Stands, Goes}
use Rattle.store_board.proofs.Standing.{goes_by}

module _ {H : Type 0} (board : TurnBoard H) (shards : ℕ) (pass next : Seat (Option H) View) (s : Session) (k : Clock) (stands : Stands board shards pass s) (taken : Knowing next (taking shards (OfClock k) (known pass))) (told : Told (turns next) (known next)) (same : SameSeat pass next) where
  took : known next ≡ taking shards (OfClock k) (known pass)
  took = ap (λ m. m.0) taken

  told_of : Told (turns pass) (taking shards (OfClock k) (known pass))
  told_of =
      let same_turns : turns next ≡ turns pass = ap (λ t. turns_in t.slots) same.0 in
      subst (λ (z : ℕ × View). Told z.0 z.1) (λ i. (same_turns i, took i)) told

  pub tried_known : Known k s
  tried_known = known_clock (turns pass) shards (known pass) k s stands.0.turns stands.1 told_of

  pub tried : (last : Seat (Option H) View) (s' : Session) (k' : Clock) (acts : CoreAnswer → Act) → ((says : CoreAnswer) → reach_of (acts says) ≡ reach.Clock) → s'.index ≡ s.index → (answer : Option CoreAnswer) → DoesClock acts k s answer k' s'
      → Knowing last (giving (done_if (name_in (known next) s'.index) acts answer) (known next)) → IsNewest (OfClock k') (known next) → SameSeat next last
      → Goes board shards (told_if acts answer) pass last s s' × MeetsClock acts answer (name_in (known pass) s.index) (known pass) (known last)
  tried last s' k' acts clock index answer does given newest keeps =
      let was = stands.0 in
      let now : known last ≡ giving (done_if (name_in (known next) s'.index) acts answer) (known next) = ap (λ m. m.0) given in
      let grew = gives shards (known pass) (known next) (known last) s s' k k' acts was.held clock stands.1 index (met_clock (turns pass) shards (known pass) k was.turns told_of) answer does took now newest in
      let ready : Ready last = (ap (λ m. m.0.spent) given ∙ (ap (λ (v : View). v.spent) took ∙ was.ready.0), ap (λ m. m.1) given ∙ ap (λ (v : View). slots_of v.held) (sym now)) in
      (goes_by board shards pass last s s' (told_if acts answer) was grew.0 grew.1 index ready (keeps.0 ∙ same.0, keeps.1 ∙ same.1), grew.2)
