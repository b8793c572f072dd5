-- What a pass knows that took the log's turn, did events, and gave it back.
use Rattle.std.proofs.Common.{◌≡◌, ℕ, ◌+◌, false, List, [], refl, sym, ap, ◌∙◌, subst, Option}
use Rattle.atomic_table.specs.declared.shared.Seat.{Seat}
use Rattle.core_calls.specs.Events.{Told}
use Rattle.core_states.specs.Laters.{Later}
use Rattle.core_states.specs.LogParts.{LogPart}
use Rattle.core_states.specs.Names.{Name}
use Rattle.core_states.specs.Parts.{OfLog}
use Rattle.turn_board.specs.Board.{Knows, known, slots_of, Knowing, Ready, SameSeat}
use Rattle.turn_board.specs.Views.{View, EachSeen, taking, behind}
use Rattle.turn_board.specs.Works.{giving, clocks_after}
use Rattle.turn_board.specs.declared.board.TurnBoard.{TurnBoard}
use Rattle.turn_board.proofs.Named.{append_none}
use Rattle.store_turns.specs.declared.session.Session.{Session}
use Rattle.store_turns.specs.Fits.{Fits, name_in}
use Rattle.store_turns.specs.Grows.{Went}
use Rattle.store_turns.proofs.Growing.{grew_nothing}
use Rattle.store_board.specs.Standing.{Stands, Goes}
use Rattle.store_board.proofs.Standing.{goes_by}
use Rattle.store_leads.specs.Leads.{log_held, Leads}

-- the log's turn goes back, with no event more
log_given : (shards : ℕ) (n : Name) (ts : List Told) (log : LogPart) (v w : View) → Went n ts (log_held shards log) v w → Went n ts [] v (giving [] w)
log_given shards n ts log v w went = record {
  notes = went.notes;
  are = went.are;
  events = append_none w.events ∙ went.events;
  others = went.others;
  held = ap (λ hs. behind hs) went.held;
  same = went.same;
  seen = λ k all. went.seen k (subst (λ hs. EachSeen (λ x. Later x k) (clocks_after hs w.seen)) went.held all);
}

module _ {H : Type 0} (board : TurnBoard H) (shards : ℕ) where
  pub led_so : (p took mid r : Seat (Option H) View) (s s' : Session) (log0 log : LogPart) (ts : List Told) → Stands board shards p s → known took ≡ taking (shards + 1) (OfLog log0) (known p) → SameSeat p took → Leads board shards s.index ts (log_held shards log) took mid → Fits s' (known mid) → s'.index ≡ s.index
      → Knowing r (giving [] (known mid)) → SameSeat mid r → Goes board shards ts p r s s'
  led_so p took mid r s s' log0 log ts stands taken kept led fits index given same =
      goes_by board shards p r s s' ts stands.0 grew fits_then index ready (same.0 ∙ led.seat.0 ∙ kept.0, same.1 ∙ led.seat.1 ∙ kept.1)
    where
      n : Name
      n = name_in (known p) s.index

      same_name : name_in (known took) s.index ≡ n
      same_name = λ i. record { pass = (taken i).number; index = s.index }

      from_taking : Went n ts (log_held shards log) (taking (shards + 1) (OfLog log0) (known p)) (known mid)
      from_taking = subst (λ (z : Name × View). Went z.0 ts (log_held shards log) z.1 (known mid)) (λ i. (same_name i, taken i)) led.went

      from_start : Went n ts (log_held shards log) (known p) (known mid)
      from_start = let w = from_taking in record { notes = w.notes; are = w.are; events = w.events; others = w.others; held = w.held; same = w.same; seen = w.seen }

      given_is : known r ≡ giving [] (known mid)
      given_is = ap (λ m. m.0) given

      grew : Went n ts (known p).held (known p) (known r)
      grew = subst (λ (z : View). Went n ts (known p).held (known p) z) (sym given_is) (subst (λ hs. Went n ts hs (known p) (giving [] (known mid))) (sym stands.0.held) (log_given shards n ts log (known p) (known mid) from_start))

      fits_then : Fits s' (known r)
      fits_then = subst (λ (z : View). Fits s' z) (sym given_is) fits

      ready : Ready r
      ready = subst (λ (m : Knows H). (m.0.spent ≡ false) × (m.1 ≡ slots_of m.0.held)) (sym given) (led.holds.ready.0, refl)

  -- the log's turn was not taken
  pub waited_so : (p q : Seat (Option H) View) (s : Session) → Stands board shards p s → SameSeat p q → ◌≡◌ {A = Knows H} q.me p.me → Goes board shards [] p q s s
  waited_so p q s stands same me = goes_by board shards p q s s [] stands.0
      (subst (λ (m : Knows H). Went (name_in (known p) s.index) [] (known p).held (known p) m.0) (sym me) (grew_nothing (name_in (known p) s.index) (known p)))
      (subst (λ (m : Knows H). Fits s m.0) (sym me) stands.1)
      refl
      (subst (λ (m : Knows H). (m.0.spent ≡ false) × (m.1 ≡ slots_of m.0.held)) (sym me) stands.0.ready)
      same
