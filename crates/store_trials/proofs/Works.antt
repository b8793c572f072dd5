-- A session stays at its desk by each event.
use Rattle.std.proofs.Common.{◌∙◌, ℕ, List, [], sym, subst, Option}
use Rattle.atomic_table.specs.declared.shared.Seat.{Seat}
use Rattle.core_calls.specs.Events.{Told}
use Rattle.core_states.specs.Names.{Name}
use Rattle.turn_board.specs.Views.{View, IsLast, In, numbers}
use Rattle.turn_board.specs.Board.{known}
use Rattle.turn_board.specs.declared.board.TurnBoard.{TurnBoard}
use Rattle.store_turns.specs.declared.session.Session.{Session}
use Rattle.store_turns.specs.Grows.{Grew}
use Rattle.store_board.specs.Standing.{Goes}
use Rattle.store_log.specs.LogChanges.{IsBaseOf}
use Rattle.store_trials.specs.AtDesk.{IsAtDesk}

-- the pass is still the only one
still_last : (n : Name) (ts : List Told) (v w : View) → Grew n ts v w → IsLast v → IsLast w
still_last n ts v w grew last = (
  subst (λ (u : View). In [] (numbers u)) (sym grew.same) last.0,
  (λ m made. subst (λ (u : View). In m (numbers u)) (sym grew.same) (last.1 m (subst (λ (u : View). In m u.made) grew.same made))),
  grew.held ∙ last.2,
)

pub still_at_desk : {H : Type 0} (board : TurnBoard H) (shards : ℕ) (ts : List Told) (p q : Seat (Option H) View) (s t : Session)
    → IsAtDesk board shards p s → Goes board shards ts p q s t → IsAtDesk board shards q t
still_at_desk board shards ts p q s t was goes = record {
  stands = goes.stands;
  last = still_last _ ts (known p) (known q) goes.grew was.last;
  found = subst (λ (u : View). IsBaseOf u.base u.found.records) (sym goes.grew.same) was.found;
}
