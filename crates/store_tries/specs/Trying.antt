-- What a call comes to that tries a turn once.
use Rattle.std.specs.Prelude.{◌≡◌, ℕ, List, Option, Result, Err}
use Rattle.atomic_table.specs.declared.shared.Seat.{Seat}
use Rattle.core_calls.specs.Events.{Told}
use Rattle.turn_board.specs.Views.{View, finding_busy}
use Rattle.turn_board.specs.Board.{known, Knowing, SameSeat}
use Rattle.turn_board.specs.declared.board.TurnBoard.{TurnBoard}
use Rattle.store_board.specs.Standing.{Stands, Goes}
use Rattle.store_turns.specs.declared.session.Session.{Session}
use Rattle.store_sessions.specs.declared.beginning.Begun.{Begun}
use Rattle.store_sessions.specs.declared.refusal.Refusal.{Refusal}
use Rattle.store_sessions.specs.declared.refusal.Refusal.TheVariants as refusal
use Rattle.store_sessions.specs.Beginning.{BeginTells, BeginLeaves, BeginSees}

-- The clock's turn, which is the one behind the shards, was found taken: the pass has noted that and nothing else, and the session is as before.
pub record FoundTaken {H : Type 0} (board : TurnBoard H) (shards turn : ℕ) (p q : Seat (Option H) View) (s s' : Session) : Type 0 where
  pub turn_is : turn ≡ shards
  pub noted : Knowing q (finding_busy turn (known p))
  pub stands : Stands board shards q s'
  pub same : s' ≡ s
  pub seat : SameSeat p q

-- It began so, as a begin that waits does.
pub record HasBegun {H : Type 0} (board : TurnBoard H) (shards : ℕ) (r : Result Begun Refusal) (p q : Seat (Option H) View) (s s' : Session) : Type 0 where
  pub events : List Told
  pub tells : BeginTells r events
  pub goes : Goes board shards events p q s s'
  pub leaves : BeginLeaves r s s'
  pub sees : BeginSees r (known p) (known q)

-- Busy comes where the turn was found taken; every other answer is that of a begin that waits.
abbrev pub TryBegins : {H : Type 0} → TurnBoard H → ℕ → Result Begun Refusal → Seat (Option H) View → Seat (Option H) View → Session → Session → Type 0
TryBegins board shards (Err (refusal.Busy turn)) p q s s' = FoundTaken board shards turn p q s s'
TryBegins board shards r p q s s' = HasBegun board shards r p q s s'
