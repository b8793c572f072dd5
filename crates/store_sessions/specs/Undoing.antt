-- A session that undoes what its transaction did.
use Rattle.std.specs.Prelude.{◌≡◌, ℕ, ◌-◌, List, [], ◌∷◌, length, Option, Some, None}
use Rattle.atomic_table.specs.declared.shared.Seat.{Seat}
use Rattle.core_calls.specs.Events.{Told, told}
use Rattle.core_states.specs.declared.event.Act.TheVariants as act
use Rattle.core_states.specs.declared.event.CoreAnswer.TheVariants as answer
use Rattle.turn_board.specs.Views.{View}
use Rattle.turn_board.specs.declared.board.TurnBoard.{TurnBoard}
use Rattle.store_turns.specs.declared.session.Session.{Session}
use Rattle.store_turns.specs.declared.session.Work.{Work}
use Rattle.store_turns.specs.Moves.{IsLost}
use Rattle.store_board.specs.Standing.{Goes}

-- each of the events undoes a vertex
abbrev pub AreUndos : List Told → Type 0
AreUndos [] = Unit {0}
AreUndos (e ∷ es) = ((v : ℕ) × (e ≡ told (act.Undo v) answer.Done)) × AreUndos es

-- The session has undone some of what its transaction took.
pub record Undoes {H : Type 0} (board : TurnBoard H) (shards : ℕ) (p q : Seat (Option H) View) (s s' : Session) : Type 0 where
  pub events : List Told
  pub undos : AreUndos events
  pub goes : Goes board shards events p q s s'
  pub work : Work
  pub is : s' ≡ record s { work = Some work }
  pub lost : IsLost work
  pub stage : (t : Work) → s.work ≡ Some t → work.stage ≡ t.stage

-- how many vertices are not free
abbrev pub taken_in : Option Work → ℕ
taken_in None = 0
taken_in (Some t) = length t.touched.taken - t.settled
