-- A begin that took the turn is answered as one that waits.
use Rattle.std.proofs.Common.{ℕ, sym, ap, subst, Option, Some, None}
use Rattle.std.specs.Prelude.{Result, Ok, Err}
use Rattle.atomic_table.specs.declared.shared.Seat.{Seat}
use Rattle.core_states.specs.declared.event.CoreAnswer.{CoreAnswer}
use Rattle.core_states.specs.declared.event.CoreAnswer.TheVariants as answer
use Rattle.turn_board.specs.Board.{known}
use Rattle.turn_board.specs.Views.{View}
use Rattle.turn_board.specs.declared.board.TurnBoard.{TurnBoard}
use Rattle.store_turns.specs.declared.session.Session.{Session}
use Rattle.store_turns.specs.Fits.{name_in}
use Rattle.store_turns.specs.Seeing.{HasSeen}
use Rattle.store_turns.proofs.Seeing.{seen_on}
use Rattle.store_sessions.specs.declared.beginning.Begun.{Begun}
use Rattle.store_sessions.specs.declared.refusal.Refusal.{Refusal}
use Rattle.store_sessions.specs.declared.refusal.Refusal.TheVariants as refusal
use Rattle.store_sessions.specs.Beginning.{BeginSees, begun_by}
use Rattle.store_tries.specs.Trying.{HasBegun, TryBegins}

module _ {H : Type 0} (board : TurnBoard H) (shards : ℕ) where
  pub try_so : (o : Option CoreAnswer) (p q : Seat (Option H) View) (s s' : Session) → HasBegun board shards (begun_by o) p q s s' → TryBegins board shards (begun_by o) p q s s'
  try_so None p q s s' h = h
  try_so (Some answer.NotEnabled) p q s s' h = h
  try_so (Some answer.Done) p q s s' h = h
  try_so (Some (answer.Begun t e)) p q s s' h = h
  try_so (Some (answer.Number v)) p q s s' h = h
  try_so (Some answer.Spent) p q s s' h = h
  try_so (Some (answer.Learnt l o)) p q s s' h = h
  try_so (Some (answer.Collected n)) p q s s' h = h
  try_so (Some (answer.Published e)) p q s s' h = h
  try_so (Some (answer.Kept o)) p q s s' h = h
  try_so (Some (answer.Visible b)) p q s s' h = h
  try_so (Some (answer.Held t)) p q s s' h = h
  try_so (Some (answer.Conflict e)) p q s s' h = h
  try_so (Some answer.NoVertex) p q s s' h = h
  try_so (Some answer.TxnFull) p q s s' h = h
  try_so (Some answer.LogFull) p q s s' h = h
  try_so (Some answer.Added) p q s s' h = h
  try_so (Some answer.Replaced) p q s s' h = h
  try_so (Some answer.Gone) p q s s' h = h
  try_so (Some answer.Absent) p q s s' h = h
  try_so (Some (answer.Shown a)) p q s s' h = h

  -- and what it reads is at least what the pass had seen
  pub try_sees : (r : Result Begun Refusal) (p q : Seat (Option H) View) (s s' : Session) → TryBegins board shards r p q s s' → BeginSees r (known p) (known q)
  try_sees (Ok b) p q s s' tried = tried.sees
  try_sees (Err x) p q s s' tried = tt

  seen_begun : (r : Result Begun Refusal) (p q : Seat (Option H) View) (s s' : Session) → HasBegun board shards r p q s s' → (e : ℕ) → HasSeen e (known p) → HasSeen e (known q)
  seen_begun r p q s s' begun e seen = seen_on (name_in (known p) s.index) begun.events (known p).held (known p) (known q) begun.goes.grew e seen

  -- what the pass had seen visible it has seen after the try
  pub seen_tried : (r : Result Begun Refusal) (p q : Seat (Option H) View) (s s' : Session) → TryBegins board shards r p q s s' → (e : ℕ) → HasSeen e (known p) → HasSeen e (known q)
  seen_tried (Ok b) p q s s' tried e seen = seen_begun (Ok b) p q s s' tried e seen
  seen_tried (Err refusal.NoMemory) p q s s' tried e seen = seen_begun (Err refusal.NoMemory) p q s s' tried e seen
  seen_tried (Err (refusal.Held v u n)) p q s s' tried e seen = seen_begun (Err (refusal.Held v u n)) p q s s' tried e seen
  seen_tried (Err (refusal.Conflict v c t)) p q s s' tried e seen = seen_begun (Err (refusal.Conflict v c t)) p q s s' tried e seen
  seen_tried (Err refusal.NoVertex) p q s s' tried e seen = seen_begun (Err refusal.NoVertex) p q s s' tried e seen
  seen_tried (Err refusal.TxnFull) p q s s' tried e seen = seen_begun (Err refusal.TxnFull) p q s s' tried e seen
  seen_tried (Err refusal.LogFull) p q s s' tried e seen = seen_begun (Err refusal.LogFull) p q s s' tried e seen
  seen_tried (Err (refusal.LogFault b a)) p q s s' tried e seen = seen_begun (Err (refusal.LogFault b a)) p q s s' tried e seen
  seen_tried (Err refusal.Spent) p q s s' tried e seen = seen_begun (Err refusal.Spent) p q s s' tried e seen
  seen_tried (Err (refusal.Busy turn)) p q s s' tried e seen = subst (λ (v : View). HasSeen e v) (sym (ap (λ m. m.0) tried.noted)) seen
