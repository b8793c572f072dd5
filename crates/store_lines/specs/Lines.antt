-- What a line of a session makes of the core, and of the session.
use Rattle.std.specs.Prelude.{◌≡◌, ℕ, Bool, true, false, IsTrue, List, Option, Some, None}
use Rattle.atomic_table.specs.declared.shared.Seat.{Seat}
use Rattle.graph_model.specs.declared.query.Query.{Query}
use Rattle.graph_model.specs.declared.query.Query.TheVariants as query
use Rattle.request_text.specs.declared.request.Request.{Request}
use Rattle.request_text.specs.declared.request.Request.TheVariants as request
use Rattle.request_text.specs.declared.reply.Reply.{Reply}
use Rattle.request_text.specs.declared.reply.Reply.TheVariants as reply
use Rattle.graph_legal.specs.Kinds.{is_in_kind, is_reply_inside, is_reply_outside}
use Rattle.graph_workers.specs.Requests.{InsideMakes, OutsideMakes, LineMakes}
use Rattle.graph_workers.specs.Passes.{EndIs, trace_of_txn}
use Rattle.core_states.specs.declared.transaction.Transaction.{Transaction}
use Rattle.graph_model.specs.declared.graph.Base.{Base}
use Rattle.core_states.specs.Names.{Name}
use Rattle.core_states.specs.States.{State}
use Rattle.core_states.specs.Openings.{run_limits}
use Rattle.core_calls.specs.Events.{Told, Did}
use Rattle.turn_board.specs.Board.{known}
use Rattle.turn_board.specs.Views.{View}
use Rattle.turn_board.specs.declared.board.TurnBoard.{TurnBoard}
use Rattle.store_turns.specs.declared.session.Session.{Session}
use Rattle.store_turns.specs.declared.session.Work.{Work}
use Rattle.store_turns.specs.Fits.{IsWorkOf, actor_at, name_in}
use Rattle.store_turns.specs.Moves.{Works}
use Rattle.store_board.specs.Standing.{Goes}
use Rattle.store_sessions.specs.Changing.{IsAtWork}
use Rattle.store_sessions.specs.declared.refusal.Refusal.{Refusal}
use Rattle.store_sessions.specs.declared.refusal.Refusal.TheVariants as refusal

-- ---- the session

-- its row is open, and a transaction that it has works
abbrev pub IsAtLine : Session → Type 0
IsAtLine s = (s.is_open ≡ true) × ((t : Work) → s.work ≡ Some t → Works s t)

-- its row is open, and it has a transaction, which works
abbrev pub IsInside : Session → Type 0
IsInside s = (s.is_open ≡ true) × IsAtWork s

-- its row is open, and it has no transaction
abbrev pub IsOutside : Session → Type 0
IsOutside s = (s.is_open ≡ true) × (s.work ≡ None)

-- ---- the reply

-- how a refusal is answered
abbrev pub refused_reply : Refusal → Reply
refused_reply refusal.NoMemory = reply.NoMemory
refused_reply (refusal.Held v u n) = reply.Held v u
refused_reply (refusal.Conflict v e r) = reply.Conflict v e
refused_reply refusal.NoVertex = reply.NoVertex
refused_reply refusal.TxnFull = reply.TxnFull
refused_reply refusal.LogFull = reply.LogFull
refused_reply (refusal.LogFault before after) = reply.LogFault before after
refused_reply refusal.Spent = reply.Spent
refused_reply (refusal.Busy t) = reply.NoMemory

-- the request that asks this
abbrev pub asking : Query → Request
asking (query.Vertex v) = request.Get v
asking (query.Edge v l d) = request.Edge v l d
asking (query.Scan v l) = request.Scan v l
asking (query.Labels v) = request.Labels v

-- a list is said to be full where nothing is put
abbrev pub is_full_without_put : Request → Reply → Bool
is_full_without_put (request.Set v p) reply.LogFull = true
is_full_without_put (request.Drop v) reply.LogFull = true
is_full_without_put (request.Del v l d) reply.LogFull = true
is_full_without_put q r = false

-- ---- the line

-- A request of a session with a transaction was answered by these events of its actor.
pub record InsideRan {H : Type 0} (board : TurnBoard H) (shards : ℕ) (q : Request) (r : Reply) (before after : Seat (Option H) View) (s s' : Session) : Type 0 where
  pub events : List Told
  pub makes : (x : Transaction) → IsWorkOf s.work (Some x) → InsideMakes x q r events
  pub goes : Goes board shards events before after s s'
  pub kind : is_full_without_put q r ≡ false → IsTrue (is_reply_inside q r)
  pub ends : EndIs r (actor_at (known after) (name_in (known before) s.index))
  pub ready : IsAtLine s'

-- The same of a session without one.
pub record OutsideRan {H : Type 0} (board : TurnBoard H) (shards : ℕ) (q : Request) (r : Reply) (before after : Seat (Option H) View) (s s' : Session) : Type 0 where
  pub events : List Told
  pub makes : OutsideMakes q r events
  pub goes : Goes board shards events before after s s'
  pub kind : IsTrue (is_reply_outside q r)
  pub ends : EndIs r (actor_at (known after) (name_in (known before) s.index))
  pub ready : IsAtLine s'

-- A request of a session was answered by these events of its actor.
pub record RequestRan {H : Type 0} (board : TurnBoard H) (shards : ℕ) (q : Request) (r : Reply) (before after : Seat (Option H) View) (s s' : Session) : Type 0 where
  pub events : List Told
  pub makes : LineMakes (actor_at (known before) (name_in (known before) s.index)).txn q r events
  pub goes : Goes board shards events before after s s'
  -- wherever an actor of the core did these events
  pub kind : (base : Base) (name : ℕ → Name) (i : Name) (from to : State) → Did base run_limits name i events from to → IsTrue (is_in_kind (trace_of_txn (actor_at (known before) (name_in (known before) s.index)).txn) q r)
  pub ends : EndIs r (actor_at (known after) (name_in (known before) s.index))
  pub ready : IsAtLine s'
