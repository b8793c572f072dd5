-- The run of all workers of all phases, up to `close`.
use Rattle.std.specs.Prelude.{◌≡◌, ◌⊎◌, ℕ, ◌≤◌, ◌<◌, List, [], None}
use Rattle.graph_model.specs.declared.graph.Base.{Base}
use Rattle.graph_legal.specs.Lines.{Replied}
use Rattle.core_states.specs.declared.actor.Actor.{Actor}
use Rattle.core_states.specs.LogParts.{Found, opened_part}
use Rattle.core_states.specs.Names.{Name}
use Rattle.core_states.specs.States.{State}
use Rattle.core_states.specs.Openings.{run_limits}
use Rattle.core_kept.specs.Bounds.{Kept}
use Rattle.core_states.specs.Laters.{Later, LaterLog, ReceiptsStay}
use Rattle.graph_workers.specs.Passes.{Pass, Starts, Served, WoundUp, own_lines}

-- The actor of each session of each worker of each phase has a name of its own.
pub record Named (name : ℕ → ℕ → ℕ → Name) : Type 0 where
  pub phase_of : Name → ℕ
  pub worker_of : Name → ℕ
  pub session_of : Name → ℕ
  pub phase : (ph w k : ℕ) → phase_of (name ph w k) ≡ ph
  pub worker : (ph w k : ℕ) → worker_of (name ph w k) ≡ w
  pub session : (ph w k : ℕ) → session_of (name ph w k) ≡ k

-- A pass knows all that another one knew, as after a split or a join.
pub record Knows (p q : Pass) : Type 0 where
  pub told : p.told ≤ q.told
  pub later : Later p.seen.clock q.seen.clock
  pub receipts : ReceiptsStay p.seen q.seen

-- An actor that never ran a transaction.
pub record IsUnused (a : Actor) : Type 0 where
  pub txn : a.txn ≡ None
  pub receipts : a.receipts ≡ []
  pub drew : a.drew ≡ []

-- What `close` tells: the state that all passes together had.
pub record Closed (base : Base) (found : Found) (name : ℕ → ℕ → ℕ → Name) (last : ℕ → ℕ → Pass) (s : State) : Type 0 where
  pub kept : Kept base run_limits s
  -- the log part went on from what was found of the disk
  pub opened : LaterLog (opened_part base.epoch found) s.log
  -- each pass was joined: nothing that it saw was taken back, and its actors are as it left them
  pub later : (ph w : ℕ) → Later (last ph w).seen.clock s.clock
  pub same : (ph w k : ℕ) → s.actor (name ph w k) ≡ (last ph w).seen.actor (name ph w k)
  -- no other actor ran a transaction
  pub only : (i : Name) → IsUnused (s.actor i) ⊎ ((ph : ℕ) × (w : ℕ) × (k : ℕ) × (i ≡ name ph w k))

-- Each worker of each phase ran its lines, by passes that were split from those of the phases before, and joined at the end.
pub record AllRan (base : Base) (found : Found) (s : State) (lines : List Replied) : Type 0 where
  pub name : ℕ → ℕ → ℕ → Name
  pub named : Named name
  pub first : ℕ → ℕ → Pass
  pub now : ℕ → ℕ → Pass
  pub last : ℕ → ℕ → Pass
  pub starts : (ph w : ℕ) → Starts base (name ph w) (first ph w)
  pub served : (ph w : ℕ) → Served base (name ph w) (first ph w) (own_lines ph w lines) (now ph w)
  pub wound_up : (ph w : ℕ) → WoundUp base (name ph w) (now ph w) (last ph w)
  pub split : (ph w ph2 w2 : ℕ) → ph < ph2 → Knows (last ph w) (first ph2 w2)
  pub closed : Closed base found name last s
