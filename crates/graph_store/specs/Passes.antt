-- What a thread has of a store, and what a call leaves of it.
use Rattle.std.specs.Prelude.{◌≡◌, ℕ, ◌+◌, ◌≤◌, max, Bool, [], ◌∷◌, Option, Some, None, is_some, Result, Ok, Err, Box}
use Rattle.std.specs.declared.alloc.Global.{Global}
use Rattle.disk_model.specs.declared.disk.Disk.{Ghosts}
use Rattle.turn_board.specs.Views.{Shown, Belongs, start_of}
use Rattle.turn_board.specs.Board.{known}
use Rattle.turn_board.specs.Homes.{home_shown}
use Rattle.turn_board.specs.declared.board.TurnBoard.{TurnBoard}
use Rattle.turn_board.specs.declared.home.Home.{Home}
use Rattle.turn_board.specs.declared.home.Wide.{Wide}
use Rattle.store_rows.specs.ShardValues.{ShardValue}
use Rattle.store_turns.specs.declared.clock_home.ClockHome.{ClockHome}
use Rattle.store_log.specs.LogValues.{LogValue}
use Rattle.store_board.specs.Standing.{Holds}
use Rattle.store_sessions.specs.declared.beginning.Begun.{Begun}
use Rattle.store_sessions.specs.declared.refusal.Refusal.{Refusal}
use Rattle.store_commits.specs.declared.committing.CommitEnd.{CommitEnd}
use Rattle.store_commits.specs.declared.committing.CommitEnd.TheVariants as ending
use Rattle.graph_store.specs.declared.pass.Pass.{Pass}

-- the greatest epoch that a pass was answered
abbrev pub told_epoch : {D : Type 0} {g : Ghosts D} → Pass D g → ℕ
told_epoch p = p.told

-- whether it holds a turn
abbrev pub has_turn : {D : Type 0} {g : Ghosts D} → Pass D g → Bool
has_turn p = is_some p.held

-- It holds no turn.
abbrev pub HoldsNone : {D : Type 0} {g : Ghosts D} → Pass D g → Type 0
HoldsNone p = p.held ≡ None

-- the greater of the epoch that was told and the one that is answered, if any
abbrev pub hearing : Option ℕ → ℕ → ℕ
hearing None told = told
hearing (Some e) told = max told e

-- It was answered this epoch, or none, and holds what it held.
abbrev pub Hears : {D : Type 0} {g : Ghosts D} → Option ℕ → Pass D g → Pass D g → Type 0
Hears epoch p q = (q.told ≡ hearing epoch p.told) × (q.held ≡ p.held)

-- It was answered no epoch, and holds what it held.
abbrev pub KeepsRest : {D : Type 0} {g : Ghosts D} → Pass D g → Pass D g → Type 0
KeepsRest p q = (q.told ≡ p.told) × (q.held ≡ p.held)

-- the epoch that a begin answers
abbrev pub read_in : Result Begun Refusal → Option ℕ
read_in (Ok b) = Some b.read
read_in (Err r) = None

-- the epoch that a commit answers
abbrev pub committed_in : Result CommitEnd Refusal → Option ℕ
committed_in (Ok (ending.Committed e)) = Some e
committed_in (Ok ending.Ended) = None
committed_in (Err r) = None

-- the value of a turn of a store
abbrev pub SpotOf : Type 0 → Type 0
SpotOf D = Home (Box ShardValue Global) (Box ClockHome Global) (Wide (LogValue D))

-- and what it shows
abbrev pub shown_by : {D : Type 0} → (D → ℕ) → SpotOf D → Shown
shown_by {D} moment = home_shown (λ (b : Box ShardValue Global). b.value.rows) (λ (b : Box ShardValue Global). b.value.place) (λ (b : Box ClockHome Global). b.value.part.clock)
    (λ (w : Wide (LogValue D)). w.value.value.log) (λ (w : Wide (LogValue D)). moment w.value.value.wal.disk)

-- It holds this turn of the board alone, with its value: that shows the part that the pass knows, and belongs to the turn.
pub record HoldsTurn {D : Type 0} {g : Ghosts D} (moment : D → ℕ) (board : TurnBoard (SpotOf D)) (shards turn : ℕ) (p : Pass D g) : Type 0 where
  pub turn_is : turn ≤ shards + 1
  pub value : SpotOf D
  pub held : p.held ≡ Some (record { turn = turn; value = value })
  pub holds : Holds board shards (record { turn = turn; part = (shown_by moment value).part } ∷ []) p.seat
  pub belongs : Belongs (start_of (known p.seat)) turn (shown_by moment value)
