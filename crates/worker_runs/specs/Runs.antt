-- The passes of all workers, and the run that a close tells of.
use Rattle.std.specs.Prelude.{◌≡◌, ◌⊎◌, ℕ, ◌<◌, List, [], ◌∷◌}
use Rattle.graph_legal.specs.Lines.{Replied}
use Rattle.core_states.specs.Names.{Name}
use Rattle.core_states.specs.Openings.{run_limits}
use Rattle.core_states.specs.Parts.{Parts}
use Rattle.graph_workers.specs.Passes.{own_lines}
use Rattle.turn_board.specs.Views.{Done, Origin, View, In, EachSeen, start_of}
use Rattle.turn_board.specs.Histories.{Reached, noted, Began}
use Rattle.turn_board.specs.Turns.{IsOwn, IsOpened}
use Rattle.worker_runs.specs.Notes.{WorkerDid}

-- Each worker of each phase has a pass of its own.
pub record Passes (pass : ℕ → ℕ → List ℕ) : Type 0 where
  pub phase_of : List ℕ → ℕ
  pub worker_of : List ℕ → ℕ
  pub phase : (ph w : ℕ) → phase_of (pass ph w) ≡ ph
  pub worker : (ph w : ℕ) → worker_of (pass ph w) ≡ w

-- The pass q was split off when all that is noted of the pass p was noted.
abbrev pub IsAfter : View → List ℕ → List ℕ → Origin → Type 0
IsAfter v p q o = (o.number ≡ q) × In p o.passes × (noted p o.events ≡ noted p v.events)

abbrev pub HasOrigin : (Origin → Type 0) → List Origin → Type 0
HasOrigin F [] = ⊥
HasOrigin F (o ∷ os) = F o ⊎ HasOrigin F os

-- The pass p had done all before q did anything: one of them did nothing, or q was split off when p had done all.
abbrev pub ComesBefore : View → List ℕ → List ℕ → Type 0
ComesBefore v p q = (noted p v.events ≡ []) ⊎ ((noted q v.events ≡ []) ⊎ HasOrigin (IsAfter v p q) v.origins)

-- What the last pass knows: each worker's pass has noted the events of its lines, no other pass did anything, and each phase was over before the next one began.
pub record AllDid (v : View) (lines : List Replied) : Type 0 where
  pub pass : ℕ → ℕ → List ℕ
  pub passes : Passes pass
  pub did : (ph w : ℕ) → WorkerDid v.base (pass ph w) (own_lines ph w lines) (noted (pass ph w) v.events)
  pub only : (p : List ℕ) → (noted p v.events ≡ []) ⊎ ((ph : ℕ) × (w : ℕ) × (p ≡ pass ph w))
  pub order : (ph w ph2 w2 : ℕ) → ph < ph2 → ComesBefore v (pass ph w) (pass ph2 w2)

-- What a close tells the last pass: a run of events led to these parts, under the limits of a run; each actor is as the pass has it and did in it what the pass has noted; and no pass did anything before those that it was split off from had done what they had noted by then.
pub record IsToldOf (v : View) (parts : Parts) (run : List Done) : Type 0 where
  pub reached : Reached v.base parts run
  pub opened : IsOpened v parts
  pub limits : v.limits ≡ run_limits
  pub own : (n : Name) → IsOwn n v parts run
  pub began : EachSeen (Began (start_of v) run) v.origins
