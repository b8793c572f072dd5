-- What the one pass of a store knows between phases, each of which is a script that so many workers run.
use Rattle.std.specs.Prelude.{◌≡◌, ◌⊎◌, ℕ, ◌<◌, suc, ◌==◌, if◌then◌else◌, List, [], ◌∷◌, length, replicate}
use Rattle.request_text.specs.declared.reply.Reply.{Reply}
use Rattle.graph_legal.specs.Lines.{Phase, asked_from, history}
use Rattle.graph_workers.specs.Passes.{own_lines}
use Rattle.turn_board.specs.Views.{View, In, numbers, splitting, split_off, joining, IsLast}
use Rattle.turn_board.specs.Histories.{noted}
use Rattle.worker_runs.specs.Notes.{WorkerDid}
use Rattle.worker_runs.specs.Runs.{ComesBefore}
use Rattle.store_workers.specs.Crews.{pass_of}

-- the parent of the passes of the next phase: it is split off the one pass that there is, which is then joined into it
abbrev pub next_parent : View → View
next_parent v = joining (split_off v) (splitting v)

-- By the number of the parent of the last phase's passes, that of this phase's. Each parent is split off the one before, so the numbers of those before are what its number ends with. Where a phase was not run this is some number of the length that its parent's would have.
abbrev pub parent_in : List ℕ → ℕ → List ℕ
parent_in [] phase = replicate (suc phase) 0
parent_in (k ∷ p) phase = if length p == phase then k ∷ p else parent_in p phase

-- the pass of each worker of each phase, by the number of the last parent
abbrev pub pass_in : List ℕ → ℕ → ℕ → List ℕ
pass_in p phase w = pass_of (parent_in p phase) w

-- The pass is the only one that is left, and these phases are over, with these replies: it has noted what the workers of each did, and nothing else, and each phase was over before the next one began.
pub record HasRunPhases (phases : List Phase) (replies : List Reply) (v : View) : Type 0 where
  pub last : IsLast v
  pub depth : length v.number ≡ length phases
  pub len : length replies ≡ length (asked_from 0 phases)
  pub did : (ph w : ℕ) → WorkerDid v.base (pass_in v.number ph w) (own_lines ph w (history phases replies)) (noted (pass_in v.number ph w) v.events)
  pub only : (p : List ℕ) → (noted p v.events ≡ []) ⊎ ((ph : ℕ) × (w : ℕ) × (ph < length phases) × (p ≡ pass_in v.number ph w) × In p (numbers v))
  pub order : (ph w ph2 w2 : ℕ) → ph < ph2 → ComesBefore v (pass_in v.number ph w) (pass_in v.number ph2 w2)
