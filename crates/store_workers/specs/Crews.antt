-- What the passes of workers know, before they run, once they have run, and once they are joined.
use Rattle.std.specs.Prelude.{◌≡◌, ◌⊎◌, ℕ, ◌≤◌, ◌<◌, zero, suc, List, [], ◌∷◌, ◌++◌, length, vec_capacity, slice_index_or, Option}
use Rattle.atomic_table.specs.declared.shared.Seat.{Seat}
use Rattle.request_text.specs.declared.request.Line.{Line}
use Rattle.graph_legal.specs.Lines.{Replied}
use Rattle.store_log.specs.LogChanges.{IsBaseOf}
use Rattle.turn_board.specs.Board.{known}
use Rattle.turn_board.specs.Views.{Start, View, Origin, In, numbers, fresh_view, start_of}
use Rattle.turn_board.specs.Histories.{noted}
use Rattle.turn_board.specs.declared.board.TurnBoard.{TurnBoard}
use Rattle.store_board.specs.Standing.{IsAtBoard}
use Rattle.worker_runs.specs.Notes.{WorkerDid}
use Rattle.worker_sessions.specs.Notes.{AreOf}
use Rattle.worker_sessions.specs.Sessions.{AreReady, EachIs, indices}
use Rattle.worker_lines.specs.Lines.{lines_of, replied_of, IsSeated}
use Rattle.store_workers.specs.declared.worker.Crew.{Crew}
use Rattle.store_workers.specs.declared.worker.Worker.{Worker}

-- the number of the pass of worker w, where those of the workers are split off the pass with this number, one after another
abbrev pub pass_of : List ℕ → ℕ → List ℕ
pass_of p w = suc w ∷ p

-- The pass has done nothing. It has seen what the one that it was split off had seen.
abbrev pub IsFresh : View → Type 0
IsFresh v = v ≡ fresh_view (start_of v) v.number v.seen v.seen_logs

-- And its board was made for this, and it has this number.
abbrev pub IsFreshAt : Start → List ℕ → View → Type 0
IsFreshAt start p v = (start_of v ≡ start) × (v.number ≡ p) × IsFresh v

-- The pass of a worker has this number, no other was joined into it or split off it, and it has noted that its sessions were opened, that these lines were run, and that its sessions were closed, and nothing of other passes.
pub record HasWorked (start : Start) (p : List ℕ) (lines : List Replied) (v : View) : Type 0 where
  pub start_is : start_of v ≡ start
  pub number : v.number ≡ p
  pub joined : v.joined ≡ []
  pub made : v.made ≡ []
  pub are : AreOf p v.events
  pub did : WorkerDid start.base p lines v.events

-- every pass that was made is one of the first so many that were split off the one with this number, or was joined into this one
abbrev pub AreOut : List ℕ → ℕ → View → Type 0
AreOut p out v = (m : List ℕ) → In m v.made → ((i : ℕ) × (i < out) × (m ≡ pass_of p i)) ⊎ In m (numbers v)

-- what the passes of the first n workers of a phase were split off from: each from this one, as the phase began
abbrev pub origins_of : View → ℕ → List Origin
origins_of u zero = []
origins_of u (suc n) = origins_of u n ++ record { number = pass_of u.number n; passes = numbers u; events = u.events } ∷ []

-- the second list goes on where the first one ends
abbrev pub Extends : {A : Type 0} → List A → List A → Type 0
Extends {A} xs ys = (more : List A) × (ys ≡ xs ++ more)

-- The parent of a phase's passes, once it has split off so many. When the phase began it was u, and nothing else was done since.
pub record HasParted (u : View) (out : ℕ) (v : View) : Type 0 where
  pub start_is : start_of v ≡ start_of u
  pub number : v.number ≡ u.number
  pub joined : v.joined ≡ u.joined
  pub made : (m : List ℕ) → In m v.made → ((i : ℕ) × (i < out) × (m ≡ pass_of u.number i)) ⊎ In m u.made
  pub splits : v.splits ≡ out
  pub origins : v.origins ≡ u.origins ++ origins_of u out
  pub events : v.events ≡ u.events

-- The parent of the passes of a phase's n workers, while those of the first so many are out: every other one that was made was joined into it. When the phase began it was u, and had noted nothing of these workers. Since then it has noted what each of the others did, which ran these lines, and nothing else.
pub record HasOut (u : View) (n : ℕ) (lines : ℕ → List Replied) (out : ℕ) (v : View) : Type 0 where
  pub start_is : start_of v ≡ start_of u
  pub number : v.number ≡ u.number
  pub joined : Extends u.joined v.joined
  pub made : AreOut u.number out v
  pub origins : Extends (u.origins ++ origins_of u n) v.origins
  pub few : out ≤ n
  pub before : (i : ℕ) → noted (pass_of u.number i) u.events ≡ []
  pub did : (i : ℕ) → out ≤ i → WorkerDid u.base (pass_of u.number i) (lines i) (noted (pass_of u.number i) v.events)
  pub only : (p : List ℕ) → (noted p v.events ≡ noted p u.events) ⊎ ((i : ℕ) × (out ≤ i) × (i < n) × (p ≡ pass_of u.number i) × In p (numbers v))

-- A pass of the board with a fact of what it knows.
abbrev pub At : {H : Type 0} → TurnBoard H → ℕ → (View → Type 0) → Seat (Option H) View → Type 0
At board shards F pass = IsAtBoard board shards pass × F (known pass)

-- Sessions and room for worker w of the n that share a script: the sessions have done nothing, each of the worker's lines has its session at its place, and there is room for a reply to each of them.
pub record IsCrew (n : ℕ) (script : List Line) (w : ℕ) (crew : Crew) : Type 0 where
  pub ready : AreReady crew.sessions.items
  pub seated : EachIs (λ line. IsSeated w n (indices crew.sessions.items) line) script
  pub none : crew.replies.items ≡ []
  pub room : length (lines_of w n script) ≤ vec_capacity crew.replies

-- Worker w may start: its pass is fresh and knows the base that was found, and it has its sessions.
pub record MayStart {H : Type 0} (board : TurnBoard H) (shards n : ℕ) (script : List Line) (w : ℕ) (worker : Worker (Seat (Option H) View)) : Type 0 where
  pub number : w < n
  pub fresh : At board shards IsFresh worker.pass
  pub found : IsBaseOf (known worker.pass).base (known worker.pass).found.records
  pub crew : IsCrew n script w worker.crew

-- It ran its lines, and has a reply to each.
pub record HasRun {H : Type 0} (board : TurnBoard H) (shards n : ℕ) (script : List Line) (w : ℕ) (old new : Worker (Seat (Option H) View)) : Type 0 where
  pub worked : At board shards (HasWorked (start_of (known old.pass)) (known old.pass).number (replied_of w n script new.crew.replies.items)) new.pass
  pub len : length new.crew.replies.items ≡ length (lines_of w n script)

-- Each of the workers ran.
abbrev pub EachRan : {H : Type 0} → TurnBoard H → ℕ → ℕ → List Line → List (Worker (Seat (Option H) View)) → List (Worker (Seat (Option H) View)) → Type 0
EachRan {H} board shards n script olds news = (w : ℕ) (d : Worker (Seat (Option H) View)) → w < length olds → HasRun board shards n script w (slice_index_or olds w d) (slice_index_or news w d)

-- A fact of each of these, numbered from here on.
abbrev pub AreNumbered : {A : Type 0} → (ℕ → A → Type 0) → ℕ → List A → Type 0
AreNumbered F n [] = Unit {0}
AreNumbered F n (x ∷ xs) = F n x × AreNumbered F (suc n) xs

-- The workers wait: each has a fresh pass, in the order of the splits from the pass with this number, and its sessions.
abbrev pub Waits : {H : Type 0} → TurnBoard H → ℕ → ℕ → List Line → Start → List ℕ → ℕ → Worker (Seat (Option H) View) → Type 0
Waits board shards n script start p w worker = At board shards (IsFreshAt start (pass_of p w)) worker.pass × IsCrew n script w worker.crew

-- They have run these lines.
abbrev pub Ran : {H : Type 0} → Start → List ℕ → (ℕ → List Replied) → ℕ → Worker (Seat (Option H) View) → Type 0
Ran start p lines w worker = HasWorked start (pass_of p w) (lines w) (known worker.pass)
