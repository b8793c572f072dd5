-- The turns of a board, and what a pass that takes one is told of the core.
use Rattle.std.specs.Prelude.{◌≡◌, ◌⊎◌, ℕ, ◌+◌, ◌*◌, ◌<◌, nat_lt, ◌==◌, if◌then◌else◌, List, [], ◌∷◌, length}
use Rattle.std.proofs.Math.ListN.{get_or}
use Rattle.core_states.specs.Names.{Name}
use Rattle.core_states.specs.Parts.{Part, OfShard, OfClock, OfLog, Parts, actor_of}
use Rattle.core_states.specs.Laters.{Later, LaterLog}
use Rattle.turn_board.specs.Views.{Done, Held, View, start_of, In, numbers, EachHeld, EachSeen}
use Rattle.turn_board.specs.Histories.{Reached, found_by, did, noted}

-- The part of a turn: the turns are those of the shards, then the clock's, and last the log's.
abbrev pub turn_part : Parts → ℕ → Part
turn_part parts k = if nat_lt k (length parts.shards) then OfShard (get_or parts.shards k [])
    else (if k == length parts.shards then OfClock parts.clock else OfLog parts.log)

-- The actor of this name is as the pass has it. What the actors of its own pass did, with each actor as its event left it, is what is noted of them, in order.
abbrev pub IsOwn : Name → View → Parts → List Done → Type 0
IsOwn n v parts run = (actor_of v.base parts.actors n ≡ actor_of v.base v.actors n) × (did (start_of v) n.pass run ≡ noted n.pass v.events)

-- the limits of the parts, and what their run found of the disk, are those that the pass knows
abbrev pub IsOpened : View → Parts → Type 0
IsOpened v parts = (parts.limits ≡ v.limits) × (found_by parts.log ≡ v.found)

-- What a pass is told: there is a kept state of the core, to which a run of events led. The parts that the pass holds are its parts, the actors of the pass are its actors, its limits and what its run found are those that the pass knows, and its clock and its log part are later than each that the pass has seen.
pub record Told (turns : ℕ) (v : View) : Type 0 where
  pub parts : Parts
  pub run : List Done
  pub reached : Reached v.base parts run
  pub opened : IsOpened v parts
  pub turns_are : length parts.shards + 2 ≡ turns
  pub held : EachHeld (λ k p. turn_part parts k ≡ p) v.held
  pub own : (n : Name) → In n.pass (numbers v) → IsOwn n v parts run
  pub later : EachSeen (λ k. Later k parts.clock) v.seen
  pub later_log : EachSeen (λ g. LaterLog g parts.log) v.seen_logs

-- a clock or a log part is later than each that the pass has seen
abbrev pub IsNewest : Part → View → Type 0
IsNewest (OfShard rows) v = Unit {0}
IsNewest (OfClock k) v = EachSeen (λ old. Later old k) v.seen
IsNewest (OfLog log) v = EachSeen (λ old. LaterLog old log) v.seen_logs

-- The pass holds no turn; or it holds the log's alone, and takes the clock's.
abbrev pub MayTake : ℕ → ℕ → List Held → Type 0
MayTake turns k hs = (k < turns) × ((hs ≡ []) ⊎ ((k + 2 ≡ turns) × ((p : Part) × (hs ≡ record { turn = k + 1; part = p } ∷ []))))

-- Words of two turns lie in two cache lines: the word of a turn is the 16th after that of the turn before it.
abbrev pub word_of : ℕ → ℕ
word_of k = k * 16
