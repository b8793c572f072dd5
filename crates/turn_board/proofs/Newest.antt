-- The clock or the log part that a pass takes or gives is later than all that it saw.
use Rattle.std.proofs.Common.{◌≡◌, ℕ, true, false, List, [], length, get_or, subst}
use Rattle.std.specs.Prelude.{Bool, nat_lt, ◌==◌, if◌then◌else◌}
use Rattle.core_states.specs.declared.clock.Clock.{Clock}
use Rattle.core_states.specs.LogParts.{LogPart}
use Rattle.core_states.specs.Parts.{Part, OfShard, OfClock, OfLog, VertexRow, Parts}
use Rattle.core_states.specs.Laters.{Later, LaterLog}
use Rattle.turn_board.specs.Views.{View, EachSeen, taking}
use Rattle.turn_board.specs.Works.{clocks_with, logs_with}
use Rattle.turn_board.specs.Turns.{turn_part, Told, IsNewest}
use Rattle.core_laws.proofs.Orders.{later_self, log_self}

-- a fact of each part that a state has
by_turn : (F : Part → Type 0) (parts : Parts) → ((rows : List VertexRow) → F (OfShard rows)) → F (OfClock parts.clock) → F (OfLog parts.log) → (k : ℕ) → F (turn_part parts k)
by_turn F parts shard clock log k = by_test (nat_lt k (length parts.shards)) (k == length parts.shards)
  where
    by_test : (a b : Bool) → F (if a then OfShard (get_or parts.shards k []) else (if b then OfClock parts.clock else OfLog parts.log))
    by_test true b = shard (get_or parts.shards k [])
    by_test false true = clock
    by_test false false = log

pub newest_now : (parts : Parts) (k : ℕ) (p : Part) (v : View) → turn_part parts k ≡ p → EachSeen (λ c. Later c parts.clock) v.seen → EachSeen (λ g. LaterLog g parts.log) v.seen_logs → IsNewest p v
newest_now parts k p v is all logs = subst (λ z. IsNewest z v) is (by_turn (λ z. IsNewest z v) parts (λ rows. tt) all logs k)

pub told_newest : (turns k : ℕ) (p : Part) (v : View) → Told turns (taking k p v) → IsNewest p v
told_newest turns k p v t = newest_now t.parts k p v t.held.0 t.later t.later_log

-- what a pass has seen is older than what is there, also once it gives a part
pub clocks_now : (parts : Parts) (k : ℕ) (p : Part) (seen : List Clock) → turn_part parts k ≡ p → EachSeen (λ c. Later c parts.clock) seen → EachSeen (λ c. Later c parts.clock) (clocks_with p seen)
clocks_now parts k p seen is all = subst (λ z. EachSeen (λ c. Later c parts.clock) (clocks_with z seen)) is
    (by_turn (λ z. EachSeen (λ c. Later c parts.clock) (clocks_with z seen)) parts (λ rows. all) (later_self parts.clock, tt) all k)

pub logs_now : (parts : Parts) (k : ℕ) (p : Part) (seen : List LogPart) → turn_part parts k ≡ p → EachSeen (λ g. LaterLog g parts.log) seen → EachSeen (λ g. LaterLog g parts.log) (logs_with p seen)
logs_now parts k p seen is all = subst (λ z. EachSeen (λ g. LaterLog g parts.log) (logs_with z seen)) is
    (by_turn (λ z. EachSeen (λ g. LaterLog g parts.log) (logs_with z seen)) parts (λ rows. all) all (log_self parts.log, tt) k)
