-- What a take tells of the value that was taken.
use Rattle.std.proofs.Common.{◌≡◌, ℕ, ◌+◌, ◌%◌, ◌<◌, ◌≤◌, inl, List, [], length, get_or, refl, sym, ap, ◌∙◌, subst, arith}
use Rattle.core_states.specs.declared.clock.Clock.{Clock}
use Rattle.core_states.specs.Parts.{Part, OfShard, OfClock, OfLog, VertexRow, row_of, state_of_parts}
use Rattle.core_states.specs.Openings.{MayOpen, IsAllowed}
use Rattle.graph_model.specs.Records.{transaction_most}
use Rattle.core_kept.specs.Bounds.{Kept}
use Rattle.turn_board.specs.Turns.{Told}
use Rattle.turn_board.specs.Views.{View, ShardPlace, taking}
use Rattle.turn_board.proofs.Steps.{part_shard, part_clock}
use Rattle.turn_board.proofs.Newest.{told_newest}
use Rattle.store_turns.specs.declared.session.Session.{Session}
use Rattle.store_turns.specs.Fits.{Fits, IsSessionOf, Known, name_in}
use Rattle.store_turns.specs.Rows.{KnownRows}
use Rattle.store_turns.specs.Seeing.{MayMeet}

clock_or : Clock → Part → Clock
clock_or k (OfShard rows) = k
clock_or k (OfClock c) = c
clock_or k (OfLog log) = k

rows_or : List VertexRow → Part → List VertexRow
rows_or rows (OfShard found) = found
rows_or rows (OfClock c) = rows
rows_or rows (OfLog log) = rows

same_count : (a b turns : ℕ) → a + 2 ≡ turns → b + 2 ≡ turns → a ≡ b
same_count a b turns x y = omega (arith, x, y)

-- the clock of the state is the one that was taken
clock_is : (turns turn : ℕ) (v : View) (k : Clock) → turn + 2 ≡ turns → (told : Told turns (taking turn (OfClock k) v)) → told.parts.clock ≡ k
unfolding clock_or
clock_is turns turn v k at told = ap (clock_or k) (sym (part_clock told.parts turn (same_count turn (length told.parts.shards) turns at told.turns_are)) ∙ told.held.0)

pub known_clock : (turns turn : ℕ) (v : View) (k : Clock) (s : Session) → turn + 2 ≡ turns → Fits s v → Told turns (taking turn (OfClock k) v) → Known k s
known_clock turns turn v k s at fits told = record {
  base = v.base;
  most = told.parts.limits;
  state = state_of_parts v.base told.parts;
  may = told.reached.may;
  allowed = told.reached.allowed;
  kept = told.reached.kept;
  name = name_in v s.index;
  clock = clock_is turns turn v k at told;
  fits = subst (λ a. IsSessionOf s a) (sym (told.own (name_in v s.index) (inl refl)).0) fits;
}

-- and one that the pass might meet
pub met_clock : (turns turn : ℕ) (v : View) (k : Clock) → turn + 2 ≡ turns → Told turns (taking turn (OfClock k) v) → MayMeet v k
met_clock turns turn v k at told = (subst (λ (c : Clock). v.base.epoch ≤ c.visible) (clock_is turns turn v k at told) told.reached.kept.0.1.low, told_newest turns turn (OfClock k) v told)

pub known_rows : (turns shards turn : ℕ) (v : View) (place : ShardPlace) (rows : List VertexRow) (s : Session) → place ≡ record { number = turn; shards = v.shards; log_most = v.limits.log; base = v.base } → v.limits.txn ≡ transaction_most → shards + 2 ≡ turns → shards ≡ v.shards → turn < shards → Fits s v
    → Told turns (taking turn (OfShard rows) v) → KnownRows place rows s
unfolding rows_or
known_rows turns shards turn v place rows s place_is txn many as_many below fits told = subst (λ p. KnownRows p rows s) (sym place_is) (record {
  state = state_of_parts v.base told.parts;
  may = subst (λ most. MayOpen v.base most) limits told.reached.may;
  allowed = subst (λ most. IsAllowed most) limits told.reached.allowed;
  kept = subst (λ most. Kept v.base most (state_of_parts v.base told.parts)) limits told.reached.kept;
  name = name_in v s.index;
  rows_are = λ w at. ap (λ xs. row_of v.base xs w) (ap (λ z. get_or told.parts.shards z []) (sym (ap (λ n. w % n) same) ∙ at) ∙ rows_is);
  fits = subst (λ a. IsSessionOf s a) (sym (told.own (name_in v s.index) (inl refl)).0) fits;
})
  where
    limits : told.parts.limits ≡ record { txn = transaction_most; log = v.limits.log }
    limits = told.opened.0 ∙ (λ i. record { txn = txn i; log = v.limits.log })

    counts : shards ≡ length told.parts.shards
    counts = same_count shards (length told.parts.shards) turns many told.turns_are

    same : v.shards ≡ length told.parts.shards
    same = sym as_many ∙ counts

    rows_is : ◌≡◌ {A = List VertexRow} (get_or told.parts.shards turn []) rows
    rows_is = ap (rows_or rows) (sym (part_shard told.parts turn (subst (λ n. turn < n) counts below)) ∙ told.held.0)

-- the shard of a vertex is one of them
pub below_count : (x n shards : ℕ) → n ≡ shards → 0 < shards → x % n < shards
below_count x n shards is some = omega (arith, is, some)
