-- The values that a close of the board hands out, by what they show.
use Rattle.std.proofs.Common.{◌≡◌, ℕ, zero, suc, ◌+◌, ◌<◌, List, [], ◌∷◌, ◌++◌, length, length-append, append_assoc, refl, sym, ap, ◌∙◌, subst, arith, Option, Some}
use mathlib.Core.Option.{some, some-injective}
use lib.ListN.{get_elem?}
use Rattle.core_states.specs.declared.clock.Clock.{Clock}
use Rattle.core_states.specs.LogParts.{LogPart}
use Rattle.core_states.specs.Parts.{Part, OfShard, OfClock, OfLog, Parts, VertexRow}
use Rattle.turn_board.specs.Views.{ShardPlace, Start}
use Rattle.turn_board.specs.Homes.{home_shown}
use Rattle.turn_board.specs.Laid.{laid}
use Rattle.turn_board.specs.Board.{Shows}
use Rattle.turn_board.specs.declared.home.Home.{Home}
use Rattle.turn_board.specs.declared.home.Home.TheVariants as home
use Rattle.turn_board.specs.declared.homes.Homes.{Homes}
use Rattle.turn_board.proofs.Steps.{part_shard, part_clock, part_log}
use Rattle.store_opening.specs.Opened.{AreShards}

abbrev IsShard : Part → Type 0
IsShard (OfShard rows) = Unit {0}
IsShard (OfClock k) = ⊥
IsShard (OfLog log) = ⊥

-- the clock of a part, and its log part; another where it has none
abbrev clock_in : Part → Clock → Clock
clock_in (OfShard rows) other = other
clock_in (OfClock k) other = k
clock_in (OfLog log) other = other

abbrev log_in : Part → LogPart → LogPart
log_in (OfShard rows) other = other
log_in (OfClock k) other = other
log_in (OfLog log) other = log

-- what stands behind a list
behind_at : {A : Type 0} (xs ys : List A) (k n : ℕ) → n ≡ length xs + k → get_elem? (xs ++ ys) n ≡ get_elem? ys k
behind_at [] ys k n e = let same : n ≡ k = omega (arith, e) in ap (λ m. get_elem? ys m) same
behind_at (x ∷ xs) ys k zero e = absurd (omega (arith, e))
behind_at (x ∷ xs) ys k (suc n) e = behind_at xs ys k n (omega (arith, e))

module _ {X E W : Type 0} (rows : X → List VertexRow) (place : X → ShardPlace) (clock : E → Clock) (log : W → LogPart) (moment : W → ℕ) where
  abbrev Item : Type 0
  Item = Option (Home X E W)

  shard_home : (x : Home X E W) (rs : List VertexRow) → OfShard rs ≡ (home_shown rows place clock log moment x).part → (s : X) × (x ≡ home.Shard s)
  shard_home (home.Shard s) rs is = (s, refl)
  shard_home (home.Clock e) rs is = absurd (subst (λ z. IsShard z) is tt)
  shard_home (home.Log w) rs is = absurd (subst (λ z. IsShard z) is tt)

  -- at each place stands a shard
  shards_by : (xs ys : List Item) → ((k : ℕ) → k < length xs → (s : X) × (get_elem? (xs ++ ys) k ≡ some (Some (home.Shard s)))) → AreShards xs
  shards_by [] ys at = tt
  shards_by (x ∷ xs) ys at =
      let first = at 0 (omega arith) in
      let is : x ≡ Some (home.Shard first.0) = some-injective x (Some (home.Shard first.0)) first.1 in
      subst (λ (z : Item). AreShards (z ∷ xs)) (sym is) (shards_by xs ys (λ k low. at (suc k) (omega (arith, low))))

  module _ (at : Start) (parts : Parts) (homes : Homes X E W) (shows : Shows (home_shown rows place clock log moment) at parts (laid homes)) where
    abbrev shards : List Item
    shards = homes.shards.values.items

    abbrev tail : List Item
    tail = Some (home.Clock homes.clock) ∷ Some (home.Log homes.log) ∷ []

    flat : laid homes ≡ shards ++ tail
    flat = append_assoc shards (Some (home.Clock homes.clock) ∷ []) (Some (home.Log homes.log) ∷ [])

    long : length shards ≡ length parts.shards
    long = let n = ap length flat in let m = length-append shards tail in let all = shows.0 in omega (arith, n, m, all)

    pub all_shards : AreShards homes.shards.values.items
    all_shards = shards_by shards tail (λ k low.
        let s = shows.1 k (omega (arith, low, long)) in
        let h = shard_home s.0 _ (sym (part_shard parts k (omega (arith, low, long))) ∙ s.2) in
        (h.0, subst (λ (zs : List Item). get_elem? zs k ≡ some (Some s.0)) flat s.1 ∙ ap (λ (z : Home X E W). some (Some z)) h.1))

    -- the value at a place of the last two
    last_two : (k n : ℕ) (x : Home X E W) (s : Home X E W) → n ≡ length shards + k → get_elem? (laid homes) n ≡ some (Some s) → get_elem? tail k ≡ some (Some x) → s ≡ x
    last_two k n x s e there here =
        let both : some (Some s) ≡ some (Some x) = sym there ∙ ap (λ (zs : List Item). get_elem? zs n) flat ∙ behind_at shards tail k n e ∙ here in
        let one : Some s ≡ Some x = some-injective (Some s) (Some x) both in
        (cc)

    pub clock_shown : parts.clock ≡ clock homes.clock
    clock_shown =
        let n : ℕ = length parts.shards in
        let s = shows.1 n (omega arith) in
        let is = last_two 0 n (home.Clock homes.clock) s.0 (omega (arith, long)) s.1 refl in
        let part : OfClock parts.clock ≡ OfClock (clock homes.clock) = sym (part_clock parts n refl) ∙ s.2 ∙ ap (λ z. (home_shown rows place clock log moment z).part) is in
        ap (λ p. clock_in p parts.clock) part

    pub log_shown : parts.log ≡ log homes.log
    log_shown =
        let n : ℕ = length parts.shards + 1 in
        let s = shows.1 n (omega arith) in
        let is = last_two 1 n (home.Log homes.log) s.0 (omega (arith, long)) s.1 refl in
        let part : OfLog parts.log ≡ OfLog (log homes.log) = sym (part_log parts n (omega arith)) ∙ s.2 ∙ ap (λ z. (home_shown rows place clock log moment z).part) is in
        ap (λ p. log_in p parts.log) part
