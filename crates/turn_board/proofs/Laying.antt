-- The values of a board by name and in the order of the turns.
use Rattle.std.proofs.Common.{◌≡◌, ℕ, zero, suc, ◌+◌, ◌-◌, ◌<◌, List, [], ◌∷◌, ◌++◌, length, length-append, refl, sym, ap, ◌∙◌, subst, arith, Option, Some}
use mathlib.Core.Option.{some, some-injective}
use lib.ListN.{get_elem?}
use Rattle.core_states.specs.declared.clock.Clock.{Clock}
use Rattle.core_states.specs.LogParts.{LogPart}
use Rattle.core_states.specs.Parts.{Part, OfShard, OfClock, OfLog, Parts, VertexRow}
use Rattle.turn_board.specs.Histories.{found_by}
use Rattle.turn_board.specs.Views.{ShardPlace, Start}
use Rattle.turn_board.specs.Homes.{home_shown}
use Rattle.turn_board.specs.Laid.{laid, HasEnds}
use Rattle.turn_board.specs.Starts.{found_at, found_in, shards_in}
use Rattle.turn_board.specs.Board.{Shows}
use Rattle.turn_board.specs.declared.home.Home.{Home}
use Rattle.turn_board.specs.declared.home.Home.TheVariants as home
use Rattle.turn_board.specs.declared.homes.Homes.{Homes}
use Rattle.turn_board.proofs.Steps.{part_clock, part_log}

abbrev IsClock : Part → Type 0
IsClock (OfShard rows) = ⊥
IsClock (OfClock k) = Unit {0}
IsClock (OfLog log) = ⊥

abbrev IsLog : Part → Type 0
IsLog (OfShard rows) = ⊥
IsLog (OfClock k) = ⊥
IsLog (OfLog log) = Unit {0}

-- a list is what stands before its last two, and these
split_last : {A : Type 0} (n m : ℕ) (xs : List A) (a b : A) → m ≡ n + 1 → length xs ≡ n + 2 → get_elem? xs n ≡ some a → get_elem? xs m ≡ some b → (ys : List A) × (xs ≡ (ys ++ a ∷ []) ++ b ∷ [])
split_last zero m [] a b next long at at' = absurd (omega (arith, long))
split_last zero m (p ∷ []) a b next long at at' = absurd (omega (arith, long))
split_last {A} zero m (p ∷ q ∷ []) a b next long at at' =
    let second : get_elem? (p ∷ q ∷ []) 1 ≡ some b = subst (λ (z : ℕ). get_elem? (p ∷ q ∷ []) z ≡ some b) next at' in
    ([], λ i. some-injective p a at i ∷ some-injective q b second i ∷ [])
split_last zero m (p ∷ q ∷ r ∷ xs) a b next long at at' = absurd (omega (arith, long))
split_last (suc n) m [] a b next long at at' = absurd (omega (arith, long))
split_last (suc n) zero (x ∷ xs) a b next long at at' = absurd (omega (arith, next))
split_last (suc n) (suc m) (x ∷ xs) a b next long at at' =
    let rest = split_last n m xs a b (omega (arith, next)) (omega (arith, long)) at at' in
    (x ∷ rest.0, λ i. x ∷ rest.1 i)

some_length : {A : Type 0} (ys : List A) (b : A) → 0 < length (ys ++ b ∷ [])
some_length [] b = omega arith
some_length (y ∷ ys) b = omega arith

last_of : {A : Type 0} (ys : List A) (b : A) (n : ℕ) → n + 1 ≡ length (ys ++ b ∷ []) → get_elem? (ys ++ b ∷ []) n ≡ some b
last_of [] b zero e = refl
last_of [] b (suc n) e = absurd (omega (arith, e))
last_of (y ∷ ys) b zero e = let more = some_length ys b in absurd (omega (arith, e, more))
last_of (y ∷ ys) b (suc n) e = last_of ys b n (omega (arith, e))

module _ {X E W : Type 0} (rows : X → List VertexRow) (place : X → ShardPlace) (clock : E → Clock) (log : W → LogPart) (moment : W → ℕ) where
  clock_home : (x : Home X E W) (k : Clock) → OfClock k ≡ (home_shown rows place clock log moment x).part → (e : E) × (x ≡ home.Clock e)
  clock_home (home.Shard x) k is = absurd (subst (λ z. IsClock z) is tt)
  clock_home (home.Clock e) k is = (e, refl)
  clock_home (home.Log w) k is = absurd (subst (λ z. IsClock z) is tt)

  log_home : (x : Home X E W) (g : LogPart) → OfLog g ≡ (home_shown rows place clock log moment x).part → (w : W) × (x ≡ home.Log w)
  log_home (home.Shard x) g is = absurd (subst (λ z. IsLog z) is tt)
  log_home (home.Clock e) g is = absurd (subst (λ z. IsLog z) is tt)
  log_home (home.Log w) g is = (w, refl)

  -- values that show the parts of their turns are those of shards, then the clock's and the log's
  pub has_ends : (at : Start) (parts : Parts) (xs : List (Option (Home X E W))) → Shows (home_shown rows place clock log moment) at parts xs → HasEnds xs
  has_ends at parts xs shows =
      let n : ℕ = length parts.shards in
      let h = shows.1 n (omega arith) in
      let g = shows.1 (n + 1) (omega arith) in
      let c = clock_home h.0 parts.clock (sym (part_clock parts n refl) ∙ h.2) in
      let w = log_home g.0 parts.log (sym (part_log parts (n + 1) (omega arith)) ∙ g.2) in
      let s = split_last n (n + 1) xs (Some h.0) (Some g.0) refl shows.0 h.1 g.1 in
      (s.0, c.0, w.0, s.1 ∙ (λ i. (s.0 ++ Some (c.1 i) ∷ []) ++ Some (w.1 i) ∷ []))

  -- what the log's value says that the run found
  pub found_laid : (homes : Homes X E W) → found_in (home_shown rows place clock log moment) (laid homes) ≡ found_by (log homes.log)
  found_laid homes =
      let ys : List (Option (Home X E W)) = homes.shards.values.items ++ Some (home.Clock homes.clock) ∷ [] in
      let some = some_length ys (Some (home.Log homes.log)) in
      ap (λ z. found_at (home_shown rows place clock log moment) z) (last_of ys (Some (home.Log homes.log)) (length (ys ++ Some (home.Log homes.log) ∷ []) - 1) (omega (arith, some)))

  -- how many of them are those of shards
  pub shards_laid : (homes : Homes X E W) → shards_in (laid homes) ≡ length homes.shards.values.items
  shards_laid homes = two_more homes.shards.values.items (Some (home.Clock homes.clock)) (Some (home.Log homes.log))
    where
      two_more : {A : Type 0} (xs : List A) (a b : A) → length ((xs ++ a ∷ []) ++ b ∷ []) - 2 ≡ length xs
      two_more xs a b = let n = length-append (xs ++ a ∷ []) (b ∷ []) in let m = length-append xs (a ∷ []) in omega (arith, n, m)
