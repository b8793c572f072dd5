-- A list of edges with distinct destinations, and the edge to a destination in it.
use Rattle.std.proofs.Common.{◌≡◌, ℕ, Bool, true, false, cond, ◌||◌, List, [], ◌∷◌, map, refl, sym, ap, ◌∙◌, arith}
use Rattle.std.specs.Prelude.{◌==◌, is_some, Some, None}
use Rattle.std.specs.List.{list_any}
use Rattle.std.proofs.lemmas.Bool.{or_parts}
use Rattle.std.proofs.lemmas.Bool.Decides.{nat_tests}
use Rattle.graph_model.specs.declared.pairs.Pair.{Pair}
use Rattle.graph_model.specs.Graph.{without_pair, pair_to}

-- whether an edge to d stands in a list
abbrev pub has_edge : ℕ → List Pair → Bool
has_edge d pairs = list_any (λ x. x.d == d) pairs

pub any-destinations : (n : ℕ) (pairs : List Pair) → list_any (λ y. y == n) (map (λ z. z.d) pairs) ≡ has_edge n pairs
any-destinations n [] = refl
any-destinations n (x ∷ pairs) = ap (λ b. (x.d == n) || b) (any-destinations n pairs)

-- where no edge to d stands, taking it out changes nothing
pub without_pair-absent : (d : ℕ) (pairs : List Pair) → has_edge d pairs ≡ false → without_pair d pairs ≡ pairs
without_pair-absent d [] none = refl
without_pair-absent d (x ∷ pairs) none =
    let parts = or_parts (x.d == d) (has_edge d pairs) none in
    let rest = without_pair-absent d pairs parts.1 in grind (arith, nat_tests)

-- and none is found
pub pair_to-absent : (d : ℕ) (pairs : List Pair) → has_edge d pairs ≡ false → pair_to d pairs ≡ None
pair_to-absent d [] none = refl
pair_to-absent d (x ∷ pairs) none =
    let parts = or_parts (x.d == d) (has_edge d pairs) none in
    let rest = pair_to-absent d pairs parts.1 in grind (arith, nat_tests)

-- a list has an edge exactly where one is found
pub is_some-pair_to : (d : ℕ) (pairs : List Pair) → is_some (pair_to d pairs) ≡ has_edge d pairs
is_some-pair_to d [] = refl
is_some-pair_to d (x ∷ pairs) =
    elim (x.d == d) as (λ b. is_some (cond b (Some x) (pair_to d pairs)) ≡ (b || has_edge d pairs)) [ true ↦ refl | false ↦ is_some-pair_to d pairs ]

-- an edge that is found leads to its destination
pub pair_to-destination : (d : ℕ) (x : Pair) (pairs : List Pair) → pair_to d pairs ≡ Some x → (x.d == d) ≡ true
pair_to-destination d x [] found = (cc)
pair_to-destination d x (y ∷ pairs) found =
    elim (y.d == d) as (λ b. (y.d == d) ≡ b → cond b (Some y) (pair_to d pairs) ≡ Some x → (x.d == d) ≡ true) [
      | true ↦ λ e at. let same : y ≡ x = (cc) in ap (λ (z : Pair). z.d == d) (sym same) ∙ e
      | false ↦ λ e at. pair_to-destination d x pairs at
    ] refl found
