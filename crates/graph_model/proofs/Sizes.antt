-- What the edges of a list take, where one is set or taken out.
use Rattle.std.proofs.Common.{◌≡◌, ℕ, ◌+◌, true, false, not, cond, List, [], ◌∷◌, map, length, refl, sym, ap, ◌∙◌, arith}
use Rattle.std.specs.Prelude.{◌==◌, Some}
use Rattle.std.specs.List.{list_any}
use Rattle.std.proofs.lemmas.Bool.{and_parts, not-true, eqb-true}
use Rattle.std.proofs.lemmas.Bool.Decides.{nat_tests}
use Rattle.std.proofs.lemmas.List.Sums.{sum_by-cons}
use Rattle.graph_model.specs.declared.pairs.Pair.{Pair}
use Rattle.graph_model.specs.Change.{edge_size}
use Rattle.graph_model.specs.Graph.{without_pair, pair_to}
use Rattle.graph_model.specs.Whole.{are_pairs}
use Rattle.graph_model.specs.Sizes.{list_size}
use Rattle.graph_model.proofs.EdgeLists.{has_edge, without_pair-absent, any-destinations}

-- one edge more
pub list_size-cons : (x : Pair) (pairs : List Pair) → list_size (x ∷ pairs) ≡ edge_size x.p + list_size pairs
list_size-cons x pairs = sum_by-cons (λ z. edge_size z.p) x pairs

-- without the edge to a destination the list takes so much less
pub list_size-without : (d : ℕ) (x : Pair) (pairs : List Pair) → are_pairs pairs ≡ true → pair_to d pairs ≡ Some x → list_size (without_pair d pairs) + edge_size x.p ≡ list_size pairs
list_size-without d x [] differ found = (cc)
list_size-without d x (y ∷ pairs) differ found =
    let parts = and_parts (not (list_any (λ z. z == y.d) (map (λ z. z.d) pairs))) (are_pairs pairs) differ in
    let size = list_size-cons y pairs in
    elim (y.d == d) as (λ b. (y.d == d) ≡ b → cond b (Some y) (pair_to d pairs) ≡ Some x → list_size (cond (not b) (y ∷ without_pair d pairs) (without_pair d pairs)) + edge_size x.p ≡ list_size (y ∷ pairs)) [
      | true ↦ λ e at.
          let same : y ≡ x = (cc) in
          let none : has_edge d pairs ≡ false = ap (λ n. has_edge n pairs) (sym (eqb-true y.d d e)) ∙ sym (any-destinations y.d pairs) ∙ not-true _ parts.0 in
          let gone = ap list_size (without_pair-absent d pairs none) in
          let at_x = ap (λ z. edge_size z.p) same in
          omega arith
      | false ↦ λ e at.
          let rest = list_size-without d x pairs parts.1 at in
          let longer = list_size-cons y (without_pair d pairs) in
          omega arith
    ] refl found

-- a list takes nothing exactly where it has no edges
pub list_size-none : (pairs : List Pair) → (list_size pairs == 0) ≡ (length pairs == 0)
list_size-none [] = refl
list_size-none (x ∷ pairs) = let size = list_size-cons x pairs in grind (arith, nat_tests)
