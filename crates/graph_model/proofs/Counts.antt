-- How many edges a list has, told by the map of their places.
use Rattle.std.proofs.Common.{◌≡◌, ℕ, ◌+◌, true, false, not, cond, ◌||◌, List, [], ◌∷◌, map, length, refl, sym, ap, ◌∙◌, arith}
use Rattle.std.specs.Prelude.{◌==◌, Some, None, is_some, IsTrue}
use Rattle.std.specs.List.{list_any, AllByRecursion}
use Rattle.std.specs.List.Sorted.{IsStrictlySortedBy}
use Rattle.std.specs.Ordering.{nat_cmp, is_eq}
use Rattle.std.specs.declared.cmp.Ordering.TheVariants.{Less}
use Rattle.std.specs.Map.{keys_of, lookup}
use Rattle.std.specs.BTreeMap.{is_at}
use Rattle.std.proofs.lemmas.Bool.{and_parts, not-true, eqb-true, eq-eqb}
use Rattle.std.proofs.lemmas.Bool.Decides.{nat_tests}
use Rattle.std.proofs.lemmas.Map.Keys.{sorted_head, sorted_tail}
use Rattle.graph_model.specs.declared.pairs.Pair.{Pair}
use Rattle.graph_model.specs.Graph.{without_pair}
use Rattle.graph_model.specs.Whole.{are_pairs}
use Rattle.graph_model.proofs.Rising.{is_at-nat}
use Rattle.graph_model.proofs.EdgeLists.{has_edge, any-destinations, without_pair-absent}
use Rattle.graph_model.proofs.Wholes.{are_pairs-without}

-- a key below all keys is none of them
none-later : (n : ℕ) (es : List (ℕ × ℕ)) → AllByRecursion (λ y. nat_cmp n y ≡ Less) (keys_of es) → lookup (is_at (nat_cmp n)) es ≡ None
none-later n [] all = refl
none-later n (e ∷ es) all = ap (λ o. cond (is_eq o) (Some e.1) (lookup (is_at (nat_cmp n)) es)) all.0 ∙ none-later n es all.1

-- the edges to other destinations are one fewer, where an edge to this one is there
length-without : (d : ℕ) (pairs : List Pair) → are_pairs pairs ≡ true → has_edge d pairs ≡ true → length (without_pair d pairs) + 1 ≡ length pairs
length-without d [] differ there = (cc)
length-without d (y ∷ pairs) differ there =
    let parts = and_parts (not (list_any (λ z. z == y.d) (map (λ z. z.d) pairs))) (are_pairs pairs) differ in
    elim (y.d == d) as (λ b. (y.d == d) ≡ b → (b || has_edge d pairs) ≡ true → length (cond (not b) (y ∷ without_pair d pairs) (without_pair d pairs)) + 1 ≡ length (y ∷ pairs)) [
      | true ↦ λ e at.
          let none : has_edge d pairs ≡ false = ap (λ n. has_edge n pairs) (sym (eqb-true y.d d e)) ∙ sym (any-destinations y.d pairs) ∙ not-true _ parts.0 in
          let gone = ap length (without_pair-absent d pairs none) in
          omega (arith, gone)
      | false ↦ λ e at. let rest = length-without d pairs parts.1 at in omega (arith, rest)
    ] refl there

has_edge-without : (n d : ℕ) (pairs : List Pair) → has_edge d (without_pair n pairs) ≡ cond (n == d) false (has_edge d pairs)
has_edge-without n d [] = elim (n == d) as (λ b. false ≡ cond b false false) [ true ↦ refl | false ↦ refl ]
has_edge-without n d (x ∷ pairs) = let rest = has_edge-without n d pairs in grind (arith, nat_tests)

-- a sorted map that has just the destinations of edges has an entry for each of them
pub length-alike : (es : List (ℕ × ℕ)) (pairs : List Pair) → IsStrictlySortedBy nat_cmp (keys_of es) → IsTrue (are_pairs pairs) →
    ((d : ℕ) → is_some (lookup (is_at (nat_cmp d)) es) ≡ has_edge d pairs) → length es ≡ length pairs
length-alike [] [] sorted differ same = refl
length-alike [] (x ∷ pairs) sorted differ same =
    let none : false ≡ (x.d == x.d) || has_edge x.d pairs = same x.d in
    let self : (x.d == x.d) ≡ true = eq-eqb x.d x.d refl in
    let no : false ≡ true = none ∙ ap (λ b. b || has_edge x.d pairs) self in (cc)
length-alike (e ∷ es) pairs sorted differ same =
    let self : is_at (nat_cmp e.0) e.0 ≡ true = is_at-nat e.0 e.0 ∙ eq-eqb e.0 e.0 refl in
    let there : has_edge e.0 pairs ≡ true = sym (same e.0) ∙ ap (λ b. is_some (cond b (Some e.1) (lookup (is_at (nat_cmp e.0)) es))) self in
    let one = length-without e.0 pairs differ there in
    let later = none-later e.0 es (sorted_head nat_cmp e.0 (keys_of es) sorted) in
    let others : (d : ℕ) → is_some (lookup (is_at (nat_cmp d)) es) ≡ has_edge d (without_pair e.0 pairs) = λ d.
    elim (e.0 == d) as (λ b. (e.0 == d) ≡ b → is_some (lookup (is_at (nat_cmp d)) es) ≡ cond b false (has_edge d pairs)) [
      | true ↦ λ is. ap (λ n. is_some (lookup (is_at (nat_cmp n)) es)) (sym (eqb-true e.0 d is)) ∙ ap is_some later
      | false ↦ λ is. ap (λ b. is_some (cond b (Some e.1) (lookup (is_at (nat_cmp d)) es))) (sym (is_at-nat d e.0 ∙ is)) ∙ same d
    ] refl ∙ sym (has_edge-without e.0 d pairs) in
    let rest = length-alike es (without_pair e.0 pairs) (sorted_tail nat_cmp e.0 (keys_of es) sorted) (are_pairs-without e.0 pairs differ) others in
    omega (arith, one, rest)
