-- A list of edges in two parts, of which the front is newer.
use Rattle.std.proofs.Common.{◌≡◌, ℕ, ◌+◌, ◌<◌, ◌≤◌, ◌^◌, Bool, true, false, not, cond, ◌||◌, List, [], ◌∷◌, ◌++◌, map, length, refl, sym, ap, ◌∙◌, arith, lit≤, append-nil, length-append, subst, inl, inr}
use Rattle.std.specs.Prelude.{◌==◌, ◌⊎◌, Result, Ok, Err, OnOk, OnErr, Option, Some, None, is_some, IsTrue}
use Rattle.std.specs.Option.{IsSome, SomeIff}
use Rattle.std.specs.List.{list_any}
use Rattle.std.proofs.lemmas.Bool.{and_parts, not-true, or_parts, eq-eqb}
use Rattle.std.proofs.lemmas.Bool.Decides.{nat_tests}
use Rattle.graph_model.specs.declared.pairs.Pair.{Pair}
use Rattle.graph_model.specs.Change.{edge_size}
use Rattle.graph_model.specs.Graph.{without_pair, pair_to}
use Rattle.graph_model.specs.Sizes.{list_size}
use Rattle.graph_model.specs.Whole.{are_pairs}
use Rattle.graph_model.specs.Shared.{IsSummed}
use Rattle.graph_model.proofs.EdgeLists.{has_edge, any-destinations, without_pair-absent, is_some-pair_to}
use Rattle.graph_model.proofs.Wholes.{are_pairs-put, are_pairs-without}
use Rattle.graph_model.proofs.Sizes.{list_size-cons}
use Rattle.graph_model.proofs.ListSizes.{size-without}

has_edge-append : (d : ℕ) (xs ys : List Pair) → has_edge d (xs ++ ys) ≡ (has_edge d xs || has_edge d ys)
has_edge-append d [] ys = refl
has_edge-append d (x ∷ xs) ys =
    let rest = has_edge-append d xs ys in
    elim (x.d == d) as (λ b. (b || has_edge d (xs ++ ys)) ≡ ((b || has_edge d xs) || has_edge d ys)) [ true ↦ refl | false ↦ rest ]

without_pair-append : (d : ℕ) (xs ys : List Pair) → without_pair d (xs ++ ys) ≡ without_pair d xs ++ without_pair d ys
without_pair-append d [] ys = refl
without_pair-append d (x ∷ xs) ys =
    let rest = without_pair-append d xs ys in
    elim (x.d == d) as (λ b. cond (not b) (x ∷ without_pair d (xs ++ ys)) (without_pair d (xs ++ ys)) ≡ cond (not b) (x ∷ without_pair d xs) (without_pair d xs) ++ without_pair d ys) [
      | true ↦ rest
      | false ↦ ap (λ r. x ∷ r) rest
    ]

-- the edge to a destination is that of the front, where it has one
pub pair_to-front : (d : ℕ) (x : Pair) (xs ys : List Pair) → pair_to d xs ≡ Some x → pair_to d (xs ++ ys) ≡ Some x
pair_to-front d x [] ys at = (cc)
pair_to-front d x (y ∷ xs) ys at =
    elim (y.d == d) as (λ b. cond b (Some y) (pair_to d xs) ≡ Some x → cond b (Some y) (pair_to d (xs ++ ys)) ≡ Some x) [
      | true ↦ λ e. e
      | false ↦ λ e. pair_to-front d x xs ys e
    ] at

-- and else that behind it
pub pair_to-behind : (d : ℕ) (xs ys : List Pair) → pair_to d xs ≡ None → pair_to d (xs ++ ys) ≡ pair_to d ys
pair_to-behind d [] ys none = refl
pair_to-behind d (y ∷ xs) ys none =
    elim (y.d == d) as (λ b. cond b (Some y) (pair_to d xs) ≡ None → cond b (Some y) (pair_to d (xs ++ ys)) ≡ pair_to d ys) [
      | true ↦ λ e. (cc)
      | false ↦ λ e. pair_to-behind d xs ys e
    ] none

-- what stands behind does not stand in the front
front-lacks : (d : ℕ) (xs ys : List Pair) → IsTrue (are_pairs (xs ++ ys)) → has_edge d ys ≡ true → has_edge d xs ≡ false
front-lacks d [] ys differ there = refl
front-lacks d (x ∷ xs) ys differ there =
    let parts = and_parts (not (list_any (λ z. z == x.d) (map (λ z. z.d) (xs ++ ys)))) (are_pairs (xs ++ ys)) differ in
    let none : has_edge x.d (xs ++ ys) ≡ false = sym (any-destinations x.d (xs ++ ys)) ∙ not-true _ parts.0 in
    let behind = or_parts (has_edge x.d xs) (has_edge x.d ys) (sym (has_edge-append x.d xs ys) ∙ none) in
    let same : x.d ≡ d → has_edge d ys ≡ false = λ e. ap (λ n. has_edge n ys) (sym e) ∙ behind.1 in
    let rest = front-lacks d xs ys parts.1 there in
    grind (arith, nat_tests)

-- nor the other way round
behind-lacks : (d : ℕ) (xs ys : List Pair) → IsTrue (are_pairs (xs ++ ys)) → has_edge d xs ≡ true → has_edge d ys ≡ false
behind-lacks d xs ys differ there =
    elim (has_edge d ys) as (λ b. has_edge d ys ≡ b → b ≡ false) [
      | true ↦ λ e. let no = front-lacks d xs ys differ e in (cc)
      | false ↦ λ e. refl
    ] refl

-- an edge that stands nowhere behind is put into the front
pub put-front : (x : Pair) (xs ys : List Pair) → has_edge x.d ys ≡ false → (x ∷ without_pair x.d xs) ++ ys ≡ x ∷ without_pair x.d (xs ++ ys)
put-front x xs ys none =
    ap (λ r. x ∷ r) (ap (λ r. without_pair x.d xs ++ r) (sym (without_pair-absent x.d ys none)) ∙ sym (without_pair-append x.d xs ys))

-- an edge is taken out of the front where none to its destination stands behind,
pub taken-front : (d : ℕ) (xs ys : List Pair) → has_edge d ys ≡ false → without_pair d xs ++ ys ≡ without_pair d (xs ++ ys)
taken-front d xs ys none = ap (λ r. without_pair d xs ++ r) (sym (without_pair-absent d ys none)) ∙ sym (without_pair-append d xs ys)

-- and behind where it stands there
pub taken-behind : (d : ℕ) (xs ys : List Pair) → IsTrue (are_pairs (xs ++ ys)) → has_edge d ys ≡ true → xs ++ without_pair d ys ≡ without_pair d (xs ++ ys)
taken-behind d xs ys differ there =
    ap (λ r. r ++ without_pair d ys) (sym (without_pair-absent d xs (front-lacks d xs ys differ there))) ∙ sym (without_pair-append d xs ys)

-- the oldest edge of a front
last-there : (x : Pair) (xs : List Pair) → has_edge x.d (xs ++ x ∷ []) ≡ true
last-there x [] = ap (λ b. b || false) (eq-eqb x.d x.d refl)
last-there x (y ∷ xs) = let rest = last-there x xs in grind (arith, nat_tests)

are_pairs-front : (xs ys : List Pair) → IsTrue (are_pairs (xs ++ ys)) → IsTrue (are_pairs xs)
are_pairs-front [] ys differ = refl
are_pairs-front (x ∷ xs) ys differ =
    let parts = and_parts (not (list_any (λ z. z == x.d) (map (λ z. z.d) (xs ++ ys)))) (are_pairs (xs ++ ys)) differ in
    let none : has_edge x.d (xs ++ ys) ≡ false = sym (any-destinations x.d (xs ++ ys)) ∙ not-true _ parts.0 in
    let front = or_parts (has_edge x.d xs) (has_edge x.d ys) (sym (has_edge-append x.d xs ys) ∙ none) in
    let lacks : list_any (λ z. z == x.d) (map (λ z. z.d) xs) ≡ false = any-destinations x.d xs ∙ front.0 in
    let rest : are_pairs xs ≡ true = are_pairs-front xs ys parts.1 in
    grind (arith, nat_tests)

-- the oldest edge of a front goes to those behind, and so the list is as it was
pub moved : (x : Pair) (xs ys : List Pair) → IsTrue (are_pairs ((xs ++ x ∷ []) ++ ys)) → x ∷ without_pair x.d ys ≡ x ∷ ys
moved x xs ys differ = ap (λ r. x ∷ r) (without_pair-absent x.d ys (behind-lacks x.d (xs ++ x ∷ []) ys differ (last-there x xs)))

pub moved-left : (x : Pair) (xs ys : List Pair) → IsTrue (are_pairs ((xs ++ x ∷ []) ++ ys)) → without_pair x.d (xs ++ x ∷ []) ≡ xs
moved-left x xs ys differ =
    let front = are_pairs-front (xs ++ x ∷ []) ys differ in
    let self : (x.d == x.d) ≡ true = eq-eqb x.d x.d refl in
    let there : has_edge x.d (x ∷ []) ≡ true = ap (λ b. b || false) self in
    let gone : without_pair x.d (x ∷ []) ≡ [] = ap (λ b. cond (not b) (x ∷ []) []) self in
    without_pair-append x.d xs (x ∷ []) ∙ ap (λ r. without_pair x.d xs ++ r) gone ∙ append-nil (without_pair x.d xs)
    ∙ without_pair-absent x.d xs (front-lacks x.d xs (x ∷ []) front there)

-- an edge takes at least as much as it counts
pub length-size : (pairs : List Pair) → length pairs ≤ list_size pairs
length-size [] = lit≤ tt
length-size (x ∷ pairs) = let rest = length-size pairs in let longer = list_size-cons x pairs in omega (arith, rest, longer)

-- what a list shows stays sound where an edge is put, as long as the sum is one,
pub summed-put : (x : Pair) (pairs : List Pair) → IsSummed pairs → list_size pairs + edge_size x.p < 2 ^ 64 → IsSummed (x ∷ without_pair x.d pairs)
summed-put x pairs is within =
    let less = size-without x.d pairs in
    let longer = list_size-cons x (without_pair x.d pairs) in
    record { differ = are_pairs-put x pairs is.differ; within = omega (arith, less, longer, within) }

-- and where one is taken out
pub summed-without : (d : ℕ) (pairs : List Pair) → IsSummed pairs → IsSummed (without_pair d pairs)
summed-without d pairs is =
    let less = size-without d pairs in
    let whole = is.within in
    record { differ = are_pairs-without d pairs is.differ; within = omega (arith, less, whole) }

-- and so it does after a call that either changes it so or leaves it as it was
pub summed-either : {E : Type 0} (r : Result (Unit {0}) E) (old after new : List Pair) → IsSummed old → IsSummed after → OnOk r (new ≡ after) → OnErr r (new ≡ old) → IsSummed new
summed-either (Ok u) old after new was is done same = subst IsSummed (sym done) is
summed-either (Err e) old after new was is done same = subst IsSummed (sym same) was

-- the edges are so few that they can be counted
pub length-within : (xs ys : List Pair) → IsSummed (xs ++ ys) → length xs + length ys < 2 ^ 64
length-within xs ys is =
    let few = length-size (xs ++ ys) in
    let both = length-append xs ys in
    let within = is.within in
    omega (arith, few, both, within)

-- what a look at the shared part tells
pub told-has : (d : ℕ) (b : Bool) (seen shared : List Pair) → b ≡ is_some (pair_to d seen) → seen ≡ shared → has_edge d shared ≡ b
told-has d b seen shared is same = ap (has_edge d) (sym same) ∙ sym (is_some-pair_to d seen) ∙ sym is

-- what is written to is the value of the shared part, or a copy of it
pub either : {A : Type 0} (x y : A) → (x ≡ y) ⊎ (x ≡ y) → x ≡ y
either x y (inl e) = e
either x y (inr e) = e

-- what holds where a call succeeded, and where it failed
pub on_ok : {T E P Q : Type 0} (r : Result T E) → (P → Q) → OnOk r P → OnOk r Q
on_ok (Ok x) f p = f p
on_ok (Err e) f p = tt

pub on_err : {T E P : Type 0} (r : Result T E) → P → OnErr r P
on_err (Ok x) p = tt
on_err (Err e) p = p

-- what gave nothing had nothing
pub nothing-left : (o : Option Pair) (pairs : List Pair) → o ≡ None → (0 < length pairs → IsSome o) → pairs ≡ []
nothing-left o [] none some = refl
nothing-left None (x ∷ pairs) none some = let no : false ≡ true = some (omega arith) in (cc)
nothing-left (Some y) (x ∷ pairs) none some = (cc)

-- sizes that were added have a sum
pub sum-within : (o : Option ℕ) (m n : ℕ) → SomeIff o (m + n < 2 ^ 64) (m + n) → is_some o ≡ true → m + n < 2 ^ 64
sum-within None m n iff some = (cc)
sum-within (Some k) m n iff some = iff.0
