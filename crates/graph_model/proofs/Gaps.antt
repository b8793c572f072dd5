-- The slots of a list of edges: the places of the edges, after an edge was taken out and where gaps are closed.
use Rattle.std.proofs.Common.{◌≡◌, ℕ, ◌+◌, ◌-◌, ◌<◌, ◌≤◌, true, false, suc, not, cond, ◌||◌, List, [], ◌∷◌, map, length, refl, sym, ap, subst, ◌∙◌, arith}
use Rattle.std.specs.Prelude.{◌==◌, Option, Some, None, is_some, IsTrue, slice_set, slice_index_or, filter}
use Rattle.std.specs.List.{list_any}
use Rattle.std.specs.Ordering.{nat_cmp}
use Rattle.std.specs.BTreeMap.{BTreeMap, is_at, get}
use Rattle.std.proofs.lemmas.Bool.{and_parts, not-true, eqb-true, eq-eqb}
use Rattle.std.proofs.lemmas.Bool.Decides.{nat_tests}
use Rattle.graph_model.specs.declared.pairs.Pair.{Pair}
use Rattle.graph_model.specs.Change.{edge_size}
use Rattle.graph_model.specs.Graph.{without_pair, pair_to}
use Rattle.graph_model.specs.Sizes.{list_size}
use Rattle.graph_model.specs.Whole.{are_pairs}
use Rattle.graph_model.specs.Gaps.{edges_in, leads_to, place_of, slot_at, TellsPlaces, IsKept}
use Rattle.graph_model.proofs.Rising.{is_at-nat}
use Rattle.graph_model.proofs.Wholes.{are_pairs-put}
use Rattle.graph_model.proofs.Sizes.{list_size-cons, list_size-without}
use Rattle.graph_model.proofs.EdgeLists.{has_edge, any-destinations, without_pair-absent, is_some-pair_to, pair_to-destination}

-- an edge has a place exactly where it is there
pub is_some-place_of : (d : ℕ) (slots : List (Option Pair)) → is_some (place_of d slots) ≡ has_edge d (edges_in slots)
is_some-place_of d [] = refl
is_some-place_of d (None ∷ slots) = is_some-place_of d slots
is_some-place_of d (Some x ∷ slots) =
    elim (x.d == d) as (λ b. is_some (cond b (Some (length slots)) (place_of d slots)) ≡ (b || has_edge d (edges_in slots))) [ true ↦ refl | false ↦ is_some-place_of d slots ]

absent : (d : ℕ) (slots : List (Option Pair)) → has_edge d (edges_in slots) ≡ false → place_of d slots ≡ None
absent d slots none = no_place (place_of d slots) (is_some-place_of d slots ∙ none)
  where
    no_place : (o : Option ℕ) → is_some o ≡ false → o ≡ None
    no_place None e = refl
    no_place (Some n) e = (cc)

-- a place is one of the slots
pub place_of-within : (d n : ℕ) (slots : List (Option Pair)) → place_of d slots ≡ Some n → n < length slots
place_of-within d n [] at = (cc)
place_of-within d n (slot ∷ slots) at =
    elim (leads_to d slot) as (λ b. cond b (Some (length slots)) (place_of d slots) ≡ Some n → n < length (slot ∷ slots)) [
      | true ↦ λ e. let same : length slots ≡ n = (cc) in omega arith
      | false ↦ λ e. let rest = place_of-within d n slots e in omega arith
    ] at

pub slot_at-within : (n : ℕ) (x : Pair) (slots : List (Option Pair)) → slot_at n slots ≡ Some x → n < length slots
slot_at-within n x [] at = (cc)
slot_at-within n x (slot ∷ slots) at =
    elim (length slots == n) as (λ b. (length slots == n) ≡ b → cond b slot (slot_at n slots) ≡ Some x → n < length (slot ∷ slots)) [
      | true ↦ λ e is. let same = eqb-true (length slots) n e in omega arith
      | false ↦ λ e is. let rest = slot_at-within n x slots is in omega arith
    ] refl at

pub some-within : (n : ℕ) (slots : List (Option Pair)) → IsTrue (is_some (slot_at n slots)) → n < length slots
some-within n slots there = within (slot_at n slots) refl there
  where
    within : (o : Option Pair) → slot_at n slots ≡ o → is_some o ≡ true → n < length slots
    within None at is = (cc)
    within (Some x) at is = slot_at-within n x slots at

-- in the slot at the place of the edge to d stands that edge
pub slot_at-place : (d n : ℕ) (slots : List (Option Pair)) → place_of d slots ≡ Some n → slot_at n slots ≡ pair_to d (edges_in slots)
slot_at-place d n [] at = (cc)
slot_at-place d n (None ∷ slots) at =
    let within = place_of-within d n slots at in
    let later : (length slots == n) ≡ false = grind (arith, nat_tests) in
    ap (λ b. cond b None (slot_at n slots)) later ∙ slot_at-place d n slots at
slot_at-place d n (Some x ∷ slots) at =
    elim (x.d == d) as (λ b. cond b (Some (length slots)) (place_of d slots) ≡ Some n → cond (length slots == n) (Some x) (slot_at n slots) ≡ cond b (Some x) (pair_to d (edges_in slots))) [
      | true ↦ λ e. let same : length slots ≡ n = (cc) in ap (λ b. cond b (Some x) (slot_at n slots)) (eq-eqb (length slots) n same)
      | false ↦ λ e.
          let within = place_of-within d n slots e in
          let later : (length slots == n) ≡ false = grind (arith, nat_tests) in
          ap (λ b. cond b (Some x) (slot_at n slots)) later ∙ slot_at-place d n slots e
    ] at

-- the slot at a place, by its index from the front
pub slot_at-index : (n : ℕ) (slots : List (Option Pair)) (other : Option Pair) → n < length slots → slot_at n slots ≡ slice_index_or slots (length slots - 1 - n) other
slot_at-index n [] other within = absurd (omega arith)
slot_at-index n (slot ∷ slots) other within =
    elim (length slots == n) as (λ b. (length slots == n) ≡ b → cond b slot (slot_at n slots) ≡ slice_index_or (slot ∷ slots) (length (slot ∷ slots) - 1 - n) other) [
      | true ↦ λ e.
          let same = eqb-true (length slots) n e in
          let first : length (slot ∷ slots) - 1 - n ≡ 0 = omega arith in
          ap (λ i. slice_index_or (slot ∷ slots) i other) (sym first)
      | false ↦ λ e.
          let next : length (slot ∷ slots) - 1 - n ≡ suc (length slots - 1 - n) = grind (arith, nat_tests) in
          slot_at-index n slots other (grind (arith, nat_tests)) ∙ ap (λ i. slice_index_or (slot ∷ slots) i other) (sym next)
    ] refl

-- the slots with a gap at a place
gap_at : ℕ → List (Option Pair) → List (Option Pair)
gap_at n [] = []
gap_at n (slot ∷ slots) = cond (length slots == n) (None ∷ slots) (slot ∷ gap_at n slots)

gap_at-index : (n : ℕ) (slots : List (Option Pair)) → n < length slots → slice_set slots (length slots - 1 - n) None ≡ gap_at n slots
unfolding gap_at
gap_at-index n [] within = absurd (omega arith)
gap_at-index n (slot ∷ slots) within =
    elim (length slots == n) as (λ b. (length slots == n) ≡ b → slice_set (slot ∷ slots) (length (slot ∷ slots) - 1 - n) None ≡ cond b (None ∷ slots) (slot ∷ gap_at n slots)) [
      | true ↦ λ e.
          let same = eqb-true (length slots) n e in
          let first : length (slot ∷ slots) - 1 - n ≡ 0 = omega arith in
          ap (λ i. slice_set (slot ∷ slots) i None) first
      | false ↦ λ e.
          let next : length (slot ∷ slots) - 1 - n ≡ suc (length slots - 1 - n) = grind (arith, nat_tests) in
          ap (λ i. slice_set (slot ∷ slots) i None) next ∙ ap (λ r. slot ∷ r) (gap_at-index n slots (grind (arith, nat_tests)))
    ] refl

length-gap_at : (n : ℕ) (slots : List (Option Pair)) → length (gap_at n slots) ≡ length slots
unfolding gap_at
length-gap_at n [] = refl
length-gap_at n (slot ∷ slots) = let rest = length-gap_at n slots in
    elim (length slots == n) as (λ b. length (cond b (None ∷ slots) (slot ∷ gap_at n slots)) ≡ length (slot ∷ slots)) [ true ↦ refl | false ↦ omega arith ]

-- what stands in a slot is one of the edges
slot_at-has : (n : ℕ) (x : Pair) (slots : List (Option Pair)) → slot_at n slots ≡ Some x → has_edge x.d (edges_in slots) ≡ true
slot_at-has n x [] at = (cc)
slot_at-has n x (slot ∷ slots) at =
    elim (length slots == n) as (λ b. cond b slot (slot_at n slots) ≡ Some x → has_edge x.d (edges_in (slot ∷ slots)) ≡ true) [
      | true ↦ λ e. first slot e
      | false ↦ λ e. later slot (slot_at-has n x slots e)
    ] at
  where
    first : (s : Option Pair) → s ≡ Some x → has_edge x.d (edges_in (s ∷ slots)) ≡ true
    first None e = (cc)
    first (Some y) e = let same : y ≡ x = (cc) in let is = ap (λ (z : Pair). z.d) same in grind (arith, nat_tests)

    later : (s : Option Pair) → has_edge x.d (edges_in slots) ≡ true → has_edge x.d (edges_in (s ∷ slots)) ≡ true
    later None there = there
    later (Some y) there = grind (arith, nat_tests)

-- the edge in front and one behind it lead to different destinations
apart : (x y : Pair) (pairs : List Pair) → are_pairs (y ∷ pairs) ≡ true → has_edge x.d pairs ≡ true → (y.d == x.d) ≡ false
apart x y pairs differ there =
    let parts = and_parts (not (list_any (λ z. z == y.d) (map (λ z. z.d) pairs))) (are_pairs pairs) differ in
    let none : has_edge y.d pairs ≡ false = sym (any-destinations y.d pairs) ∙ not-true _ parts.0 in
    let same : y.d ≡ x.d → has_edge y.d pairs ≡ true = λ e. ap (λ n. has_edge n pairs) e ∙ there in
    grind (arith, nat_tests)

-- a gap in place of an edge takes it out
edges-gap_at : (n : ℕ) (x : Pair) (slots : List (Option Pair)) → are_pairs (edges_in slots) ≡ true → slot_at n slots ≡ Some x → edges_in (gap_at n slots) ≡ without_pair x.d (edges_in slots)
unfolding gap_at
edges-gap_at n x [] differ at = (cc)
edges-gap_at n x (None ∷ slots) differ at =
    elim (length slots == n) as (λ b. cond b None (slot_at n slots) ≡ Some x → edges_in (cond b (None ∷ slots) (None ∷ gap_at n slots)) ≡ without_pair x.d (edges_in slots)) [
      | true ↦ λ e. (cc)
      | false ↦ λ e. edges-gap_at n x slots differ e
    ] at
edges-gap_at n x (Some y ∷ slots) differ at =
    let parts = and_parts (not (list_any (λ z. z == y.d) (map (λ z. z.d) (edges_in slots)))) (are_pairs (edges_in slots)) differ in
    let none : has_edge y.d (edges_in slots) ≡ false = sym (any-destinations y.d (edges_in slots)) ∙ not-true _ parts.0 in
    elim (length slots == n) as (λ b. cond b (Some y) (slot_at n slots) ≡ Some x → edges_in (cond b (None ∷ slots) (Some y ∷ gap_at n slots)) ≡ without_pair x.d (y ∷ edges_in slots)) [
      | true ↦ λ e.
          let same : y ≡ x = (cc) in
          let is = ap (λ (z : Pair). z.d) same in
          let gone : without_pair x.d (edges_in slots) ≡ edges_in slots = without_pair-absent x.d (edges_in slots) (ap (λ m. has_edge m (edges_in slots)) (sym is) ∙ none) in
          sym (ap (λ b. cond (not b) (y ∷ without_pair x.d (edges_in slots)) (without_pair x.d (edges_in slots))) (eq-eqb y.d x.d is) ∙ gone)
      | false ↦ λ e.
          let other = apart x y (edges_in slots) differ (slot_at-has n x slots e) in
          ap (λ r. y ∷ r) (edges-gap_at n x slots parts.1 e) ∙ sym (ap (λ b. cond (not b) (y ∷ without_pair x.d (edges_in slots)) (without_pair x.d (edges_in slots))) other)
    ] at

-- and leaves the places of the others
place_of-gap_at : (n d : ℕ) (x : Pair) (slots : List (Option Pair)) → are_pairs (edges_in slots) ≡ true → slot_at n slots ≡ Some x → place_of d (gap_at n slots) ≡ cond (x.d == d) None (place_of d slots)
unfolding gap_at
place_of-gap_at n d x [] differ at = (cc)
place_of-gap_at n d x (None ∷ slots) differ at =
    elim (length slots == n) as (λ b. cond b None (slot_at n slots) ≡ Some x → place_of d (cond b (None ∷ slots) (None ∷ gap_at n slots)) ≡ cond (x.d == d) None (place_of d slots)) [
      | true ↦ λ e. (cc)
      | false ↦ λ e. place_of-gap_at n d x slots differ e
    ] at
place_of-gap_at n d x (Some y ∷ slots) differ at =
    let parts = and_parts (not (list_any (λ z. z == y.d) (map (λ z. z.d) (edges_in slots)))) (are_pairs (edges_in slots)) differ in
    let none : has_edge y.d (edges_in slots) ≡ false = sym (any-destinations y.d (edges_in slots)) ∙ not-true _ parts.0 in
    elim (length slots == n) as (λ b. cond b (Some y) (slot_at n slots) ≡ Some x → place_of d (cond b (None ∷ slots) (Some y ∷ gap_at n slots)) ≡ cond (x.d == d) None (cond (y.d == d) (Some (length slots)) (place_of d slots))) [
      | true ↦ λ e.
          let same : y ≡ x = (cc) in
          let is = ap (λ (z : Pair). z.d) same in
          let here : x.d ≡ d → place_of d slots ≡ None = λ h. absent d slots (ap (λ m. has_edge m (edges_in slots)) (sym (is ∙ h)) ∙ none) in
          grind (arith, nat_tests)
      | false ↦ λ e.
          let other = apart x y (edges_in slots) differ (slot_at-has n x slots e) in
          let rest = place_of-gap_at n d x slots parts.1 e in
          let long = length-gap_at n slots in
          grind (arith, nat_tests)
    ] at

-- the same of a slot that is set to a gap by its index
pub edges-taken : (n : ℕ) (x : Pair) (slots : List (Option Pair)) → are_pairs (edges_in slots) ≡ true → slot_at n slots ≡ Some x →
    edges_in (slice_set slots (length slots - 1 - n) None) ≡ without_pair x.d (edges_in slots)
edges-taken n x slots differ at = ap edges_in (gap_at-index n slots (slot_at-within n x slots at)) ∙ edges-gap_at n x slots differ at

pub place_of-taken : (n d : ℕ) (x : Pair) (slots : List (Option Pair)) → are_pairs (edges_in slots) ≡ true → slot_at n slots ≡ Some x →
    place_of d (slice_set slots (length slots - 1 - n) None) ≡ cond (x.d == d) None (place_of d slots)
place_of-taken n d x slots differ at = ap (place_of d) (gap_at-index n slots (slot_at-within n x slots at)) ∙ place_of-gap_at n d x slots differ at

-- What is kept of a list tells the edge to d by its place.
pub there : (d n : ℕ) (slots : List (Option Pair)) (places : BTreeMap ℕ ℕ) → TellsPlaces places slots → get nat_cmp places d ≡ Some n → IsTrue (is_some (slot_at n slots))
there d n slots places told at =
    let is = sym (told d) ∙ at in
    ap is_some (slot_at-place d n slots is) ∙ is_some-pair_to d (edges_in slots) ∙ sym (is_some-place_of d slots) ∙ ap is_some is

pub found : (d n : ℕ) (x : Pair) (slots : List (Option Pair)) (places : BTreeMap ℕ ℕ) → TellsPlaces places slots → get nat_cmp places d ≡ Some n → slot_at n slots ≡ Some x → pair_to d (edges_in slots) ≡ Some x
found d n x slots places told at is = sym (slot_at-place d n slots (sym (told d) ∙ at)) ∙ is

pub found-destination : (d n : ℕ) (x : Pair) (slots : List (Option Pair)) (places : BTreeMap ℕ ℕ) → TellsPlaces places slots → get nat_cmp places d ≡ Some n → slot_at n slots ≡ Some x → x.d ≡ d
found-destination d n x slots places told at is = eqb-true x.d d (pair_to-destination d x (edges_in slots) (found d n x slots places told at is))

pub missing : (d : ℕ) (slots : List (Option Pair)) (places : BTreeMap ℕ ℕ) → TellsPlaces places slots → get nat_cmp places d ≡ None → has_edge d (edges_in slots) ≡ false
missing d slots places told at = sym (is_some-place_of d slots) ∙ ap is_some (sym (told d) ∙ at)

-- the map tells the places still where an edge is set in front of slots that have none to its destination,
pub told-front : (x : Pair) (slots left : List (Option Pair)) (places new : BTreeMap ℕ ℕ) → TellsPlaces places slots → length left ≡ length slots →
    ((d : ℕ) → place_of d left ≡ cond (x.d == d) None (place_of d slots)) →
    ((d : ℕ) → get nat_cmp new d ≡ cond (is_at (nat_cmp x.d) d) (Some (length slots)) (get nat_cmp places d)) → TellsPlaces new (Some x ∷ left)
told-front x slots left places new told long others set d =
    let old = told d in
    let now = set d in
    let behind = others d in
    let at = is_at-nat x.d d in
    grind (arith, nat_tests)

-- and where one is taken out
pub told-without : (d : ℕ) (slots left : List (Option Pair)) (places new : BTreeMap ℕ ℕ) → TellsPlaces places slots →
    ((q : ℕ) → place_of q left ≡ cond (d == q) None (place_of q slots)) →
    ((q : ℕ) → get nat_cmp new q ≡ cond (is_at (nat_cmp d) q) None (get nat_cmp places q)) → TellsPlaces new left
told-without d slots left places new told others set q =
    let old = told q in
    let now = set q in
    let behind = others q in
    let at = is_at-nat d q in
    grind (arith, nat_tests)

-- slots that have no edge to d have none to it left
pub no_place : (d q : ℕ) (slots : List (Option Pair)) → place_of d slots ≡ None → place_of q slots ≡ cond (d == q) None (place_of q slots)
no_place d q slots none =
    elim (d == q) as (λ b. (d == q) ≡ b → place_of q slots ≡ cond b None (place_of q slots)) [
      | true ↦ λ e. ap (λ n. place_of n slots) (sym (eqb-true d q e)) ∙ none
      | false ↦ λ e. refl
    ] refl

-- The map tells the places of the slots before the rest, and has those of the rest.
pub record IsTelling (slots rest : List (Option Pair)) (places : BTreeMap ℕ ℕ) (place : ℕ) : Type 0 where
  pub left : place ≡ length rest
  pub has : (d : ℕ) → is_some (get nat_cmp places d) ≡ is_some (place_of d slots)
  pub done : (d : ℕ) → place_of d rest ≡ None → get nat_cmp places d ≡ place_of d slots
  pub behind : (d n : ℕ) → place_of d rest ≡ Some n → place_of d slots ≡ Some n
  pub differ : are_pairs (edges_in rest) ≡ true

none-alike : (o p : Option ℕ) → is_some o ≡ is_some p → p ≡ None → o ≡ p
none-alike None None e f = refl
none-alike None (Some n) e f = (cc)
none-alike (Some m) None e f = (cc)
none-alike (Some m) (Some n) e f = (cc)

pub telling-begins : (slots rest : List (Option Pair)) (places : BTreeMap ℕ ℕ) (place : ℕ) → rest ≡ slots → place ≡ length slots → IsTrue (are_pairs (edges_in slots)) →
    ((d : ℕ) → is_some (get nat_cmp places d) ≡ is_some (place_of d slots)) → IsTelling slots rest places place
telling-begins slots rest places place all long differ has = record {
  left = long ∙ ap length (sym all);
  has = has;
  done = λ d none. none-alike (get nat_cmp places d) (place_of d slots) (has d) (ap (place_of d) (sym all) ∙ none);
  behind = λ d n at. ap (place_of d) (sym all) ∙ at;
  differ = ap (λ s. are_pairs (edges_in s)) all ∙ differ;
}

-- an edge of the rest is one of the slots, so the map has its place
pub telling-has : (x : Pair) (slots rest : List (Option Pair)) (places : BTreeMap ℕ ℕ) (place : ℕ) → IsTelling slots (Some x ∷ rest) places place → get nat_cmp places x.d ≡ None → ⊥
telling-has x slots rest places place is none =
    let first : place_of x.d (Some x ∷ rest) ≡ Some (length rest) = ap (λ b. cond b (Some (length rest)) (place_of x.d rest)) (eq-eqb x.d x.d refl) in
    let there : is_some (place_of x.d slots) ≡ true = ap is_some (is.behind x.d (length rest) first) in
    let known = is.has x.d in
    let lacks : is_some (get nat_cmp places x.d) ≡ false = ap is_some none in
    let no : true ≡ false = sym there ∙ sym known ∙ lacks in (cc)

pub telling-edge : (x : Pair) (slots rest : List (Option Pair)) (places new : BTreeMap ℕ ℕ) (place : ℕ) → IsTelling slots (Some x ∷ rest) places place →
    ((d : ℕ) → get nat_cmp new d ≡ cond (is_at (nat_cmp x.d) d) (Some (place - 1)) (get nat_cmp places d)) → IsTelling slots rest new (place - 1)
telling-edge x slots rest places new place is set =
    let parts = and_parts (not (list_any (λ z. z == x.d) (map (λ z. z.d) (edges_in rest)))) (are_pairs (edges_in rest)) is.differ in
    let none : has_edge x.d (edges_in rest) ≡ false = sym (any-destinations x.d (edges_in rest)) ∙ not-true _ parts.0 in
    let gone : place_of x.d rest ≡ None = absent x.d rest none in
    let long : place - 1 ≡ length rest = let l = is.left in omega arith in
    let first : place_of x.d slots ≡ Some (length rest) = is.behind x.d (length rest) (ap (λ b. cond b (Some (length rest)) (place_of x.d rest)) (eq-eqb x.d x.d refl)) in
    record {
      left = long;
      has = λ d. let known = is.has d in let now = set d in let at = is_at-nat x.d d in
          let here : x.d ≡ d → is_some (place_of d slots) ≡ true = λ e. ap (λ n. is_some (place_of n slots)) (sym e) ∙ ap is_some first in
          grind (arith, nat_tests);
      done = λ d last. let known = is.done d in let now = set d in let at = is_at-nat x.d d in
          let here : x.d ≡ d → place_of d slots ≡ Some (length rest) = λ e. ap (λ n. place_of n slots) (sym e) ∙ first in
          grind (arith, nat_tests);
      behind = λ d n later. let known = is.behind d n in
          let here : x.d ≡ d → place_of d rest ≡ None = λ e. ap (λ m. place_of m rest) (sym e) ∙ gone in
          grind (arith, nat_tests);
      differ = parts.1;
    }

pub telling-gap : (slots rest : List (Option Pair)) (places : BTreeMap ℕ ℕ) (place : ℕ) → IsTelling slots (None ∷ rest) places place → IsTelling slots rest places (place - 1)
telling-gap slots rest places place is = record {
  left = let l = is.left in omega arith;
  has = is.has;
  done = is.done;
  behind = is.behind;
  differ = is.differ;
}

-- slots without their gaps have the same edges
pub edges-filled : (slots : List (Option Pair)) → edges_in (filter is_some slots) ≡ edges_in slots
edges-filled [] = refl
edges-filled (None ∷ slots) = edges-filled slots
edges-filled (Some x ∷ slots) = ap (λ r. x ∷ r) (edges-filled slots)

pub has-filled : (d : ℕ) (slots : List (Option Pair)) (places : BTreeMap ℕ ℕ) → TellsPlaces places slots → is_some (get nat_cmp places d) ≡ is_some (place_of d (filter is_some slots))
has-filled d slots places told =
    ap is_some (told d) ∙ is_some-place_of d slots ∙ ap (has_edge d) (sym (edges-filled slots)) ∙ sym (is_some-place_of d (filter is_some slots))

-- the slots that got room are as before
pub kept-room : (slots room : List (Option Pair)) (places : BTreeMap ℕ ℕ) (size : ℕ) → room ≡ slots → IsKept slots places size → IsKept room places size
kept-room slots room places size same kept = subst (λ s. IsKept s places size) (sym same) kept

-- An edge is set in front where none to its destination stands.
pub kept-new : (x : Pair) (slots : List (Option Pair)) (places new : BTreeMap ℕ ℕ) (size total : ℕ) → IsKept slots places size → get nat_cmp places x.d ≡ None →
    ((d : ℕ) → get nat_cmp new d ≡ cond (is_at (nat_cmp x.d) d) (Some (length slots)) (get nat_cmp places d)) → total ≡ size + edge_size x.p → IsKept (Some x ∷ slots) new total
kept-new x slots places new size total kept none set more =
    let pairs = edges_in slots in
    let gone = without_pair-absent x.d pairs (missing x.d slots places kept.told none) in
    let longer = list_size-cons x pairs in
    record {
      told = told-front x slots slots places new kept.told refl (λ d. no_place x.d d slots (sym (kept.told x.d) ∙ none)) set;
      differ = ap (λ r. are_pairs (x ∷ r)) (sym gone) ∙ are_pairs-put x pairs kept.differ;
      sum = let sum = kept.sum in omega arith;
    }

-- An edge x that is set in front of what is left without y, the edge to the same destination.
pub record Replaces (x y : Pair) (slots left : List (Option Pair)) (new : BTreeMap ℕ ℕ) (total : ℕ) : Type 0 where
  pub told : TellsPlaces new (Some x ∷ left)
  pub edges : x ∷ edges_in left ≡ x ∷ without_pair x.d (edges_in slots)
  pub differ : are_pairs (x ∷ edges_in left) ≡ true
  pub smaller : edge_size y.p ≤ total
  pub sum : total - edge_size y.p ≡ list_size (x ∷ edges_in left)

pub replaces : (x y : Pair) (n : ℕ) (slots left : List (Option Pair)) (places new : BTreeMap ℕ ℕ) (size total : ℕ) → IsKept slots places size → get nat_cmp places x.d ≡ Some n → slot_at n slots ≡ Some y →
    edges_in left ≡ without_pair y.d (edges_in slots) → ((d : ℕ) → place_of d left ≡ cond (y.d == d) None (place_of d slots)) → length left ≡ length slots →
    ((d : ℕ) → get nat_cmp new d ≡ cond (is_at (nat_cmp x.d) d) (Some (length slots)) (get nat_cmp places d)) → total ≡ size + edge_size x.p → Replaces x y slots left new total
replaces x y n slots left places new size total kept at is gone others long set more =
    let pairs = edges_in slots in
    let same = found-destination x.d n y slots places kept.told at is in
    let less = list_size-without x.d y pairs kept.differ (found x.d n y slots places kept.told at is) in
    let longer = list_size-cons x (without_pair x.d pairs) in
    let sum = kept.sum in
    let edges : x ∷ edges_in left ≡ x ∷ without_pair x.d pairs = ap (λ r. x ∷ r) (gone ∙ ap (λ d. without_pair d pairs) same) in
    let size_left = ap list_size edges in
    record {
      told = told-front x slots left places new kept.told long (λ d. others d ∙ ap (λ m. cond (m == d) None (place_of d slots)) same) set;
      edges = edges;
      differ = ap are_pairs edges ∙ are_pairs-put x pairs kept.differ;
      smaller = omega arith;
      sum = omega arith;
    }

-- the same, where the map answered an insert at a length, and the slots got room before
pub replaces_in_room : (x y : Pair) (old : Option ℕ) (n len : ℕ) (slots room left : List (Option Pair)) (places new : BTreeMap ℕ ℕ) (size total : ℕ) → IsKept slots places size → room ≡ slots →
    old ≡ get nat_cmp places x.d → old ≡ Some n → slot_at n room ≡ Some y → edges_in left ≡ without_pair y.d (edges_in room) → ((d : ℕ) → place_of d left ≡ cond (y.d == d) None (place_of d room)) →
    length left ≡ length room → len ≡ length room → ((d : ℕ) → get nat_cmp new d ≡ cond (is_at (nat_cmp x.d) d) (Some len) (get nat_cmp places d)) → total ≡ size + edge_size x.p →
    Replaces x y slots left new total
replaces_in_room x y old n len slots room left places new size total kept same was at is gone others long all set more =
    replaces x y n slots left places new size total kept (sym was ∙ at) (ap (slot_at n) (sym same) ∙ is) (gone ∙ ap (λ s. without_pair y.d (edges_in s)) same)
    (λ d. others d ∙ ap (λ s. cond (y.d == d) None (place_of d s)) same) (long ∙ ap length same)
    (λ d. set d ∙ ap (λ m. cond (is_at (nat_cmp x.d) d) (Some m) (get nat_cmp places d)) (all ∙ ap length same)) more
