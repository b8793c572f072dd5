-- A graph has no more edges than changes that made it.
use Rattle.std.proofs.Common.{◌≡◌, ℕ, ◌+◌, ◌<◌, ◌≤◌, Bool, true, false, not, cond, ◌&&◌, List, [], ◌∷◌, map, length, length-append, refl, sym, ap, ◌∙◌, arith, Option, Some, None}
use Rattle.std.specs.Prelude.{◌==◌, nat_lt, IsTrue, IfSome, filter, find, sum_by, flat_map, nat_le}
use Rattle.std.specs.List.{list_all}
use Rattle.std.proofs.lemmas.Bool.{and_parts, and_from, ltb-true, eqb-true}
use Rattle.std.proofs.lemmas.Bool.Decides.{nat_tests}
use Rattle.std.proofs.lemmas.List.Sums.{sum_by-cons}
use Rattle.graph_model.specs.declared.change.Change.{Change}
use Rattle.graph_model.specs.declared.change.Change.TheVariants.{New, Set, Drop, Put, Del}
use Rattle.graph_model.specs.declared.pairs.Pair.{Pair}
use Rattle.graph_model.specs.declared.record.Record.{Record}
use Rattle.graph_model.specs.Vertex.{Vertex, LabelList}
use Rattle.graph_model.specs.Change.{vertex_of}
use Rattle.graph_model.specs.Graph.{vertex_at, pairs_in, without_pair, set_list, with_list, with_vertex, lists_after_put, lists_after_del, vertex_after, set_vertex, apply, after, changes_until}
use Rattle.graph_model.specs.Records.{all_changes}
use Rattle.graph_model.specs.Whole.{rise, are_lists, is_vertex, is_graph}
use Rattle.graph_model.proofs.Rising.{placed}
use Rattle.graph_model.proofs.Wholes.{with_list-placed, with_vertex-placed, is_place, vertex_at-whole, is_graph-apply}
use Rattle.graph_dump.specs.DumpText.{edges_of, edge_count}

-- ---- sums over items whose numbers rise

-- what an item that may be there counts
abbrev counted : {Y : Type 0} → (Y → ℕ) → Option Y → ℕ
counted f None = 0
counted f (Some y) = f y

-- no item above a number is at it or below
find-above : {Y : Type 0} (number f : Y → ℕ) (m n : ℕ) (ys : List Y) → m ≤ n → list_all (nat_lt n) (map number ys) ≡ true → counted f (find (λ y. number y == m) ys) ≡ 0
find-above number f m n [] le all = refl
find-above number f m n (y ∷ ys) le all =
    let parts = and_parts (nat_lt n (number y)) (list_all (nat_lt n) (map number ys)) all in
    let rest = find-above number f m n ys le parts.1 in
    let more = ltb-true n (number y) parts.0 in
    grind (arith, nat_tests)

-- an item in its place stands for the one of its number
sum-placed : {Y : Type 0} (number f : Y → ℕ) (x : Y) (ys : List Y) → rise (map number ys) ≡ true → sum_by f (placed number x ys) + counted f (find (λ y. number y == number x) ys) ≤ sum_by f ys + f x
sum-placed number f x [] up = omega (arith, sum_by-cons f x [])
sum-placed number f x (y ∷ ys) up =
    let parts = and_parts (list_all (nat_lt (number y)) (map number ys)) (rise (map number ys)) up in
    let rest = sum-placed number f x ys parts.1 in
    go (nat_lt (number x) (number y)) (number x == number y) refl refl (find-above number f (number x) (number y) ys) parts.0 rest
  where
    go : (lt eq : Bool) → nat_lt (number x) (number y) ≡ lt → (number x == number y) ≡ eq →
        (number x ≤ number y → list_all (nat_lt (number y)) (map number ys) ≡ true → counted f (find (λ z. number z == number x) ys) ≡ 0) → list_all (nat_lt (number y)) (map number ys) ≡ true →
        sum_by f (placed number x ys) + counted f (find (λ z. number z == number x) ys) ≤ sum_by f ys + f x →
        sum_by f (cond lt (x ∷ y ∷ ys) (cond eq (x ∷ ys) (y ∷ placed number x ys))) + counted f (cond (number y == number x) (Some y) (find (λ z. number z == number x) ys)) ≤ sum_by f (y ∷ ys) + f x
    go true eq is same none all rest =
        let less = ltb-true (number x) (number y) is in
        let zero = none (omega (arith, less)) all in
        let other : (number y == number x) ≡ false = grind (arith, nat_tests) in
        let nothing : counted f (cond (number y == number x) (Some y) (find (λ z. number z == number x) ys)) ≡ 0 = ap (λ b. counted f (cond b (Some y) (find (λ z. number z == number x) ys))) other ∙ zero in
        omega (arith, nothing, sum_by-cons f x (y ∷ ys))
    go false true is same none all rest =
        let at = eqb-true (number x) (number y) same in
        let here : (number y == number x) ≡ true = grind (arith, nat_tests) in
        let found : counted f (cond (number y == number x) (Some y) (find (λ z. number z == number x) ys)) ≡ f y = ap (λ b. counted f (cond b (Some y) (find (λ z. number z == number x) ys))) here in
        omega (arith, found, sum_by-cons f x ys, sum_by-cons f y ys)
    go false false is same none all rest =
        let other : (number y == number x) ≡ false = grind (arith, nat_tests) in
        let later : counted f (cond (number y == number x) (Some y) (find (λ z. number z == number x) ys)) ≡ counted f (find (λ z. number z == number x) ys) = ap (λ b. counted f (cond b (Some y) (find (λ z. number z == number x) ys))) other in
        omega (arith, later, rest, sum_by-cons f y ys, sum_by-cons f y (placed number x ys))

-- where some are left out the sum is no greater
sum-filter : {Y : Type 0} (f : Y → ℕ) (q : Y → Bool) (ys : List Y) → sum_by f (filter q ys) ≤ sum_by f ys
sum-filter f q [] = omega arith
sum-filter f q (y ∷ ys) =
    let rest = sum-filter f q ys in
    elim (q y) as (λ b. sum_by f (cond b (y ∷ filter q ys) (filter q ys)) ≤ sum_by f (y ∷ ys)) [
      | true ↦ omega (arith, rest, sum_by-cons f y ys, sum_by-cons f y (filter q ys))
      | false ↦ omega (arith, rest, sum_by-cons f y ys)
    ]

length-filter : {Y : Type 0} (q : Y → Bool) (ys : List Y) → length (filter q ys) ≤ length ys
length-filter q [] = omega arith
length-filter q (y ∷ ys) =
    let rest = length-filter q ys in
    elim (q y) as (λ b. length (cond b (y ∷ filter q ys) (filter q ys)) ≤ length (y ∷ ys)) [ true ↦ omega (arith, rest) | false ↦ omega (arith, rest) ]

-- ---- the lists of a vertex

abbrev size : LabelList → ℕ
size y = length y.pairs

pairs-found : (l : ℕ) (lists : List LabelList) → length (pairs_in lists l) ≡ counted size (find (λ y. y.label == l) lists)
pairs-found l [] = refl
pairs-found l (y ∷ lists) =
    elim (y.label == l) as (λ b. length (cond b y.pairs (pairs_in lists l)) ≡ counted size (cond b (Some y) (find (λ z. z.label == l) lists))) [ true ↦ refl | false ↦ pairs-found l lists ]

-- a list that is set to n edges more has that many more
set-edges : (l : ℕ) (pairs : List Pair) (lists : List LabelList) (n : ℕ) → rise (map (λ y. y.label) lists) ≡ true → length pairs ≤ length (pairs_in lists l) + n → sum_by size (set_list l pairs lists) ≤ sum_by size lists + n
set-edges l [] lists n up few = let less = sum-filter size (λ x. not (x.label == l)) lists in omega (arith, less)
set-edges l (pair ∷ pairs) lists n up few =
    let x : LabelList = record { label = l; pairs = pair ∷ pairs } in
    let one = sum-placed (λ (y : LabelList). y.label) size x lists up in
    let is : sum_by size (with_list x lists) ≡ sum_by size (placed (λ y. y.label) x lists) = ap (sum_by size) (with_list-placed x lists) in
    omega (arith, one, is, few, pairs-found l lists)

-- ---- a change

abbrev at_place : Option Vertex → ℕ
at_place o = counted edges_of o

-- what stands in a place after a change has one edge more at most
place-edges : (c : Change) (o : Option Vertex) → is_place o ≡ true → at_place (vertex_after c o) ≤ at_place o + 1
place-edges (New v p) o whole = omega arith
place-edges (Drop v) o whole = omega arith
place-edges (Set v p) (Some x) whole = omega arith
place-edges (Put v l d p) (Some x) whole =
    let parts = and_parts (rise (map (λ y. y.label) x.lists)) _ whole in
    let fewer = length-filter (λ z. not (z.d == d)) (pairs_in x.lists l) in
    set-edges l (record { d = d; p = p } ∷ without_pair d (pairs_in x.lists l)) x.lists 1 parts.0 (omega (arith, fewer))
place-edges (Del v l d) (Some x) whole =
    let parts = and_parts (rise (map (λ y. y.label) x.lists)) _ whole in
    let fewer = length-filter (λ z. not (z.d == d)) (pairs_in x.lists l) in
    set-edges l (without_pair d (pairs_in x.lists l)) x.lists 1 parts.0 (omega (arith, fewer))
place-edges (Set v p) None whole = omega arith
place-edges (Put v l d p) None whole = omega arith
place-edges (Del v l d) None whole = omega arith

-- what is found has the number that was asked for
found-number : (v : ℕ) (graph : List Vertex) → IfSome (vertex_at v graph) (λ x. x.number ≡ v)
found-number v [] = tt
found-number v (x ∷ graph) = go (x.number == v) refl (found-number v graph) where
  go : (b : Bool) → (x.number == v) ≡ b → IfSome (vertex_at v graph) (λ y. y.number ≡ v) → IfSome (cond b (Some x) (vertex_at v graph)) (λ y. y.number ≡ v)
  go true is rest = eqb-true x.number v is
  go false is rest = rest

-- and keeps it
after-number : (c : Change) (o : Option Vertex) → IfSome o (λ x. x.number ≡ vertex_of c) → IfSome (vertex_after c o) (λ x. x.number ≡ vertex_of c)
after-number (New v p) o is = refl
after-number (Drop v) o is = tt
after-number (Set v p) (Some x) is = is
after-number (Put v l d p) (Some x) is = is
after-number (Del v l d) (Some x) is = is
after-number (Set v p) None is = tt
after-number (Put v l d p) None is = tt
after-number (Del v l d) None is = tt

set_vertex-edges : (v n : ℕ) (o : Option Vertex) (graph : List Vertex) → rise (map (λ x. x.number) graph) ≡ true → IfSome o (λ x. x.number ≡ v) → at_place o ≤ at_place (vertex_at v graph) + n → edge_count (set_vertex v o graph) ≤ edge_count graph + n
set_vertex-edges v n None graph up is few = let less = sum-filter edges_of (λ x. not (x.number == v)) graph in omega (arith, less)
set_vertex-edges v n (Some x) graph up is few =
    let one = sum-placed (λ (y : Vertex). y.number) edges_of x graph up in
    let same : edge_count (with_vertex x graph) ≡ sum_by edges_of (placed (λ y. y.number) x graph) = ap (sum_by edges_of) (with_vertex-placed x graph) in
    let found : at_place (vertex_at v graph) ≡ counted edges_of (find (λ y. y.number == x.number) graph) = ap (λ k. at_place (vertex_at k graph)) (sym is) in
    omega (arith, one, same, found, few)

apply-edges : (c : Change) (graph : List Vertex) → is_graph graph ≡ true → edge_count (apply c graph) ≤ edge_count graph + 1
apply-edges c graph whole =
    let parts = and_parts (rise (map (λ x. x.number) graph)) (list_all is_vertex graph) whole in
    let here = vertex_at (vertex_of c) graph in
    set_vertex-edges (vertex_of c) 1 (vertex_after c here) graph parts.0 (after-number c here (found-number (vertex_of c) graph)) (place-edges c here (vertex_at-whole (vertex_of c) graph parts.1))

-- ---- changes

pub after-edges : (cs : List Change) (graph : List Vertex) → is_graph graph ≡ true → edge_count (after cs graph) ≤ edge_count graph + length cs
after-edges [] graph whole = omega arith
after-edges (c ∷ cs) graph whole =
    let one = apply-edges c graph whole in
    let rest = after-edges cs (apply c graph) (is_graph-apply c graph whole) in
    omega (arith, one, rest)

pub until-length : (e : ℕ) (rs : List Record) → length (changes_until e rs) ≤ length (all_changes rs)
until-length e [] = omega arith
until-length e (r ∷ rs) =
    let rest = until-length e rs in
    elim (nat_le r.epoch e) as (λ b. length (flat_map (λ (x : Record). x.changes) (cond b (r ∷ filter (λ x. nat_le x.epoch e) rs) (filter (λ x. nat_le x.epoch e) rs))) ≤ length (all_changes (r ∷ rs))) [
      | true ↦ omega (arith, rest, length-append r.changes (changes_until e rs), length-append r.changes (all_changes rs))
      | false ↦ omega (arith, rest, length-append r.changes (all_changes rs))
    ]

-- the graph at an epoch has no more edges than the records have changes
pub edges_within : (records : List Record) (e : ℕ) → edge_count (after (changes_until e records) []) ≤ length (all_changes records)
edges_within records e = let all = after-edges (changes_until e records) [] refl in omega (arith, all, until-length e records)
