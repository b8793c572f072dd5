-- What the lists of a graph take: after changes, and against the limit.
use Rattle.std.proofs.Common.{◌≡◌, ℕ, ◌+◌, ◌<◌, ◌≤◌, Bool, true, false, not, cond, ◌&&◌, List, [], ◌∷◌, map, length, refl, sym, ap, ◌∙◌, subst, arith, lit≤}
use Rattle.std.specs.Prelude.{◌==◌, nat_lt, nat_le, IsTrue, filter, Option, Some, None}
use Rattle.std.specs.List.{list_all}
use Rattle.std.proofs.lemmas.Bool.{and_parts, and_from, eqb-true, eqb-false, eq-eqb, ne_eqb, ltb-true, leb-true, le-leb}
use Rattle.std.proofs.lemmas.List.Sums.{sum_by-cons}
use Rattle.graph_model.specs.declared.pairs.Pair.{Pair}
use Rattle.graph_model.specs.declared.change.Change.{Change}
use Rattle.graph_model.specs.declared.change.Change.TheVariants.{New, Set, Drop, Put, Del}
use Rattle.graph_model.specs.Vertex.{Vertex, LabelList}
use Rattle.graph_model.specs.Change.{vertex_of, edge_size, size_at, put_sizes}
use Rattle.graph_model.specs.Graph.{vertex_at, vertex_after, without_pair, pairs_in, with_list, set_list, apply, after}
use Rattle.graph_model.specs.Whole.{are_pairs, rise, is_vertex, is_graph}
use Rattle.graph_model.specs.Sizes.{list_size, size_of_list}
use Rattle.graph_model.specs.Records.{list_most, lists_fit}
use Rattle.graph_model.proofs.Sizes.{list_size-cons}
use Rattle.graph_model.proofs.Vertices.{vertex_at-apply}

-- taking an edge out makes no list larger
pub size-without : (d : ℕ) (pairs : List Pair) → list_size (without_pair d pairs) ≤ list_size pairs
size-without d [] = lit≤ tt
size-without d (x ∷ pairs) =
    let whole = list_size-cons x pairs in
    let rest = size-without d pairs in
    elim (x.d == d) as (λ b. list_size (cond (not b) (x ∷ without_pair d pairs) (without_pair d pairs)) ≤ list_size (x ∷ pairs)) [
      | true ↦ omega (arith, whole, rest)
      | false ↦ let left = list_size-cons x (without_pair d pairs) in omega (arith, whole, rest, left)
    ]

swapped : (m n v : ℕ) (x y z : List Pair) → (m == n) ≡ false → cond (n == v) y (cond (m == v) x z) ≡ cond (m == v) x (cond (n == v) y z)
swapped m n v x y z ne =
    elim (m == v) as (λ b. (m == v) ≡ b → cond (n == v) y (cond b x z) ≡ cond b x (cond (n == v) y z)) [
      | true ↦ λ e. let other : (n == v) ≡ false = ne_eqb n v (λ f. eqb-false m n ne (eqb-true m v e ∙ sym f)) in rw other refl
      | false ↦ λ e. refl
    ] refl

shadowed : (m n v : ℕ) (x y z : List Pair) → (m == n) ≡ true → cond (m == v) x z ≡ cond (m == v) x (cond (n == v) y z)
shadowed m n v x y z same =
    elim (m == v) as (λ b. (m == v) ≡ b → cond b x z ≡ cond b x (cond (n == v) y z)) [
      | true ↦ λ e. refl
      | false ↦ λ e. let other : (n == v) ≡ false = ne_eqb n v (λ f. eqb-false m v e (eqb-true m n same ∙ f)) in rw other refl
    ] refl

pairs_in-with_list : (m : ℕ) (x : LabelList) (lists : List LabelList) → pairs_in (with_list x lists) m ≡ cond (x.label == m) x.pairs (pairs_in lists m)
pairs_in-with_list m x [] = refl
pairs_in-with_list m x (y ∷ lists) =
    elim (nat_lt x.label y.label) as (λ b. pairs_in (cond b (x ∷ y ∷ lists) (cond (x.label == y.label) (x ∷ lists) (y ∷ with_list x lists))) m ≡ cond (x.label == m) x.pairs (pairs_in (y ∷ lists) m)) [
      | true ↦ refl
      | false ↦ elim (x.label == y.label) as (λ b. (x.label == y.label) ≡ b → pairs_in (cond b (x ∷ lists) (y ∷ with_list x lists)) m ≡ cond (x.label == m) x.pairs (pairs_in (y ∷ lists) m)) [
        | true ↦ λ e. shadowed x.label y.label m x.pairs y.pairs (pairs_in lists m) e
        | false ↦ λ e. ap (cond (y.label == m) y.pairs) (pairs_in-with_list m x lists) ∙ swapped x.label y.label m x.pairs y.pairs (pairs_in lists m) e
      ] refl
    ]

pairs_in-without : (m l : ℕ) (lists : List LabelList) → pairs_in (filter (λ x. not (x.label == l)) lists) m ≡ cond (l == m) [] (pairs_in lists m)
pairs_in-without m l [] = no_pairs (l == m)
  where
    no_pairs : (b : Bool) → pairs_in [] m ≡ cond b [] (pairs_in [] m)
    no_pairs true = refl
    no_pairs false = refl
pairs_in-without m l (x ∷ lists) =
    elim (x.label == l) as (λ b. (x.label == l) ≡ b → pairs_in (cond (not b) (x ∷ filter (λ y. not (y.label == l)) lists) (filter (λ y. not (y.label == l)) lists)) m ≡ cond (l == m) [] (pairs_in (x ∷ lists) m)) [
      | true ↦ λ e. pairs_in-without m l lists ∙ shadowed l x.label m [] x.pairs (pairs_in lists m) (eq-eqb l x.label (sym (eqb-true x.label l e)))
      | false ↦ λ e. ap (cond (x.label == m) x.pairs) (pairs_in-without m l lists) ∙ swapped l x.label m [] x.pairs (pairs_in lists m) (ne_eqb l x.label (λ f. eqb-false x.label l e (sym f)))
    ] refl

-- a list that is set is there, and no other one changes
pub pairs_in-set_list : (m l : ℕ) (pairs : List Pair) (lists : List LabelList) → pairs_in (set_list l pairs lists) m ≡ cond (l == m) pairs (pairs_in lists m)
pairs_in-set_list m l [] lists = pairs_in-without m l lists
pairs_in-set_list m l (pair ∷ pairs) lists = pairs_in-with_list m (record { label = l; pairs = pair ∷ pairs }) lists

set_smaller : (m l : ℕ) (pairs : List Pair) (lists : List LabelList) (more : ℕ) → list_size pairs ≤ list_size (pairs_in lists l) + more →
    list_size (pairs_in (set_list l pairs lists) m) ≤ list_size (pairs_in lists m) + cond (l == m) more 0
set_smaller m l pairs lists more le =
    rw (pairs_in-set_list m l pairs lists)
    (elim (l == m) as (λ b. (l == m) ≡ b → list_size (cond b pairs (pairs_in lists m)) ≤ list_size (pairs_in lists m) + cond b more 0) [
      | true ↦ λ e. subst (λ n. list_size pairs ≤ list_size (pairs_in lists n) + more) (eqb-true l m e) le
      | false ↦ λ e. omega arith
    ] refl)

step_size : (m : ℕ) (c : Change) (o : Option Vertex) → size_of_list (vertex_after c o) m ≤ size_of_list o m + size_at (vertex_of c) m c
step_size m (New v p) o = omega arith
step_size m (Drop v) o = omega arith
step_size m (Set v p) None = omega arith
step_size m (Put v l d p) None = omega arith
step_size m (Del v l d) None = omega arith
step_size m (Set v p) (Some x) = omega arith
step_size m (Put v l d p) (Some x) =
    let front = list_size-cons (record { d = d; p = p }) (without_pair d (pairs_in x.lists l)) in
    let less = size-without d (pairs_in x.lists l) in
    let self : (v == v) ≡ true = eq-eqb v v refl in
    rw self (set_smaller m l (record { d = d; p = p } ∷ without_pair d (pairs_in x.lists l)) x.lists (edge_size p) (omega (arith, front, less)))
step_size m (Del v l d) (Some x) =
    let less = size-without d (pairs_in x.lists l) in
    let set = set_smaller m l (without_pair d (pairs_in x.lists l)) x.lists 0 (omega (arith, less)) in
    elim (l == m) as (λ b. list_size (pairs_in (set_list l (without_pair d (pairs_in x.lists l)) x.lists) m) ≤ list_size (pairs_in x.lists m) + cond b 0 0 → list_size (pairs_in (set_list l (without_pair d (pairs_in x.lists l)) x.lists) m) ≤ list_size (pairs_in x.lists m) + 0) [ true ↦ λ h. h | false ↦ λ h. h ] set

puts-cons : (v m : ℕ) (c : Change) (changes : List Change) → put_sizes v m (c ∷ changes) ≡ size_at v m c + put_sizes v m changes
puts-cons v m c changes = sum_by-cons (size_at v m) c changes

-- What a list takes after changes is at most what it took before them and what they put.
pub size-after : (v m : ℕ) (changes : List Change) (graph : List Vertex) → size_of_list (vertex_at v (after changes graph)) m ≤ size_of_list (vertex_at v graph) m + put_sizes v m changes
size-after v m [] graph = omega arith
size-after v m (c ∷ changes) graph =
    let rest = size-after v m changes (apply c graph) in
    let whole = puts-cons v m c changes in
    let one : size_of_list (vertex_at v (apply c graph)) m ≤ size_of_list (vertex_at v graph) m + size_at v m c
    = rw (vertex_at-apply v c graph) (elim (vertex_of c == v) as (λ b. (vertex_of c == v) ≡ b → size_of_list (cond b (vertex_after c (vertex_at (vertex_of c) graph)) (vertex_at v graph)) m ≤ size_of_list (vertex_at v graph) m + size_at v m c) [
      | true ↦ λ e. subst (λ w. size_of_list (vertex_after c (vertex_at (vertex_of c) graph)) m ≤ size_of_list (vertex_at w graph) m + size_at w m c) (eqb-true (vertex_of c) v e) (step_size m c (vertex_at (vertex_of c) graph))
      | false ↦ λ e. omega arith
    ] refl) in
    omega (arith, rest, whole, one)

-- where no list is above the limit, none that is looked up is
pub sizes-fit : (v l : ℕ) (graph : List Vertex) → lists_fit graph ≡ true → size_of_list (vertex_at v graph) l ≤ list_most
sizes-fit v l [] fit = omega arith
sizes-fit v l (x ∷ graph) fit =
    let parts = and_parts (list_all (λ y. nat_le (list_size y.pairs) list_most) x.lists) (lists_fit graph) fit in
    elim (x.number == v) as (λ b. size_of_list (cond b (Some x) (vertex_at v graph)) l ≤ list_most) [
      | true ↦ in_lists l x.lists parts.0
      | false ↦ sizes-fit v l graph parts.1
    ]
  where
    in_lists : (l : ℕ) (lists : List LabelList) → list_all (λ y. nat_le (list_size y.pairs) list_most) lists ≡ true → list_size (pairs_in lists l) ≤ list_most
    in_lists l [] h = lit≤ tt
    in_lists l (y ∷ lists) h =
        let parts = and_parts (nat_le (list_size y.pairs) list_most) (list_all (λ z. nat_le (list_size z.pairs) list_most) lists) h in
        elim (y.label == l) as (λ b. list_size (cond b y.pairs (pairs_in lists l)) ≤ list_most) [
          | true ↦ leb-true (list_size y.pairs) list_most parts.0
          | false ↦ in_lists l lists parts.1
        ]

-- what is found behind a first number is above it
found-above : (n v : ℕ) (graph : List Vertex) (x : Vertex) → list_all (nat_lt n) (map (λ y. y.number) graph) ≡ true → vertex_at v graph ≡ Some x → n < v
found-above n v [] x above found = (cc)
found-above n v (y ∷ graph) x above found =
    let parts = and_parts (nat_lt n y.number) (list_all (nat_lt n) (map (λ z. z.number) graph)) above in
    elim (y.number == v) as (λ b. (y.number == v) ≡ b → cond b (Some y) (vertex_at v graph) ≡ Some x → n < v) [
      | true ↦ λ e f. omega (arith, ltb-true n y.number parts.0, eqb-true y.number v e)
      | false ↦ λ e f. found-above n v graph x parts.1 f
    ] refl found

label-above : (n l : ℕ) (lists : List LabelList) → list_all (nat_lt n) (map (λ y. y.label) lists) ≡ true → l ≤ n → pairs_in lists l ≡ []
label-above n l [] above le = refl
label-above n l (y ∷ lists) above le =
    let parts = and_parts (nat_lt n y.label) (list_all (nat_lt n) (map (λ z. z.label) lists)) above in
    let lt = ltb-true n y.label parts.0 in
    let other : (y.label == l) ≡ false = ne_eqb y.label l (omega arith) in
    rw other (label-above n l lists parts.1 le)

-- where no list of a vertex that is looked up is above the limit, none of its lists is
labels-fit : (lists : List LabelList) → rise (map (λ y. y.label) lists) ≡ true → ((l : ℕ) → list_size (pairs_in lists l) ≤ list_most) → list_all (λ y. nat_le (list_size y.pairs) list_most) lists ≡ true
labels-fit [] up fit = refl
labels-fit (y ∷ lists) up fit =
    let parts = and_parts (list_all (nat_lt y.label) (map (λ z. z.label) lists)) (rise (map (λ z. z.label) lists)) up in
    let here : list_size y.pairs ≤ list_most = let self : (y.label == y.label) ≡ true = eq-eqb y.label y.label refl in rw self at (fit y.label) in
    let rest : (l : ℕ) → list_size (pairs_in lists l) ≤ list_most = λ l.
    elim (y.label == l) as (λ b. (y.label == l) ≡ b → list_size (cond b y.pairs (pairs_in lists l)) ≤ list_most → list_size (pairs_in lists l) ≤ list_most) [
      | true ↦ λ e h. let none = label-above y.label l lists parts.0 (omega (arith, eqb-true y.label l e)) in rw none (lit≤ tt)
      | false ↦ λ e h. h
    ] refl (fit l) in
    and_from _ _ (le-leb (list_size y.pairs) list_most here) (labels-fit lists parts.1 rest)

-- where no list that is looked up is above the limit, none of the graph is
pub lists_fit-sizes : (graph : List Vertex) → IsTrue (is_graph graph) → ((v l : ℕ) → size_of_list (vertex_at v graph) l ≤ list_most) → lists_fit graph ≡ true
lists_fit-sizes graph whole fit =
    let parts = and_parts (rise (map (λ x. x.number) graph)) (list_all is_vertex graph) whole in
    go graph parts.0 parts.1 fit
  where
    go : (g : List Vertex) → rise (map (λ x. x.number) g) ≡ true → list_all is_vertex g ≡ true → ((v l : ℕ) → size_of_list (vertex_at v g) l ≤ list_most) → lists_fit g ≡ true
    go [] up each f = refl
    go (x ∷ g) up each f =
        let ups = and_parts (list_all (nat_lt x.number) (map (λ z. z.number) g)) (rise (map (λ z. z.number) g)) up in
        let eachs = and_parts (is_vertex x) (list_all is_vertex g) each in
        let labels = and_parts (rise (map (λ y. y.label) x.lists)) (list_all (λ y. nat_lt 0 (length y.pairs) && are_pairs y.pairs) x.lists) eachs.0 in
        let self : (x.number == x.number) ≡ true = eq-eqb x.number x.number refl in
        let here : (l : ℕ) → list_size (pairs_in x.lists l) ≤ list_most = λ l. rw self at (f x.number l) in
        let rest : (v l : ℕ) → size_of_list (vertex_at v g) l ≤ list_most = λ v l.
        elim (vertex_at v g) as (λ o. vertex_at v g ≡ o → size_of_list o l ≤ list_most) [
          | None ↦ λ e. omega arith
          | Some y ↦ λ e.
              let above = found-above x.number v g y ups.0 e in
              let other : (x.number == v) ≡ false = ne_eqb x.number v (omega arith) in
              let looked : size_of_list (vertex_at v g) l ≤ list_most = rw other at (f v l) in
              subst (λ o. size_of_list o l ≤ list_most) e looked
        ] refl in
        and_from _ _ (labels-fit x.lists labels.0 here) (go g ups.1 eachs.1 rest)
