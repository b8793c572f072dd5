-- A change touches one vertex: what stands at each vertex after changes.
use Rattle.std.proofs.Common.{◌≡◌, ℕ, Bool, true, false, not, cond, ◌&&◌, List, [], ◌∷◌, ◌++◌, refl, sym, ap, ◌∙◌, subst}
use Rattle.std.specs.Prelude.{◌==◌, nat_lt, nat_le, filter, flat_map, Option, Some, None}
use Rattle.std.specs.List.{list_any, list_all}
use Rattle.std.proofs.lemmas.Bool.{leb-false, and_parts, or_parts, eqb-true, eqb-false, eq-eqb, ne_eqb, lt-ltb}
use Rattle.graph_model.specs.declared.change.Change.{Change}
use Rattle.graph_model.specs.declared.change.Change.TheVariants.{New, Set, Drop, Put, Del}
use Rattle.graph_model.specs.declared.record.Record.{Record}
use Rattle.graph_model.specs.Vertex.{Vertex}
use Rattle.graph_model.specs.Change.{vertex_of}
use Rattle.graph_model.specs.Graph.{vertex_at, vertex_after, with_vertex, set_vertex, apply, after, each_step, changes_until}
use Rattle.graph_model.specs.Records.{all_changes, changes_vertex}

-- the first is at v and then the second is not, since their numbers differ
swapped : (m n v : ℕ) (x y z : Option Vertex) → (m == n) ≡ false → cond (n == v) y (cond (m == v) x z) ≡ cond (m == v) x (cond (n == v) y z)
swapped m n v x y z ne =
    elim (m == v) as (λ b. (m == v) ≡ b → cond (n == v) y (cond b x z) ≡ cond b x (cond (n == v) y z)) [
      | true ↦ λ e. let other : (n == v) ≡ false = ne_eqb n v (λ f. eqb-false m n ne (eqb-true m v e ∙ sym f)) in rw other refl
      | false ↦ λ e. refl
    ] refl

shadowed : (m n v : ℕ) (x y z : Option Vertex) → (m == n) ≡ true → cond (m == v) x z ≡ cond (m == v) x (cond (n == v) y z)
shadowed m n v x y z same =
    elim (m == v) as (λ b. (m == v) ≡ b → cond b x z ≡ cond b x (cond (n == v) y z)) [
      | true ↦ λ e. refl
      | false ↦ λ e. let other : (n == v) ≡ false = ne_eqb n v (λ f. eqb-false m v e (eqb-true m n same ∙ f)) in rw other refl
    ] refl

pub vertex_at-with_vertex : (v : ℕ) (x : Vertex) (graph : List Vertex) → vertex_at v (with_vertex x graph) ≡ cond (x.number == v) (Some x) (vertex_at v graph)
vertex_at-with_vertex v x [] = refl
vertex_at-with_vertex v x (y ∷ graph) =
    elim (nat_lt x.number y.number) as (λ b. vertex_at v (cond b (x ∷ y ∷ graph) (cond (x.number == y.number) (x ∷ graph) (y ∷ with_vertex x graph))) ≡ cond (x.number == v) (Some x) (vertex_at v (y ∷ graph))) [
      | true ↦ refl
      | false ↦ elim (x.number == y.number) as (λ b. (x.number == y.number) ≡ b → vertex_at v (cond b (x ∷ graph) (y ∷ with_vertex x graph)) ≡ cond (x.number == v) (Some x) (vertex_at v (y ∷ graph))) [
        | true ↦ λ e. shadowed x.number y.number v (Some x) (Some y) (vertex_at v graph) e
        | false ↦ λ e. ap (cond (y.number == v) (Some y)) (vertex_at-with_vertex v x graph) ∙ swapped x.number y.number v (Some x) (Some y) (vertex_at v graph) e
      ] refl
    ]

pub vertex_at-without : (v w : ℕ) (graph : List Vertex) → vertex_at v (filter (λ x. not (x.number == w)) graph) ≡ cond (w == v) None (vertex_at v graph)
vertex_at-without v w [] = no_vertex (w == v)
  where
    no_vertex : (b : Bool) → vertex_at v [] ≡ cond b None (vertex_at v [])
    no_vertex true = refl
    no_vertex false = refl
vertex_at-without v w (x ∷ graph) =
    elim (x.number == w) as (λ b. (x.number == w) ≡ b → vertex_at v (cond (not b) (x ∷ filter (λ y. not (y.number == w)) graph) (filter (λ y. not (y.number == w)) graph)) ≡ cond (w == v) None (vertex_at v (x ∷ graph))) [
      | true ↦ λ e. vertex_at-without v w graph ∙ shadowed w x.number v None (Some x) (vertex_at v graph) (eq-eqb w x.number (sym (eqb-true x.number w e)))
      | false ↦ λ e. ap (cond (x.number == v) (Some x)) (vertex_at-without v w graph) ∙ swapped w x.number v None (Some x) (vertex_at v graph) (ne_eqb w x.number (λ f. eqb-false x.number w e (sym f)))
    ] refl

-- a vertex that has this number, where there is one
abbrev pub HasNumber : ℕ → Option Vertex → Type 0
HasNumber v None = Unit {0}
HasNumber v (Some x) = x.number ≡ v

vertex_at-number : (v : ℕ) (graph : List Vertex) → HasNumber v (vertex_at v graph)
vertex_at-number v [] = tt
vertex_at-number v (x ∷ graph) =
    elim (x.number == v) as (λ b. (x.number == v) ≡ b → HasNumber v (cond b (Some x) (vertex_at v graph))) [
      | true ↦ λ e. eqb-true x.number v e
      | false ↦ λ e. vertex_at-number v graph
    ] refl

number_after : (c : Change) (o : Option Vertex) → HasNumber (vertex_of c) o → HasNumber (vertex_of c) (vertex_after c o)
number_after (New v p) o h = refl
number_after (Drop v) o h = tt
number_after (Set v p) (Some x) h = h
number_after (Put v l d p) (Some x) h = h
number_after (Del v l d) (Some x) h = h
number_after (Set v p) None h = tt
number_after (Put v l d p) None h = tt
number_after (Del v l d) None h = tt

pub vertex_at-set_vertex : (v w : ℕ) (o : Option Vertex) (graph : List Vertex) → HasNumber w o → vertex_at v (set_vertex w o graph) ≡ cond (w == v) o (vertex_at v graph)
vertex_at-set_vertex v w None graph h = vertex_at-without v w graph
vertex_at-set_vertex v w (Some x) graph h = vertex_at-with_vertex v x graph ∙ ap (λ n. cond (n == v) (Some x) (vertex_at v graph)) h

-- a change touches its vertex alone
pub vertex_at-apply : (v : ℕ) (c : Change) (graph : List Vertex) →
    vertex_at v (apply c graph) ≡ cond (vertex_of c == v) (vertex_after c (vertex_at (vertex_of c) graph)) (vertex_at v graph)
vertex_at-apply v c graph = vertex_at-set_vertex v (vertex_of c) _ graph (number_after c _ (vertex_at-number (vertex_of c) graph))

-- what stands at a vertex after a change depends on what stood there alone
pub apply-same : (v : ℕ) (c : Change) (g h : List Vertex) → vertex_at v g ≡ vertex_at v h → vertex_at v (apply c g) ≡ vertex_at v (apply c h)
apply-same v c g h e =
    vertex_at-apply v c g ∙ elim (vertex_of c == v) as (λ b. (vertex_of c == v) ≡ b →
    cond b (vertex_after c (vertex_at (vertex_of c) g)) (vertex_at v g) ≡ cond b (vertex_after c (vertex_at (vertex_of c) h)) (vertex_at v h)) [
      | true ↦ λ t. let is = eqb-true (vertex_of c) v t in
          ap (vertex_after c) (ap (λ w. vertex_at w g) is ∙ e ∙ ap (λ w. vertex_at w h) (sym is))
      | false ↦ λ t. e
    ] refl ∙ sym (vertex_at-apply v c h)

-- what stands at a vertex after changes depends on what stood there alone
pub after-same : (v : ℕ) (changes : List Change) (g h : List Vertex) → vertex_at v g ≡ vertex_at v h → vertex_at v (after changes g) ≡ vertex_at v (after changes h)
after-same v [] g h e = e
after-same v (c ∷ changes) g h e = after-same v changes (apply c g) (apply c h) (apply-same v c g h e)

-- changes of other vertices leave a vertex as it was
pub after-other : (v : ℕ) (changes : List Change) (g : List Vertex) → list_any (λ c. vertex_of c == v) changes ≡ false → vertex_at v (after changes g) ≡ vertex_at v g
after-other v [] g none = refl
after-other v (c ∷ changes) g none =
    let parts = or_parts (vertex_of c == v) (list_any (λ x. vertex_of x == v) changes) none in
    after-other v changes (apply c g) parts.1 ∙ vertex_at-apply v c g ∙ ap (λ b. cond b (vertex_after c (vertex_at (vertex_of c) g)) (vertex_at v g)) parts.0

pub after-append : (xs ys : List Change) (g : List Vertex) → after (xs ++ ys) g ≡ after ys (after xs g)
after-append [] ys g = refl
after-append (x ∷ xs) ys g = after-append xs ys (apply x g)

and_assoc_lem : (a b c : Bool) → (a && (b && c)) ≡ ((a && b) && c)
and_assoc_lem true b c = refl
and_assoc_lem false b c = refl

pub each_step-append : (p : Change → Option Vertex → Bool) (xs ys : List Change) (g : List Vertex) → each_step p (xs ++ ys) g ≡ (each_step p xs g && each_step p ys (after xs g))
each_step-append p [] ys g = refl
each_step-append p (x ∷ xs) ys g = ap (λ b. p x (vertex_at (vertex_of x) g) && b) (each_step-append p xs ys (apply x g)) ∙ and_assoc_lem (p x (vertex_at (vertex_of x) g)) (each_step p xs (apply x g)) (each_step p ys (after xs (apply x g)))

-- where two graphs agree at the vertices of the changes, the changes go alike
pub each_step-same : (p : Change → Option Vertex → Bool) (at_vertex : ℕ → Bool) (changes : List Change) (g h : List Vertex) →
    ((v : ℕ) → at_vertex v ≡ true → vertex_at v g ≡ vertex_at v h) → list_all (λ c. at_vertex (vertex_of c)) changes ≡ true →
    each_step p changes g ≡ each_step p changes h
each_step-same p at_vertex [] g h agree all = refl
each_step-same p at_vertex (c ∷ changes) g h agree all =
    let parts = and_parts (at_vertex (vertex_of c)) (list_all (λ x. at_vertex (vertex_of x)) changes) all in
    ap (λ o. p c o && each_step p changes (apply c g)) (agree (vertex_of c) parts.0)
    ∙ ap (λ b. p c (vertex_at (vertex_of c) h) && b) (each_step-same p at_vertex changes (apply c g) (apply c h) (λ v i. apply-same v c g h (agree v i)) parts.1)

-- where no record of a later epoch changes the vertex, the newest graph has it as the snapshot does
pub at-newest : (v e : ℕ) (records : List Record) (g h : List Vertex) → list_any (λ r. nat_lt e r.epoch && changes_vertex v r) records ≡ false →
    vertex_at v g ≡ vertex_at v h → vertex_at v (after (all_changes records) g) ≡ vertex_at v (after (changes_until e records) h)
at-newest v e [] g h none same = same
at-newest v e (r ∷ records) g h none same =
    let parts = or_parts (nat_lt e r.epoch && changes_vertex v r) (list_any (λ x. nat_lt e x.epoch && changes_vertex v x) records) none in
    ap (vertex_at v) (after-append r.changes (all_changes records) g)
    ∙ elim (nat_le r.epoch e) as (λ b. nat_le r.epoch e ≡ b →
    vertex_at v (after (all_changes records) (after r.changes g)) ≡ vertex_at v (after (flat_map (λ x. x.changes) (cond b (r ∷ filter (λ x. nat_le x.epoch e) records) (filter (λ x. nat_le x.epoch e) records))) h)) [
      | true ↦ λ t. at-newest v e records (after r.changes g) (after r.changes h) parts.1 (after-same v r.changes g h same)
          ∙ ap (vertex_at v) (sym (after-append r.changes (changes_until e records) h))
      | false ↦ λ t.
          let lt : nat_lt e r.epoch ≡ true = lt-ltb e r.epoch (leb-false r.epoch e t) in
          let untouched : changes_vertex v r ≡ false = subst (λ b. (b && changes_vertex v r) ≡ false) lt parts.0 in
          at-newest v e records (after r.changes g) h parts.1 (after-other v r.changes g untouched ∙ same)
    ] refl
