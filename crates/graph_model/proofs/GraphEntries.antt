-- The vertices of a graph, kept by number: what the map's entries show after each change of one of them.
use Rattle.std.proofs.Common.{◌≡◌, ℕ, Bool, true, false, not, cond, List, [], ◌∷◌, map, refl, sym, ap, ◌∙◌, arith}
use Rattle.std.specs.Prelude.{◌==◌, Option, Some, None, is_some, is_none, IsTrue, Result, Ok, Err, IsErrOf, IsErrAnd}
use Rattle.std.specs.Option.{IsSome, option_map}
use Rattle.std.specs.List.{list_all}
use Rattle.std.specs.Ordering.{nat_cmp}
use Rattle.std.specs.Map.{keys_of, lookup, remove_entry, set_value}
use Rattle.std.specs.BTreeMap.{insert_entry, is_at}
use Rattle.std.proofs.lemmas.Bool.{and_parts, and_from, eq-eqb}
use Rattle.std.proofs.lemmas.Map.Steps.{set_value_same}
use Rattle.std.proofs.lemmas.Bool.Decides.{nat_tests}
use Rattle.graph_model.specs.declared.change.Change.{Change}
use Rattle.graph_model.specs.declared.change.Change.TheVariants.{New, Set, Drop, Put, Del}
use Rattle.graph_model.specs.declared.graph.GraphRefusal.{GraphRefusal}
use Rattle.graph_model.specs.declared.graph.GraphRefusal.TheVariants.{NoMemory, Unfit}
use Rattle.graph_model.specs.Vertex.{Vertex}
use Rattle.graph_model.specs.Graph.{vertex_at, with_vertex, fits, apply, vertex_after, set_vertex, lists_after_put, lists_after_del}
use Rattle.graph_model.specs.Whole.{rise, is_vertex, is_graph}
use Rattle.graph_model.specs.MapEntries.{Content, vertex_of_entry, vertices_of}
use Rattle.graph_model.specs.Applying.{Applies}
use Rattle.graph_model.proofs.Rising.{map-insert_entry, map-remove_entry, set_value-insert_entry, numbers-map, find-map, rise-placed, list_all-placed}
use Rattle.graph_model.proofs.Vertices.{vertex_at-with_vertex, vertex_at-apply}
use Rattle.graph_model.proofs.Wholes.{with_vertex-placed, is_place, vertex_at-whole}

-- the entry under a number
abbrev pub at_number : ℕ → List (ℕ × Content) → Option Content
at_number v es = lookup (is_at (nat_cmp v)) es

-- the vertex of a number is that of its entry
pub vertex_at-vertices_of : (v : ℕ) (es : List (ℕ × Content)) → vertex_at v (vertices_of es) ≡ option_map (λ x. vertex_of_entry (v, x)) (at_number v es)
vertex_at-vertices_of v es = find-map (λ (y : Vertex). y.number) vertex_of_entry (λ e. refl) es v

-- whether it is there
pub has-vertices_of : (v : ℕ) (es : List (ℕ × Content)) → is_some (vertex_at v (vertices_of es)) ≡ is_some (at_number v es)
has-vertices_of v es = ap is_some (vertex_at-vertices_of v es) ∙ mapped (at_number v es)
  where
    mapped : (o : Option Content) → is_some (option_map (λ x. vertex_of_entry (v, x)) o) ≡ is_some o
    mapped None = refl
    mapped (Some x) = refl

rising : (es : List (ℕ × Content)) → IsTrue (is_graph (vertices_of es)) → rise (keys_of es) ≡ true
rising es whole =
    let parts = and_parts (rise (map (λ (y : Vertex). y.number) (vertices_of es))) (list_all is_vertex (vertices_of es)) whole in
    ap rise (sym (numbers-map (λ (y : Vertex). y.number) vertex_of_entry (λ e. refl) es)) ∙ parts.0

shown-insert : (es : List (ℕ × Content)) (v : ℕ) (x : Content) → vertices_of (insert_entry nat_cmp es v x) ≡ with_vertex (vertex_of_entry (v, x)) (vertices_of es)
shown-insert es v x =
    map-insert_entry (λ (y : Vertex). y.number) vertex_of_entry (λ e. refl) es v x ∙ sym (with_vertex-placed (vertex_of_entry (v, x)) (vertices_of es))

-- New sets its entry
pub vertices-new : (es new : List (ℕ × Content)) (v : ℕ) (p : List ℕ) (x : Content) → new ≡ insert_entry nat_cmp es v x → x ≡ record { payload = p; lists = [] } →
    vertices_of new ≡ apply (New v p) (vertices_of es)
vertices-new es new v p x wrote is = ap vertices_of wrote ∙ shown-insert es v x ∙ ap (λ y. with_vertex (vertex_of_entry (v, y)) (vertices_of es)) is

-- Drop takes its entry out
pub vertices-drop : (es new : List (ℕ × Content)) (v : ℕ) → IsTrue (is_graph (vertices_of es)) → new ≡ remove_entry (is_at (nat_cmp v)) es → vertices_of new ≡ apply (Drop v) (vertices_of es)
vertices-drop es new v whole gone = ap vertices_of gone ∙ map-remove_entry (λ (y : Vertex). y.number) vertex_of_entry (λ e. refl) es v (rising es whole)

-- the other changes write their entry where it stands
written : (es new : List (ℕ × Content)) (v : ℕ) (old x : Content) → IsTrue (is_graph (vertices_of es)) → at_number v es ≡ Some old → new ≡ set_value (is_at (nat_cmp v)) es x →
    vertices_of new ≡ with_vertex (vertex_of_entry (v, x)) (vertices_of es)
written es new v old x whole at wrote =
    let some : IsSome (at_number v es) = rw at refl in
    ap vertices_of (wrote ∙ set_value-insert_entry es v x (rising es whole) some) ∙ shown-insert es v x

here : (es : List (ℕ × Content)) (v : ℕ) (old : Content) → at_number v es ≡ Some old → vertex_at v (vertices_of es) ≡ Some (vertex_of_entry (v, old))
here es v old at = vertex_at-vertices_of v es ∙ ap (option_map (λ x. vertex_of_entry (v, x))) at

pub vertices-set : (es new : List (ℕ × Content)) (v : ℕ) (p : List ℕ) (old x : Content) → IsTrue (is_graph (vertices_of es)) → at_number v es ≡ Some old →
    new ≡ set_value (is_at (nat_cmp v)) es x → x ≡ record old { payload = p } → vertices_of new ≡ apply (Set v p) (vertices_of es)
vertices-set es new v p old x whole at wrote is =
    written es new v old x whole at wrote ∙ ap (λ y. with_vertex (vertex_of_entry (v, y)) (vertices_of es)) is
    ∙ ap (λ o. set_vertex v (vertex_after (Set v p) o) (vertices_of es)) (sym (here es v old at))

pub vertices-put : (es new : List (ℕ × Content)) (v l d : ℕ) (p : List ℕ) (old x : Content) → IsTrue (is_graph (vertices_of es)) → at_number v es ≡ Some old →
    new ≡ set_value (is_at (nat_cmp v)) es x → x ≡ record old { lists = lists_after_put l d p old.lists } → vertices_of new ≡ apply (Put v l d p) (vertices_of es)
vertices-put es new v l d p old x whole at wrote is =
    written es new v old x whole at wrote ∙ ap (λ y. with_vertex (vertex_of_entry (v, y)) (vertices_of es)) is
    ∙ ap (λ o. set_vertex v (vertex_after (Put v l d p) o) (vertices_of es)) (sym (here es v old at))

pub vertices-del : (es new : List (ℕ × Content)) (v l d : ℕ) (old x : Content) → IsTrue (is_graph (vertices_of es)) → at_number v es ≡ Some old →
    new ≡ set_value (is_at (nat_cmp v)) es x → x ≡ record old { lists = lists_after_del l d old.lists } → vertices_of new ≡ apply (Del v l d) (vertices_of es)
vertices-del es new v l d old x whole at wrote is =
    written es new v old x whole at wrote ∙ ap (λ y. with_vertex (vertex_of_entry (v, y)) (vertices_of es)) is
    ∙ ap (λ o. set_vertex v (vertex_after (Del v l d) o) (vertices_of es)) (sym (here es v old at))

-- an entry that is written back as it was changes nothing
pub vertices-same : (es new : List (ℕ × Content)) (v : ℕ) (old x : Content) → at_number v es ≡ Some old → new ≡ set_value (is_at (nat_cmp v)) es x → x ≡ old → vertices_of new ≡ vertices_of es
vertices-same es new v old x at wrote is = ap vertices_of (wrote ∙ ap (set_value (is_at (nat_cmp v)) es) is ∙ set_value_same (is_at (nat_cmp v)) es old at)

-- a vertex that is there, and one that is not
pub here-some : (es : List (ℕ × Content)) (v : ℕ) (old : Content) → at_number v es ≡ Some old → is_some (vertex_at v (vertices_of es)) ≡ true
here-some es v old at = has-vertices_of v es ∙ ap is_some at

pub here-none : (es : List (ℕ × Content)) (v : ℕ) → at_number v es ≡ None → is_some (vertex_at v (vertices_of es)) ≡ false
here-none es v at = has-vertices_of v es ∙ ap is_some at

-- New fits where none is there
pub new-fits : (es : List (ℕ × Content)) (v : ℕ) (p : List ℕ) (b : Bool) → b ≡ is_some (at_number v es) → fits (New v p) (vertices_of es) ≡ not b
new-fits es v p b is = opposite (vertex_at v (vertices_of es)) ∙ ap not (has-vertices_of v es ∙ sym is)
  where
    opposite : (o : Option Vertex) → is_none o ≡ not (is_some o)
    opposite None = refl
    opposite (Some x) = refl

-- what an apply owes: where it was done,
pub applies-ok : (c : Change) (old new : List Vertex) → new ≡ apply c old → IsTrue (fits c old) → Applies c old new (Ok tt)
applies-ok c old new is fit = record { applied = is; fit = fit; unfit = λ e. (cc); unchanged = tt }

-- where the change does not fit,
pub applies-unfit : (c : Change) (old new : List Vertex) → fits c old ≡ false → new ≡ old → Applies c old new (Err Unfit)
applies-unfit c old new misfit same = record { applied = tt; fit = tt; unfit = λ e. misfit; unchanged = same }

-- and where memory ran out
pub applies-no_memory : (c : Change) (old new : List Vertex) (r : Result (Unit {0}) GraphRefusal) → IsErrAnd r (λ e. e ≡ NoMemory) → new ≡ old → Applies c old new r
applies-no_memory c old new (Ok u) want same = absurd want
applies-no_memory c old new (Err e) want same = record { applied = tt; fit = tt; unfit = λ is. (cc); unchanged = same }

-- a refusal that is passed on
pub passed_on : {T : Type 0} (r : Result T GraphRefusal) (e : GraphRefusal) → IsErrAnd r (λ f. f ≡ e) → IsErrOf r Unfit → e ≡ Unfit
passed_on (Ok x) e same is = absurd same
passed_on (Err f) e same is = (cc)

-- a graph of one vertex is what a Graph shows, where the vertex is from one
pub is_graph-alone : (es : List (ℕ × Content)) (v : ℕ) (x : Content) → IsTrue (is_graph (vertices_of es)) → at_number v es ≡ Some x → IsTrue (is_graph (vertex_of_entry (v, x) ∷ []))
is_graph-alone es v x whole at =
    let parts = and_parts (rise (map (λ (y : Vertex). y.number) (vertices_of es))) (list_all is_vertex (vertices_of es)) whole in
    let good : is_vertex (vertex_of_entry (v, x)) ≡ true = ap is_place (sym (here es v x at)) ∙ vertex_at-whole v (vertices_of es) parts.1 in
    grind (arith, nat_tests)

-- its vertex is the one that the entry shows
pub here-alone : (v : ℕ) (x : Content) → vertex_at v (vertex_of_entry (v, x) ∷ []) ≡ Some (vertex_of_entry (v, x))
here-alone v x = ap (λ b. cond b (Some (vertex_of_entry (v, x))) None) (eq-eqb v v refl)

pub vertices-alone : (old new : List (ℕ × Content)) (v : ℕ) (x y : Content) → new ≡ insert_entry nat_cmp old v x → old ≡ [] → x ≡ y → vertices_of new ≡ vertex_of_entry (v, y) ∷ []
vertices-alone old new v x y wrote none is =
    ap vertices_of wrote ∙ ap (λ es. vertices_of (insert_entry nat_cmp es v x)) none ∙ ap (λ z. vertex_of_entry (v, z) ∷ []) is

-- an entry that is put in its place shows its vertex there
pub vertices-insert : (es new : List (ℕ × Content)) (v : ℕ) (x : Content) → new ≡ insert_entry nat_cmp es v x → vertices_of new ≡ with_vertex (vertex_of_entry (v, x)) (vertices_of es)
vertices-insert es new v x wrote = ap vertices_of wrote ∙ shown-insert es v x

-- an entry of one graph, put into another, leaves what a Graph shows
pub is_graph-insert : (es other new : List (ℕ × Content)) (v : ℕ) (x : Content) → IsTrue (is_graph (vertices_of es)) → IsTrue (is_graph (vertices_of other)) → at_number v other ≡ Some x →
    new ≡ insert_entry nat_cmp es v x → IsTrue (is_graph (vertices_of new))
is_graph-insert es other new v x whole sound at wrote =
    let mine = and_parts (rise (map (λ (y : Vertex). y.number) (vertices_of es))) (list_all is_vertex (vertices_of es)) whole in
    let parts = and_parts (rise (map (λ (y : Vertex). y.number) (vertices_of other))) (list_all is_vertex (vertices_of other)) sound in
    let good : is_vertex (vertex_of_entry (v, x)) ≡ true = ap is_place (sym (here other v x at)) ∙ vertex_at-whole v (vertices_of other) parts.1 in
    ap is_graph (vertices-insert es new v x wrote ∙ with_vertex-placed (vertex_of_entry (v, x)) (vertices_of es))
    ∙ and_from _ _ (rise-placed (λ (y : Vertex). y.number) (vertex_of_entry (v, x)) (vertices_of es) mine.0)
    (list_all-placed (λ (y : Vertex). y.number) is_vertex (vertex_of_entry (v, x)) (vertices_of es) good mine.1)

-- the vertex of the entry is there, and the others as before
pub adopted-some : (es other new : List (ℕ × Content)) (v w : ℕ) (x : Content) → at_number v other ≡ Some x → new ≡ insert_entry nat_cmp es v x →
    vertex_at w (vertices_of new) ≡ cond (v == w) (vertex_at v (vertices_of other)) (vertex_at w (vertices_of es))
adopted-some es other new v w x at wrote =
    ap (vertex_at w) (vertices-insert es new v x wrote) ∙ vertex_at-with_vertex w (vertex_of_entry (v, x)) (vertices_of es)
    ∙ ap (λ o. cond (v == w) o (vertex_at w (vertices_of es))) (sym (here other v x at))

-- where the other graph has none, there is none
pub adopted-none : (es other new : List (ℕ × Content)) (v w : ℕ) → IsTrue (is_graph (vertices_of es)) → at_number v other ≡ None → new ≡ remove_entry (is_at (nat_cmp v)) es →
    vertex_at w (vertices_of new) ≡ cond (v == w) (vertex_at v (vertices_of other)) (vertex_at w (vertices_of es))
adopted-none es other new v w whole at gone =
    ap (vertex_at w) (vertices-drop es new v whole gone) ∙ vertex_at-apply w (Drop v) (vertices_of es)
    ∙ ap (λ o. cond (v == w) o (vertex_at w (vertices_of es))) (sym (vertex_at-vertices_of v other ∙ ap (option_map (λ x. vertex_of_entry (v, x))) at))
