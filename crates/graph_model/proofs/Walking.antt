-- What a walk over a graph finds, told by the maps that keep it.
use Rattle.std.proofs.Common.{◌≡◌, ℕ, ◌+◌, true, List, [], ◌∷◌, map, refl, sym, ap, ◌∙◌, arith}
use Rattle.std.specs.Prelude.{Option, Some, None, IsTrue, nat_lt, ◌&&◌, unwrap_or, length}
use Rattle.std.specs.Option.{option_map}
use Rattle.std.specs.List.{list_all}
use Rattle.std.specs.Ordering.{nat_cmp}
use Rattle.std.specs.Map.{keys_of}
use Rattle.std.specs.BTreeMap.Range.{entries_between}
use Rattle.std.specs.declared.ops.Bound.TheVariants.{Included, Excluded, Unbounded}
use Rattle.std.proofs.lemmas.Bool.{and_parts}
use Rattle.std.proofs.lemmas.Bool.Decides.{nat_tests}
use Rattle.graph_model.specs.declared.pairs.Pair.{Pair}
use Rattle.graph_model.specs.Vertex.{Vertex, LabelList}
use Rattle.graph_model.specs.Graph.{vertex_at, pairs_in}
use Rattle.graph_model.specs.Whole.{rise, are_pairs, are_lists}
use Rattle.graph_model.specs.MapEntries.{Content, list_of, lists_of, vertex_of_entry, vertices_of}
use Rattle.graph_model.specs.Walking.{first_from, numbers_of, where_any}
use Rattle.graph_model.proofs.Rising.{numbers-map}
use Rattle.graph_model.proofs.EntryLists.{at_label, pairs_in-lists_of}
use Rattle.graph_model.proofs.GraphEntries.{at_number, vertex_at-vertices_of}

-- the key of the first entry
first_key : {X : Type 0} → List (ℕ × X) → Option ℕ
first_key [] = None
first_key (e ∷ es) = Some e.0

-- the first entry from a key on has the first key that is at least that
first-between : {X : Type 0} (n : ℕ) (es : List (ℕ × X)) → first_key (entries_between nat_cmp (Included n) Unbounded es) ≡ first_from n (keys_of es)
unfolding first_key
first-between n [] = refl
first-between n (e ∷ es) = let rest = first-between n es in grind (arith, nat_tests)

-- and the first one above it the first key that is at least one more
first-above : {X : Type 0} (n : ℕ) (es : List (ℕ × X)) → first_key (entries_between nat_cmp (Excluded n) Unbounded es) ≡ first_from (n + 1) (keys_of es)
unfolding first_key
first-above n [] = refl
first-above n (e ∷ es) = let rest = first-above n es in grind (arith, nat_tests)

pub first-none : {X : Type 0} (n : ℕ) (es part : List (ℕ × X)) → part ≡ entries_between nat_cmp (Included n) Unbounded es → part ≡ [] → None ≡ first_from n (keys_of es)
unfolding first_key
first-none n es part is none = sym (ap first_key none) ∙ ap first_key is ∙ first-between n es

pub first-some : {X : Type 0} (n k : ℕ) (x : X) (es part rest : List (ℕ × X)) → part ≡ entries_between nat_cmp (Included n) Unbounded es → part ≡ (k, x) ∷ rest → Some k ≡ first_from n (keys_of es)
unfolding first_key
first-some n k x es part rest is first = sym (ap first_key first) ∙ ap first_key is ∙ first-between n es

pub above-none : {X : Type 0} (n : ℕ) (es part : List (ℕ × X)) → part ≡ entries_between nat_cmp (Excluded n) Unbounded es → part ≡ [] → None ≡ first_from (n + 1) (keys_of es)
unfolding first_key
above-none n es part is none = sym (ap first_key none) ∙ ap first_key is ∙ first-above n es

pub above-some : {X : Type 0} (n k : ℕ) (x : X) (es part rest : List (ℕ × X)) → part ≡ entries_between nat_cmp (Excluded n) Unbounded es → part ≡ (k, x) ∷ rest → Some k ≡ first_from (n + 1) (keys_of es)
unfolding first_key
above-some n k x es part rest is first = sym (ap first_key first) ∙ ap first_key is ∙ first-above n es

-- the numbers of the vertices are the keys, and so are the labels
pub numbers-vertices_of : (es : List (ℕ × Content)) → numbers_of (vertices_of es) ≡ keys_of es
numbers-vertices_of es = numbers-map (λ (y : Vertex). y.number) vertex_of_entry (λ e. refl) es

pub labels-lists_of : (es : List (ℕ × List Pair)) → map (λ y. y.label) (lists_of es) ≡ keys_of es
labels-lists_of es = numbers-map (λ (y : LabelList). y.label) list_of (λ e. refl) es

-- what stands in the place of a vertex
pub here : (v : ℕ) (es : List (ℕ × Content)) (o : Option Content) → o ≡ at_number v es → vertex_at v (vertices_of es) ≡ option_map (λ x. vertex_of_entry (v, x)) o
here v es o is = vertex_at-vertices_of v es ∙ ap (option_map (λ x. vertex_of_entry (v, x))) (sym is)

-- a list that is kept has edges
some_edges : (l : ℕ) (es : List (ℕ × List Pair)) (pairs : List Pair) → list_all (λ y. nat_lt 0 (length y.pairs) && are_pairs y.pairs) (lists_of es) ≡ true → Some pairs ≡ at_label l es → where_any pairs ≡ Some pairs
some_edges l [] pairs all at = (cc)
some_edges l (e ∷ es) pairs all at =
    let parts = and_parts (nat_lt 0 (length e.1) && are_pairs e.1) (list_all (λ y. nat_lt 0 (length y.pairs) && are_pairs y.pairs) (lists_of es)) all in
    let rest = some_edges l es pairs parts.1 in
    let first = any_edges e.1 (and_parts (nat_lt 0 (length e.1)) (are_pairs e.1) parts.0).0 in
    grind (arith, nat_tests)
  where
    any_edges : (xs : List Pair) → nat_lt 0 (length xs) ≡ true → where_any xs ≡ Some xs
    any_edges [] lt = (cc)
    any_edges (x ∷ xs) lt = refl

-- so the edges under a label are those of its entry, and there are some where it is there
pub pairs-entry : (l : ℕ) (es : List (ℕ × List Pair)) (o : Option (List Pair)) → IsTrue (are_lists (lists_of es)) → o ≡ at_label l es → o ≡ where_any (pairs_in (lists_of es) l)
pairs-entry l es None whole at = sym (ap where_any (pairs_in-lists_of l es ∙ ap (λ p. unwrap_or p []) (sym at)))
pairs-entry l es (Some pairs) whole at =
    let parts = and_parts (rise (map (λ y. y.label) (lists_of es))) _ whole in
    sym (ap where_any (pairs_in-lists_of l es ∙ ap (λ p. unwrap_or p []) (sym at)) ∙ some_edges l es pairs parts.1 at)
