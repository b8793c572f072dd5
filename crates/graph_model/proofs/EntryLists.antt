-- The lists of a vertex, kept by label: what the map's entries show after each change of one of them.
use Rattle.std.proofs.Common.{◌≡◌, ℕ, true, false, List, [], ◌∷◌, map, length, refl, sym, ap, ◌∙◌, arith}
use Rattle.std.specs.Prelude.{◌==◌, Option, Some, None, unwrap_or, IsTrue}
use Rattle.std.specs.Option.{IsSome}
use Rattle.std.specs.Ordering.{nat_cmp}
use Rattle.std.specs.Map.{keys_of, lookup, remove_entry, set_value}
use Rattle.std.specs.BTreeMap.{insert_entry, is_at}
use Rattle.std.proofs.lemmas.Bool.{and_parts}
use Rattle.std.proofs.lemmas.Map.Steps.{set_value_same}
use Rattle.std.proofs.lemmas.Bool.Decides.{nat_tests}
use Rattle.graph_model.specs.declared.pairs.Pair.{Pair}
use Rattle.graph_model.specs.Vertex.{LabelList}
use Rattle.graph_model.specs.Graph.{pairs_in, without_pair, set_list, lists_after_put, lists_after_del}
use Rattle.graph_model.specs.Whole.{rise, are_lists}
use Rattle.graph_model.specs.MapEntries.{list_of, lists_of}
use Rattle.graph_model.proofs.Rising.{map-insert_entry, map-remove_entry, set_value-insert_entry, numbers-map}
use Rattle.graph_model.proofs.Wholes.{with_list-placed}

-- the entry under a label
abbrev pub at_label : ℕ → List (ℕ × List Pair) → Option (List Pair)
at_label l es = lookup (is_at (nat_cmp l)) es

-- the edges under a label are those of its entry
pub pairs_in-lists_of : (l : ℕ) (es : List (ℕ × List Pair)) → pairs_in (lists_of es) l ≡ unwrap_or (at_label l es) []
pairs_in-lists_of l [] = refl
pairs_in-lists_of l (e ∷ es) = let rest = pairs_in-lists_of l es in grind (arith, nat_tests)

-- the labels of what is shown are the keys
rising : (es : List (ℕ × List Pair)) → IsTrue (are_lists (lists_of es)) → rise (keys_of es) ≡ true
rising es whole =
    let parts = and_parts (rise (map (λ y. y.label) (lists_of es))) _ whole in
    ap rise (sym (numbers-map (λ (y : LabelList). y.label) list_of (λ e. refl) es)) ∙ parts.0

-- a list with edges that is set
shown-insert : (es : List (ℕ × List Pair)) (l : ℕ) (x : Pair) (pairs : List Pair) → lists_of (insert_entry nat_cmp es l (x ∷ pairs)) ≡ set_list l (x ∷ pairs) (lists_of es)
shown-insert es l x pairs =
    map-insert_entry (λ (y : LabelList). y.label) list_of (λ e. refl) es l (x ∷ pairs) ∙ sym (with_list-placed (list_of (l, x ∷ pairs)) (lists_of es))

shown-set : (es : List (ℕ × List Pair)) (l : ℕ) (x : Pair) (pairs old : List Pair) → IsTrue (are_lists (lists_of es)) → at_label l es ≡ Some old →
    lists_of (set_value (is_at (nat_cmp l)) es (x ∷ pairs)) ≡ set_list l (x ∷ pairs) (lists_of es)
shown-set es l x pairs old whole at =
    let some : IsSome (at_label l es) = rw at refl in
    ap lists_of (set_value-insert_entry es l (x ∷ pairs) (rising es whole) some) ∙ shown-insert es l x pairs

-- a put in a list that is there
pub lists-put_old : (es : List (ℕ × List Pair)) (l : ℕ) (x : Pair) (old : List Pair) → IsTrue (are_lists (lists_of es)) → at_label l es ≡ Some old →
    lists_of (set_value (is_at (nat_cmp l)) es (x ∷ without_pair x.d old)) ≡ lists_after_put l x.d x.p (lists_of es)
lists-put_old es l x old whole at =
    shown-set es l x (without_pair x.d old) old whole at
    ∙ ap (λ pairs. set_list l (x ∷ without_pair x.d pairs) (lists_of es)) (ap (λ o. unwrap_or o []) (sym at) ∙ sym (pairs_in-lists_of l es))

-- a put that makes the list
pub lists-put_new : (es : List (ℕ × List Pair)) (l : ℕ) (x : Pair) → at_label l es ≡ None →
    lists_of (insert_entry nat_cmp es l (x ∷ [])) ≡ lists_after_put l x.d x.p (lists_of es)
lists-put_new es l x at =
    shown-insert es l x []
    ∙ ap (λ pairs. set_list l (x ∷ without_pair x.d pairs) (lists_of es)) (ap (λ o. unwrap_or o []) (sym at) ∙ sym (pairs_in-lists_of l es))

remove-absent : (es : List (ℕ × List Pair)) (l : ℕ) → at_label l es ≡ None → remove_entry (is_at (nat_cmp l)) es ≡ es
remove-absent [] l at = refl
remove-absent (e ∷ es) l at = let rest = remove-absent es l in grind (arith, nat_tests)

remove-set : (es : List (ℕ × List Pair)) (l : ℕ) (pairs : List Pair) → remove_entry (is_at (nat_cmp l)) (set_value (is_at (nat_cmp l)) es pairs) ≡ remove_entry (is_at (nat_cmp l)) es
remove-set [] l pairs = refl
remove-set (e ∷ es) l pairs = let rest = remove-set es l pairs in grind (arith, nat_tests)

shown-remove : (es : List (ℕ × List Pair)) (l : ℕ) → IsTrue (are_lists (lists_of es)) → lists_of (remove_entry (is_at (nat_cmp l)) es) ≡ set_list l [] (lists_of es)
shown-remove es l whole = map-remove_entry (λ (y : LabelList). y.label) list_of (λ e. refl) es l (rising es whole)

-- a del where there is no list
pub lists-del_none : (es : List (ℕ × List Pair)) (l d : ℕ) → IsTrue (are_lists (lists_of es)) → at_label l es ≡ None → lists_of es ≡ lists_after_del l d (lists_of es)
lists-del_none es l d whole at =
    sym (ap lists_of (remove-absent es l at)) ∙ shown-remove es l whole
    ∙ ap (λ pairs. set_list l (without_pair d pairs) (lists_of es)) (ap (λ o. unwrap_or o []) (sym at) ∙ sym (pairs_in-lists_of l es))

after_del : (es : List (ℕ × List Pair)) (l d : ℕ) (old pairs : List Pair) → at_label l es ≡ Some old → pairs ≡ without_pair d old → set_list l pairs (lists_of es) ≡ lists_after_del l d (lists_of es)
after_del es l d old pairs at is =
    ap (λ left. set_list l left (lists_of es)) is
    ∙ ap (λ left. set_list l (without_pair d left) (lists_of es)) (ap (λ o. unwrap_or o []) (sym at) ∙ sym (pairs_in-lists_of l es))

-- a del that empties its list
pub lists-del_last : (es : List (ℕ × List Pair)) (l d : ℕ) (old : List Pair) → IsTrue (are_lists (lists_of es)) → at_label l es ≡ Some old → without_pair d old ≡ [] →
    lists_of (remove_entry (is_at (nat_cmp l)) (set_value (is_at (nat_cmp l)) es (without_pair d old))) ≡ lists_after_del l d (lists_of es)
lists-del_last es l d old whole at none =
    ap lists_of (remove-set es l (without_pair d old)) ∙ shown-remove es l whole ∙ after_del es l d old [] at (sym none)

-- a del that leaves edges
pub lists-del_one : (es : List (ℕ × List Pair)) (l d : ℕ) (old left : List Pair) → IsTrue (are_lists (lists_of es)) → at_label l es ≡ Some old → left ≡ without_pair d old → (length left == 0) ≡ false →
    lists_of (set_value (is_at (nat_cmp l)) es left) ≡ lists_after_del l d (lists_of es)
lists-del_one es l d old [] whole at is some = let no : true ≡ false = some in (cc)
lists-del_one es l d old (x ∷ left) whole at is some = shown-set es l x left old whole at ∙ after_del es l d old (x ∷ left) at is

-- what a list that is written where it stands shows: after a put, and after one that was refused
pub lists-put_through : (es new : List (ℕ × List Pair)) (l : ℕ) (x : Pair) (old w : List Pair) → IsTrue (are_lists (lists_of es)) → at_label l es ≡ Some old →
    new ≡ set_value (is_at (nat_cmp l)) es w → w ≡ x ∷ without_pair x.d old → lists_of new ≡ lists_after_put l x.d x.p (lists_of es)
lists-put_through es new l x old w whole at wrote is = ap lists_of (wrote ∙ ap (set_value (is_at (nat_cmp l)) es) is) ∙ lists-put_old es l x old whole at

pub lists-unchanged : (es new : List (ℕ × List Pair)) (l : ℕ) (old w : List Pair) → at_label l es ≡ Some old →
    new ≡ set_value (is_at (nat_cmp l)) es w → w ≡ old → lists_of new ≡ lists_of es
lists-unchanged es new l old w at wrote is = ap lists_of (wrote ∙ ap (set_value (is_at (nat_cmp l)) es) is ∙ set_value_same (is_at (nat_cmp l)) es old at)

-- a list that is made
pub lists-put_insert : (es new : List (ℕ × List Pair)) (l : ℕ) (x : Pair) (w : List Pair) → at_label l es ≡ None →
    new ≡ insert_entry nat_cmp es l w → w ≡ x ∷ without_pair x.d [] → lists_of new ≡ lists_after_put l x.d x.p (lists_of es)
lists-put_insert es new l x w at wrote is = ap lists_of (wrote ∙ ap (insert_entry nat_cmp es l) is) ∙ lists-put_new es l x at

-- the same for a del
pub lists-del_through : (es new : List (ℕ × List Pair)) (l d : ℕ) (old w : List Pair) → IsTrue (are_lists (lists_of es)) → at_label l es ≡ Some old →
    new ≡ set_value (is_at (nat_cmp l)) es w → w ≡ without_pair d old → (length w == 0) ≡ false → lists_of new ≡ lists_after_del l d (lists_of es)
lists-del_through es new l d old w whole at wrote is some = ap lists_of wrote ∙ lists-del_one es l d old w whole at is some

pub lists-del_emptied : (es set new : List (ℕ × List Pair)) (l d : ℕ) (old w : List Pair) → IsTrue (are_lists (lists_of es)) → at_label l es ≡ Some old →
    set ≡ set_value (is_at (nat_cmp l)) es w → w ≡ without_pair d old → (length w == 0) ≡ true → new ≡ remove_entry (is_at (nat_cmp l)) set →
    lists_of new ≡ lists_after_del l d (lists_of es)
lists-del_emptied es set new l d old w whole at wrote is empty gone =
    ap lists_of (gone ∙ ap (remove_entry (is_at (nat_cmp l))) (wrote ∙ ap (set_value (is_at (nat_cmp l)) es) is)) ∙ lists-del_last es l d old whole at (sym is ∙ none w empty)
  where
    none : (xs : List Pair) → (length xs == 0) ≡ true → xs ≡ []
    none [] e = refl
    none (x ∷ xs) e = absurd (grind (arith, nat_tests))
