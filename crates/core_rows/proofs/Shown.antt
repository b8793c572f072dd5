-- Whether edges to a destination are shown.
use Rattle.std.proofs.Common.{◌≡◌, ℕ, List, [], ◌∷◌, map, length, refl, sym, ap, ◌∙◌, arith, true, false}
use Rattle.std.specs.Prelude.{◌==◌, nat_lt, is_some, Bool, Option, Some, None}
use Rattle.std.specs.List.{list_any, list_all}
use Rattle.std.specs.Option.{option_map}
use Rattle.std.proofs.lemmas.Bool.{and_parts}
use Rattle.std.proofs.lemmas.Bool.Decides.{nat_tests}
use Rattle.graph_model.specs.declared.pairs.Pair.{Pair}
use Rattle.graph_model.specs.Graph.{pair_to, pairs_in}
use Rattle.graph_model.specs.Vertex.{LabelList}
use Rattle.graph_model.specs.Whole.{rise}
use Rattle.stamps.specs.Stamps.{Reader, counts}
use Rattle.edge_log.specs.Entries.{shown}
use Rattle.edge_log.specs.Contents.{LogContent}
use Rattle.vertex_versions.specs.declared.version.Version.{Version}
use Rattle.vertex_versions.specs.Versions.{payload_at}
use Rattle.core_rows.specs.Rows.{LabelLog, log_at, has_pairs, shown_lists, newest, is_there, living_vertex}
use Rattle.core_rows.specs.LogMap.{logs_of}

-- there is a pair of d exactly where one of the pairs has it
pub has_pair : (d : ℕ) (xs : List Pair) → is_some (pair_to d xs) ≡ list_any (λ x. x.d == d) xs
has_pair d [] = refl
has_pair d (x ∷ xs) = let rest = has_pair d xs in grind (arith, nat_tests)

-- The lists that a row shows are those that its logs show.
has_pairs-length : (xs : List Pair) → has_pairs xs ≡ nat_lt 0 (length xs)
has_pairs-length [] = refl
has_pairs-length (x ∷ xs) = grind (arith, nat_tests)

no_pairs : (xs : List Pair) → has_pairs xs ≡ false → xs ≡ []
no_pairs [] none = refl
no_pairs (x ∷ xs) none = let no : true ≡ false = none in (cc)

abbrev shown_list : ℕ → Reader → LabelLog → LabelList
shown_list e who x = record { label = x.label; pairs = shown x.log.entries e who }

-- below the first label no list is shown
pairs_in-above : (logs : List LabelLog) (l e : ℕ) (who : Reader) → list_all (nat_lt l) (map (λ x. x.label) logs) ≡ true → pairs_in (shown_lists logs e who) l ≡ []
pairs_in-above [] l e who all = refl
pairs_in-above (x ∷ logs) l e who all =
    let parts = and_parts (nat_lt l x.label) (list_all (nat_lt l) (map (λ y. y.label) logs)) all in
    let rest = pairs_in-above logs l e who parts.1 in
    grind (arith, nat_tests, rest, parts.0)

pub pairs_in-shown_lists : (logs : List LabelLog) (l e : ℕ) (who : Reader) → rise (map (λ x. x.label) logs) ≡ true → pairs_in (shown_lists logs e who) l ≡ shown (log_at logs l).entries e who
pairs_in-shown_lists [] l e who up = refl
pairs_in-shown_lists (x ∷ logs) l e who up =
    let parts = and_parts (list_all (nat_lt x.label) (map (λ y. y.label) logs)) (rise (map (λ y. y.label) logs)) up in
    let rest = pairs_in-shown_lists logs l e who parts.1 in
    let above : x.label ≡ l → pairs_in (shown_lists logs e who) l ≡ [] = λ same. pairs_in-above logs l e who (ap (λ n. list_all (nat_lt n) (map (λ y. y.label) logs)) (sym same) ∙ parts.0) in
    let none = no_pairs (shown x.log.entries e who) in
    grind (arith, nat_tests, rest, above, none)

-- a label more is shown where its log shows an edge
pub labels_more : (es : List (ℕ × LogContent)) (l e : ℕ) (who : Reader) (log : LogContent) → nat_lt 0 (length (shown log.entries e who)) ≡ true →
    map (λ y. y.label) (shown_lists (logs_of ((l, log) ∷ es)) e who) ≡ l ∷ map (λ y. y.label) (shown_lists (logs_of es) e who)
labels_more es l e who log some = let has = has_pairs-length (shown log.entries e who) in grind (arith, has, some)

pub labels_passed : (es : List (ℕ × LogContent)) (l e : ℕ) (who : Reader) (log : LogContent) → nat_lt 0 (length (shown log.entries e who)) ≡ false →
    map (λ y. y.label) (shown_lists (logs_of ((l, log) ∷ es)) e who) ≡ map (λ y. y.label) (shown_lists (logs_of es) e who)
labels_passed es l e who log none = let has = has_pairs-length (shown log.entries e who) in grind (arith, has, none)

-- The vertex is there exactly where the newest version that counts has a payload.
pub is_there-payload : (versions : List Version) (e : ℕ) (who : Reader) → is_there (newest versions e who) ≡ is_some (payload_at versions e who)
is_there-payload [] e who = refl
is_there-payload (x ∷ versions) e who = let rest = is_there-payload versions e who in by_content (counts x.created e who) x.content refl refl rest
  where
    by_content : (b : Bool) (o : Option (List ℕ)) → counts x.created e who ≡ b → x.content ≡ o → is_there (newest versions e who) ≡ is_some (payload_at versions e who)
        → is_there (newest (x ∷ versions) e who) ≡ is_some (payload_at (x ∷ versions) e who)
    by_content true None b o rest = grind (arith, b, o)
    by_content true (Some p) b o rest = grind (arith, b, o)
    by_content false o b is rest = grind (arith, b, rest)

pub living-payload : (v : ℕ) (versions : List Version) (lists : List LabelList) (e : ℕ) (who : Reader) →
    living_vertex v (newest versions e who) lists ≡ option_map (λ p. record { number = v; payload = p; lists = lists }) (payload_at versions e who)
living-payload v [] lists e who = refl
living-payload v (x ∷ versions) lists e who = let rest = living-payload v versions lists e who in by_content (counts x.created e who) x.content refl refl rest
  where
    by_content : (b : Bool) (o : Option (List ℕ)) → counts x.created e who ≡ b → x.content ≡ o → living_vertex v (newest versions e who) lists ≡ option_map (λ p. record { number = v; payload = p; lists = lists }) (payload_at versions e who)
        → living_vertex v (newest (x ∷ versions) e who) lists ≡ option_map (λ p. record { number = v; payload = p; lists = lists }) (payload_at (x ∷ versions) e who)
    by_content true None b o rest = grind (arith, b, o)
    by_content true (Some p) b o rest = grind (arith, b, o)
    by_content false o b is rest = grind (arith, b, rest)
