-- Numbers that differ, and the vertices that changes make, with one more.
use Rattle.std.proofs.Common.{◌≡◌, ℕ, Bool, true, false, not, ◌&&◌, ◌||◌, List, [], ◌∷◌, ◌++◌, take, drop, refl, sym, ap, ◌∙◌, inl, inr, arith, append-nil}
use Rattle.std.specs.Prelude.{◌==◌}
use Rattle.std.specs.List.{list_any, list_all}
use Rattle.std.proofs.lemmas.Bool.{and_parts, and_from, cases_Bool}
use Rattle.std.proofs.lemmas.Bool.Decides.{nat_tests}
use Rattle.std.proofs.lemmas.List.{take-append-drop}
use Rattle.std.proofs.lemmas.List.Folds.{list_all-append, list_any-append}
use Rattle.std.proofs.lemmas.List.Concat.{flat_map-append}
use Rattle.graph_model.specs.declared.change.Change.{Change}
use Rattle.graph_model.specs.declared.change.Change.TheVariants.{New, Set, Drop, Put, Del}
use Rattle.graph_model.specs.declared.record.Record.{Record}
use Rattle.graph_model.specs.Records.{all_differ, all_changes, made_vertices}
use Rattle.group_codec.specs.Judging.{is_number, are_new}

-- whether a number is among these
abbrev pub is_in : ℕ → List ℕ → Bool
is_in v xs = list_any (λ w. w == v) xs

-- one number more
pub all_differ-push : (xs : List ℕ) (y : ℕ) → all_differ (xs ++ y ∷ []) ≡ (all_differ xs && not (is_in y xs))
all_differ-push [] y = refl
all_differ-push (x ∷ xs) y =
    let rest = all_differ-push xs y in
    let any = list_any-append (λ w. w == x) xs (y ∷ []) in
    let turned : (y == x) ≡ (x == y) = grind (arith, nat_tests) in
    rw (any, rest, turned) (join (is_in x xs) (x == y) (all_differ xs) (is_in y xs))
  where
    join : (a b c d : Bool) → (not (a || (b || false)) && (c && not d)) ≡ ((not a && c) && not (b || d))
    join a b c d = grind (arith, nat_tests)

-- the numbers of two lists differ where those of each do and none is in both
pub all_differ-append : (xs ys : List ℕ) → all_differ (xs ++ ys) ≡ ((all_differ xs && all_differ ys) && list_all (λ y. not (is_in y xs)) ys)
all_differ-append [] ys = sym (and_true (all_differ ys) (never ys))
  where
    never : (zs : List ℕ) → list_all (λ y. not false) zs ≡ true
    never [] = refl
    never (z ∷ zs) = never zs

    and_true : {b : Bool} (a : Bool) → b ≡ true → ((true && a) && b) ≡ a
    and_true true e = e
    and_true false e = refl
all_differ-append (x ∷ xs) ys =
    ap (λ b. not b && all_differ (xs ++ ys)) (list_any-append (λ w. w == x) xs ys)
    ∙ ap (λ b. not (is_in x xs || is_in x ys) && b) (all_differ-append xs ys)
    ∙ join (is_in x xs) (is_in x ys) (all_differ xs) (all_differ ys) (list_all (λ y. not (is_in y xs)) ys)
    ∙ ap (λ b. ((not (is_in x xs) && all_differ xs) && all_differ ys) && b) (sym (apart_from ys))
  where
    join : (a b c d e : Bool) → (not (a || b) && ((c && d) && e)) ≡ (((not a && c) && d) && (not b && e))
    join a b c d e = grind (arith, nat_tests)

    apart_from : (zs : List ℕ) → list_all (λ y. not ((x == y) || is_in y xs)) zs ≡ (not (is_in x zs) && list_all (λ y. not (is_in y xs)) zs)
    apart_from [] = refl
    apart_from (z ∷ zs) =
        let rest = apart_from zs in
        let turned : (x == z) ≡ (z == x) = grind (arith, nat_tests) in
        step (x == z) (z == x) (is_in z xs) (is_in x zs) (list_all (λ y. not (is_in y xs)) zs) (list_all (λ y. not ((x == y) || is_in y xs)) zs) turned rest
      where
        step : (a b c d e f : Bool) → a ≡ b → f ≡ (not d && e) → (not (a || c) && f) ≡ (not (b || d) && (not c && e))
        step a b c d e f p q = grind (arith, nat_tests)

-- numbers differ only where those of a front do
pub all_differ-front : (xs ys : List ℕ) → all_differ (xs ++ ys) ≡ true → all_differ xs ≡ true
all_differ-front [] ys h = refl
all_differ-front (x ∷ xs) ys h =
    let parts = and_parts (not (is_in x (xs ++ ys))) (all_differ (xs ++ ys)) h in
    let rest = all_differ-front xs ys parts.1 in
    let any = list_any-append (λ w. w == x) xs ys in
    let none : not (is_in x xs || is_in x ys) ≡ true = ap not (sym any) ∙ parts.0 in
    both (is_in x xs) (is_in x ys) (all_differ xs) none rest
  where
    both : (a b c : Bool) → not (a || b) ≡ true → c ≡ true → (not a && c) ≡ true
    both a b c p q = grind (arith, nat_tests)

pub made-append : (xs ys : List Change) → made_vertices (xs ++ ys) ≡ made_vertices xs ++ made_vertices ys
made-append [] ys = refl
made-append (New v p ∷ xs) ys = ap (λ r. v ∷ r) (made-append xs ys)
made-append (Set v p ∷ xs) ys = made-append xs ys
made-append (Drop v ∷ xs) ys = made-append xs ys
made-append (Put v l d p ∷ xs) ys = made-append xs ys
made-append (Del v l d ∷ xs) ys = made-append xs ys

are_new-push : (old now : ℕ → Bool) (xs : List ℕ) (v : ℕ) → now v ≡ (old v || is_in v xs) → are_new old (xs ++ v ∷ []) ≡ (are_new old xs && are_new now (v ∷ []))
are_new-push old now xs v known =
    let differ = all_differ-push xs v in
    let all = list_all-append (λ w. is_number w && not (old w)) xs (v ∷ []) in
    rw (differ, all, known) (join (all_differ xs) (is_in v xs) (list_all (λ w. is_number w && not (old w)) xs) (is_number v) (old v))
  where
    join : (a b c d e : Bool) → ((a && not b) && (c && ((d && not e) && true))) ≡ ((a && c) && (true && ((d && not (e || b)) && true)))
    join a b c d e = grind (arith, nat_tests)

makes_none : (old now : ℕ → Bool) (cs : List Change) (c : Change) → made_vertices (cs ++ c ∷ []) ≡ made_vertices cs → are_new old (made_vertices (cs ++ c ∷ [])) ≡ (are_new old (made_vertices cs) && true)
makes_none old now cs c same = ap (are_new old) same ∙ sym (and_true (are_new old (made_vertices cs)))
  where
    and_true : (b : Bool) → (b && true) ≡ b
    and_true true = refl
    and_true false = refl

-- one change more
pub are_new-step : (old now : ℕ → Bool) (cs : List Change) (c : Change) → ((v : ℕ) → now v ≡ (old v || is_in v (made_vertices cs))) →
    are_new old (made_vertices (cs ++ c ∷ [])) ≡ (are_new old (made_vertices cs) && are_new now (made_vertices (c ∷ [])))
are_new-step old now cs (New v p) known = ap (are_new old) (made-append cs (New v p ∷ [])) ∙ are_new-push old now (made_vertices cs) v (known v)
are_new-step old now cs (Set v p) known = makes_none old now cs (Set v p) (made-append cs (Set v p ∷ []) ∙ append-nil (made_vertices cs))
are_new-step old now cs (Drop v) known = makes_none old now cs (Drop v) (made-append cs (Drop v ∷ []) ∙ append-nil (made_vertices cs))
are_new-step old now cs (Put v l d p) known = makes_none old now cs (Put v l d p) (made-append cs (Put v l d p ∷ []) ∙ append-nil (made_vertices cs))
are_new-step old now cs (Del v l d) known = makes_none old now cs (Del v l d) (made-append cs (Del v l d ∷ []) ∙ append-nil (made_vertices cs))

pub is_in-step : (v : ℕ) (cs : List Change) (c : Change) → is_in v (made_vertices (cs ++ c ∷ [])) ≡ (is_in v (made_vertices cs) || is_in v (made_vertices (c ∷ [])))
is_in-step v cs c = ap (is_in v) (made-append cs (c ∷ [])) ∙ list_any-append (λ w. w == v) (made_vertices cs) (made_vertices (c ∷ []))

-- what a front does not keep the whole does not
pub are_new-front : (old : ℕ → Bool) (xs ys : List ℕ) → are_new old xs ≡ false → are_new old (xs ++ ys) ≡ false
are_new-front old xs ys h = elim (cases_Bool (are_new old (xs ++ ys))) [
  | inl kept ↦
      let parts = and_parts (all_differ (xs ++ ys)) (list_all (λ w. is_number w && not (old w)) (xs ++ ys)) kept in
      let all = and_parts (list_all (λ w. is_number w && not (old w)) xs) (list_all (λ w. is_number w && not (old w)) ys) (sym (list_all-append (λ w. is_number w && not (old w)) xs ys) ∙ parts.1) in
      let front = and_from (all_differ xs) (list_all (λ w. is_number w && not (old w)) xs) (all_differ-front xs ys parts.0) all.0 in
      (cc)
  | inr lost ↦ lost
]

pub are_new-stop : (old : ℕ → Bool) (cs : List Change) (i : ℕ) → are_new old (made_vertices (take i cs)) ≡ false → are_new old (made_vertices cs) ≡ false
are_new-stop old cs i h =
    let front = are_new-front old (made_vertices (take i cs)) (made_vertices (drop i cs)) h in
    ap (λ xs. are_new old (made_vertices xs)) (sym (take-append-drop i cs)) ∙ ap (are_new old) (made-append (take i cs) (drop i cs)) ∙ front

-- the changes of one record more
pub all_changes-append : (xs ys : List Record) → all_changes (xs ++ ys) ≡ all_changes xs ++ all_changes ys
all_changes-append xs ys = flat_map-append (λ r. r.changes) xs ys

pub all_changes-push : (xs : List Record) (r : Record) → all_changes (xs ++ r ∷ []) ≡ all_changes xs ++ r.changes
all_changes-push xs r = all_changes-append xs (r ∷ []) ∙ ap (λ cs. all_changes xs ++ cs) (append-nil r.changes)
