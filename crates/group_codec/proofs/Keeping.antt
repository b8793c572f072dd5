-- The rules that one record more can break: kept with it exactly where each of its tests is passed.
use Rattle.std.proofs.Common.{◌≡◌, ℕ, ◌+◌, ◌<◌, Bool, true, false, not, ◌&&◌, ◌||◌, List, [], ◌∷◌, ◌++◌, length, map, take, drop, get_or, refl, sym, ap, subst, ◌∙◌, arith, append-nil, append_assoc}
use Rattle.std.specs.Prelude.{◌==◌, nat_lt, nat_le}
use Rattle.std.specs.List.{list_any, list_all}
use Rattle.std.proofs.lemmas.Bool.{and_parts, and_from, not-true, not_from_false, ltb-true, le-leb, eqb-true}
use Rattle.std.proofs.lemmas.Bool.Decides.{nat_tests}
use Rattle.std.proofs.lemmas.List.{map-append, take-append-drop}
use Rattle.std.proofs.lemmas.List.Folds.{list_all-append, list_any-append}
use Rattle.graph_model.specs.declared.record.Record.{Record}
use Rattle.graph_model.specs.Vertex.{Vertex}
use Rattle.graph_model.specs.Change.{encoded_lens}
use Rattle.graph_model.specs.Graph.{after, all_fit, fits_at}
use Rattle.graph_model.specs.Records.{all_differ, all_changes, made_vertices, keep_apart, apart, is_record, number_end, transaction_most, has_destination}
use Rattle.graph_model.proofs.Snapshots.{drop-item}
use Rattle.graph_model.proofs.Fitting.{take-item}
use Rattle.graph_model.proofs.Vertices.{after-append, each_step-append}
use Rattle.group_codec.specs.declared.judge.Judge.{Judge}
use Rattle.group_codec.specs.Judging.{is_number, KeepRules, Knows, Judged, are_new, none_later}
use Rattle.group_codec.proofs.Lists.{all_same, all_both, all_more, all_front, all_back, any_map}
use Rattle.group_codec.proofs.Making.{is_in, all_differ-push, all_differ-append, made-append, all_changes-push}
use Rattle.group_codec.proofs.Apart.{apart-push}

-- the vertices that these records made
abbrev pub made_by : List Record → List ℕ
made_by rs = made_vertices (all_changes rs)

-- whether the number of a transaction is that of one of these records
abbrev pub has_number : ℕ → List Record → Bool
has_number t rs = list_any (λ s. s.tid == t) rs

-- A record passes each test behind these records.
pub record Passes (rs : List Record) (r : Record) : Type 0 where
  pub limits : is_record 0 1 r ≡ true
  pub number : has_number r.tid rs ≡ false
  pub made : are_new (λ v. is_in v (made_by rs)) (made_vertices r.changes) ≡ true
  pub fit : all_fit r.changes (after (all_changes rs) []) ≡ true
  pub apart : list_all (λ s. keep_apart s r) rs ≡ true

numbers-push : (rs : List Record) (r : Record) → all_differ (map (λ s. s.tid) (rs ++ r ∷ [])) ≡ (all_differ (map (λ s. s.tid) rs) && not (has_number r.tid rs))
numbers-push rs r =
    ap all_differ (map-append (λ s. s.tid) rs (r ∷ [])) ∙ all_differ-push (map (λ s. s.tid) rs) r.tid
    ∙ ap (λ b. all_differ (map (λ s. s.tid) rs) && not b) (any_map (λ s. s.tid) (λ t. t == r.tid) rs)

made-push : (rs : List Record) (r : Record) → made_by (rs ++ r ∷ []) ≡ made_by rs ++ made_vertices r.changes
made-push rs r = ap made_vertices (all_changes-push rs r) ∙ made-append (all_changes rs) r.changes

fit-push : (rs : List Record) (r : Record) → all_fit (all_changes (rs ++ r ∷ [])) [] ≡ (all_fit (all_changes rs) [] && all_fit r.changes (after (all_changes rs) []))
fit-push rs r = let none : List Vertex = [] in ap (λ cs. all_fit cs none) (all_changes-push rs r) ∙ each_step-append fits_at (all_changes rs) r.changes none

pub after-push : (rs : List Record) (r : Record) → after (all_changes (rs ++ r ∷ [])) [] ≡ after r.changes (after (all_changes rs) [])
after-push rs r = let none : List Vertex = [] in ap (λ cs. after cs none) (all_changes-push rs r) ∙ after-append (all_changes rs) r.changes none

-- what are_new asks
new-parts : (rs : List Record) (r : Record) → are_new (λ v. is_in v (made_by rs)) (made_vertices r.changes) ≡
    (all_differ (made_vertices r.changes) && (list_all is_number (made_vertices r.changes) && list_all (λ v. not (is_in v (made_by rs))) (made_vertices r.changes)))
new-parts rs r = ap (λ b. all_differ (made_vertices r.changes) && b) (all_both is_number (λ v. not (is_in v (made_by rs))) (made_vertices r.changes))

-- A record that passes its tests keeps the rules,
pub keep-more : (rs : List Record) (r : Record) → KeepRules rs → Passes rs r → KeepRules (rs ++ r ∷ [])
keep-more rs r keep pass =
    let m = made_vertices r.changes in
    let new = and_parts (all_differ m) _ (sym (new-parts rs r) ∙ pass.made) in
    let each = and_parts (list_all is_number m) (list_all (λ v. not (is_in v (made_by rs))) m) new.1 in
    record {
      each = list_all-append (is_record 0 1) rs (r ∷ []) ∙ and_from _ _ keep.each (and_from _ _ pass.limits refl);
      numbers = numbers-push rs r ∙ and_from _ _ keep.numbers (not_from_false _ pass.number);
      made = ap (list_all is_number) (made-push rs r) ∙ list_all-append is_number (made_by rs) m ∙ and_from _ _ keep.made each.0;
      made_once = ap all_differ (made-push rs r) ∙ all_differ-append (made_by rs) m ∙ and_from _ _ (and_from _ _ keep.made_once new.0) each.1;
      fit = fit-push rs r ∙ and_from _ _ keep.fit pass.fit;
      no_overlap = apart-push rs r ∙ and_from _ _ keep.no_overlap pass.apart;
    }

-- and one that keeps them passes its tests.
pub keep-less : (rs : List Record) (r : Record) → KeepRules (rs ++ r ∷ []) → KeepRules rs × Passes rs r
keep-less rs r keep =
    let m = made_vertices r.changes in
    let each = and_parts (list_all (is_record 0 1) rs) (is_record 0 1 r && true) (sym (list_all-append (is_record 0 1) rs (r ∷ [])) ∙ keep.each) in
    let numbers = and_parts (all_differ (map (λ s. s.tid) rs)) (not (has_number r.tid rs)) (sym (numbers-push rs r) ∙ keep.numbers) in
    let made = and_parts (list_all is_number (made_by rs)) (list_all is_number m) (sym (list_all-append is_number (made_by rs) m) ∙ ap (list_all is_number) (sym (made-push rs r)) ∙ keep.made) in
    let once = and_parts (all_differ (made_by rs) && all_differ m) (list_all (λ v. not (is_in v (made_by rs))) m) (sym (all_differ-append (made_by rs) m) ∙ ap all_differ (sym (made-push rs r)) ∙ keep.made_once) in
    let differ = and_parts (all_differ (made_by rs)) (all_differ m) once.0 in
    let fit = and_parts (all_fit (all_changes rs) []) (all_fit r.changes (after (all_changes rs) [])) (sym (fit-push rs r) ∙ keep.fit) in
    let aparts = and_parts (apart rs) (list_all (λ s. keep_apart s r) rs) (sym (apart-push rs r) ∙ keep.no_overlap) in (
      record { each = each.0; numbers = numbers.0; made = made.0; made_once = differ.0; fit = fit.0; no_overlap = aparts.0 },
      record {
        limits = (and_parts (is_record 0 1 r) true each.1).0;
        number = not-true _ numbers.1;
        made = new-parts rs r ∙ and_from _ _ differ.1 (and_from _ _ made.1 once.1);
        fit = fit.1;
        apart = aparts.1;
      },
    )

-- what a record within its limits keeps
pub record-read : (r : Record) → is_record 0 1 r ≡ true → r.read < r.epoch
record-read r ok =
    let one = and_parts (nat_le 1 r.tid && nat_lt r.tid number_end && nat_le 0 r.read && nat_lt r.read r.epoch && nat_lt r.epoch number_end && nat_lt 0 (length r.changes) && nat_le (encoded_lens r.changes) transaction_most) (list_all has_destination r.changes) ok in
    let two = and_parts (nat_le 1 r.tid && nat_lt r.tid number_end && nat_le 0 r.read && nat_lt r.read r.epoch && nat_lt r.epoch number_end && nat_lt 0 (length r.changes)) (nat_le (encoded_lens r.changes) transaction_most) one.0 in
    let three = and_parts (nat_le 1 r.tid && nat_lt r.tid number_end && nat_le 0 r.read && nat_lt r.read r.epoch && nat_lt r.epoch number_end) (nat_lt 0 (length r.changes)) two.0 in
    let four = and_parts (nat_le 1 r.tid && nat_lt r.tid number_end && nat_le 0 r.read && nat_lt r.read r.epoch) (nat_lt r.epoch number_end) three.0 in
    ltb-true r.read r.epoch (and_parts (nat_le 1 r.tid && nat_lt r.tid number_end && nat_le 0 r.read) (nat_lt r.read r.epoch) four.0).1

-- the rules are kept by each front
pub keep-front : (rs xs : List Record) → KeepRules (rs ++ xs) → KeepRules rs
keep-front rs [] keep = subst KeepRules (append-nil rs) keep
keep-front rs (x ∷ xs) keep = (keep-less rs x (keep-front (rs ++ x ∷ []) xs (subst KeepRules (sym (append_assoc rs (x ∷ []) xs)) keep))).0

-- what is new to a set is new to the records that it knows
pub are_new-same : (f g : ℕ → Bool) (xs : List ℕ) → ((v : ℕ) → f v ≡ g v) → are_new f xs ≡ are_new g xs
are_new-same f g xs same = ap (λ b. all_differ xs && b) (all_same (λ v. is_number v && not (f v)) (λ v. is_number v && not (g v)) xs (λ v. ap (λ b. is_number v && not b) (same v)))

-- the numbers and the made vertices that are known, with one record more
pub known-numbers : (old new : ℕ → Bool) (rs : List Record) (r : Record) → ((t : ℕ) → old t ≡ has_number t rs) → ((t : ℕ) → new t ≡ ((r.tid == t) || old t)) → (t : ℕ) → new t ≡ has_number t (rs ++ r ∷ [])
known-numbers old new rs r known noted t =
    noted t ∙ ap (λ b. (r.tid == t) || b) (known t) ∙ turned (r.tid == t) (has_number t rs) ∙ sym (list_any-append (λ s. s.tid == t) rs (r ∷ []))
  where
    turned : (a b : Bool) → (a || b) ≡ (b || (a || false))
    turned a b = grind (arith, nat_tests)

pub known-made : (old new : ℕ → Bool) (rs : List Record) (r : Record) → ((v : ℕ) → old v ≡ is_in v (made_by rs)) → ((v : ℕ) → new v ≡ (old v || is_in v (made_vertices r.changes))) → (v : ℕ) → new v ≡ is_in v (made_by (rs ++ r ∷ []))
known-made old new rs r known noted v =
    noted v ∙ ap (λ b. b || is_in v (made_vertices r.changes)) (known v) ∙ sym (list_any-append (λ w. w == v) (made_by rs) (made_vertices r.changes)) ∙ ap (is_in v) (sym (made-push rs r))

-- a judgement by cases
pub Judged-by : (kept : Bool) (judge : Judge) (rs : List Record) → (kept ≡ true → Knows judge rs × KeepRules rs) → (kept ≡ false → KeepRules rs → ⊥) → Judged kept judge rs
Judged-by true judge rs held lost = held refl
Judged-by false judge rs held lost = lost refl

-- records of one epoch are not later than it
pub none_later-with : (epoch i : ℕ) (before xs : List Record) → none_later epoch before ≡ true → list_all (λ r. r.epoch == epoch) xs ≡ true → none_later epoch (before ++ take i xs) ≡ true
none_later-with epoch i before xs later same =
    list_all-append (λ s. nat_le s.epoch epoch) before (take i xs)
    ∙ and_from _ _ later (all_more (λ r. r.epoch == epoch) (λ s. nat_le s.epoch epoch) (take i xs) (λ r e. le-leb r.epoch epoch (omega (arith, eqb-true r.epoch epoch e)))
    (all_front (λ r. r.epoch == epoch) (take i xs) (drop i xs) (ap (list_all (λ r. r.epoch == epoch)) (take-append-drop i xs) ∙ same)))

-- and each of them has it
pub epoch-of : (epoch i : ℕ) (r : Record) (xs : List Record) → i < length xs → r ≡ get_or xs i r → list_all (λ s. s.epoch == epoch) xs ≡ true → r.epoch ≡ epoch
epoch-of epoch i r xs within is same =
    let tail = all_back (λ s. s.epoch == epoch) (take i xs) (drop i xs) (ap (list_all (λ s. s.epoch == epoch)) (take-append-drop i xs) ∙ same) in
    let first = ap (list_all (λ s. s.epoch == epoch)) (sym (drop-item xs i r within is)) ∙ tail in
    eqb-true r.epoch epoch (and_parts (r.epoch == epoch) _ first).0

-- one record more is a front of the whole
pub more-front : (i : ℕ) (r : Record) (before xs : List Record) → i < length xs → r ≡ get_or xs i r → (before ++ take i xs) ++ r ∷ [] ≡ before ++ take (i + 1) xs
more-front i r before xs within is = append_assoc before (take i xs) (r ∷ []) ∙ ap (λ ys. before ++ ys) (sym (take-item xs i r within is))

pub keep-take : (i : ℕ) (before xs : List Record) → KeepRules (before ++ xs) → KeepRules (before ++ take i xs)
keep-take i before xs keep =
    keep-front (before ++ take i xs) (drop i xs) (subst KeepRules (ap (λ ys. before ++ ys) (sym (take-append-drop i xs)) ∙ sym (append_assoc before (take i xs) (drop i xs))) keep)
