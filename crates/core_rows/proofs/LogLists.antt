-- The logs of a row, kept by label: what the map's entries show after each change of one of them.
use Rattle.std.proofs.Common.{◌≡◌, ℕ, List, [], ◌∷◌, map, refl, sym, ap, ◌∙◌, arith}
use Rattle.std.specs.Prelude.{◌==◌, if◌then◌else◌, Option, Some, None, unwrap_or, Bool, true, false, Result, Ok, Err, IfOk, OnOk, OnErr}
use Rattle.std.specs.Option.{IsSome}
use Rattle.std.specs.Ordering.{nat_cmp}
use Rattle.std.specs.Map.{keys_of, lookup, set_value}
use Rattle.std.specs.BTreeMap.{insert_entry, is_at}
use Rattle.std.proofs.lemmas.Map.Steps.{set_value_same}
use Rattle.std.proofs.lemmas.Bool.Decides.{nat_tests}
use Rattle.graph_model.specs.Whole.{rise}
use Rattle.graph_model.proofs.Rising.{placed, rise-placed, map-insert_entry, set_value-insert_entry, numbers-map}
use Rattle.edge_log.specs.Contents.{LogContent, empty_content}
use Rattle.core_rows.specs.Rows.{LabelLog, log_at, with_log, each_log}
use Rattle.core_rows.specs.LogMap.{log_of, logs_of}

-- the entry under a label
abbrev pub at_label : ℕ → List (ℕ × LogContent) → Option LogContent
at_label l es = lookup (is_at (nat_cmp l)) es

abbrev label_of : LabelLog → ℕ
label_of x = x.label

-- the log of a label is that of its entry
pub log_at-logs_of : (l : ℕ) (es : List (ℕ × LogContent)) → log_at (logs_of es) l ≡ unwrap_or (at_label l es) empty_content
log_at-logs_of l [] = refl
log_at-logs_of l (e ∷ es) = let rest = log_at-logs_of l es in grind (arith, nat_tests)

-- a log in its place is an item in its place
with_log-placed : (x : LabelLog) (logs : List LabelLog) → with_log x logs ≡ placed label_of x logs
with_log-placed x [] = refl
with_log-placed x (y ∷ logs) = let rest = with_log-placed x logs in grind (arith, nat_tests)

-- labels that rise still rise with one more log in its place
pub rise-with_log : (x : LabelLog) (logs : List LabelLog) → rise (map (λ y. y.label) logs) ≡ true → rise (map (λ y. y.label) (with_log x logs)) ≡ true
rise-with_log x logs up = ap (λ ys. rise (map label_of ys)) (with_log-placed x logs) ∙ rise-placed label_of x logs up

-- the log of each label with one more log in its place
pub log_at-with_log : (x : LabelLog) (logs : List LabelLog) (l : ℕ) → log_at (with_log x logs) l ≡ if l == x.label then x.log else log_at logs l
log_at-with_log x [] l = grind (arith, nat_tests)
log_at-with_log x (y ∷ logs) l = let rest = log_at-with_log x logs l in grind (arith, nat_tests)

-- and after the same change of each
pub log_at-each_log : (change : LogContent → LogContent) (logs : List LabelLog) (l : ℕ) → change empty_content ≡ empty_content → log_at (each_log change logs) l ≡ change (log_at logs l)
log_at-each_log change [] l empty = sym empty
log_at-each_log change (y ∷ logs) l empty = let rest = log_at-each_log change logs l empty in grind (arith, nat_tests)

-- the labels are the keys
pub labels-keys : (es : List (ℕ × LogContent)) → map (λ y. y.label) (logs_of es) ≡ keys_of es
labels-keys es = numbers-map label_of log_of (λ e. refl) es

-- an entry that is set
pub logs-insert : (es : List (ℕ × LogContent)) (l : ℕ) (log : LogContent) → logs_of (insert_entry nat_cmp es l log) ≡ with_log (record { label = l; log = log }) (logs_of es)
logs-insert es l log = map-insert_entry label_of log_of (λ e. refl) es l log ∙ sym (with_log-placed (log_of (l, log)) (logs_of es))

-- an entry that is written where it stands
pub logs-set : (es : List (ℕ × LogContent)) (l : ℕ) (old log : LogContent) → rise (map (λ y. y.label) (logs_of es)) ≡ true → at_label l es ≡ Some old →
    logs_of (set_value (is_at (nat_cmp l)) es log) ≡ with_log (record { label = l; log = log }) (logs_of es)
logs-set es l old log up at =
    let some : IsSome (at_label l es) = rw at refl in
    ap logs_of (set_value-insert_entry es l log (ap rise (sym (labels-keys es)) ∙ up) some) ∙ logs-insert es l log

-- and one that is written as it was
pub entries-same : (es : List (ℕ × LogContent)) (l : ℕ) (old : LogContent) → at_label l es ≡ Some old → set_value (is_at (nat_cmp l)) es old ≡ es
entries-same es l old at = set_value_same (is_at (nat_cmp l)) es old at

-- the entries after the same change of each
pub logs-each : (change : LogContent → LogContent) (es : List (ℕ × LogContent)) → logs_of (map (λ e. (e.0, change e.1)) es) ≡ each_log change (logs_of es)
logs-each change [] = refl
logs-each change (e ∷ es) = ap (λ xs. record { label = e.0; log = change e.1 } ∷ xs) (logs-each change es)

-- which leaves the labels
pub labels-each : (change : LogContent → LogContent) (logs : List LabelLog) → map (λ y. y.label) (each_log change logs) ≡ map (λ y. y.label) logs
labels-each change [] = refl
labels-each change (y ∷ logs) = ap (λ xs. y.label ∷ xs) (labels-each change logs)

-- The log of a label that has one, and of a label that has none.
pub log_at-some : (l : ℕ) (es : List (ℕ × LogContent)) (log : LogContent) → at_label l es ≡ Some log → log_at (logs_of es) l ≡ log
log_at-some l es log at = log_at-logs_of l es ∙ ap (λ o. unwrap_or o empty_content) at

pub log_at-none : (l : ℕ) (es : List (ℕ × LogContent)) → at_label l es ≡ None → log_at (logs_of es) l ≡ empty_content
log_at-none l es at = log_at-logs_of l es ∙ ap (λ o. unwrap_or o empty_content) at

-- a log that is written where it stands, by a call that may be refused
pub written-through : {A E : Type 0} (r : Result A E) (es new : List (ℕ × LogContent)) (l : ℕ) (old w x : LogContent) → rise (map (λ y. y.label) (logs_of es)) ≡ true → at_label l es ≡ Some old →
    new ≡ set_value (is_at (nat_cmp l)) es w → OnOk r (w ≡ x) → OnOk r (logs_of new ≡ with_log (record { label = l; log = x }) (logs_of es))
written-through (Ok a) es new l old w x up at wrote is = ap logs_of wrote ∙ logs-set es l old w up at ∙ ap (λ log. with_log (record { label = l; log = log }) (logs_of es)) is
written-through (Err e) es new l old w x up at wrote is = tt

pub unchanged-through : {A E : Type 0} (r : Result A E) (es new : List (ℕ × LogContent)) (l : ℕ) (old w : LogContent) → at_label l es ≡ Some old →
    new ≡ set_value (is_at (nat_cmp l)) es w → OnErr r (w ≡ old) → OnErr r (new ≡ es)
unchanged-through (Ok a) es new l old w at wrote is = tt
unchanged-through (Err e) es new l old w at wrote is = wrote ∙ ap (set_value (is_at (nat_cmp l)) es) is ∙ entries-same es l old at

-- a log that is written where it stands, or stays
pub ended-through : {E : Type 0} (r : Result Bool E) (es new : List (ℕ × LogContent)) (l : ℕ) (old w x : LogContent) → rise (map (λ y. y.label) (logs_of es)) ≡ true → at_label l es ≡ Some old →
    new ≡ set_value (is_at (nat_cmp l)) es w → OnOk r (w ≡ x) → IfOk r (λ b. b ≡ false → w ≡ old) → IfOk r (λ b. logs_of new ≡ if b then with_log (record { label = l; log = x }) (logs_of es) else logs_of es)
ended-through (Ok true) es new l old w x up at wrote is same = ap logs_of wrote ∙ logs-set es l old w up at ∙ ap (λ log. with_log (record { label = l; log = log }) (logs_of es)) is
ended-through (Ok false) es new l old w x up at wrote is same = ap logs_of (wrote ∙ ap (set_value (is_at (nat_cmp l)) es) (same refl) ∙ entries-same es l old at)
ended-through (Err e) es new l old w x up at wrote is same = tt
