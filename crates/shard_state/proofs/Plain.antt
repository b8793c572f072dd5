-- A row in which nothing is private is given up as it is set free.
use Rattle.std.proofs.Common.{◌≡◌, ℕ, Bool, true, false, List, [], ◌∷◌, length, map, Some, None, refl, sym, ◌∙◌, subst, arith}
use Rattle.std.specs.Prelude.{nat_lt, ◌==◌, ◌&&◌}
use Rattle.std.proofs.lemmas.Bool.{and_parts}
use Rattle.std.specs.List.{list_all}
use Rattle.std.proofs.lemmas.Bool.Decides.{nat_tests}
use Rattle.graph_model.specs.Whole.{rise}
use Rattle.stamps.specs.declared.stamp.Stamp.{Stamp}
use Rattle.stamps.specs.declared.stamp.Stamp.TheVariants.{Never, At, By}
use Rattle.edge_log.specs.Entries.{Entry}
use Rattle.edge_log.specs.Contents.{LogContent, empty_content, with_undone}
use Rattle.vertex_versions.specs.declared.version.Version.{Version}
use Rattle.vertex_versions.specs.Versions.{undone_versions}
use Rattle.core_rows.specs.Rows.{Row, LabelLog, log_at, each_log, undo_row, apply_row}
use Rattle.row_pasts.specs.RowFits.{StampFits, StampsFit, VersionsFit, createds, settled_count}
use Rattle.vertex_rows.specs.Owned.{is_past_stamp}
use Rattle.vertex_rows.proofs.Contents.{undone-same}

past : (n : ℕ) (s : Stamp) → StampFits n None s → is_past_stamp n s ≡ true
past n Never fit = refl
past n (At s) fit = grind (arith, nat_tests, fit)
past n (By t) fit = let e : None ≡ Some t = fit in (cc)

all_past : (n : ℕ) (xs : List Entry) → StampsFit n None xs → list_all (λ x. is_past_stamp n x.created && is_past_stamp n x.ended) xs ≡ true
all_past n [] fit = refl
all_past n (x ∷ xs) fit = rw (past n x.created fit.0, past n x.ended fit.1, all_past n xs fit.2) refl

all_settled : (n : ℕ) (xs : List Entry) → StampsFit n None xs → settled_count (createds xs) ≡ length xs
all_settled n [] fit = refl
all_settled n (x ∷ xs) fit = by_stamp x.created refl fit.0
  where
    lengths : (ys : List Entry) → length (createds ys) ≡ length ys
    lengths [] = refl
    lengths (y ∷ ys) = omega (arith, lengths ys)

    by_stamp : (s : Stamp) → x.created ≡ s → StampFits n None s → settled_count (createds (x ∷ xs)) ≡ length (x ∷ xs)
    by_stamp Never is f = rw is (omega (arith, lengths xs))
    by_stamp (At e) is f = rw is (omega (arith, lengths xs))
    by_stamp (By t) is f = let e : None ≡ Some t = f in absurd (cc)

-- a log in which nothing is private
pub log_same : (n t : ℕ) (log : LogContent) → StampsFit n None log.entries → log.committed ≡ settled_count (createds log.entries) → with_undone t log ≡ log
log_same n t log fit count = undone-same t n log (record { committed = count ∙ all_settled n log.entries fit; past = all_past n log.entries fit })

-- versions of which none is private
versions_same : (n t : ℕ) (xs : List Version) → VersionsFit n None xs → undone_versions t xs ≡ xs
versions_same n t [] fit = refl
versions_same n t (x ∷ xs) fit = by_stamp x.created refl fit.0 (versions_same n t xs fit.1)
  where
    by_stamp : (s : Stamp) → x.created ≡ s → StampFits n None s → undone_versions t xs ≡ xs → undone_versions t (x ∷ xs) ≡ x ∷ xs
    by_stamp Never is f ih = rw (is, ih) refl
    by_stamp (At e) is f ih = rw (is, ih) refl
    by_stamp (By u) is f ih = let e : None ≡ Some u = f in absurd (cc)

-- Logs under rising labels, each of which stays.
logs_same : (t : ℕ) (logs : List LabelLog) → rise (map (λ x. x.label) logs) ≡ true → ((l : ℕ) → with_undone t (log_at logs l) ≡ log_at logs l) → each_log (with_undone t) logs ≡ logs
logs_same t [] rising same = refl
logs_same t (x ∷ logs) rising same =
    let parts = and_parts (list_all (nat_lt x.label) (map (λ y. y.label) logs)) (rise (map (λ y. y.label) logs)) rising in
    let at_head : log_at (x ∷ logs) x.label ≡ x.log = grind (arith, nat_tests) in
    let head : with_undone t x.log ≡ x.log = subst (λ (c : LogContent). with_undone t c ≡ c) at_head (same x.label) in
    rw (head, logs_same t logs parts.1 (λ l. rest l (x.label == l) refl parts.0)) refl
  where
    absent : (l : ℕ) (ys : List LabelLog) → list_all (nat_lt l) (map (λ y. y.label) ys) ≡ true → log_at ys l ≡ empty_content
    absent l [] above = refl
    absent l (y ∷ ys) above =
        let ups = and_parts (nat_lt l y.label) (list_all (nat_lt l) (map (λ z. z.label) ys)) above in
        let other : (y.label == l) ≡ false = grind (arith, nat_tests, ups.0) in
        rw other (absent l ys ups.1)

    rest : (l : ℕ) (b : Bool) → (x.label == l) ≡ b → list_all (nat_lt x.label) (map (λ y. y.label) logs) ≡ true → with_undone t (log_at logs l) ≡ log_at logs l
    rest l true is above =
        let label : x.label ≡ l = grind (arith, nat_tests, is) in
        let none : log_at logs l ≡ empty_content = absent l logs (subst (λ (m : ℕ). list_all (nat_lt m) (map (λ y. y.label) logs) ≡ true) label above) in
        subst (λ (c : LogContent). with_undone t c ≡ c) (sym none) refl
    rest l false is above =
        let past : log_at (x ∷ logs) l ≡ log_at logs l = rw is refl in
        subst (λ (c : LogContent). with_undone t c ≡ c) past (same l)

pub undone_as_applied : (t e n : ℕ) (row : Row) → VersionsFit n None row.versions → rise (map (λ x. x.label) row.logs) ≡ true →
    ((l : ℕ) → with_undone t (log_at row.logs l) ≡ log_at row.logs l) → undo_row t row ≡ apply_row t e false row
undone_as_applied t e n row versions rising same = rw (versions_same n t row.versions versions, logs_same t row.logs rising same) refl
