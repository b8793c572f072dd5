-- Each event keeps what a vertex's versions must show.
use Rattle.std.proofs.Common.{◌≡◌, ℕ, ◌+◌, ◌<◌, ◌≤◌, List, [], ◌∷◌, ◌++◌, refl, sym, ap, ◌∙◌, subst, arith, Option, Some, None, append-nil, ⊎_elim}
use Rattle.std.proofs.lemmas.Bool.{cases_lt}
use Rattle.std.proofs.lemmas.Bool.Decides.{nat_tests}
use Rattle.graph_model.specs.declared.change.Change.{Change}
use Rattle.stamps.specs.Stamps.{Reader, Nobody, Txn}
use Rattle.stamps.specs.declared.stamp.Stamp.{Stamp}
use Rattle.stamps.specs.declared.stamp.Stamp.TheVariants.{Never, At, By}
use Rattle.vertex_versions.specs.Versions.{converted_versions, undone_versions}
use Rattle.vertex_versions.specs.declared.version.Version.{Version}
use Rattle.core_rows.specs.Rows.{Life, life_of, newest}
use Rattle.row_pasts.specs.Lives.{life_step, lives, fits, Past, until, changes_of, stamped, AllUntil}
use Rattle.row_pasts.specs.RowFits.{StampFits, VersionsFit, LifeFits}
use Rattle.row_pasts.proofs.LogLemmas.{late_stamp, converted_late, converted_early, fits_converted}
use Rattle.row_pasts.proofs.LogSteps.{snoc-not-empty, some_same, plain_stamp, plain_owner}
use Rattle.row_pasts.proofs.Pasts.{until_late, until-append, until_stamped_late, until_stamped_early, lives-append}

pub life_late : (n : ℕ) (o : Option ℕ) (xs : List Version) (e f : ℕ) (who : Reader) → VersionsFit n o xs → n ≤ e → n ≤ f → newest xs e who ≡ newest xs f who
life_late n o [] e f who fits a b = refl
life_late n o (x ∷ xs) e f who fits a b =
    let c = late_stamp n o x.created e f who fits.0 a b in grind (arith, c, life_late n o xs e f who fits.1 a b)

life_apply_late : (xs : List Version) (n t h e : ℕ) → VersionsFit n (Some t) xs → h ≤ e → newest (converted_versions t h xs) e Nobody ≡ newest xs e (Txn t)
life_apply_late [] n t h e fits a = refl
life_apply_late (x ∷ xs) n t h e fits a = let c = converted_late x.created n t h e fits.0 a in grind (arith, c, life_apply_late xs n t h e fits.1 a)

life_apply_early : (xs : List Version) (n t h e : ℕ) → VersionsFit n (Some t) xs → e < h → newest (converted_versions t h xs) e Nobody ≡ newest xs e Nobody
life_apply_early [] n t h e fits a = refl
life_apply_early (x ∷ xs) n t h e fits a = let c = converted_early x.created n t h e fits.0 a in grind (arith, c, life_apply_early xs n t h e fits.1 a)

pub plain_newest : (n : ℕ) (xs : List Version) (e t : ℕ) → VersionsFit n None xs → newest xs e (Txn t) ≡ newest xs e Nobody
plain_newest n [] e t fit = refl
plain_newest n (x ∷ xs) e t fit = let c = plain_stamp n x.created e t fit.0 in grind (arith, c, plain_newest n xs e t fit.1)

plain_versions : (n : ℕ) (o : Option ℕ) (xs : List Version) → VersionsFit n None xs → VersionsFit n o xs
plain_versions n o [] fit = tt
plain_versions n o (x ∷ xs) fit = (plain_owner n o x.created fit.0, plain_versions n o xs fit.1)

versions_apply : (n t h : ℕ) (xs : List Version) → n ≤ h → VersionsFit n (Some t) xs → VersionsFit h None (converted_versions t h xs)
versions_apply n t h [] a fits = tt
versions_apply n t h (x ∷ xs) a fits = (fits_converted n t h x.created a fits.0, versions_apply n t h xs a fits.1)

-- Pushing a version: set, drop and new. The change says the version's life, whatever went before.
pub life_push : (f n : ℕ) (past : List Past) (t : ℕ) (own : List Change) (base : Life) (c : Change) (content : Option (List ℕ)) (xs : List Version) → ((x : Life) → life_step c x ≡ life_of content)
    → LifeFits f n past (Some t) own base xs → LifeFits f n past (Some t) (own ++ c ∷ []) base (record { created = By t; content = content } ∷ xs)
life_push f n past t own base c content xs is fit = record {
  stamps = (refl, fit.stamps);
  plain = λ e. absurd (snoc-not-empty own c e);
  others = fit.others;
  mine = λ u same e a. subst (λ (w : ℕ). newest (record { created = By t; content = content } ∷ xs) e (Txn w) ≡ lives (own ++ c ∷ []) (lives (changes_of past) base)) (some_same t u same)
      (rw lives-append (let k = is (lives own (lives (changes_of past) base)) in grind (arith, nat_tests, k)));
}

pub life_kept : (f n : ℕ) (past : List Past) (t : ℕ) (own : List Change) (base : Life) (c : Change) (xs : List Version) → ((x : Life) → life_step c x ≡ x)
    → LifeFits f n past (Some t) own base xs → LifeFits f n past (Some t) (own ++ c ∷ []) base xs
life_kept f n past t own base c xs same fit = record {
  stamps = fit.stamps;
  plain = λ e. absurd (snoc-not-empty own c e);
  others = fit.others;
  mine = λ u is e a. fit.mine u is e a ∙ sym (lives-append own (c ∷ []) (lives (changes_of past) base) ∙ same (lives own (lives (changes_of past) base)));
}

pub life_taken : (f n : ℕ) (past : List Past) (t : ℕ) (base : Life) (xs : List Version) → AllUntil n past
    → LifeFits f n past None [] base xs → LifeFits f n past (Some t) [] base xs
life_taken f n past t base xs low fit = record {
  stamps = plain_versions n (Some t) xs fit.stamps;
  plain = fit.plain;
  others = fit.others;
  mine = λ u is e a.
      plain_newest n xs e u fit.stamps
      ∙ life_late n None xs e (e + f) Nobody fit.stamps a (omega arith)
      ∙ fit.others (e + f) (omega arith)
      ∙ ap (λ cs. lives cs base) (until_late n (e + f) past low (omega arith));
}

life_others : (f n : ℕ) (past : List Past) (t h : ℕ) (own : List Change) (base : Life) (xs : List Version) → n < h → AllUntil n past
    → LifeFits f n past (Some t) own base xs → (e : ℕ) → f ≤ e → newest (converted_versions t h xs) e Nobody ≡ lives (until e (past ++ stamped h own)) base
life_others f n past t h own base xs late_epoch low fit e a = ⊎_elim early later (cases_lt e h)
  where
    early : e < h → newest (converted_versions t h xs) e Nobody ≡ lives (until e (past ++ stamped h own)) base
    early b =
        life_apply_early xs n t h e fit.stamps b ∙ fit.others e a
        ∙ ap (λ cs. lives cs base) (sym (until-append e past (stamped h own) ∙ ap (λ cs. until e past ++ cs) (until_stamped_early h e own b) ∙ append-nil (until e past)))

    later : h ≤ e → newest (converted_versions t h xs) e Nobody ≡ lives (until e (past ++ stamped h own)) base
    later b =
        life_apply_late xs n t h e fit.stamps b ∙ fit.mine t refl e (omega arith)
        ∙ sym (lives-append (changes_of past) own base)
        ∙ ap (λ cs. lives cs base) (sym (until-append e past (stamped h own) ∙ (λ i. until_late n e past low (omega arith) i ++ until_stamped_late h e own b i)))

pub life_apply : (f n : ℕ) (past : List Past) (t h : ℕ) (own : List Change) (base : Life) (xs : List Version) → n < h → AllUntil n past
    → LifeFits f n past (Some t) own base xs → LifeFits f h (past ++ stamped h own) None [] base (converted_versions t h xs)
life_apply f n past t h own base xs late_epoch low fit = record {
  stamps = versions_apply n t h xs (omega arith) fit.stamps;
  plain = λ _. versions_apply n t h xs (omega arith) fit.stamps;
  others = life_others f n past t h own base xs late_epoch low fit;
  mine = λ u is. absurd (cc);
}

pub life_release : (f n : ℕ) (past : List Past) (t : ℕ) (base : Life) (xs : List Version)
    → LifeFits f n past (Some t) [] base xs → LifeFits f n past None [] base xs
life_release f n past t base xs fit = record {
  stamps = fit.plain refl;
  plain = λ _. fit.plain refl;
  others = fit.others;
  mine = λ u is. absurd (cc);
}

undone_nobody : (n t : ℕ) (xs : List Version) (e : ℕ) → VersionsFit n (Some t) xs → newest (undone_versions t xs) e Nobody ≡ newest xs e Nobody
undone_nobody n t [] e fit = refl
undone_nobody n t (x ∷ xs) e fit = by_stamp x.created refl fit.0 (undone_nobody n t xs e fit.1)
  where
    by_stamp : (s : Stamp) → x.created ≡ s → StampFits n (Some t) s → newest (undone_versions t xs) e Nobody ≡ newest xs e Nobody → newest (undone_versions t (x ∷ xs)) e Nobody ≡ newest (x ∷ xs) e Nobody
    by_stamp Never is f ih = grind arith
    by_stamp (At m) is f ih = grind arith
    by_stamp (By u) is f ih = grind (arith, nat_tests)

undone_fits : (n t : ℕ) (xs : List Version) → VersionsFit n (Some t) xs → VersionsFit n None (undone_versions t xs)
undone_fits n t [] fit = tt
undone_fits n t (x ∷ xs) fit = by_stamp x.created refl fit.0 (undone_fits n t xs fit.1)
  where
    by_stamp : (s : Stamp) → x.created ≡ s → StampFits n (Some t) s → VersionsFit n None (undone_versions t xs) → VersionsFit n None (undone_versions t (x ∷ xs))
    by_stamp Never is f ih = grind arith
    by_stamp (At m) is f ih = grind arith
    by_stamp (By u) is f ih = grind (arith, nat_tests)

pub life_undo : (f n : ℕ) (past : List Past) (t : ℕ) (own : List Change) (base : Life) (xs : List Version)
    → LifeFits f n past (Some t) own base xs → LifeFits f n past None [] base (undone_versions t xs)
life_undo f n past t own base xs fit = record {
  stamps = undone_fits n t xs fit.stamps;
  plain = λ _. undone_fits n t xs fit.stamps;
  others = λ e a. undone_nobody n t xs e fit.stamps ∙ fit.others e a;
  mine = λ u is. absurd (cc);
}
