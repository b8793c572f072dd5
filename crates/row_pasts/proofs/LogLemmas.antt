-- What the changes of a log leave of what is shown.
use Rattle.std.proofs.Common.{◌≡◌, ℕ, ◌+◌, ◌<◌, ◌≤◌, true, false, List, [], ◌∷◌, length, refl, ap, ◌∙◌, arith, Bool, Option, Some, None}
use Rattle.std.proofs.lemmas.Bool.{true≢false, eq-eqb, ne_eqb}
use Rattle.std.specs.Prelude.{◌==◌, ◌&&◌, if◌then◌else◌}
use Rattle.std.proofs.lemmas.Bool.Decides.{nat_tests}
use Rattle.stamps.specs.Stamps.{Reader, Nobody, Txn, counts, converted_stamp, cleared_stamp, is_private}
use Rattle.stamps.specs.declared.stamp.Stamp.{Stamp}
use Rattle.stamps.specs.declared.stamp.Stamp.TheVariants.{Never, At, By}
use Rattle.edge_log.specs.Contents.{LogContent}
use Rattle.edge_log.specs.Entries.{visible, Entry, shown, converted, cleared}
use Rattle.edge_log.specs.Places.{oldest, newest_place, ended_at}
use Rattle.core_rows.specs.Rows.{ended_log, ended_where}
use Rattle.row_pasts.specs.Lives.{without, fits}
use Rattle.row_pasts.specs.RowFits.{StampFits, StampsFit, createds, settled_count, none_private, private_first}

-- the newest visible entry of d is ended by the transaction, where there is one
abbrev pub end_newest : List Entry → ℕ → ℕ → ℕ → List Entry
end_newest [] d e t = []
end_newest (x ∷ xs) d e t =
    if visible x e (Txn t) && x.d == d
    then record { d = x.d; p = x.p; created = x.created; ended = By t } ∷ xs
    else x ∷ end_newest xs d e t

-- a place of the entries is below their number
place_low : (xs : List Entry) (d e : ℕ) (who : Reader) (n : ℕ) → newest_place xs d e who ≡ Some n → n < length xs
place_low [] d e who n is = absurd (cc)
place_low (x ∷ xs) d e who n is = grind (arith, nat_tests, place_low xs d e who n)

abbrev ended_there : Option ℕ → ℕ → List Entry → List Entry
ended_there None t xs = xs
ended_there (Some n) t xs = ended_at xs n t

ended_newest : (xs : List Entry) (d e t : ℕ) → ended_there (newest_place xs d e (Txn t)) t xs ≡ end_newest xs d e t
ended_newest [] d e t = refl
ended_newest (x ∷ xs) d e t = by_test (visible x e (Txn t) && x.d == d) refl (ended_newest xs d e t)
  where
    deeper : (o : Option ℕ) → newest_place xs d e (Txn t) ≡ o → ended_there o t (x ∷ xs) ≡ x ∷ ended_there o t xs
    deeper None is = refl
    deeper (Some n) is = let low = place_low xs d e (Txn t) n is in rw (ne_eqb n (length xs) (λ q. omega (arith, q, low))) refl

    by_test : (b : Bool) → (visible x e (Txn t) && x.d == d) ≡ b → ended_there (newest_place xs d e (Txn t)) t xs ≡ end_newest xs d e t
        → ended_there (newest_place (x ∷ xs) d e (Txn t)) t (x ∷ xs) ≡ end_newest (x ∷ xs) d e t
    by_test true h ih = rw h (rw (eq-eqb (length xs) (length xs) refl) refl)
    by_test false h ih = rw h (deeper (newest_place xs d e (Txn t)) refl ∙ ap (λ l. x ∷ l) ih)

-- the log whose newest entry of d is ended
pub ended_is : (d r t : ℕ) (log : LogContent) → ended_log d r t log ≡ record log { entries = end_newest log.entries d r t }
ended_is d r t log = by_place (newest_place log.entries d r (Txn t)) ∙ (λ i. record log { entries = ended_newest log.entries d r t i })
  where
    by_place : (o : Option ℕ) → ended_where o t log ≡ record log { entries = ended_there o t log.entries }
    by_place None = refl
    by_place (Some n) = refl

-- Ending the newest entry of d takes its pair out of what the transaction sees.
pub put_own : (xs : List Entry) (d e t : ℕ) → shown (end_newest xs d e t) e (Txn t) ≡ without d (shown xs e (Txn t))
put_own [] d e t = refl
put_own (x ∷ xs) d e t = grind (arith, put_own xs d e t)

-- the stamp counts at one late epoch as at another
pub late_stamp : (n : ℕ) (o : Option ℕ) (s : Stamp) (e f : ℕ) (who : Reader) → StampFits n o s → n ≤ e → n ≤ f → counts s e who ≡ counts s f who
late_stamp n o Never e f who fits a b = refl
late_stamp n o (At s) e f who fits a b = grind (arith, nat_tests)
late_stamp n o (By t) e f Nobody fits a b = refl
late_stamp n o (By t) e f (Txn u) fits a b = refl

-- From the committed epoch on each epoch shows the same.
pub late : (n : ℕ) (o : Option ℕ) (xs : List Entry) (e f : ℕ) (who : Reader) → StampsFit n o xs → n ≤ e → n ≤ f → shown xs e who ≡ shown xs f who
late n o [] e f who fits a b = refl
late n o (x ∷ xs) e f who fits a b =
    let c = late_stamp n o x.created e f who fits.0 a b in
    let d = late_stamp n o x.ended e f who fits.1 a b in
    grind (arith, c, d, late n o xs e f who fits.2 a b)

-- An entry that its transaction ends was not ended before, so nobody else sees a change.
ended_nobody : (n : ℕ) (o : Option ℕ) (s : Stamp) (r e t : ℕ) → StampFits n o s → o ≡ Some t → n ≤ r → counts s r (Txn t) ≡ false → counts s e Nobody ≡ false
ended_nobody n o Never r e t fits own a b = refl
ended_nobody n o (At s) r e t fits own a b = absurd (grind (arith, nat_tests))
ended_nobody n o (By u) r e t fits own a b = refl

pub put_nobody : (n : ℕ) (o : Option ℕ) (xs : List Entry) (d r e t : ℕ) → StampsFit n o xs → o ≡ Some t → n ≤ r → shown (end_newest xs d r t) e Nobody ≡ shown xs e Nobody
put_nobody n o [] d r e t fits own a = refl
put_nobody n o (x ∷ xs) d r e t fits own a =
    let k = ended_nobody n o x.ended r e t fits.1 own a in
    grind (arith, k, put_nobody n o xs d r e t fits.2 own a)

-- Once the private stamps are an epoch, that epoch and each later one shows what the transaction saw.
pub converted_late : (s : Stamp) (n t h e : ℕ) → StampFits n (Some t) s → h ≤ e → counts (converted_stamp t h s) e Nobody ≡ counts s e (Txn t)
converted_late Never n t h e fits a = refl
converted_late (At s) n t h e fits a = refl
converted_late (By u) n t h e fits a = grind (arith, nat_tests)

pub apply_late : (xs : List Entry) (n t h e : ℕ) → StampsFit n (Some t) xs → h ≤ e → shown (converted t h xs) e Nobody ≡ shown xs e (Txn t)
apply_late [] n t h e fits a = refl
apply_late (x ∷ xs) n t h e fits a =
    let c = converted_late x.created n t h e fits.0 a in
    let d = converted_late x.ended n t h e fits.1 a in
    grind (arith, c, d, apply_late xs n t h e fits.2 a)

-- Each earlier epoch shows what it showed to nobody.
pub converted_early : (s : Stamp) (n t h e : ℕ) → StampFits n (Some t) s → e < h → counts (converted_stamp t h s) e Nobody ≡ counts s e Nobody
converted_early Never n t h e fits a = refl
converted_early (At s) n t h e fits a = refl
converted_early (By u) n t h e fits a = grind (arith, nat_tests)

pub apply_early : (xs : List Entry) (n t h e : ℕ) → StampsFit n (Some t) xs → e < h → shown (converted t h xs) e Nobody ≡ shown xs e Nobody
apply_early [] n t h e fits a = refl
apply_early (x ∷ xs) n t h e fits a =
    let c = converted_early x.created n t h e fits.0 a in
    let d = converted_early x.ended n t h e fits.1 a in
    grind (arith, c, d, apply_early xs n t h e fits.2 a)

-- Taking the tail and the end stamps away changes nothing for nobody.
cleared_nobody : (s : Stamp) (t e : ℕ) → counts (cleared_stamp t s) e Nobody ≡ counts s e Nobody
cleared_nobody Never t e = refl
cleared_nobody (At s) t e = refl
cleared_nobody (By u) t e = grind (arith, nat_tests)

pub clear_nobody : (xs : List Entry) (t e : ℕ) → shown (cleared t xs) e Nobody ≡ shown xs e Nobody
clear_nobody [] t e = refl
clear_nobody (x ∷ xs) t e = grind (arith, cleared_nobody x.ended t e, clear_nobody xs t e)

oldest_head : (x : Stamp) (xs : List Stamp) → settled_count (x ∷ xs) ≤ length xs + 1
oldest_head x [] = grind arith
oldest_head x (y ∷ ys) = grind (arith, oldest_head y ys)

pub settled_few : (xs : List Stamp) → settled_count xs ≤ length xs
settled_few [] = omega arith
settled_few (x ∷ xs) = grind (arith, settled_few xs)

pub length-createds : (xs : List Entry) → length (createds xs) ≡ length xs
length-createds [] = refl
length-createds (x ∷ xs) = grind (arith, length-createds xs)

pub createds-end_newest : (xs : List Entry) (d e t : ℕ) → createds (end_newest xs d e t) ≡ createds xs
createds-end_newest [] d e t = refl
createds-end_newest (x ∷ xs) d e t = grind (arith, createds-end_newest xs d e t)

-- The entries below the tail are what is left of the log for nobody.
pub cut_nobody : (xs : List Entry) (k e : ℕ) → settled_count (createds xs) ≤ k → shown (oldest k xs) e Nobody ≡ shown xs e Nobody
cut_nobody [] k e a = refl
cut_nobody (x ∷ xs) k e a = by_created x.created refl (cut_nobody xs k e)
  where
    by_created : (s : Stamp) → x.created ≡ s → (settled_count (createds xs) ≤ k → shown (oldest k xs) e Nobody ≡ shown xs e Nobody) → shown (oldest k (x ∷ xs)) e Nobody ≡ shown (x ∷ xs) e Nobody
    by_created Never is ih = grind (arith, nat_tests, length-createds xs)
    by_created (At m) is ih = grind (arith, nat_tests, length-createds xs)
    by_created (By u) is ih = grind (arith, nat_tests, ih)

-- An entry that is there before stays a stamp of the past or the owner's.
pub fits_put : (n : ℕ) (o : Option ℕ) (xs : List Entry) (d r t : ℕ) → StampsFit n o xs → o ≡ Some t → StampsFit n o (end_newest xs d r t)
fits_put n o [] d r t fits own = tt
fits_put n o (x ∷ xs) d r t fits own = grind (arith, fits_put n o xs d r t fits.2 own)

pub fits_converted : (n : ℕ) (t h : ℕ) (s : Stamp) → n ≤ h → StampFits n (Some t) s → StampFits h None (converted_stamp t h s)
fits_converted n t h Never a fits = tt
fits_converted n t h (At s) a fits = omega arith
fits_converted n t h (By u) a fits = grind (arith, nat_tests)

pub fits_apply : (n : ℕ) (t h : ℕ) (xs : List Entry) → n ≤ h → StampsFit n (Some t) xs → StampsFit h None (converted t h xs)
fits_apply n t h [] a fits = tt
fits_apply n t h (x ∷ xs) a fits = (fits_converted n t h x.created a fits.0, fits_converted n t h x.ended a fits.1, fits_apply n t h xs a fits.2)

-- below the tail no entry is private
pub none_private_below : (xs : List Entry) → private_first (createds xs) ≡ true → none_private (createds (oldest (settled_count (createds xs)) xs)) ≡ true
none_private_below [] p = refl
none_private_below (x ∷ xs) p = by_created x.created refl (none_private_below xs)
  where
    by_created : (s : Stamp) → x.created ≡ s → (private_first (createds xs) ≡ true → none_private (createds (oldest (settled_count (createds xs)) xs)) ≡ true) → none_private (createds (oldest (settled_count (createds (x ∷ xs))) (x ∷ xs))) ≡ true
    by_created Never is ih = grind (arith, nat_tests, length-createds xs)
    by_created (At m) is ih = grind (arith, nat_tests, length-createds xs)
    by_created (By u) is ih = grind (arith, nat_tests, ih, length-createds xs, settled_few (createds xs))

pub fits_oldest : (n : ℕ) (o : Option ℕ) (k : ℕ) (xs : List Entry) → StampsFit n o xs → StampsFit n o (oldest k xs)
fits_oldest n o k [] fits = tt
fits_oldest n o k (x ∷ xs) fits = grind (arith, fits_oldest n o k xs fits.2)

fits_created : (n t : ℕ) (s : Stamp) → StampFits n (Some t) s → is_private s ≡ false → StampFits n None s
fits_created n t Never fits p = tt
fits_created n t (At s) fits p = fits
fits_created n t (By u) fits p = absurd (true≢false p)

fits_ended : (n t : ℕ) (s : Stamp) → StampFits n (Some t) s → StampFits n None (cleared_stamp t s)
fits_ended n t Never fits = tt
fits_ended n t (At s) fits = fits
fits_ended n t (By u) fits = grind (arith, nat_tests)

pub fits_cleared : (n t : ℕ) (xs : List Entry) → StampsFit n (Some t) xs → none_private (createds xs) ≡ true → StampsFit n None (cleared t xs)
fits_cleared n t [] fits p = tt
fits_cleared n t (x ∷ xs) fits p =
    (fits_created n t x.created fits.0 (grind arith), fits_ended n t x.ended fits.1, fits_cleared n t xs fits.2 (grind arith))
