-- When a look at the newest entries is a part.
use Rattle.std.proofs.Common.{◌≡◌, ℕ, ◌+◌, ◌-◌, ◌<◌, ◌≤◌, Bool, true, false, inl, inr, List, [], ◌∷◌, ◌++◌, length, drop, refl, sym, ap, ◌∙◌, subst, ⊎_elim, arith, Option, Some, None}
use Rattle.std.specs.Prelude.{◌⊎◌, ◌==◌, if◌then◌else◌, IsTrue, IsSomeAnd}
use Rattle.std.proofs.lemmas.Bool.Decides.{nat_tests}
use Rattle.stamps.specs.Stamps.{Reader}
use Rattle.edge_log.specs.declared.place.Place.{Place}
use Rattle.edge_log.specs.Entries.{Entry, visible, shown, payload_sum}
use Rattle.edge_log.specs.Places.{entry_at, oldest, IsPlaceIn}
use Rattle.edge_log.specs.Parts.{PartContent, payload_bytes, NextDoesNotFit, IsPart, part_most}
use Rattle.block_layout.proofs.AtPlaces.{oldest_all, length-oldest}
use Rattle.block_reading.specs.Places.{place_at}
use Rattle.block_reading.proofs.BelowLemmas.{oldest-drop}

-- The newest k entries were looked at, and their edges stand in the part.
pub record IsLooked (xs : List Entry) (k e : ℕ) (who : Reader) (old new : PartContent) : Type 0 where
  pub pairs : shown xs e who ≡ new.pairs ++ shown (drop k xs) e who
  pub bytes : new.bytes ≡ old.bytes
  pub some : 0 < length xs → 0 < k
  pub within : k ≤ length xs
  pub few : k ≤ part_most

-- what is left is below the place that is k lower
left : (k : ℕ) (xs : List Entry) → k ≤ length xs → oldest (length xs - k) xs ≡ drop k xs
left k xs within =
    let lower : length xs - k ≤ length xs = omega arith in
    let same : length xs - (length xs - k) ≡ k = omega arith in
    oldest-drop (length xs - k) xs lower ∙ ap (λ (n : ℕ). drop n xs) same

pub place_left : (k : ℕ) (xs : List Entry) → k ≤ length xs → IsPlaceIn xs (record { below = length xs - k; props = payload_sum (drop k xs) })
place_left k xs within = record { within = omega arith; props = sym (ap payload_sum (left k xs within)) }

looked_pairs : (xs : List Entry) (k e : ℕ) (who : Reader) (old new : PartContent) → IsLooked xs k e who old new →
    shown (oldest (length xs) xs) e who ≡ new.pairs ++ shown (oldest (length xs - k) xs) e who
looked_pairs xs k e who old new looked =
    let all : length xs ≤ length xs = omega arith in
    ap (λ (ys : List Entry). shown ys e who) (oldest_all xs (length xs) all) ∙ looked.pairs
    ∙ ap (λ (ys : List Entry). new.pairs ++ shown ys e who) (sym (left k xs looked.within))

-- a part where all were looked at, or 64
pub part-looked : (xs : List Entry) (k e : ℕ) (who : Reader) (old new : PartContent) → IsLooked xs k e who old new → (k ≡ length xs) ⊎ (k ≡ part_most) →
    IsPart xs (length xs) (place_at (length xs - k) (payload_sum (drop k xs))) e who old new
part-looked xs k e who old new looked whole = by_test (length xs - k == 0) refl
  where
    by_test : (b : Bool) → (length xs - k == 0) ≡ b →
        IsPart xs (length xs) (if b then None else Some (record { below = length xs - k; props = payload_sum (drop k xs) })) e who old new
    by_test true is =
        let none : length xs - k ≡ 0 = grind (arith, nat_tests, is) in
        let f = looked.few in
        let w = looked.within in
        record {
          pairs = looked_pairs xs k e who old new looked ∙ ap (λ (n : ℕ). new.pairs ++ shown (oldest n xs) e who) none;
          bytes = looked.bytes;
          progress = λ some. some;
          looks = omega arith;
          rest = tt;
          place = tt;
          stop = tt;
        }
    by_test false is =
        let more : 0 < length xs - k = grind (arith, nat_tests, is) in
        let f = looked.few in
        let w = looked.within in
        record {
          pairs = looked_pairs xs k e who old new looked;
          bytes = looked.bytes;
          progress = λ some. (let s = looked.some some in omega arith);
          looks = omega arith;
          rest = more;
          place = place_left k xs w;
          stop = inl (⊎_elim (λ (all : k ≡ length xs). absurd (omega arith)) (λ (full : k ≡ part_most). omega arith) whole);
        }

-- a part that stopped before an edge that does not fit
pub part-full : (xs : List Entry) (k e : ℕ) (who : Reader) (old new : PartContent) → IsLooked xs k e who old new → k < length xs →
    (x : Entry) → entry_at xs (length xs - k - 1) ≡ Some x → visible x e who ≡ true → new.bytes < payload_bytes new.pairs + length x.p →
    IsPart xs (length xs) (Some (record { below = length xs - k; props = payload_sum (drop k xs) })) e who old new
part-full xs k e who old new looked more x at seen full =
    let f = looked.few in
    let w = looked.within in
    let P : Option Entry → Type 0 = λ o. IsSomeAnd o (λ y. IsTrue (visible y e who) × (new.bytes < payload_bytes new.pairs + length y.p)) in
    record {
      pairs = looked_pairs xs k e who old new looked;
      bytes = looked.bytes;
      progress = λ some. (let s = looked.some some in omega arith);
      looks = omega arith;
      rest = omega arith;
      place = place_left k xs w;
      stop = inr (subst P (sym at) (seen, full));
    }

-- What is below a place of the oldest entries is what is below it of all.
oldest-oldest : (m n : ℕ) (xs : List Entry) → m ≤ n → n ≤ length xs → oldest m (oldest n xs) ≡ oldest m xs
oldest-oldest m n [] low within = refl
oldest-oldest m n (x ∷ xs) low within = grind (arith, nat_tests, oldest-oldest m n xs low)

pub entry_at-oldest : (m n : ℕ) (xs : List Entry) → m < n → n ≤ length xs → entry_at (oldest n xs) m ≡ entry_at xs m
entry_at-oldest m n [] low within = refl
entry_at-oldest m n (x ∷ xs) low within = grind (arith, nat_tests, entry_at-oldest m n xs low)

-- a part of the entries below a place is one of all
pub part-lifted : (xs : List Entry) (n e : ℕ) (who : Reader) (next : Option Place) (old new : PartContent) → n ≤ length xs →
    IsPart (oldest n xs) n next e who old new → IsPart xs n next e who old new
part-lifted xs n e who None old new within part =
    let here : n ≤ n = omega arith in
    record {
      pairs = ap (λ (ys : List Entry). shown ys e who) (sym (oldest-oldest n n xs here within)) ∙ part.pairs
          ∙ ap (λ (ys : List Entry). new.pairs ++ shown ys e who) (oldest-oldest 0 n xs (omega arith) within);
      bytes = part.bytes;
      progress = part.progress;
      looks = part.looks;
      rest = tt;
      place = tt;
      stop = tt;
    }
part-lifted xs n e who (Some place) old new within part =
    let here : n ≤ n = omega arith in
    let long : length (oldest n xs) ≡ n = length-oldest xs n within in
    let low : place.below ≤ n = (let p = part.place.within in omega arith) in
    let r : 0 < place.below = part.rest in
    let P : Option Entry → Type 0 = λ o. IsSomeAnd o (λ y. IsTrue (visible y e who) × (new.bytes < payload_bytes new.pairs + length y.p)) in
    record {
      pairs = ap (λ (ys : List Entry). shown ys e who) (sym (oldest-oldest n n xs here within)) ∙ part.pairs
          ∙ ap (λ (ys : List Entry). new.pairs ++ shown ys e who) (oldest-oldest place.below n xs low within);
      bytes = part.bytes;
      progress = part.progress;
      looks = part.looks;
      rest = r;
      place = record { within = omega arith; props = part.place.props ∙ ap payload_sum (oldest-oldest place.below n xs low within) };
      stop = ⊎_elim
          (λ (looked : n ≡ place.below + part_most). inl looked)
          (λ (full : NextDoesNotFit (oldest n xs) place.below e who new). inr (subst P (entry_at-oldest (place.below - 1) n xs (omega arith) within) full))
          part.stop;
    }
