-- The epochs of a log's stamps, of which none is later than the log's latest commit.
use Rattle.std.proofs.Common.{◌≡◌, ℕ, ◌+◌, ◌≤◌, Bool, true, false, List, [], ◌∷◌, length, refl, subst, arith}
use Rattle.std.specs.Prelude.{◌||◌, ◌==◌, nat_le, if◌then◌else◌}
use Rattle.std.proofs.lemmas.Bool.Decides.{nat_tests}
use Rattle.stamps.specs.declared.stamp.Stamp.{Stamp}
use Rattle.stamps.specs.declared.stamp.Stamp.TheVariants.{Never, At, By}
use Rattle.stamps.specs.Stamps.{Nobody, counts, is_private, converted_stamp, cleared_stamp}
use Rattle.edge_log.specs.Entries.{Entry, converted, cleared, kept}
use Rattle.edge_log.specs.Places.{oldest, ended_at}
use Rattle.edge_log.proofs.PlaceLemmas.{length-oldest}
use Rattle.block_reading.specs.Past.{is_past, ArePast}
use Rattle.block_writing.specs.Changed.{is_among}
use Rattle.tel_block.specs.Logs.{IsReached, AreDated}
use Rattle.tel_block.proofs.PrivateFacts.{reached-oldest}

pub dated-oldest : (latest n : ℕ) (xs : List Entry) → AreDated latest xs → AreDated latest (oldest n xs)
dated-oldest latest n [] dated = tt
dated-oldest latest n (x ∷ xs) dated = by_test (nat_le (length xs + 1) n) (dated-oldest latest n xs dated.1)
  where
    by_test : (b : Bool) → AreDated latest (oldest n xs) → AreDated latest (if b then x ∷ xs else oldest n xs)
    by_test true older = dated
    by_test false older = older

pub dated-kept : (latest h : ℕ) (xs : List Entry) → AreDated latest xs → AreDated latest (kept h xs)
dated-kept latest h [] dated = tt
dated-kept latest h (x ∷ xs) dated = by_test (counts x.ended h Nobody) (dated-kept latest h xs dated.1)
  where
    by_test : (b : Bool) → AreDated latest (kept h xs) → AreDated latest (if b then kept h xs else x ∷ kept h xs)
    by_test true rest = rest
    by_test false rest = (dated.0, rest)

pub dated-ended : (latest n t : ℕ) (xs : List Entry) → AreDated latest xs → AreDated latest (ended_at xs n t)
dated-ended latest n t [] dated = tt
dated-ended latest n t (x ∷ xs) dated = by_place (n == length xs) (dated-ended latest n t xs dated.1)
  where
    by_place : (b : Bool) → AreDated latest (ended_at xs n t) → AreDated latest (if b then record x { ended = By t } ∷ xs else x ∷ ended_at xs n t)
    by_place true older = (record { created = dated.0.created; ended = refl }, dated.1)
    by_place false older = (dated.0, older)

cleared-dated : (latest t : ℕ) (s : Stamp) → (is_private s || is_past latest s) ≡ true → (is_private (cleared_stamp t s) || is_past latest (cleared_stamp t s)) ≡ true
cleared-dated latest t Never is = is
cleared-dated latest t (At n) is = is
cleared-dated latest t (By u) is = by_test (u == t)
  where
    by_test : (b : Bool) → (is_private (if b then Never else By u) || is_past latest (if b then Never else By u)) ≡ true
    by_test true = refl
    by_test false = refl

pub dated-cleared : (latest t : ℕ) (xs : List Entry) → AreDated latest xs → AreDated latest (cleared t xs)
dated-cleared latest t [] dated = tt
dated-cleared latest t (x ∷ xs) dated =
    (record { created = dated.0.created; ended = cleared-dated latest t x.ended dated.0.ended }, dated-cleared latest t xs dated.1)

-- a commit at an epoch that is not later than the new latest one
converted-created : (t e latest later : ℕ) (s : Stamp) → latest ≤ later → e ≤ later → (is_private s || counts s latest Nobody) ≡ true →
    (is_private (converted_stamp t e s) || counts (converted_stamp t e s) later Nobody) ≡ true
converted-created t e latest later Never a b is = absurd (cc is)
converted-created t e latest later (At n) a b is = grind (arith, nat_tests, is, a)
converted-created t e latest later (By u) a b is = by_test (u == t)
  where
    by_test : (own : Bool) → (is_private (if own then At e else By u) || counts (if own then At e else By u) later Nobody) ≡ true
    by_test true = grind (arith, nat_tests, b)
    by_test false = refl

converted-ended : (t e latest later : ℕ) (s : Stamp) → latest ≤ later → e ≤ later → (is_private s || is_past latest s) ≡ true →
    (is_private (converted_stamp t e s) || is_past later (converted_stamp t e s)) ≡ true
converted-ended t e latest later Never a b is = refl
converted-ended t e latest later (At n) a b is = grind (arith, nat_tests, is, a)
converted-ended t e latest later (By u) a b is = by_test (u == t)
  where
    by_test : (own : Bool) → (is_private (if own then At e else By u) || is_past later (if own then At e else By u)) ≡ true
    by_test true = grind (arith, nat_tests, b)
    by_test false = refl

pub dated-converted : (t e latest later : ℕ) (xs : List Entry) → latest ≤ later → e ≤ later → AreDated latest xs → AreDated later (converted t e xs)
dated-converted t e latest later [] a b dated = tt
dated-converted t e latest later (x ∷ xs) a b dated = (
  record { created = converted-created t e latest later x.created a b dated.0.created; ended = converted-ended t e latest later x.ended a b dated.0.ended },
  dated-converted t e latest later xs a b dated.1,
)

past-created : (latest e : ℕ) (s : Stamp) → latest ≤ e → is_private s ≡ false → (is_private s || counts s latest Nobody) ≡ true → counts s e Nobody ≡ true
past-created latest e Never a settled is = absurd (cc is)
past-created latest e (At n) a settled is = grind (arith, nat_tests, is, a)
past-created latest e (By t) a settled is = absurd (cc settled)

past-ended : (latest e : ℕ) (s : Stamp) → latest ≤ e → is_private s ≡ false → (is_private s || is_past latest s) ≡ true → is_past e s ≡ true
past-ended latest e Never a settled is = refl
past-ended latest e (At n) a settled is = grind (arith, nat_tests, is, a)
past-ended latest e (By t) a settled is = absurd (cc settled)

neither : (a b : Bool) → ((a || b) ≡ true → ⊥) → (a ≡ false) × (b ≡ false)
neither true b deny = absurd (deny refl)
neither false true deny = absurd (deny refl)
neither false false deny = (refl, refl)

-- without notes, those below the settled count are not private, and all are of the past at an epoch from the latest one on
past-all : (noted : List ℕ) (from latest e : ℕ) (xs : List Entry) → noted ≡ [] → length xs ≤ from → latest ≤ e → IsReached noted from xs → AreDated latest xs → ArePast e xs
past-all noted from latest e [] none low a reached dated = tt
past-all noted from latest e (x ∷ xs) none low a reached dated =
    let settled : (is_private x.created ≡ false) × (is_private x.ended ≡ false) = neither (is_private x.created) (is_private x.ended) (λ private.
    (let there : (nat_le from (length xs) || is_among [] (length xs)) ≡ true = subst (λ (ns : List ℕ). (nat_le from (length xs) || is_among ns (length xs)) ≡ true) none (reached.0 private) in
    grind (arith, nat_tests, there, low))) in (
      record {
        created = past-created latest e x.created a settled.0 dated.0.created;
        ended = past-ended latest e x.ended a settled.1 dated.0.ended;
      },
      past-all noted from latest e xs none (omega (arith, low)) a reached.1 dated.1,
    )

pub past-below : (noted : List ℕ) (from latest e n : ℕ) (xs : List Entry) → noted ≡ [] → n ≤ from → n ≤ length xs → latest ≤ e → IsReached noted from xs → AreDated latest xs → ArePast e (oldest n xs)
past-below noted from latest e n xs none low within a reached dated =
    let long : length (oldest n xs) ≡ n = length-oldest xs n within in
    past-all noted from latest e (oldest n xs) none (omega (arith, long, low)) a (reached-oldest noted from n xs reached) (dated-oldest latest n xs dated)
