-- What each change leaves of a log that one transaction owns.
use Rattle.std.proofs.Common.{◌≡◌, ℕ, ◌+◌, ◌≤◌, Bool, true, false, List, [], ◌∷◌, length, refl, arith}
use Rattle.std.specs.Prelude.{◌==◌, nat_le, nat_lt, IsTrue, if◌then◌else◌, Some, IsSomeAnd}
use Rattle.std.proofs.lemmas.Bool.Decides.{nat_tests}
use Rattle.stamps.specs.declared.stamp.Stamp.{Stamp}
use Rattle.stamps.specs.declared.stamp.Stamp.TheVariants.{Never, At, By}
use Rattle.stamps.specs.Stamps.{Txn, counts, converted_stamp, cleared_stamp}
use Rattle.edge_log.specs.Entries.{Entry, visible, converted, cleared}
use Rattle.edge_log.specs.Places.{entry_at, ended_at, oldest, TailIsBy}
use Rattle.edge_log.specs.Contents.{LogContent, HasTailOf, empty_content, with_appended, with_ended, with_converted, with_undone}
use Rattle.edge_log.proofs.EntryLemmas.{length-ended_at, length-converted, length-cleared}
use Rattle.edge_log.proofs.PlaceLemmas.{length-oldest}
use Rattle.log_scripts.specs.Owners.{IsEpochTo, IsEndOf, AreOwned, IsOwned}

-- a beginning that was committed, and one that is committed now
begin-converted : (e f t : ℕ) → e ≤ f → (s : Stamp) → IsEpochTo e s → IsEpochTo f (converted_stamp t f s)
begin-converted e f t le Never is = is
begin-converted e f t le (At s) is = omega (arith, le, is)
begin-converted e f t le (By u) is = absurd is

own-converted : (f t : ℕ) (s : Stamp) → s ≡ By t → IsEpochTo f (converted_stamp t f s)
own-converted f t s is =
    let same : (t == t) ≡ true = grind (arith, nat_tests) in
    rw is (rw same (omega arith))

end-converted : (e f t u : ℕ) → e ≤ f → (s : Stamp) → IsEndOf e t s → IsEndOf f u (converted_stamp t f s)
end-converted e f t u le Never is = tt
end-converted e f t u le (At s) is = omega (arith, le, is)
end-converted e f t u le (By v) is =
    let same : (v == t) ≡ true = grind (arith, nat_tests, is) in
    rw same (omega arith)

end-cleared : (e t u : ℕ) (s : Stamp) → IsEndOf e t s → IsEndOf e u (cleared_stamp t s)
end-cleared e t u Never is = tt
end-cleared e t u (At s) is = is
end-cleared e t u (By v) is =
    let same : (v == t) ≡ true = grind (arith, nat_tests, is) in
    rw same tt

-- an end that does not count for the owner is none
end-live : (e t : ℕ) (s : Stamp) → IsEndOf e t s → counts s e (Txn t) ≡ false → s ≡ Never
end-live e t Never is not_yet = refl
end-live e t (At s) is not_yet = absurd (grind (arith, nat_tests, is, not_yet))
end-live e t (By v) is not_yet = absurd (grind (arith, nat_tests, is, not_yet))

-- entries
are-ended : (e t n m : ℕ) (xs : List Entry) → AreOwned e t n xs → AreOwned e t n (ended_at xs m t)
are-ended e t n m [] is = tt
are-ended e t n m (x ∷ xs) is = by_test (m == length xs) (are-ended e t n m xs is.3)
  where
    by_test : (b : Bool) → AreOwned e t n (ended_at xs m t) → AreOwned e t n (if b then record x { ended = By t } ∷ xs else x ∷ ended_at xs m t)
    by_test true rest = (is.0, is.1, refl, is.3)
    by_test false rest = (rw length-ended_at is.0, rw length-ended_at is.1, is.2, rest)

are-converted : (e f t u n m : ℕ) (xs : List Entry) → e ≤ f → length xs ≤ m → AreOwned e t n xs → AreOwned f u m (converted t f xs)
are-converted e f t u n m [] le all is = tt
are-converted e f t u n m (x ∷ xs) le all is = (
  λ _. by_place (nat_lt (length xs) n) refl,
  λ high. absurd (omega (arith, all, high, length-converted t f xs)),
  end-converted e f t u le x.ended is.2,
  are-converted e f t u n m xs le (omega (arith, all)) is.3,
)
  where
    by_place : (b : Bool) → nat_lt (length xs) n ≡ b → IsEpochTo f (converted_stamp t f x.created)
    by_place true low = begin-converted e f t le x.created (is.0 (grind (arith, nat_tests, low)))
    by_place false high = own-converted f t x.created (is.1 (grind (arith, nat_tests, high)))

are-oldest : (e t n k : ℕ) (xs : List Entry) → AreOwned e t n xs → AreOwned e t n (oldest k xs)
are-oldest e t n k [] is = tt
are-oldest e t n k (x ∷ xs) is = by_test (nat_le (length xs + 1) k) (are-oldest e t n k xs is.3)
  where
    by_test : (b : Bool) → AreOwned e t n (oldest k xs) → AreOwned e t n (if b then x ∷ xs else oldest k xs)
    by_test true rest = is
    by_test false rest = rest

are-cleared : (e t u n : ℕ) (xs : List Entry) → length xs ≤ n → AreOwned e t n xs → AreOwned e u n (cleared t xs)
are-cleared e t u n [] all is = tt
are-cleared e t u n (x ∷ xs) all is = (
  λ _. is.0 (omega (arith, all)),
  λ high. absurd (omega (arith, all, high, length-cleared t xs)),
  end-cleared e t u x.ended is.2,
  are-cleared e t u n xs (omega (arith, all)) is.3,
)

are-tail : (e t n : ℕ) (xs : List Entry) → AreOwned e t n xs → TailIsBy t n xs
are-tail e t n [] is = tt
are-tail e t n (x ∷ xs) is = (is.1, are-tail e t n xs is.3)

are-live : (e t n d m : ℕ) (xs : List Entry) → AreOwned e t n xs
    → IsSomeAnd (entry_at xs m) (λ x. IsTrue (visible x e (Txn t)) × (x.d ≡ d)) → IsSomeAnd (entry_at xs m) (λ x. x.ended ≡ Never)
are-live e t n d m [] is seen = absurd seen
are-live e t n d m (x ∷ xs) is seen = by_test (m == length xs) seen (λ there. are-live e t n d m xs is.3 there)
  where
    by_test : (b : Bool) → IsSomeAnd (if b then Some x else entry_at xs m) (λ x. IsTrue (visible x e (Txn t)) × (x.d ≡ d))
        → (IsSomeAnd (entry_at xs m) (λ x. IsTrue (visible x e (Txn t)) × (x.d ≡ d)) → IsSomeAnd (entry_at xs m) (λ x. x.ended ≡ Never))
        → IsSomeAnd (if b then Some x else entry_at xs m) (λ x. x.ended ≡ Never)
    by_test true here rest =
        let sees : visible x e (Txn t) ≡ true = here.0 in
        end-live e t x.ended is.2 (grind (arith, sees))
    by_test false there rest = rest there

-- contents
pub owned-empty : (e t : ℕ) → IsOwned e t empty_content
owned-empty e t = record { within = omega arith; entries = tt }

pub owned-appended : (e t d : ℕ) (p : List ℕ) (c : LogContent) → IsOwned e t c → IsOwned e t (with_appended t d p c)
owned-appended e t d p c is =
    let within = is.within in
    record { within = omega (arith, within); entries = (λ low. absurd (omega (arith, within, low)), λ _. refl, tt, is.entries) }

pub owned-ended : (e t n : ℕ) (c : LogContent) → IsOwned e t c → IsOwned e t (with_ended n t c)
owned-ended e t n c is = record { within = rw length-ended_at is.within; entries = are-ended e t c.committed n c.entries is.entries }

pub owned-converted : (e f t u : ℕ) (c : LogContent) → e ≤ f → IsOwned e t c → IsOwned f u (with_converted t f c)
owned-converted e f t u c le is = record {
  within = omega (arith, length-converted t f c.entries);
  entries = are-converted e f t u c.committed (length c.entries) c.entries le (omega arith) is.entries;
}

pub owned-undone : (e t u : ℕ) (c : LogContent) → IsOwned e t c → IsOwned e u (with_undone t c)
owned-undone e t u c is =
    let old : List Entry = oldest c.committed c.entries in
    let len : length old ≡ c.committed = length-oldest c.entries c.committed is.within in
    record {
      within = omega (arith, len, length-cleared t old);
      entries = are-cleared e t u c.committed old (omega (arith, len)) (are-oldest e t c.committed c.committed c.entries is.entries);
    }

pub owned-tail : (e t : ℕ) (c : LogContent) → IsOwned e t c → HasTailOf t c
owned-tail e t c is = are-tail e t c.committed c.entries is.entries

pub owned-live : (e t d m : ℕ) (c : LogContent) → IsOwned e t c
    → IsSomeAnd (entry_at c.entries m) (λ x. IsTrue (visible x e (Txn t)) × (x.d ≡ d)) → IsSomeAnd (entry_at c.entries m) (λ x. x.ended ≡ Never)
owned-live e t d m c is seen = are-live e t c.committed d m c.entries is.entries seen
