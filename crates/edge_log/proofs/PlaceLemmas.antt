-- What stands at, below and between the places of a log.
use Rattle.std.proofs.Common.{◌≡◌, ℕ, ◌+◌, ◌<◌, ◌≤◌, List, [], ◌∷◌, length, refl, arith, Option, Some, None, true, false}
use Rattle.std.specs.Prelude.{IsSome, IsSomeAnd, IfSome, IsTrue, is_some, Bool, ◌==◌, ◌&&◌, if◌then◌else◌}
use Rattle.std.specs.List.{list_any}
use Rattle.std.proofs.lemmas.Bool.Decides.{nat_tests}
use Rattle.stamps.specs.Stamps.{Reader}
use Rattle.graph_model.specs.Graph.{pair_to}
use Rattle.edge_log.specs.Entries.{Entry, visible, pair_of, shown}
use Rattle.edge_log.specs.Places.{entry_at, newest_place, oldest}

-- where an entry stands, its place is within the log
pub entry_at-within : (xs : List Entry) (n : ℕ) (x : Entry) → entry_at xs n ≡ Some x → n < length xs
entry_at-within [] n x at = absurd (cc at)
entry_at-within (y ∷ xs) n x at = grind (arith, nat_tests, entry_at-within xs n x)

pub oldest_all : (xs : List Entry) (n : ℕ) → length xs ≤ n → oldest n xs ≡ xs
oldest_all [] n within = refl
oldest_all (x ∷ xs) n within = grind (arith, nat_tests)

pub oldest_none : (xs : List Entry) → oldest 0 xs ≡ []
oldest_none [] = refl
oldest_none (x ∷ xs) = grind (arith, nat_tests, oldest_none xs)

pub length-oldest : (xs : List Entry) (n : ℕ) → n ≤ length xs → length (oldest n xs) ≡ n
length-oldest [] n within = omega arith
length-oldest (x ∷ xs) n within = grind (arith, nat_tests, length-oldest xs n)

-- one more of the oldest is the one that stands at their place
pub oldest_more : (xs : List Entry) (n : ℕ) (x : Entry) → entry_at xs n ≡ Some x → oldest (n + 1) xs ≡ x ∷ oldest n xs
oldest_more [] n x at = absurd (cc at)
oldest_more (y ∷ xs) n x at = grind (arith, nat_tests, oldest_more xs n x, oldest_all xs n, entry_at-within xs n x)

-- where something is said of the entry at a place, the place is within the log
pub entry_at_some-within : (xs : List Entry) (n : ℕ) (P : Entry → Type 0) → IsSomeAnd (entry_at xs n) P → n < length xs
entry_at_some-within xs n P holds = by_entry (entry_at xs n) refl holds
  where
    by_entry : (o : Option Entry) → entry_at xs n ≡ o → IsSomeAnd o P → n < length xs
    by_entry None at said = absurd said
    by_entry (Some x) at said = entry_at-within xs n x at

-- a place where an entry stands is within the log
pub entry_at_there-within : (xs : List Entry) (n : ℕ) → IsSome (entry_at xs n) → n < length xs
entry_at_there-within xs n there = by_entry (entry_at xs n) refl there
  where
    by_entry : (o : Option Entry) → entry_at xs n ≡ o → IsSome o → n < length xs
    by_entry None at some = let no : false ≡ true = some in (cc)
    by_entry (Some x) at some = entry_at-within xs n x at

-- what the place of the newest visible entry of d says
pub newest_place-found : (xs : List Entry) (d e : ℕ) (who : Reader) → IfSome (newest_place xs d e who) (λ n. IsSomeAnd (entry_at xs n) (λ x. IsTrue (visible x e who) × (x.d ≡ d)))
newest_place-found [] d e who = tt
newest_place-found (y ∷ xs) d e who = by_test (visible y e who && y.d == d) refl (newest_place xs d e who) (newest_place-found xs d e who)
  where
    by_test : (b : Bool) → (visible y e who && y.d == d) ≡ b → (o : Option ℕ) → IfSome o (λ n. IsSomeAnd (entry_at xs n) (λ x. IsTrue (visible x e who) × (x.d ≡ d)))
        → IfSome (if b then Some (length xs) else o) (λ n. IsSomeAnd (entry_at (y ∷ xs) n) (λ x. IsTrue (visible x e who) × (x.d ≡ d)))
    by_test true is o rest =
        let here : (length xs == length xs) ≡ true = grind (arith, nat_tests) in
        let seen : visible y e who ≡ true = grind (arith, is) in
        let same : y.d ≡ d = grind (arith, nat_tests, is) in
        rw here (seen, same)
    by_test false is None rest = tt
    by_test false is (Some n) rest =
        let within = entry_at_some-within xs n (λ x. IsTrue (visible x e who) × (x.d ≡ d)) rest in
        let other : (n == length xs) ≡ false = grind (arith, nat_tests, within) in
        rw other rest

-- there is one exactly where an edge to d is shown
pub newest_place-shown : (xs : List Entry) (d e : ℕ) (who : Reader) → is_some (newest_place xs d e who) ≡ list_any (λ pair. pair.d == d) (shown xs e who)
newest_place-shown [] d e who = refl
newest_place-shown (x ∷ xs) d e who = grind (arith, nat_tests, newest_place-shown xs d e who)

-- the place of the newest visible entry of d is within the log
pub newest_place-within : (xs : List Entry) (d e n : ℕ) (who : Reader) → newest_place xs d e who ≡ Some n → n < length xs
newest_place-within [] d e n who found = absurd (cc)
newest_place-within (y ∷ xs) d e n who found = let rest = newest_place-within xs d e n who in grind (arith, nat_tests, rest, found)

-- the edge to d that is shown is that of the newest visible entry of d
pub pair_to-place : (xs : List Entry) (d e n : ℕ) (who : Reader) (x : Entry) → newest_place xs d e who ≡ Some n → entry_at xs n ≡ Some x → pair_to d (shown xs e who) ≡ Some (pair_of x)
pair_to-place [] d e n who x found at = absurd (cc)
pair_to-place (y ∷ xs) d e n who x found at =
    let rest = pair_to-place xs d e n who x in
    let within = newest_place-within xs d e n who in
    grind (arith, nat_tests, rest, within, found, at)

pub pair_to-none : (xs : List Entry) (d e : ℕ) (who : Reader) → newest_place xs d e who ≡ None → pair_to d (shown xs e who) ≡ None
pair_to-none [] d e who none = refl
pair_to-none (y ∷ xs) d e who none = let rest = pair_to-none xs d e who in grind (arith, nat_tests, rest, none)
