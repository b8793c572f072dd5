-- The slots of turns, and the lists whose values lie in them.
use Rattle.std.proofs.Common.{◌≡◌, ◌≢◌, ℕ, zero, suc, ◌<◌, List, [], ◌∷◌, length, sym, refl, ap, ◌∙◌, arith, Option, None}
use lib.ListN.{get_elem?}
use Rattle.turn_board.specs.Spread.{slot_of, turns_in, spread, at_turns, IsSpread}

-- two turns have two slots
pub same_slot : (j k : ℕ) → j ≢ k → slot_of j ≢ slot_of k
same_slot j k ne e = ne (omega arith)

-- as many turns as have their slots among so many
pub turns_of_slots : (n slots : ℕ) → slots ≡ slot_of n → n ≡ turns_in slots
turns_of_slots n slots e = omega (arith, e)

next_slot : (k : ℕ) → slot_of (suc k) ≡ suc (suc (slot_of k))
next_slot k = omega arith

pub spread_length : {A : Type 0} (xs : List (Option A)) → length (spread xs) ≡ slot_of (length xs)
spread_length [] = refl
spread_length (x ∷ xs) = let rest = spread_length xs in omega (arith, rest)

-- each value lies in the slot of its turn
pub spread_at : {A : Type 0} (xs : List (Option A)) (k : ℕ) → get_elem? (spread xs) (slot_of k) ≡ get_elem? xs k
spread_at [] k = refl
spread_at (x ∷ xs) zero = refl
spread_at (x ∷ xs) (suc k) = ap (λ (i : ℕ). get_elem? (x ∷ None ∷ spread xs) i) (next_slot k) ∙ spread_at xs k

-- and nothing in those between
pub spread_is : {A : Type 0} (xs : List (Option A)) → IsSpread (spread xs)
spread_is [] i inside between = absurd (omega (arith, inside))
spread_is (x ∷ xs) zero inside between = absurd (between 0 refl)
spread_is (x ∷ xs) (suc zero) inside between = refl
spread_is (x ∷ xs) (suc (suc i)) inside between = spread_is xs i (omega (arith, inside)) (λ k e. between (suc k) (ap (λ (n : ℕ). suc (suc n)) e ∙ sym (next_slot k)))

pub at_turns_spread : {A : Type 0} (xs : List (Option A)) → at_turns (spread xs) ≡ xs
at_turns_spread [] = refl
at_turns_spread (x ∷ xs) = λ i. x ∷ at_turns_spread xs i

pub at_turns_length : {A : Type 0} (xs : List A) → length (at_turns xs) ≡ turns_in (length xs)
at_turns_length [] = refl
at_turns_length (x ∷ []) = refl
at_turns_length (x ∷ y ∷ xs) = let rest = at_turns_length xs in omega (arith, rest)

pub at_turns_at : {A : Type 0} (xs : List A) (k : ℕ) → k < turns_in (length xs) → get_elem? (at_turns xs) k ≡ get_elem? xs (slot_of k)
at_turns_at [] k low = absurd (omega (arith, low))
at_turns_at (x ∷ []) k low = absurd (omega (arith, low))
at_turns_at (x ∷ y ∷ xs) zero low = refl
at_turns_at (x ∷ y ∷ xs) (suc k) low = at_turns_at xs k (omega (arith, low)) ∙ ap (λ (i : ℕ). get_elem? (x ∷ y ∷ xs) i) (sym (next_slot k))

-- values that are spread are gathered again
pub gathers : {A : Type 0} (xs ys : List (Option A)) → ys ≡ spread xs → (ys ≡ spread (at_turns ys)) × (at_turns ys ≡ xs)
gathers xs ys e = (e ∙ ap (λ z. spread z) (sym back), back)
  where
    back : at_turns ys ≡ xs
    back = ap (λ z. at_turns z) e ∙ at_turns_spread xs
