-- The slots of turns, and those between, which are empty.
use Rattle.std.specs.Prelude.{◌≡◌, ◌≢◌, ◌<◌, ◌*◌, ◌/◌, ℕ, List, [], ◌∷◌, length, Option, None}
use mathlib.Core.Option.{some}
use lib.ListN.{get_elem?}

-- Values of two turns lie in two cache lines: the slot of a turn is the second after that of the turn before it.
abbrev pub slot_of : ℕ → ℕ
slot_of k = k * 2

-- how many turns have their slots among so many slots
abbrev pub turns_in : ℕ → ℕ
turns_in slots = slots / 2

-- the slot is that of no turn
abbrev pub IsBetween : ℕ → Type 0
IsBetween i = (k : ℕ) → i ≢ slot_of k

-- the values of turns, each in its slot, with nothing in the slots between
abbrev pub spread : {A : Type 0} → List (Option A) → List (Option A)
spread [] = []
spread (x ∷ xs) = x ∷ None ∷ spread xs

-- what lies in the slots of turns
abbrev pub at_turns : {A : Type 0} → List A → List A
at_turns [] = []
at_turns (x ∷ []) = []
at_turns (x ∷ y ∷ xs) = x ∷ at_turns xs

-- nothing lies in the slots between
abbrev pub IsSpread : {A : Type 0} → List (Option A) → Type 0
IsSpread xs = (i : ℕ) → i < length xs → IsBetween i → get_elem? xs i ≡ some None
