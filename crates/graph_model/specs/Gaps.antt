-- How the edges of a list are kept: in slots, newest first, with a gap where an edge was replaced or taken out.
use Rattle.std.specs.Prelude.{◌≡◌, ℕ, Bool, false, ◌==◌, if◌then◌else◌, IsTrue, List, [], ◌∷◌, length, Option, Some, None}
use Rattle.std.specs.Ordering.{nat_cmp}
use Rattle.std.specs.BTreeMap.{BTreeMap, get}
use Rattle.graph_model.specs.declared.pairs.Pair.{Pair}
use Rattle.graph_model.specs.Whole.{are_pairs}
use Rattle.graph_model.specs.Sizes.{list_size}

-- the edges in the slots
abbrev pub edges_in : List (Option Pair) → List Pair
edges_in [] = []
edges_in (None ∷ slots) = edges_in slots
edges_in (Some x ∷ slots) = x ∷ edges_in slots

-- whether a slot has an edge to d
abbrev pub leads_to : ℕ → Option Pair → Bool
leads_to d None = false
leads_to d (Some x) = x.d == d

-- the place of the edge to d, which is the number of the slots behind it
abbrev pub place_of : ℕ → List (Option Pair) → Option ℕ
place_of d [] = None
place_of d (slot ∷ slots) = if leads_to d slot then Some (length slots) else place_of d slots

-- what is in the slot at a place
abbrev pub slot_at : ℕ → List (Option Pair) → Option Pair
slot_at place [] = None
slot_at place (slot ∷ slots) = if length slots == place then slot else slot_at place slots

-- The map tells the place of each edge.
abbrev pub TellsPlaces : BTreeMap ℕ ℕ → List (Option Pair) → Type 0
TellsPlaces places slots = (d : ℕ) → get nat_cmp places d ≡ place_of d slots

-- The slots have edges to distinct destinations, the map tells their places, and the number is the sum of their sizes.
pub record IsKept (slots : List (Option Pair)) (places : BTreeMap ℕ ℕ) (size : ℕ) : Type 0 where
  pub told : TellsPlaces places slots
  pub differ : IsTrue (are_pairs (edges_in slots))
  pub sum : size ≡ list_size (edges_in slots)
