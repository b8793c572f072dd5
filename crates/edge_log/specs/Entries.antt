-- What an edge log shows, and what the end of a transaction makes of its entries. Each list of entries has the newest first.
use Rattle.std.specs.Prelude.{ℕ, ◌+◌, length, Bool, ◌&&◌, ◌||◌, not, if◌then◌else◌, List, [], ◌∷◌, sum_by}
use Rattle.graph_model.specs.declared.pairs.Pair.{Pair}
use Rattle.graph_model.specs.Change.{edge_size}
use Rattle.std.specs.List.{list_any}
use Rattle.stamps.specs.declared.stamp.Stamp.{Stamp}
use Rattle.stamps.specs.declared.stamp.Stamp.TheVariants.{Never, By}
use Rattle.stamps.specs.Stamps.{Reader, Nobody, counts, is_by, converted_stamp, cleared_stamp}

-- an edge to d with the payload p: from the stamp `created` on until the stamp `ended`
pub record Entry : Type 0 where
  pub d : ℕ
  pub p : List ℕ
  pub created : Stamp
  pub ended : Stamp

-- A reader at epoch e sees the entry: its beginning counts for the reader, and its end does not.
abbrev pub visible : Entry → ℕ → Reader → Bool
visible x e who = counts x.created e who && not (counts x.ended e who)

abbrev pub pair_of : Entry → Pair
pair_of x = record { d = x.d; p = x.p }

-- The edges that a reader at epoch e sees: the pairs of the visible entries, last appended first.
abbrev pub shown : List Entry → ℕ → Reader → List Pair
shown [] e who = []
shown (x ∷ xs) e who = if visible x e who then pair_of x ∷ shown xs e who else shown xs e who

-- what an entry takes in its log
abbrev pub entry_size : Entry → ℕ
entry_size x = edge_size x.p

abbrev pub sizes : List Entry → ℕ
sizes entries = sum_by entry_size entries

-- the bytes of all payloads
abbrev pub payload_sum : List Entry → ℕ
payload_sum [] = 0
payload_sum (x ∷ xs) = length x.p + payload_sum xs

-- a new edge, private to a transaction
abbrev pub fresh_entry : ℕ → List ℕ → ℕ → Entry
fresh_entry d p t = record { d = d; p = p; created = By t; ended = Never }

-- a transaction that has not committed made the entry or ended it
abbrev pub is_entry_of : ℕ → Entry → Bool
is_entry_of t x = is_by t x.created || is_by t x.ended

abbrev pub has_entry_of : ℕ → List Entry → Bool
has_entry_of t entries = list_any (is_entry_of t) entries

-- a transaction's private stamps become its epoch
abbrev pub converted : ℕ → ℕ → List Entry → List Entry
converted t e [] = []
converted t e (x ∷ xs) = record { d = x.d; p = x.p; created = converted_stamp t e x.created; ended = converted_stamp t e x.ended } ∷ converted t e xs

-- a transaction's private end stamps are taken off
abbrev pub cleared : ℕ → List Entry → List Entry
cleared t [] = []
cleared t (x ∷ xs) = record { d = x.d; p = x.p; created = x.created; ended = cleared_stamp t x.ended } ∷ cleared t xs

-- the entries but those that ended at an epoch at most h, which no snapshot from h on sees
abbrev pub kept : ℕ → List Entry → List Entry
kept h [] = []
kept h (x ∷ xs) = if counts x.ended h Nobody then kept h xs else x ∷ kept h xs
