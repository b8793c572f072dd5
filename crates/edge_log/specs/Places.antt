-- The places of a log. They count from the log's start: at place n there are n entries below, so that a place stays what it is while entries are appended. Each list of entries has the newest first.
use Rattle.std.specs.Prelude.{◌≡◌, ℕ, ◌+◌, ◌≤◌, ◌&&◌, if◌then◌else◌, ◌==◌, nat_le, List, [], ◌∷◌, length, Option, Some, None}
use Rattle.stamps.specs.declared.stamp.Stamp.TheVariants.{By}
use Rattle.stamps.specs.Stamps.{Reader}
use Rattle.edge_log.specs.declared.place.Place.{Place}
use Rattle.edge_log.specs.Entries.{Entry, visible, payload_sum}

-- the entry at a place
abbrev pub entry_at : List Entry → ℕ → Option Entry
entry_at [] n = None
entry_at (x ∷ xs) n = if n == length xs then Some x else entry_at xs n

-- the place of the newest visible entry of d
abbrev pub newest_place : List Entry → ℕ → ℕ → Reader → Option ℕ
newest_place [] d e who = None
newest_place (x ∷ xs) d e who = if visible x e who && x.d == d then Some (length xs) else newest_place xs d e who

-- the entries where that at a place is ended by a transaction
abbrev pub ended_at : List Entry → ℕ → ℕ → List Entry
ended_at [] n t = []
ended_at (x ∷ xs) n t = if n == length xs then record x { ended = By t } ∷ xs else x ∷ ended_at xs n t

-- the entries below a place, which are the oldest n
abbrev pub oldest : ℕ → List Entry → List Entry
oldest n [] = []
oldest n (x ∷ xs) = if nat_le (length xs + 1) n then x ∷ xs else oldest n xs

-- A place is one of a log: no more entries are below it than there are, and their payloads have the bytes that it says.
pub record IsPlaceIn (entries : List Entry) (place : Place) : Type 0 where
  pub within : place.below ≤ length entries
  pub props : place.props ≡ payload_sum (oldest place.below entries)

-- Each entry from place n on was created by a transaction that has not committed.
abbrev pub TailIsBy : ℕ → ℕ → List Entry → Type 0
TailIsBy t n [] = Unit {0}
TailIsBy t n (x ∷ xs) = (n ≤ length xs → x.created ≡ By t) × TailIsBy t n xs
