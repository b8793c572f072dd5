-- When a row stands for its vertex's past and its owner's own changes.
use Rattle.std.specs.Prelude.{◌≡◌, ℕ, ◌+◌, ◌≤◌, Bool, true, ◌&&◌, not, if◌then◌else◌, List, [], ◌∷◌, length, map, Option, Some, None}
use Rattle.graph_model.specs.declared.change.Change.{Change}
use Rattle.graph_model.specs.declared.pairs.Pair.{Pair}
use Rattle.graph_model.specs.Change.{edge_size}
use Rattle.graph_model.specs.Whole.{rise}
use Rattle.stamps.specs.declared.stamp.Stamp.{Stamp}
use Rattle.stamps.specs.declared.stamp.Stamp.TheVariants.{Never, At, By}
use Rattle.stamps.specs.Stamps.{Nobody, Txn, is_private}
use Rattle.edge_log.specs.Entries.{Entry, shown}
use Rattle.edge_log.specs.Contents.{LogContent}
use Rattle.vertex_versions.specs.declared.version.Version.{Version}
use Rattle.core_rows.specs.Rows.{Row, Life, newest, log_at}
use Rattle.row_pasts.specs.Lives.{lives, lists, all_fit, puts, Past, until, changes_of, AllUntil, Rising, last_epoch}

-- a stamp of the past, or the owner's
abbrev pub StampFits : ℕ → Option ℕ → Stamp → Type 0
StampFits n o Never = Unit {0}
StampFits n o (At s) = s ≤ n
StampFits n o (By t) = o ≡ Some t

abbrev pub StampsFit : ℕ → Option ℕ → List Entry → Type 0
StampsFit n o [] = Unit {0}
StampsFit n o (x ∷ xs) = StampFits n o x.created × StampFits n o x.ended × StampsFit n o xs

abbrev pub VersionsFit : ℕ → Option ℕ → List Version → Type 0
VersionsFit n o [] = Unit {0}
VersionsFit n o (x ∷ xs) = StampFits n o x.created × VersionsFit n o xs

abbrev pub createds : List Entry → List Stamp
createds [] = []
createds (x ∷ xs) = x.created ∷ createds xs

-- how many entries lie below the private ones at the head
abbrev pub settled_count : List Stamp → ℕ
settled_count [] = 0
settled_count (x ∷ xs) = if is_private x then settled_count xs else length xs + 1

abbrev pub none_private : List Stamp → Bool
none_private [] = true
none_private (x ∷ xs) = not (is_private x) && none_private xs

-- the private ones stand at the head alone
abbrev pub private_first : List Stamp → Bool
private_first [] = true
private_first (x ∷ xs) = if is_private x then private_first xs else none_private xs

-- what the pairs of a list take, the committed entries of a log, and the private ones
abbrev pub pair_sizes : List Pair → ℕ
pair_sizes [] = 0
pair_sizes (x ∷ xs) = edge_size x.p + pair_sizes xs

abbrev pub settled_sizes : List Entry → ℕ
settled_sizes [] = 0
settled_sizes (x ∷ xs) = if is_private x.created then settled_sizes xs else edge_size x.p + settled_sizes xs

abbrev pub private_sizes : List Entry → ℕ
private_sizes [] = 0
private_sizes (x ∷ xs) = if is_private x.created then edge_size x.p + private_sizes xs else private_sizes xs

-- One log, given the list of the base at its label.
pub record LogFits (floor : ℕ) (committed : ℕ) (past : List Past) (owner : Option ℕ) (own : List Change) (base : List Pair) (l : ℕ) (log : LogContent) : Type 0 where
  -- each stamp is an epoch at most the committed one, or the owner's
  pub stamps : StampsFit committed owner log.entries
  -- without a change of the owner none is private
  pub plain : own ≡ [] → StampsFit committed None log.entries
  -- the private entries are those above the committed count
  pub count : log.committed ≡ settled_count (createds log.entries)
  pub order : private_first (createds log.entries) ≡ true
  -- the committed entries take no more than the base's list and the past's Puts, the private ones no more than the owner's
  pub settled_room : settled_sizes log.entries ≤ pair_sizes base + puts l (changes_of past)
  pub private_room : private_sizes log.entries ≤ puts l own
  -- each epoch shows the past to nobody
  pub others : (e : ℕ) → floor ≤ e → shown log.entries e Nobody ≡ lists l (until e past) base
  -- the owner sees the past and its own changes
  pub mine : (t : ℕ) → owner ≡ Some t → (e : ℕ) → committed ≤ e → shown log.entries e (Txn t) ≡ lists l own (lists l (changes_of past) base)

-- The versions, given what the base has of the vertex.
pub record LifeFits (floor : ℕ) (committed : ℕ) (past : List Past) (owner : Option ℕ) (own : List Change) (base : Life) (versions : List Version) : Type 0 where
  pub stamps : VersionsFit committed owner versions
  pub plain : own ≡ [] → VersionsFit committed None versions
  pub others : (e : ℕ) → floor ≤ e → newest versions e Nobody ≡ lives (until e past) base
  pub mine : (t : ℕ) → owner ≡ Some t → (e : ℕ) → committed ≤ e → newest versions e (Txn t) ≡ lives own (lives (changes_of past) base)

-- What the base has of one vertex.
pub record Rooted : Type 0 where
  pub life : Life
  pub lists : ℕ → List Pair
  pub epoch : ℕ  -- of the base for a vertex of it, else 0

-- A whole row.
pub record RowFits (floor : ℕ) (base : Rooted) (past : List Past) (own : List Change) (row : Row) : Type 0 where
  pub life : LifeFits floor row.committed past row.owner own base.life row.versions
  pub logs : (l : ℕ) → LogFits floor row.committed past row.owner own (base.lists l) l (log_at row.logs l)
  -- the labels rise
  pub labels : rise (map (λ x. x.label) row.logs) ≡ true
  pub past_low : AllUntil row.committed past
  pub rising : Rising past
  pub committed : row.committed ≡ last_epoch base.epoch past
  pub past_fits : all_fit (changes_of past) base.life ≡ true
  pub own_fits : all_fit own (lives (changes_of past) base.life) ≡ true
