-- What one transaction after another makes of a log.
use Rattle.std.specs.Prelude.{◌≡◌, ℕ, ◌<◌, ◌≤◌, List, [], ◌∷◌, length}
use Rattle.stamps.specs.declared.stamp.Stamp.{Stamp}
use Rattle.stamps.specs.declared.stamp.Stamp.TheVariants.{Never, At, By}
use Rattle.edge_log.specs.Entries.{Entry}
use Rattle.edge_log.specs.Contents.{LogContent}

-- a stamp is an epoch up to this one
abbrev pub IsEpochTo : ℕ → Stamp → Type 0
IsEpochTo e Never = ⊥
IsEpochTo e (At s) = s ≤ e
IsEpochTo e (By u) = ⊥

-- a stamp is none, an epoch up to this one, or private to a transaction
abbrev pub IsEndOf : ℕ → ℕ → Stamp → Type 0
IsEndOf e t Never = Unit {0}
IsEndOf e t (At s) = s ≤ e
IsEndOf e t (By u) = u ≡ t

-- The entries below a place began at epochs up to e, those from it on are private to the transaction t, and those that ended did so until e, or privately to t.
abbrev pub AreOwned : ℕ → ℕ → ℕ → List Entry → Type 0
AreOwned e t n [] = Unit {0}
AreOwned e t n (x ∷ xs) = (length xs < n → IsEpochTo e x.created) × (n ≤ length xs → x.created ≡ By t) × IsEndOf e t x.ended × AreOwned e t n xs

-- Nothing in the log is newer than the epoch e but what the transaction t did, which is private to it.
pub record IsOwned (e t : ℕ) (content : LogContent) : Type 0 where
  pub within : content.committed ≤ length content.entries
  pub entries : AreOwned e t content.committed content.entries
