-- Stamps as numbers of 64 bits: 0 is none, an epoch is itself, and a private stamp is 2^63 and its transaction.
use Rattle.std.specs.Prelude.{ℕ, ◌+◌, ◌-◌, ◌^◌, ◌<◌, ◌≤◌, Bool, ◌&&◌, ◌==◌, nat_lt, not, if◌then◌else◌}
use Rattle.stamps.specs.declared.stamp.Stamp.{Stamp}
use Rattle.stamps.specs.declared.stamp.Stamp.TheVariants.{Never, At, By}
use Rattle.stamps.specs.Stamps.{Reader, counts}

-- the least private stamp
abbrev pub private_from : ℕ
private_from = 2 ^ 63

-- the stamp that a number is
abbrev pub stamp_of : ℕ → Stamp
stamp_of n = if n == 0 then Never else if nat_lt n private_from then At n else By (n - private_from)

-- the number of a stamp
abbrev pub raw_of : Stamp → ℕ
raw_of Never = 0
raw_of (At e) = e
raw_of (By t) = private_from + t

-- A number stands for the stamp: an epoch is not 0, and it and the transaction are below 2^63.
abbrev pub HasRaw : Stamp → Type 0
HasRaw Never = Unit {0}
HasRaw (At e) = (0 < e) × (e < private_from)
HasRaw (By t) = t < private_from

-- A reader at epoch e sees what has these stamps: its beginning counts for the reader, and its end does not.
abbrev pub raw_visible : ℕ → ℕ → ℕ → Reader → Bool
raw_visible created ended e who = counts (stamp_of created) e who && not (counts (stamp_of ended) e who)

-- The number is that of an epoch at most e.
pub record IsPastRaw (e n : ℕ) : Type 0 where
  pub some : 0 < n
  pub past : n ≤ e
  pub epoch : n < private_from
