-- When a stamp counts, and what the end of its transaction makes of it.
use Rattle.std.specs.Prelude.{ℕ, Bool, true, false, ◌==◌, nat_le, if◌then◌else◌}
use Rattle.stamps.specs.declared.stamp.Stamp.{Stamp}
use Rattle.stamps.specs.declared.stamp.Stamp.TheVariants.{Never, At, By}

-- A reader: nobody, who sees committed stamps alone, or a transaction.
pub data Reader : Type 0 where
  Nobody : Reader
  Txn : (t : ℕ) → Reader

-- A stamp counts for a reader at epoch e: an epoch at most e does, and the reader's own private stamp.
abbrev pub counts : Stamp → ℕ → Reader → Bool
counts Never e who = false
counts (At s) e who = nat_le s e
counts (By t) e Nobody = false
counts (By t) e (Txn u) = t == u

-- the stamp is private to a transaction
abbrev pub is_by : ℕ → Stamp → Bool
is_by t Never = false
is_by t (At e) = false
is_by t (By u) = u == t

-- the stamp is private
abbrev pub is_private : Stamp → Bool
is_private Never = false
is_private (At e) = false
is_private (By t) = true

-- a transaction's private stamp becomes its epoch, and every other stamp stays
abbrev pub converted_stamp : ℕ → ℕ → Stamp → Stamp
converted_stamp t e Never = Never
converted_stamp t e (At s) = At s
converted_stamp t e (By u) = if u == t then At e else By u

-- a transaction's private stamp is taken off, and every other stamp stays
abbrev pub cleared_stamp : ℕ → Stamp → Stamp
cleared_stamp t Never = Never
cleared_stamp t (At s) = At s
cleared_stamp t (By u) = if u == t then Never else By u
