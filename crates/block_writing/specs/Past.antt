-- Whether a stamp that stands in a block is past.
use Rattle.std.specs.Prelude.{ℕ, Bool}
use Rattle.stamps.specs.Stamps.{Nobody, counts}
use Rattle.tel_entry.specs.RawStamps.{stamp_of}

-- the number is that of an epoch at most h
abbrev pub is_past : ℕ → ℕ → Bool
is_past h stamp = counts (stamp_of stamp) h Nobody
