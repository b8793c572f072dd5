-- Entries of the past: whoever looks at an epoch sees those that have not ended.
use Rattle.std.specs.Prelude.{◌≡◌, ℕ, ◌<◌, ◌≤◌, Bool, true, false, nat_le, List, All}
use Rattle.std.specs.List.{AllByRecursion}
use Rattle.stamps.specs.declared.stamp.Stamp.{Stamp}
use Rattle.stamps.specs.declared.stamp.Stamp.TheVariants.{Never, At, By}
use Rattle.stamps.specs.Stamps.{Nobody, counts}
use Rattle.edge_log.specs.Entries.{Entry}
use Rattle.tel_entry.specs.declared.entry.Entry.{Entry as RawEntry}
use Rattle.tel_entry.specs.RawStamps.{private_from, IsPastRaw}
use Rattle.block_layout.specs.Reads.{raw_in}

-- the stamp is none, or an epoch at most e
abbrev pub is_past : ℕ → Stamp → Bool
is_past e Never = true
is_past e (At n) = nat_le n e
is_past e (By t) = false

-- An entry is of the past at epoch e: it began at an epoch at most e, and ended at such an epoch where it has ended.
pub record IsPast (e : ℕ) (x : Entry) : Type 0 where
  pub created : counts x.created e Nobody ≡ true
  pub ended : is_past e x.ended ≡ true

abbrev pub ArePast : ℕ → List Entry → Type 0
ArePast e xs = AllByRecursion (IsPast e) xs

-- The same of its numbers.
pub record IsPastRow (e : ℕ) (raw : RawEntry) : Type 0 where
  pub created : IsPastRaw e raw.created
  pub ended : raw.ended ≤ e
  pub epoch : raw.ended < private_from

-- the rows are of such entries
abbrev pub ArePastRows : ℕ → List (List ℕ) → Type 0
ArePastRows e rows = All (λ row. IsPastRow e (raw_in row)) rows
