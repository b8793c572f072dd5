-- One story of a log: an append, an append that failed, another in its place, and a mend.
use Rattle.std.specs.Prelude.{◌≡◌, ◌⊎◌, ℕ, ◌<◌, ◌≤◌, List, [], ◌++◌}
use Rattle.graph_model.specs.declared.record.Record.{Record}
use Rattle.disk_model.specs.Memory.{MemoryDisk, bytes_of, ImageAt}
use Rattle.graph_wal.specs.Log.{RecoversTo}

-- What every image of every moment recovers to, from the moment at which the log was made.
pub record IsKnown (disk : MemoryDisk) (made first_at last_at : ℕ) (first failing last : List Record) : Type 0 where
  pub in_order : (made ≤ first_at) × (first_at ≤ last_at) × (last_at ≤ disk.moment)
  pub empty : (m : ℕ) (c : List ℕ) → made ≤ m → m < first_at → ImageAt disk m c → RecoversTo [] c ⊎ RecoversTo first c
  pub one : (m : ℕ) (c : List ℕ) → first_at ≤ m → m < last_at → ImageAt disk m c →
      RecoversTo first c ⊎ RecoversTo (first ++ failing) c ⊎ RecoversTo (first ++ last) c
  pub both : (m : ℕ) (c : List ℕ) → last_at ≤ m → m ≤ disk.moment → ImageAt disk m c → RecoversTo (first ++ last) c
  pub settled : (c : List ℕ) → ImageAt disk disk.moment c → c ≡ bytes_of disk
