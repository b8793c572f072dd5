-- What a fault tells.
use Rattle.std.specs.Prelude.{◌≡◌, ℕ}
use Rattle.io_edges.specs.Faults.{Rose}
use Rattle.graph_wal.specs.declared.disk_fault.DiskFault.{DiskFault}

-- The fault tells the count before the call and after it, and the count rose in between.
pub record IsFault (before after : ℕ) (fault : DiskFault) : Type 0 where
  pub before_is : fault.before ≡ before
  pub after_is : fault.after ≡ after
  pub rose : Rose before after
