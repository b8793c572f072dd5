-- What a disk over memory keeps true.
use Rattle.std.specs.Prelude.{◌≤◌, vec_capacity}
use Rattle.disk_model.specs.declared.mem_disk.MemDisk.TheInside.{Inside}
use Rattle.disk_model.specs.Memory.{MemoryDisk}
use Rattle.disk_model.specs.Past.{IsNow, IsPaced}

-- the disk that the fields stand for
abbrev pub disk_of : Inside → MemoryDisk
disk_of d = record { past = d.history; moment = d.moment; calls = d.calls; failing = d.failing.items; faults = d.faults }

-- The bytes are those that its past leaves, there is memory for all that there is room for, and it keeps pace
-- with its past.
pub record IsTrueToPast (d : Inside) : Type 0 where
  pub now : IsNow d.bytes.items d.history
  pub memory : d.history.room ≤ vec_capacity d.bytes
  pub paced : IsPaced d.history d.moment
