-- What log a disk holds, and why none was opened.
use Rattle.std.specs.Prelude.{◌≡◌, ◌≢◌, ℕ, ◌≤◌, List, [], length, Option, IfSome}
use Rattle.io_edges.specs.Faults.{Rose}
use Rattle.graph_model.specs.declared.record.Record.{Record}
use Rattle.graph_model.specs.Records.{Lawful}
use Rattle.disk_model.specs.Images.{Stays}
use Rattle.group_codec.specs.Log.{Recovers, FirstBad}
use Rattle.log_commands.specs.declared.status.Status.{Status}
use Rattle.log_commands.specs.declared.status.Status.TheVariants as status

-- The log has these lawful records and this durable length, and so many bytes. They are those that the disk's
-- bytes recover to, where it tells them.
pub record HasLog (told : Option (List ℕ)) (records : List Record) (durable size : ℕ) : Type 0 where
  pub lawful : Lawful records
  pub within : durable ≤ size
  pub bytes : IfSome told (λ b. Recovers b records durable × (size ≡ length b))

-- The disk's count of faults rose from entry to exit, and these are its values.
pub record IsDiskFault (entry exit before after : ℕ) : Type 0 where
  pub before_is : before ≡ entry
  pub after_is : after ≡ exit
  pub rose : Rose entry exit

-- Why no log was opened on a disk that tells this, whose count of faults was one number at entry and another at
-- exit: it has no bytes; it has some, and this group is the first bad one; its count rose; or memory ran out.
abbrev pub Unopened : Status → Option (List ℕ) → ℕ → ℕ → Type 0
Unopened status.NoLog told entry exit = IfSome told (λ b. b ≡ [])
Unopened (status.BadLog at group) told entry exit = IfSome told (λ b. (b ≢ []) × FirstBad b at group)
Unopened (status.DiskFault before after) told entry exit = IsDiskFault entry exit before after
Unopened status.NoMemory told entry exit = Unit {0}
Unopened s told entry exit = ⊥

-- The disk was not written: its bytes, its moment and what a crash may leave of it are as they were.
pub record IsUnwritten {D : Type 0} (told : D → Option (List ℕ)) (moment : D → ℕ) (images : D → ℕ → List ℕ → Type 0) (old new : D) : Type 0 where
  pub same_bytes : told new ≡ told old
  pub same_images : Stays (moment old) (moment new) (images old) (images new)
