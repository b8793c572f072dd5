-- What is read of a disk, and why a log is not recovered.
use Rattle.std.specs.Prelude.{◌≡◌, ◌≢◌, ℕ, List, [], length, take, Option, IfSome}
use Rattle.io_edges.specs.Faults.{Rose}
use Rattle.group_codec.specs.Log.{FirstBad}
use Rattle.graph_recover.specs.declared.refusal.RecoverRefusal.{RecoverRefusal}
use Rattle.graph_recover.specs.declared.refusal.RecoverRefusal.TheVariants.{NoLog, BadLog, DiskFault, NoMemory}

-- These are the first bytes of a disk, where it tells them.
abbrev pub IsFront : Option (List ℕ) → List ℕ → Type 0
IsFront told bytes = IfSome told (λ b. bytes ≡ take (length bytes) b)

-- why a log is not recovered from these bytes
abbrev pub IsDecodeCause : List ℕ → RecoverRefusal → Type 0
IsDecodeCause bytes (BadLog at group) = FirstBad bytes at group
IsDecodeCause bytes (DiskFault before after) = ⊥
IsDecodeCause bytes NoLog = Unit {0}
IsDecodeCause bytes NoMemory = Unit {0}

-- Why a log is not recovered from a disk that tells this, whose count of faults was one number at entry and
-- another at exit: it has no bytes; it has some, and this group is the first bad one; its count rose; or
-- memory ran out.
abbrev pub IsRecoverCause : Option (List ℕ) → ℕ → ℕ → RecoverRefusal → Type 0
IsRecoverCause told entry exit NoLog = IfSome told (λ b. b ≡ [])
IsRecoverCause told entry exit (BadLog at group) = IfSome told (λ b. (b ≢ []) × FirstBad b at group)
IsRecoverCause told entry exit (DiskFault before after) = (before ≡ entry) × (after ≡ exit) × Rose entry exit
IsRecoverCause told entry exit NoMemory = Unit {0}

-- the numbers of the refusals
abbrev pub recover_number : RecoverRefusal → ℕ
recover_number NoLog = 1
recover_number (BadLog at group) = 2
recover_number (DiskFault before after) = 3
recover_number NoMemory = 4
