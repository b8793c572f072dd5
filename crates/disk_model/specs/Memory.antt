-- A disk over memory.
use Rattle.std.specs.Prelude.{◌⊎◌, ℕ, ◌+◌, ◌==◌, ◌<◌, ◌≤◌, ◌^◌, ◌%◌, List, length, take, if◌then◌else◌, nat_lt, Option, Some, None}
use Rattle.std.specs.List.{Contains}
use Rattle.io_edges.specs.Faults.{one_more}
use Rattle.disk_model.specs.declared.calls.Kind.{Kind}
use Rattle.disk_model.specs.declared.calls.Kind.TheVariants as kinds
use Rattle.disk_model.specs.declared.calls.Fail.{Fail}
use Rattle.disk_model.specs.declared.calls.Calls.{Calls}
use Rattle.disk_model.specs.Calls.{count_of, called}
use Rattle.disk_model.specs.Steps.{Step, reads, Image, written, imaged}
use Rattle.disk_model.specs.Past.{Past, recorded}

-- its past, the moment, how often it was called, which calls are to fail, and the count of faults
pub record MemoryDisk : Type 0 where
  pub past : Past
  pub moment : ℕ
  pub calls : Calls
  pub failing : List Fail
  pub faults : ℕ

-- what a read gives
abbrev pub bytes_of : MemoryDisk → List ℕ
bytes_of d = reads d.past.first d.past.steps

-- the steps up to a moment
abbrev pub steps_to : MemoryDisk → ℕ → List Step
steps_to d moment = if nat_lt moment d.moment then take moment d.past.steps else d.past.steps

-- what a crash at a moment may leave
abbrev pub ImageAt : MemoryDisk → ℕ → List ℕ → Type 0
ImageAt d moment = Image d.past.first (steps_to d moment)

-- The next call of a kind is listed among those that fail.
abbrev pub IsListed : MemoryDisk → Kind → Type 0
IsListed d kind = Contains d.failing (record { kind = kind; number = one_more (count_of d.calls kind) })

-- The next call of a kind fails, one that is recorded: it is listed, or no place is left for it.
abbrev pub IsRefused : MemoryDisk → Kind → Type 0
IsRefused d kind = IsListed d kind ⊎ (d.past.places ≤ length d.past.steps)

-- A write of n bytes from a place on passes the room: the file would be longer, or all bytes written would be
-- more; or it would end past 2^63 - 1.
abbrev pub PassesRoom : MemoryDisk → ℕ → ℕ → Type 0
PassesRoom d place n = (d.past.room < place + n) ⊎ (d.past.room < written d.past.steps + n) ⊎ (2 ^ 63 ≤ place + n)

-- The next write of n bytes from a place on fails.
abbrev pub WriteFails : MemoryDisk → ℕ → ℕ → Type 0
WriteFails d place n = IsRefused d kinds.Write ⊎ PassesRoom d place n

-- after a call that changes nothing
abbrev pub after_call : MemoryDisk → Kind → MemoryDisk
after_call d kind = record d { calls = called d.calls kind }

-- after a call that failed and changes nothing else
abbrev pub after_fault : MemoryDisk → Kind → MemoryDisk
after_fault d kind = record d { calls = called d.calls kind; faults = one_more d.faults }

-- after a call that did a step
abbrev pub after_step : MemoryDisk → Kind → Step → MemoryDisk
after_step d kind step = record d { past = recorded d.past step; moment = one_more d.moment; calls = called d.calls kind }

-- after a call that failed at a step
abbrev pub after_failed : MemoryDisk → Kind → Step → MemoryDisk
after_failed d kind step = record d { past = recorded d.past step; moment = one_more d.moment; calls = called d.calls kind; faults = one_more d.faults }

-- what a choice fills pending ranges with: nothing, where it is 0 or 1
abbrev pub fill_of : ℕ → Option ℕ
fill_of choice = if nat_lt choice 2 then None else Some (choice % 256)

-- The image of a choice: 0 keeps nothing that is pending, 1 keeps all of it, and any other fills what is
-- pending with one byte.
abbrev pub chosen : MemoryDisk → ℕ → ℕ → List ℕ
chosen d moment choice = if choice == 1 then reads d.past.first (steps_to d moment) else imaged (fill_of choice) d.past.first d.past.first (steps_to d moment)
