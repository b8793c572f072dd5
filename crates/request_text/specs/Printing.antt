-- What printing leaves in a sink and in the way to it.
use Rattle.std.specs.Prelude.{◌≡◌, ℕ, List, [], ◌++◌, Option, Result, OnOk, OnErr}
use Rattle.std.specs.Io.KnownBytes.{append_known}
use Rattle.io_edges.specs.Faults.{NeverFalls, Rose}
use Rattle.io_edges.specs.Writes.{Appended, AppendedPart}
use Rattle.io_edges.specs.declared.write_fault.WriteFault.{WriteFault}

-- The bytes that a sink tells, those that are pending before it, and its count of faults.
pub record Outflow : Type 0 where
  pub written : Option (List ℕ)
  pub pending : List ℕ
  pub faults : ℕ

abbrev pub outflow : Option (List ℕ) → List ℕ → ℕ → Outflow
outflow written pending faults = record { written = written; pending = pending; faults = faults }

-- A call put these bytes behind those that were pending, as `put` of an outlet puts one piece.
pub record Puts (before after : Outflow) (result : Result Unit WriteFault) (bytes : List ℕ) : Type 0 where
  pub put : OnOk result (Appended (append_known before.written before.pending) (append_known after.written after.pending) bytes)
  pub write_fault : OnErr result (Rose before.faults after.faults)
  pub part : AppendedPart before.written after.written (before.pending ++ bytes)
  pub emptied : OnErr result (after.pending ≡ [])
  pub count : NeverFalls before.faults after.faults
