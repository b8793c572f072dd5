-- What the status of a drill says of the sink, by how its line was printed and how the last mending ended.
use Rattle.std.proofs.Common.{◌≡◌, ℕ, ◌≤◌, List, Option, Result, Ok, Err}
use Rattle.std.specs.Prelude.{OnOk, OnErr, IfErr}
use Rattle.io_edges.specs.Faults.{Rose}
use Rattle.io_edges.specs.Writes.{Appended, AppendedPart}
use Rattle.io_edges.specs.declared.write_fault.WriteFault.{WriteFault}
use Rattle.graph_wal.specs.declared.disk_fault.DiskFault.{DiskFault}
use Rattle.run_ending.specs.Ending.{status_after}
use Rattle.drill_runs.specs.Drills.{DrilledAs}

pub drilled-as : {K : Type 0} (written : K → Option (List ℕ)) (faults : K → ℕ) (sink sink' : K) (printed : Result (Unit {0}) WriteFault) (mended : Result (Unit {0}) DiskFault) (entry exit : ℕ) (text : List ℕ)
    → OnOk printed (Appended (written sink) (written sink') text) → OnErr printed (Rose (faults sink) (faults sink')) → OnErr printed (AppendedPart (written sink) (written sink') text)
    → IfErr mended (λ fault. (entry ≤ fault.before) × (fault.after ≡ exit) × Rose fault.before fault.after)
    → DrilledAs written faults sink sink' (status_after printed mended) entry exit text
drilled-as written faults sink sink' (Err e) mended entry exit text all rose part fault = (rose, part)
drilled-as written faults sink sink' (Ok x) (Err f) entry exit text all rose part fault = (all, fault.0, fault.1, fault.2)
drilled-as written faults sink sink' (Ok x) (Ok y) entry exit text all rose part fault = all
