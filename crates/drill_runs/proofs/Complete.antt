-- A drill that had no fault, on a log that is told and has numbers left, was carried out.
use Rattle.std.proofs.Common.{ℕ, List, ap, subst, arith, Option, Some, None}
use Rattle.io_edges.specs.Faults.{Rose}
use Rattle.io_edges.proofs.Counts.{NeverFalls-Rose}
use Rattle.graph_model.specs.declared.record.Record.{Record}
use Rattle.group_codec.proofs.Readings.{one-list}
use Rattle.graph_recover.specs.Bases.{base_of}
use Rattle.log_commands.specs.declared.status.Status.{Status}
use Rattle.log_commands.specs.declared.status.Status.TheVariants as status
use Rattle.log_commands.specs.Status.{IsDoneOrNoMemory}
use Rattle.log_commands.proofs.Ending.{unopened_done}
use Rattle.run_opening.specs.Drill.{HasTooFewNumbers, Undrilled, CanDrill}
use Rattle.drill_runs.specs.Drills.{DrilledAs}

-- a log that has numbers left does not lack them
enough-left : (told : Option (List ℕ)) (sessions : ℕ) → HasTooFewNumbers told sessions → CanDrill told sessions → ⊥
enough-left None sessions lacks can = can.tells
enough-left (Some b) sessions lacks can =
    let one = one-list b lacks.records can.records lacks.durable can.tells.0 lacks.log.bytes.0 can.tells.1 in
    let same = ap (λ (rs : List Record). (base_of rs).next_vertex) one.0 in
    omega (arith, same, lacks.few, can.enough)

-- so no such drill is refused but for want of memory
pub refused_drill_done : (s : Status) (sessions : ℕ) (told : Option (List ℕ)) (entry exit : ℕ) → Undrilled sessions s told entry exit → CanDrill told sessions → (Rose entry exit → ⊥) → IsDoneOrNoMemory s
refused_drill_done status.Usage sessions told entry exit why can quiet = absurd (enough-left told sessions why can)
refused_drill_done s sessions told entry exit why can quiet = unopened_done s told entry exit why (can.records, can.tells) quiet

-- and one whose requests have run was done, or memory ran out behind them
pub ran_drill_done : {K : Type 0} (written : K → Option (List ℕ)) (sink_faults : K → ℕ) (sink sink' : K) (s : Status) (entry exit : ℕ) (text : List ℕ) → DrilledAs written sink_faults sink sink' s entry exit text
    → (Rose (sink_faults sink) (sink_faults sink') → ⊥) → (Rose entry exit → ⊥) → IsDoneOrNoMemory s
ran_drill_done written sink_faults sink sink' status.NoMemory entry exit text as_told calm quiet = tt
ran_drill_done written sink_faults sink sink' status.Done entry exit text as_told calm quiet = tt
ran_drill_done written sink_faults sink sink' status.WriteFault entry exit text as_told calm quiet = absurd (calm as_told.0)
ran_drill_done written sink_faults sink sink' (status.DiskFault before after) entry exit text as_told calm quiet =
    absurd (quiet (subst (Rose entry) as_told.2 (NeverFalls-Rose entry before after as_told.1 as_told.3)))
ran_drill_done written sink_faults sink sink' s entry exit text as_told calm quiet = absurd as_told

-- a drill was refused for its words only where the log has too few numbers
pub usage_lacks : (sessions : ℕ) (told : Option (List ℕ)) (entry exit : ℕ) → Undrilled sessions status.Usage told entry exit → HasTooFewNumbers told sessions
usage_lacks sessions told entry exit why = why
