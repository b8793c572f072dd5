-- A run that had no fault, on a log and a script that are told, was carried out.
use Rattle.std.proofs.Common.{◌≡◌, ℕ, ◌+◌, List, [], ◌++◌, length, ap, ◌∙◌, subst, arith, length-append, Option, Some, None, Result, Ok, Err}
use Rattle.std.proofs.lemmas.Bool.{false≢true}
use Rattle.std.proofs.lemmas.List.{append-nil}
use Rattle.std.specs.Prelude.{IsOk}
use Rattle.io_edges.specs.Faults.{Rose}
use Rattle.io_edges.specs.Reads.{TookCount}
use Rattle.io_edges.proofs.Counts.{NeverFalls-Rose}
use Rattle.request_text.specs.Scripts.{script_of}
use Rattle.log_commands.specs.declared.status.Status.{Status}
use Rattle.log_commands.specs.declared.status.Status.TheVariants as status
use Rattle.log_commands.specs.Status.{IsDoneOrNoMemory}
use Rattle.log_commands.specs.Check.{CanCheck}
use Rattle.log_commands.proofs.Ending.{unopened_done}
use Rattle.run_opening.specs.Script.{script_most, ReadNoScript, TellsScript}
use Rattle.run_opening.specs.Opening.{Unrun}
use Rattle.run_ending.specs.Ran.{RanAs}

-- what is a script is not refused
bad : {T E : Type 0} (r : Result T E) (e : E) → IsOk r → r ≡ Err e → ⊥
bad (Ok x) e ok is = cc
bad (Err x) e ok is = absurd (false≢true ok)

-- a script that is told is not read as none
told-script : (left left' : Option (List ℕ)) (line column : ℕ) → TellsScript left → ReadNoScript left left' line column → ⊥
told-script None left' line column tells no_script = tells
told-script (Some l) None line column tells no_script = let took = no_script.read.took in cc
told-script (Some l) (Some l') line column tells no_script = bad (script_of l) (record { line = line; column = column }) tells.1 (ap script_of whole ∙ no_script.refused)
  where
    rest : l' ≡ []
    rest = no_script.read.ended

    whole : l ≡ no_script.bytes
    whole = let took = no_script.read.took in let is : l ≡ no_script.bytes ++ l' = cc in is ∙ ap (λ x. no_script.bytes ++ x) rest ∙ append-nil no_script.bytes

-- and is not too long
told-short : (left left' : Option (List ℕ)) → TellsScript left → TookCount left left' (script_most + 1) → ⊥
told-short None left' tells took = tells
told-short (Some l) None tells took = let is = took.took in cc
told-short (Some l) (Some l') tells took =
    let is = took.took in
    let whole : l ≡ took.bytes ++ l' = cc in
    let long : length l ≡ length (took.bytes ++ l') = ap length whole in
    omega (arith, long, length-append took.bytes l', took.len, tells.0)

-- so no such run is refused but for want of memory
pub refused_done : (s : Status) (left left' : Option (List ℕ)) (faults faults' : ℕ) (told : Option (List ℕ)) (entry exit : ℕ) → Unrun s left left' faults faults' told entry exit → CanCheck told → TellsScript left → (Rose faults faults' → ⊥) → (Rose entry exit → ⊥) → IsDoneOrNoMemory s
refused_done (status.BadScript line column) left left' faults faults' told entry exit why can tells calm quiet = absurd (told-script left left' line column tells why.1)
refused_done status.ReadFault left left' faults faults' told entry exit why can tells calm quiet = absurd (calm why.1)
refused_done status.ScriptTooLong left left' faults faults' told entry exit why can tells calm quiet = absurd (told-short left left' tells why.1)
refused_done s left left' faults faults' told entry exit why can tells calm quiet = unopened_done s told entry exit why can quiet

-- and one whose requests have run was done
pub ran_done : (s : Status) (written written' : Option (List ℕ)) (faults faults' entry exit : ℕ) (text : List ℕ) → RanAs s written written' faults faults' entry exit text → (Rose faults faults' → ⊥) → (Rose entry exit → ⊥) → IsDoneOrNoMemory s
ran_done status.Done written written' faults faults' entry exit text as_told calm quiet = tt
ran_done status.WriteFault written written' faults faults' entry exit text as_told calm quiet = absurd (calm as_told.0)
ran_done (status.DiskFault before after) written written' faults faults' entry exit text as_told calm quiet =
    absurd (quiet (subst (Rose entry) as_told.2 (NeverFalls-Rose entry before after as_told.1 as_told.3)))
ran_done s written written' faults faults' entry exit text as_told calm quiet = absurd as_told
