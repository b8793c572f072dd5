-- Why no request has run.
use Rattle.std.proofs.Common.{ℕ, List}
use Rattle.std.specs.Prelude.{Option}
use Rattle.log_commands.specs.declared.status.Status.{Status}
use Rattle.log_commands.specs.declared.status.Status.TheVariants as status
use Rattle.log_commands.specs.Opening.{Unopened}
use Rattle.run_opening.specs.Script.{Unread}
use Rattle.run_opening.specs.Opening.{IsLog, Unrun}

-- since no log was opened
pub unopened-unrun : (s : Status) (left left' : Option (List ℕ)) (faults faults' : ℕ) (told : Option (List ℕ)) (entry exit : ℕ) → Unopened s told entry exit → Unrun s left left' faults faults' told entry exit
unopened-unrun (status.BadScript line column) left left' faults faults' told entry exit why = absurd why
unopened-unrun status.ReadFault left left' faults faults' told entry exit why = absurd why
unopened-unrun status.ScriptTooLong left left' faults faults' told entry exit why = absurd why
unopened-unrun s left left' faults faults' told entry exit why = why

-- since no script was read
pub unread-unrun : (s : Status) (left left' : Option (List ℕ)) (faults faults' : ℕ) (told : Option (List ℕ)) (entry exit : ℕ) → Unread s left left' faults faults' → IsLog told → Unrun s left left' faults faults' told entry exit
unread-unrun (status.BadScript line column) left left' faults faults' told entry exit why log = (log, why)
unread-unrun status.ReadFault left left' faults faults' told entry exit why log = (log, why)
unread-unrun status.ScriptTooLong left left' faults faults' told entry exit why log = (log, why)
unread-unrun status.NoMemory left left' faults faults' told entry exit why log = tt
unread-unrun s left left' faults faults' told entry exit why log = absurd why
