-- How a command ends.
use Rattle.std.specs.Prelude.{ℕ, List, [], ◌++◌, Option, decimal, codes}
use Rattle.io_edges.specs.Faults.{Rose}
use Rattle.io_edges.specs.Writes.{Appended, AppendedPart}
use Rattle.io_edges.specs.declared.reading.ReadRefusal.{ReadRefusal}
use Rattle.io_edges.specs.declared.reading.ReadRefusal.TheVariants as reading
use Rattle.request_text.specs.declared.refusal.TextRefusal.{TextRefusal}
use Rattle.request_text.specs.declared.refusal.TextRefusal.TheVariants as text
use Rattle.graph_recover.specs.declared.refusal.RecoverRefusal.{RecoverRefusal}
use Rattle.graph_recover.specs.declared.refusal.RecoverRefusal.TheVariants as recovery
use Rattle.log_commands.specs.declared.status.Status.{Status}
use Rattle.log_commands.specs.declared.status.Status.TheVariants as status

-- the exit status
abbrev pub exit_number : Status → ℕ
exit_number status.Done = 0
exit_number status.Usage = 2
exit_number (status.BadScript line column) = 3
exit_number (status.BadLog at group) = 4
exit_number status.NoLog = 5
exit_number status.ReadFault = 6
exit_number status.WriteFault = 7
exit_number (status.DiskFault before after) = 8
exit_number status.NoMemory = 9
exit_number (status.BadEpoch asked last) = 10
exit_number (status.NotEmpty length) = 11
exit_number status.ScriptTooLong = 12

-- the text for the reader, which is empty where all went well
abbrev pub status_text : Status → List ℕ
status_text status.Done = []
status_text status.Usage = codes "graph: usage"
status_text (status.BadScript line column) = codes "graph: bad script at line " ++ decimal line ++ codes " column " ++ decimal column
status_text (status.BadLog at group) = codes "graph: bad log at " ++ decimal at ++ codes " group " ++ decimal group
status_text status.NoLog = codes "graph: no log"
status_text status.ReadFault = codes "graph: read fault"
status_text status.WriteFault = codes "graph: write fault"
status_text (status.DiskFault before after) = codes "graph: disk fault"
status_text status.NoMemory = codes "graph: no memory"
status_text (status.BadEpoch asked last) = codes "graph: epoch " ++ decimal asked ++ codes " is above " ++ decimal last
status_text (status.NotEmpty length) = codes "graph: log holds " ++ decimal length ++ codes " bytes"
status_text status.ScriptTooLong = codes "graph: script too long"

-- the status of a source that was not read to its end
abbrev pub reading_status : ReadRefusal → Status
reading_status reading.NoMemory = status.NoMemory
reading_status reading.ReadFault = status.ReadFault
reading_status reading.TooLong = status.ScriptTooLong

-- the status of bytes that were not read as a script
abbrev pub text_status : TextRefusal → Status
text_status (text.BadLine line column) = status.BadScript line column
text_status text.NoMemory = status.NoMemory

-- the status of a log that was not recovered
abbrev pub recovery_status : RecoverRefusal → Status
recovery_status recovery.NoLog = status.NoLog
recovery_status (recovery.BadLog at group) = status.BadLog at group
recovery_status (recovery.DiskFault before after) = status.DiskFault before after
recovery_status recovery.NoMemory = status.NoMemory

-- The command came to print what it has to say.
abbrev pub HasPrinted : Status → Type 0
HasPrinted status.Done = Unit {0}
HasPrinted status.WriteFault = Unit {0}
HasPrinted s = ⊥

-- The command was carried out, or there was no memory for it.
abbrev pub IsDoneOrNoMemory : Status → Type 0
IsDoneOrNoMemory status.Done = Unit {0}
IsDoneOrNoMemory status.NoMemory = Unit {0}
IsDoneOrNoMemory s = ⊥

-- The words were no command, or there was no memory to read them.
abbrev pub IsUsageOrNoMemory : Status → Type 0
IsUsageOrNoMemory status.Usage = Unit {0}
IsUsageOrNoMemory status.NoMemory = Unit {0}
IsUsageOrNoMemory s = ⊥

-- What the status of a command that printed says of its sink: it has all of the text or, after a fault, a part
-- of it.
abbrev pub Printed : Status → Option (List ℕ) → Option (List ℕ) → ℕ → ℕ → List ℕ → Type 0
Printed status.Done written written' faults faults' bytes = Appended written written' bytes
Printed status.WriteFault written written' faults faults' bytes = Rose faults faults' × AppendedPart written written' bytes
Printed s written written' faults faults' bytes = ⊥
