-- The script of a command, as its source gives it.
use Rattle.std.specs.Prelude.{◌≡◌, ℕ, ◌+◌, ◌≤◌, ◌<◌, List, length, Option, Ok, Err, IsOk, IsSomeAnd}
use Rattle.io_edges.specs.Faults.{Rose}
use Rattle.io_edges.specs.Reads.{ReadToEnd, TookCount}
use Rattle.request_text.specs.declared.request.Line.{Line}
use Rattle.request_text.specs.Scripts.{script_of}
use Rattle.log_commands.specs.declared.status.Status.{Status}
use Rattle.log_commands.specs.declared.status.Status.TheVariants as status

-- the greatest length of a script, in bytes
abbrev pub script_most : ℕ
script_most = 268435456

-- The source was read to its end, and its bytes are the script of these lines.
pub record ReadScript (left left' : Option (List ℕ)) (script : List Line) : Type 0 where
  pub bytes : List ℕ
  pub read : ReadToEnd left left' bytes
  pub within : length bytes ≤ script_most
  pub spelled : script_of bytes ≡ Ok script

-- The source was read to its end, and its bytes are no script: this is their first bad place.
pub record ReadNoScript (left left' : Option (List ℕ)) (line column : ℕ) : Type 0 where
  pub bytes : List ℕ
  pub read : ReadToEnd left left' bytes
  pub within : length bytes ≤ script_most
  pub refused : script_of bytes ≡ Err (record { line = line; column = column })

-- The source tells its bytes, and they are a script that is not too long.
abbrev pub TellsScript : Option (List ℕ) → Type 0
TellsScript left = IsSomeAnd left (λ bytes. (length bytes ≤ script_most) × IsOk (script_of bytes))

-- The source tells its bytes, and they are more than a script may have.
abbrev pub TellsTooMuch : Option (List ℕ) → Type 0
TellsTooMuch left = IsSomeAnd left (λ bytes. script_most < length bytes)

-- Why no script was read: the bytes are none; a read failed; there are too many; or memory ran out.
abbrev pub Unread : Status → Option (List ℕ) → Option (List ℕ) → ℕ → ℕ → Type 0
Unread (status.BadScript line column) left left' faults faults' = ReadNoScript left left' line column
Unread status.ReadFault left left' faults faults' = Rose faults faults'
Unread status.NoMemory left left' faults faults' = Unit {0}
Unread status.ScriptTooLong left left' faults faults' = TookCount left left' (script_most + 1)
Unread s left left' faults faults' = ⊥
