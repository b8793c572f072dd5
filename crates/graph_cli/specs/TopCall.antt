-- How each command ends, and when it must be carried out.
use Rattle.std.specs.Prelude.{◌≡◌, ◌⊎◌, ℕ, Bool, List, [], Option, IsSomeAnd}
use Rattle.disk_model.specs.Images.{GoesOn}
use Rattle.request_text.specs.ReplyText.{replies_text}
use Rattle.log_commands.specs.declared.status.Status.{Status}
use Rattle.log_commands.specs.Status.{HasPrinted, Printed}
use Rattle.log_commands.specs.Opening.{IsUnwritten, Unopened}
use Rattle.log_commands.specs.Init.{EndsInit}
use Rattle.log_commands.specs.Dump.{IsDump, Undumped, CanDump}
use Rattle.log_commands.specs.Check.{IsCheck, CanCheck}
use Rattle.run_opening.specs.Script.{TellsScript}
use Rattle.run_opening.specs.Opening.{Unrun}
use Rattle.run_opening.specs.Drill.{HasTooFewNumbers, CanDrill}
use Rattle.command_words.specs.declared.command.Command.{Command}
use Rattle.command_words.specs.declared.command.Command.TheVariants as command
use Rattle.run_ending.specs.declared.ended.Ended.{Ended}
use Rattle.run_ending.specs.Report.{empty_report}
use Rattle.run_ending.specs.Ran.{Refused, RanAs}
use Rattle.drill_runs.specs.Drills.{EndsDrill}
use Rattle.graph_cli.specs.Running.{RanScript}
use Rattle.script_runs.specs.Logged.{HasGoneOn}

-- The command ran no request: the source is as it was, and the report is empty.
pub record IsWithoutRun {S D : Type 0} (source source' : S) (ended : Ended D) : Type 0 where
  pub unread : source' ≡ source
  pub empty : ended.report ≡ empty_report

-- Nothing was done: the source, the sink and the disk are as they were, and the report is empty.
pub record IsNothing {S K D : Type 0} (source source' : S) (sink sink' : K) (old : D) (ended : Ended D) : Type 0 where
  pub without_run : IsWithoutRun source source' ended
  pub silent : sink' ≡ sink
  pub same_disk : ended.disk ≡ old

-- A text was printed, and the disk only read; or nothing was printed, and this is why.
pub record EndsPrinting {K D : Type 0} (written : K → Option (List ℕ)) (sink_faults : K → ℕ) (told : D → Option (List ℕ)) (moment : D → ℕ) (images : D → ℕ → List ℕ → Type 0) (sink sink' : K) (old new : D) (s : Status) (IsText : List ℕ → Type 0) (Why : Type 0) : Type 0 where
  pub printed : HasPrinted s → (text : List ℕ) × IsText text × Printed s (written sink) (written sink') (sink_faults sink) (sink_faults sink') text
  pub refused : (HasPrinted s → ⊥) → Why
  pub silent : (HasPrinted s → ⊥) → sink' ≡ sink
  pub unwritten : IsUnwritten told moment images old new

module _ {S K D : Type 0} (left : S → Option (List ℕ)) (source_faults : S → ℕ) (written : K → Option (List ℕ)) (sink_faults : K → ℕ) (told : D → Option (List ℕ)) (moment : D → ℕ) (images : D → ℕ → List ℕ → Type 0) (faults : D → ℕ) (source source' : S) (sink sink' : K) (settled : Bool) (old : D) (ended : Ended D) where
  -- A run was refused before its first request, and nothing was printed; or its requests have run, by so many workers.
  abbrev pub EndsRun : ℕ → Type 0
  EndsRun workers =
      (Refused told moment images faults old ended.disk ended.status (Unrun ended.status (left source) (left source') (source_faults source) (source_faults source') (told old) (faults old) (faults ended.disk))
      × (sink' ≡ sink) × (ended.report ≡ empty_report))
      ⊎ (RanScript told moment images faults settled workers old ended.disk (left source) (left source') ended.report ended.status
      × RanAs ended.status (written sink) (written sink') (sink_faults sink) (sink_faults sink') (faults old) (faults ended.disk) (replies_text ended.report.replies))

  -- How a command ends.
  abbrev pub Ends : Command → Type 0
  Ends command.Init = EndsInit told moment images faults old ended.disk ended.status × IsWithoutRun source source' ended × (sink' ≡ sink)
  Ends (command.Run workers shards) = EndsRun workers
  Ends (command.Dump asked) =
      EndsPrinting written sink_faults told moment images sink sink' old ended.disk ended.status (IsDump (told old) asked) (Undumped ended.status (told old) asked (faults old) (faults ended.disk))
      × IsWithoutRun source source' ended
  Ends command.Check =
      EndsPrinting written sink_faults told moment images sink sink' old ended.disk ended.status (IsCheck (told old)) (Unopened ended.status (told old) (faults old) (faults ended.disk))
      × IsWithoutRun source source' ended
  Ends (command.Drill seed sessions rounds workers) =
      EndsDrill written sink_faults told moment images faults sink sink' settled old ended (record { seed = seed; sessions = sessions; rounds = rounds; workers = workers })
      × (source' ≡ source)

-- A drill of more sessions than there are numbers of vertices left: its words are judged only once the log is recovered.
abbrev pub LacksNumbers : Option (List ℕ) → Command → Type 0
LacksNumbers told (command.Drill seed sessions rounds workers) = HasTooFewNumbers told sessions
LacksNumbers told c = ⊥

-- The source and the disk tell what the command asks for: no bytes for a log to be made; a log that has the epoch;
-- a log; a log and a script; a log with so many numbers of vertices left.
abbrev pub CanCarryOut : Command → Option (List ℕ) → Option (List ℕ) → Type 0
CanCarryOut command.Init left told = IsSomeAnd told (λ b. b ≡ [])
CanCarryOut (command.Run workers shards) left told = CanCheck told × TellsScript left
CanCarryOut (command.Dump asked) left told = CanDump told asked
CanCarryOut command.Check left told = CanCheck told
CanCarryOut (command.Drill seed sessions rounds workers) left told = CanDrill told sessions

-- The disk went on. Of a run and of a drill it is not said that what a crash at a moment before the entry could leave is as it was.
abbrev pub Keeps : {D : Type 0} → (D → Option (List ℕ)) → (D → ℕ) → (D → ℕ → List ℕ → Type 0) → (D → ℕ) → D → D → Command → Type 0
Keeps told moment images faults old new (command.Run workers shards) = HasGoneOn told moment faults (moment old) old new
Keeps told moment images faults old new (command.Drill seed sessions rounds workers) = HasGoneOn told moment faults (moment old) old new
Keeps told moment images faults old new c = GoesOn told moment images faults old new
