-- A command for which memory ran out before anything was done.
use Rattle.std.proofs.Common.{ℕ, Bool, List, refl, inl, arith, Option, Some, None}
use Rattle.disk_model.specs.Images.{GoesOn, StillTells}
use Rattle.log_commands.specs.declared.status.Status.TheVariants as status
use Rattle.log_commands.specs.Opening.{IsUnwritten}
use Rattle.run_opening.specs.Moments.{KeepsImages}
use Rattle.run_opening.proofs.Moments.{EachImage-now, images-records}
use Rattle.command_words.specs.declared.command.Command.{Command}
use Rattle.command_words.specs.declared.command.Command.TheVariants as command
use Rattle.run_ending.specs.Report.{empty_report}
use Rattle.run_ending.proofs.Ran.{gone_on}
use Rattle.graph_cli.specs.TopCall.{Ends, Keeps}

-- a disk on which nothing was done went on
still : (told : Option (List ℕ)) → StillTells told told
still None = tt
still (Some b) = tt

pub goes_nowhere : {D : Type 0} (told : D → Option (List ℕ)) (moment : D → ℕ) (images : D → ℕ → List ℕ → Type 0) (faults : D → ℕ) (disk : D) → GoesOn told moment images faults disk disk
goes_nowhere told moment images faults disk = record { tells = still (told disk); later = omega arith; no_more = λ m before c leaves. leaves; no_less = λ m before c leaves. leaves; count = omega arith }

-- and so whatever the command is
pub keeps_nowhere : {D : Type 0} (told : D → Option (List ℕ)) (moment : D → ℕ) (images : D → ℕ → List ℕ → Type 0) (faults : D → ℕ) (disk : D) (c : Command) → Keeps told moment images faults disk disk c
keeps_nowhere told moment images faults disk command.Init = goes_nowhere told moment images faults disk
keeps_nowhere told moment images faults disk (command.Run workers shards) = gone_on told moment images faults disk disk (goes_nowhere told moment images faults disk)
keeps_nowhere told moment images faults disk (command.Dump asked) = goes_nowhere told moment images faults disk
keeps_nowhere told moment images faults disk command.Check = goes_nowhere told moment images faults disk
keeps_nowhere told moment images faults disk (command.Drill seed sessions rounds workers) = gone_on told moment images faults disk disk (goes_nowhere told moment images faults disk)

module _ {S K D : Type 0} (left : S → Option (List ℕ)) (source_faults : S → ℕ) (written : K → Option (List ℕ)) (sink_faults : K → ℕ) (told : D → Option (List ℕ)) (moment : D → ℕ) (images : D → ℕ → List ℕ → Type 0) (faults : D → ℕ) (source : S) (sink : K) (settled : Bool) (disk : D) where
  unwritten : IsUnwritten told moment images disk disk
  unwritten = record { same_bytes = refl; same_images = record { same = refl; no_more = λ m c leaves. leaves; no_less = λ m c leaves. leaves } }

  keeps : KeepsImages moment images disk disk
  keeps = EachImage-now told moment images disk (λ c. images disk (moment disk) c) (λ c leaves. leaves)

  stays : GoesOn told moment images faults disk disk
  stays = goes_nowhere told moment images faults disk

  pub want_of_memory : (c : Command) → Ends left source_faults written sink_faults told moment images faults source source sink sink settled disk (record { status = status.NoMemory; report = empty_report; disk = disk }) c
  want_of_memory command.Init = (unwritten, record { unread = refl; empty = refl }, refl)
  want_of_memory (command.Run workers shards) = inl (
    record {
      why = tt;
      kept = record { records = images-records told moment images disk disk keeps; whole = λ whole. keeps; untouched = λ uncut. (refl, keeps) };
      goes_on = stays;
    },
    refl,
    refl,
  )
  want_of_memory (command.Dump asked) = (record { printed = λ p. absurd p; refused = λ n. tt; silent = λ n. refl; unwritten = unwritten }, record { unread = refl; empty = refl })
  want_of_memory command.Check = (record { printed = λ p. absurd p; refused = λ n. tt; silent = λ n. refl; unwritten = unwritten }, record { unread = refl; empty = refl })
  want_of_memory (command.Drill seed sessions rounds workers) = (
    inl (
      record {
        why = tt;
        kept = record { records = images-records told moment images disk disk keeps; whole = λ whole. keeps; untouched = λ uncut. (refl, keeps) };
        goes_on = stays;
      },
      refl,
      refl,
    ),
    refl,
  )
