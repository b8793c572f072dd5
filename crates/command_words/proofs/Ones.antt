-- Words are one command at most.
use Rattle.std.proofs.Common.{◌≡◌, ◌∙◌, ℕ, false, List, [], ◌∷◌, drop, Option, Some, None, Result, Ok, Err, refl, sym, ap}
use Rattle.std.specs.Prelude.{codes, slice_get}
use Rattle.std.specs.Str.{bytes_eq}
use Rattle.std.proofs.lemmas.Bool.{false≢true}
use Rattle.std.proofs.lemmas.Slice.Eq.{bytes_eq-Decides}
use Rattle.clap.specs.Walk.{first_of}
use Rattle.clap.specs.Simple.{matches_of}
use Rattle.command_words.specs.CommandLines.{epoch_app, epoch_of}
use Rattle.command_words.specs.Commands.{AsksFor, AsksForCrew, AsksForDrill, IsCommand}
use Rattle.command_words.specs.declared.command.WordsRefusal.{WordsRefusal}
use Rattle.command_words.specs.declared.command.Command.{Command}
use Rattle.command_words.specs.declared.command.Command.TheVariants as command
use Rattle.command_words.proofs.Turns.{at}
use Rattle.command_words.proofs.Walks.{finds_none}
use Rattle.command_words.proofs.Reading.{takes_epoch}
use Rattle.command_words.proofs.CrewReading.{tells_crew}
use Rattle.command_words.proofs.DrillReading.{tells_drill}

-- what words that ask for an epoch tell clap
tells : (words : List (List ℕ)) (asked : Option ℕ) → AsksFor asked (drop 1 words) → epoch_of (first_of at (matches_of epoch_app words)) ≡ Ok asked
tells words None asks = ap epoch_of (finds_none (drop 1 words) asks)
tells words (Some e) asks = (takes_epoch words e asks).1

one_epoch : (word : List ℕ) (words : List (List ℕ)) (asked other : Option ℕ) → AsksFor asked words → AsksFor other words → asked ≡ other
one_epoch word words asked other first second =
    let both = sym (tells (word ∷ words) asked first) ∙ tells (word ∷ words) other second in cc both

-- the command of what clap tells
abbrev told : Result (ℕ × ℕ) WordsRefusal → Command
told (Ok crew) = command.Run crew.0 crew.1
told (Err refusal) = command.Check

one_crew : (word : List ℕ) (words : List (List ℕ)) (w s v u : ℕ) → AsksForCrew w s words → AsksForCrew v u words → command.Run w s ≡ command.Run v u
one_crew word words w s v u first second =
    ap told (sym (tells_crew (word ∷ words) w s first) ∙ tells_crew (word ∷ words) v u second)

abbrev told_drill : Result (ℕ × ℕ × ℕ × ℕ) WordsRefusal → Command
told_drill (Ok drill) = command.Drill drill.0 drill.1 drill.2 drill.3
told_drill (Err refusal) = command.Check

one_drill : (word : List ℕ) (words : List (List ℕ)) (a b c d e f g h : ℕ) → AsksForDrill a b c d words → AsksForDrill e f g h words → command.Drill a b c d ≡ command.Drill e f g h
one_drill word words a b c d e f g h first second =
    ap told_drill (sym (tells_drill (word ∷ words) a b c d first) ∙ tells_drill (word ∷ words) e f g h second)

-- a word has one name
apart : (a b word : List ℕ) → bytes_eq a b ≡ false → word ≡ a → word ≡ b → ⊥
apart a b word other is too = false≢true (sym other ∙ (bytes_eq-Decides a b).1 (sym is ∙ too))

pub one_command : (words : List (List ℕ)) (one other : Command) → IsCommand words one → IsCommand words other → one ≡ other
one_command [] command.Init other h k = absurd h
one_command (word ∷ words) command.Init command.Init h k = refl
one_command (word ∷ words) command.Init (command.Run w s) h k = absurd (apart (codes "init") (codes "run") word refl h.0 k.0)
one_command (word ∷ words) command.Init command.Check h k = absurd (apart (codes "init") (codes "check") word refl h.0 k.0)
one_command (word ∷ words) command.Init (command.Dump other) h k = absurd (apart (codes "init") (codes "dump") word refl h.0 k.0)
one_command (word ∷ words) command.Init (command.Drill e f g i) h k = absurd (apart (codes "init") (codes "drill") word refl h.0 k.0)
one_command [] (command.Run w s) other h k = absurd h
one_command (word ∷ words) (command.Run w s) command.Init h k = absurd (apart (codes "run") (codes "init") word refl h.0 k.0)
one_command (word ∷ words) (command.Run w s) (command.Run v u) h k = one_crew word words w s v u h.1 k.1
one_command (word ∷ words) (command.Run w s) command.Check h k = absurd (apart (codes "run") (codes "check") word refl h.0 k.0)
one_command (word ∷ words) (command.Run w s) (command.Dump other) h k = absurd (apart (codes "run") (codes "dump") word refl h.0 k.0)
one_command (word ∷ words) (command.Run w s) (command.Drill e f g i) h k = absurd (apart (codes "run") (codes "drill") word refl h.0 k.0)
one_command [] command.Check other h k = absurd h
one_command (word ∷ words) command.Check command.Init h k = absurd (apart (codes "check") (codes "init") word refl h.0 k.0)
one_command (word ∷ words) command.Check (command.Run w s) h k = absurd (apart (codes "check") (codes "run") word refl h.0 k.0)
one_command (word ∷ words) command.Check command.Check h k = refl
one_command (word ∷ words) command.Check (command.Dump other) h k = absurd (apart (codes "check") (codes "dump") word refl h.0 k.0)
one_command (word ∷ words) command.Check (command.Drill e f g i) h k = absurd (apart (codes "check") (codes "drill") word refl h.0 k.0)
one_command [] (command.Dump asked) other h k = absurd h
one_command (word ∷ words) (command.Dump asked) command.Init h k = absurd (apart (codes "dump") (codes "init") word refl h.0 k.0)
one_command (word ∷ words) (command.Dump asked) (command.Run w s) h k = absurd (apart (codes "dump") (codes "run") word refl h.0 k.0)
one_command (word ∷ words) (command.Dump asked) command.Check h k = absurd (apart (codes "dump") (codes "check") word refl h.0 k.0)
one_command (word ∷ words) (command.Dump asked) (command.Dump other) h k = ap (λ e. command.Dump e) (one_epoch word words asked other h.1 k.1)
one_command (word ∷ words) (command.Dump asked) (command.Drill e f g i) h k = absurd (apart (codes "dump") (codes "drill") word refl h.0 k.0)
one_command [] (command.Drill a b c d) other h k = absurd h
one_command (word ∷ words) (command.Drill a b c d) command.Init h k = absurd (apart (codes "drill") (codes "init") word refl h.0 k.0)
one_command (word ∷ words) (command.Drill a b c d) (command.Run w s) h k = absurd (apart (codes "drill") (codes "run") word refl h.0 k.0)
one_command (word ∷ words) (command.Drill a b c d) command.Check h k = absurd (apart (codes "drill") (codes "check") word refl h.0 k.0)
one_command (word ∷ words) (command.Drill a b c d) (command.Dump other) h k = absurd (apart (codes "drill") (codes "dump") word refl h.0 k.0)
one_command (word ∷ words) (command.Drill a b c d) (command.Drill e f g i) h k = one_drill word words a b c d e f g i h.1 k.1

-- words whose first one is `run` are no other command
pub run_only : (words : List (List ℕ)) (first : List ℕ) → slice_get words 0 ≡ Some first → first ≡ codes "run" → ((w s : ℕ) → AsksForCrew w s (drop 1 words) → ⊥) → (command : Command) → IsCommand words command → ⊥
run_only [] first is run none command h = absurd (cc is)
run_only (word ∷ words) first is run none command.Init h = let same : word ≡ first = cc is in apart (codes "init") (codes "run") word refl h.0 (same ∙ run)
run_only (word ∷ words) first is run none command.Check h = let same : word ≡ first = cc is in apart (codes "check") (codes "run") word refl h.0 (same ∙ run)
run_only (word ∷ words) first is run none (command.Dump asked) h = let same : word ≡ first = cc is in apart (codes "dump") (codes "run") word refl h.0 (same ∙ run)
run_only (word ∷ words) first is run none (command.Run w s) h = none w s h.1
run_only (word ∷ words) first is run none (command.Drill a b c d) h = let same : word ≡ first = cc is in apart (codes "drill") (codes "run") word refl h.0 (same ∙ run)

-- nor are those whose first one is `drill`
pub drill_only : (words : List (List ℕ)) (first : List ℕ) → slice_get words 0 ≡ Some first → first ≡ codes "drill" → ((a b c d : ℕ) → AsksForDrill a b c d (drop 1 words) → ⊥) → (command : Command) → IsCommand words command → ⊥
drill_only [] first is drill none command h = absurd (cc is)
drill_only (word ∷ words) first is drill none command.Init h = let same : word ≡ first = cc is in apart (codes "init") (codes "drill") word refl h.0 (same ∙ drill)
drill_only (word ∷ words) first is drill none command.Check h = let same : word ≡ first = cc is in apart (codes "check") (codes "drill") word refl h.0 (same ∙ drill)
drill_only (word ∷ words) first is drill none (command.Dump asked) h = let same : word ≡ first = cc is in apart (codes "dump") (codes "drill") word refl h.0 (same ∙ drill)
drill_only (word ∷ words) first is drill none (command.Run w s) h = let same : word ≡ first = cc is in apart (codes "run") (codes "drill") word refl h.0 (same ∙ drill)
drill_only (word ∷ words) first is drill none (command.Drill a b c d) h = none a b c d h.1
