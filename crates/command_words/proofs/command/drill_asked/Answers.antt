use Rattle.clap.specs.Words.{found_of}
use Rattle.command_words.proofs.DrillReading.{asks, drill_usage, no_drill}
use Rattle.command_words.proofs.command.drill_asked.Goals as goal

pub returns-in-Ok-parse-clause-asked : goal.returns-in-Ok-parse-clause-asked
returns-in-Ok-parse-clause-asked c =
    rw c.drill_of.ensures (asks _ (found_of c.in-Ok-parse.matches) c.args.words.now c.in-Ok.ensures c.in-Ok-parse.ensures.taken c.in-Ok-parse.ensures.matches)

pub returns-in-Ok-parse-clause-usage : goal.returns-in-Ok-parse-clause-usage
returns-in-Ok-parse-clause-usage c =
    rw c.drill_of.ensures (no_drill _ (found_of c.in-Ok-parse.matches) c.args.words.now c.in-Ok.ensures c.in-Ok-parse.ensures.matches)

pub returns-in-Err-clause-usage : goal.returns-in-Err-clause-usage
returns-in-Err-clause-usage c = λ same. drill_usage _ c.args.words.now c.in-Ok.ensures (c.in-Err.ensures.usage same)
