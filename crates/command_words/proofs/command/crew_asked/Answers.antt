use Rattle.clap.specs.Words.{found_of}
use Rattle.command_words.proofs.CrewReading.{asks, crew_usage, no_crew}
use Rattle.command_words.proofs.command.crew_asked.Goals as goal

pub returns-in-Ok-parse-clause-asked : goal.returns-in-Ok-parse-clause-asked
returns-in-Ok-parse-clause-asked c =
    rw c.crew_of.ensures (asks _ (found_of c.in-Ok-parse.matches) c.args.words.now c.in-Ok.ensures c.in-Ok-parse.ensures.taken c.in-Ok-parse.ensures.matches)

pub returns-in-Ok-parse-clause-usage : goal.returns-in-Ok-parse-clause-usage
returns-in-Ok-parse-clause-usage c =
    rw c.crew_of.ensures (no_crew _ (found_of c.in-Ok-parse.matches) c.args.words.now c.in-Ok.ensures c.in-Ok-parse.ensures.matches)

pub returns-in-Err-clause-usage : goal.returns-in-Err-clause-usage
returns-in-Err-clause-usage c = λ same. crew_usage _ c.args.words.now c.in-Ok.ensures (c.in-Err.ensures.usage same)
