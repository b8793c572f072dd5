use Rattle.std.proofs.Common.{refl}
use Rattle.command_words.proofs.Reading.{plain_ended, plain_usage}
use Rattle.command_words.proofs.command.alone.Goals as goal

pub returns-in-Ok-clause-command : goal.returns-in-Ok-clause-command
returns-in-Ok-clause-command c = (refl, plain_ended _ c.args.words.now c.plain.ensures c.in-Ok.ensures.taken)

pub returns-in-Err-clause-usage : goal.returns-in-Err-clause-usage
returns-in-Err-clause-usage c = λ e. plain_usage _ c.args.words.now c.plain.ensures (c.in-Err.ensures.usage e)
