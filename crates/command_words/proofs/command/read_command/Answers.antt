-- The words behind `run` ask for no workers, or those behind `drill` for no drill.
use Rattle.std.proofs.Common.{◌∙◌, sym, ap}
use Rattle.std.specs.Option.{option_copied}
use Rattle.command_words.proofs.Ones.{run_only, drill_only}
use Rattle.command_words.proofs.command.read_command.Goals as goal

pub returns-in-Err-clause-usage : goal.returns-in-Err-clause-usage
returns-in-Err-clause-usage c = λ same.
    run_only c.args.words.now c.in-Some-run.field-0.now (sym c.get.ensures ∙ ap option_copied c.in-Some-run.is) c.in-Some-run.is-run (c.in-Err.ensures.usage same)

pub returns-in-Err-drill_asked-clause-usage : goal.returns-in-Err-drill_asked-clause-usage
returns-in-Err-drill_asked-clause-usage c = λ same.
    drill_only c.args.words.now c.in-Some-drill.field-0.now (sym c.get.ensures ∙ ap option_copied c.in-Some-drill.is) c.in-Some-drill.is-drill (c.in-Err-drill_asked.ensures.usage same)
