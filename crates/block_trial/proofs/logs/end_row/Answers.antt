use Rattle.block_trial.proofs.LogLemmas.{ended}
use Rattle.block_trial.proofs.logs.end_row.Goals as goal

pub returns : goal.returns
returns c = ended c.args.order c.args.fill.entries c.args.fill.props c.args.place 2 c.args.block.now c.end_entry.new.block c.requires.there c.end_entry.ensures
