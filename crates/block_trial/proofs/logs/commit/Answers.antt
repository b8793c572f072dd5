use Rattle.block_trial.proofs.LogLemmas.{committed}
use Rattle.block_trial.proofs.logs.commit.Goals as goal

pub returns : goal.returns
returns c = committed c.args.order c.args.fill.entries c.args.fill.props c.args.tid c.args.epoch c.args.block.now c.convert.new.block c.convert.ensures
