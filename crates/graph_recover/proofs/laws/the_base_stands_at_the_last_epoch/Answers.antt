use Rattle.std.proofs.Common.{sym}
use Rattle.graph_model.specs.Records.{last_epoch}
use Rattle.graph_recover.proofs.Epochs.{begins-goes_on, none-after_last}
use Rattle.graph_recover.proofs.Snapshots.{at-all}
use Rattle.graph_recover.proofs.laws.the_base_stands_at_the_last_epoch.Goals as goal

pub returns : goal.returns
returns c = λ records law. sym (at-all (last_epoch 0 records) records (none-after_last 0 records (begins-goes_on 0 records law.epochs)))
