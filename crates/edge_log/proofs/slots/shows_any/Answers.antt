use Rattle.std.proofs.Common.{◌∙◌}
use Rattle.stamps.specs.Stamps.{Txn}
use Rattle.edge_log.proofs.SlotLemmas.{any_visible}
use Rattle.edge_log.proofs.slots.shows_any.Goals as goal

pub returns : goal.returns
returns c = c.has_visible.ensures ∙ any_visible c.args.slots.now c.args.read (Txn c.args.tid)
