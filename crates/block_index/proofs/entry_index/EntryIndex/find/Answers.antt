use Rattle.std.proofs.Common.{sym}
use Rattle.stamps.specs.Stamps.{Txn}
use Rattle.block_index.proofs.entry_index.EntryIndex.find.Goals as goal

pub returns-then-not-may_lead_to : goal.returns-then-not-may_lead_to
returns-then-not-may_lead_to c = λ h filter xs b count is. sym (c.may_lead_to.ensures h filter xs b c.if-not-may_lead_to.true c.args.read (Txn c.args.tid))

pub returns-in_default : goal.returns-in_default
returns-in_default c = λ h filter xs b count is. c.find.ensures h filter xs b count
