use Rattle.stamps.specs.Stamps.{Txn}
use Rattle.edge_log.specs.Slots.{entries_of}
use Rattle.edge_log.proofs.PlaceLemmas.{newest_place-found, newest_place-shown}
use Rattle.edge_log.proofs.plain_log.PlainLogEdgeLog.find.Goals as goal

pub returns-clause-found : goal.returns-clause-found
returns-clause-found c = rw (c.newest_visible.ensures, c.deref.ensures.value) (newest_place-found (entries_of c.args.self.now.slots.items) c.args.d c.args.read (Txn c.args.tid))

pub returns-clause-shown : goal.returns-clause-shown
returns-clause-shown c = rw (c.newest_visible.ensures, c.deref.ensures.value) (newest_place-shown (entries_of c.args.self.now.slots.items) c.args.d c.args.read (Txn c.args.tid))
