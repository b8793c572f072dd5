use Rattle.std.proofs.Common.{arith}
use Rattle.edge_log.specs.Slots.{entries_of}
use Rattle.edge_log.proofs.EntryLemmas.{length-sizes, sizes-payloads}
use Rattle.edge_log.proofs.SlotLemmas.{length-entries}
use Rattle.edge_log.proofs.plain_log.PlainLogEdgeLog.append.Goals as goal

pub invariant_of-self : goal.invariant_of-self
invariant_of-self c =
    let slots = c.args.self.now.slots.items in
    record { few = omega (arith, length-sizes (entries_of slots), length-entries slots) }

pub overflow_add-self-2 : goal.overflow_add-self-2
overflow_add-self-2 c =
    let stands = c.requires.stands in
    omega (arith, c.len.ensures.within, sizes-payloads (entries_of c.args.self.now.slots.items), stands.props, stands.fits.within, stands.fits.bounded)
