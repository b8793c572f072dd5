use Rattle.std.proofs.Common.{◌≡◌, arith, sym, subst}
use Rattle.std.specs.Prelude.{IsSomeAnd, IfOk, Option, Some}
use Rattle.edge_log.specs.Entries.{Entry}
use Rattle.edge_log.specs.Places.{entry_at}
use Rattle.edge_log.specs.Slots.{entry_of, entries_of}
use Rattle.edge_log.proofs.PlaceLemmas.{entry_at_there-within}
use Rattle.edge_log.proofs.SlotLemmas.{StandsAt, length-entries, entry_at-slot}
use Rattle.edge_log.proofs.plain_log.PlainLogEdgeLog.payload_at.Goals as goal

pub index-requires : goal.index-requires
index-requires c =
    let slots = c.args.self.now.slots in
    omega (arith, entry_at_there-within (entries_of slots.items) c.args.place c.requires.there, length-entries slots.items)

pub returns : goal.returns
returns c =
    let slots = c.args.self.now.slots in
    let stands : StandsAt slots.items c.args.place c.index.result.now = record {
      within = omega (arith, entry_at_there-within (entries_of slots.items) c.args.place c.requires.there, length-entries slots.items);
      is = c.index.ensures;
    } in
    let there : entry_at (entries_of slots.items) c.args.place ≡ Some (entry_of c.index.result.now) = entry_at-slot slots.items c.args.place c.index.result.now stands in
    subst (λ (o : Option Entry). IfOk c.payload.result (λ p. IsSomeAnd o (λ entry. p ≡ entry.p))) (sym there) c.payload.ensures
