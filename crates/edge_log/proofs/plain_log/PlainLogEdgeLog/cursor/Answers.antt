use Rattle.std.proofs.Common.{◌≤◌, length, ap, sym, ◌∙◌, arith}
use Rattle.edge_log.specs.Entries.{payload_sum}
use Rattle.edge_log.specs.Slots.{entries_of}
use Rattle.edge_log.proofs.PlaceLemmas.{oldest_all}
use Rattle.edge_log.proofs.SlotLemmas.{length-entries}
use Rattle.edge_log.proofs.plain_log.PlainLogEdgeLog.cursor.Goals as goal

pub returns-then-own-clause-place : goal.returns-then-own-clause-place
returns-then-own-clause-place c room plain =
    let entries = entries_of c.args.self.now.slots.items in
    let long : length entries ≤ c.len.result = omega (arith, length-entries c.args.self.now.slots.items, c.len.ensures, c.args.self.now.slots.ok.0) in
    record {
      within = omega (arith, length-entries c.args.self.now.slots.items, c.len.ensures, c.args.self.now.slots.ok.0);
      props = plain.props ∙ ap payload_sum (sym (oldest_all entries c.len.result long));
    }

pub returns-else-own-clause-place : goal.returns-else-own-clause-place
returns-else-own-clause-place c room plain = record { within = plain.fits.committed; props = plain.committed_props }
