use Rattle.std.proofs.Common.{◌∙◌, sym, ap, arith, Some}
use Rattle.stamps.specs.Stamps.{Txn}
use Rattle.edge_log.specs.Slots.{entry_of, entries_of}
use Rattle.edge_log.proofs.PlaceLemmas.{newest_place-within, pair_to-place, pair_to-none}
use Rattle.edge_log.proofs.SlotLemmas.{StandsAt, length-entries, entry_at-slot}
use Rattle.edge_log.proofs.slots.seen_pair.Goals as goal

pub bounds-slots-place : goal.bounds-slots-place
bounds-slots-place c =
    omega (arith, newest_place-within (entries_of c.args.slots.now) c.args.d c.args.read c.in-Some.place (Txn c.args.tid) (sym c.in-Some.ensures), length-entries c.args.slots.now)

pub returns-in_ok-pair-in-Some : goal.returns-in_ok-pair-in-Some
returns-in_ok-pair-in-Some c =
    let found = sym c.in-Some.ensures in
    let s = c.index-slots-place.result in
    let stands : StandsAt c.args.slots.now c.in-Some.place s = record {
      within = omega (arith, newest_place-within (entries_of c.args.slots.now) c.args.d c.args.read c.in-Some.place (Txn c.args.tid) found, length-entries c.args.slots.now);
      is = c.index-slots-place.is;
    } in
    ap Some c.in_ok-pair-in-Some.ensures
    ∙ sym (pair_to-place (entries_of c.args.slots.now) c.args.d c.args.read c.in-Some.place (Txn c.args.tid) (entry_of s) found (entry_at-slot c.args.slots.now c.in-Some.place s stands))

pub returns-in-None : goal.returns-in-None
returns-in-None c = sym (pair_to-none (entries_of c.args.slots.now) c.args.d c.args.read (Txn c.args.tid) (sym c.in-None.ensures))
