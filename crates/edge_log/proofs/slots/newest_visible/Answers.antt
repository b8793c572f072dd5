use Rattle.std.proofs.Common.{◌≡◌, ◌+◌, ◌-◌, ◌&&◌, ◌==◌, false, None, sym, ap, ◌∙◌, arith}
use Rattle.std.proofs.lemmas.Bool.Decides.{nat_tests}
use Rattle.stamps.specs.Stamps.{Txn}
use Rattle.edge_log.specs.Entries.{visible}
use Rattle.edge_log.specs.Places.{newest_place, oldest}
use Rattle.edge_log.specs.Slots.{entry_of, entries_of}
use Rattle.edge_log.proofs.PlaceLemmas.{oldest_all, oldest_none}
use Rattle.edge_log.proofs.SlotLemmas.{length-entries, StandsAt, newest_found, newest_passed}
use Rattle.edge_log.proofs.slots.newest_visible.Goals as goal
use Rattle.edge_log.proofs.slots.newest_visible.Goals.{else-is_visible-via-then-is_visible+else-slot-d, else-is_visible-via-else-is_visible}

pub loop-place-init : goal.loop-place-init
loop-place-init c = record {
  within = omega arith;
  passed = ap (λ xs. newest_place xs c.args.d c.args.read (Txn c.args.tid)) (sym (oldest_all (entries_of c.args.slots.now) _ (omega (arith, length-entries c.args.slots.now))));
}

pub returns-then-slot-d : goal.returns-then-slot-d
returns-then-slot-d c =
    let s = c.index-slots-place.result in
    let stands : StandsAt c.args.slots.now (c.loop-place.place - 1) s = record { within = omega arith; is = c.index-slots-place.is } in
    let next : c.loop-place.place ≡ c.loop-place.place - 1 + 1 = omega arith in
    sym (c.loop-place.invariant.passed ∙ newest_found c.args.slots.now _ _ c.args.d c.args.read (Txn c.args.tid) s next stands (cc) c.if-slot-d.true)

pub loop-place-preserved : goal.loop-place-preserved
loop-place-preserved c =
    let s = c.index-slots-place.result in
    let stands : StandsAt c.args.slots.now (c.loop-place.place - 1) s = record { within = omega arith; is = c.index-slots-place.is } in
    let next : c.loop-place.place ≡ c.loop-place.place - 1 + 1 = omega arith in
    let other : (visible (entry_of s) c.args.read (Txn c.args.tid) && s.d == c.args.d) ≡ false =
    elim c.else-is_visible.branch [ else-is_visible-via-then-is_visible+else-slot-d w ↦ grind (arith, nat_tests) | else-is_visible-via-else-is_visible w ↦ grind (arith, nat_tests) ] in
    record {
      within = omega arith;
      passed = c.loop-place.invariant.passed ∙ newest_passed c.args.slots.now _ _ c.args.d c.args.read (Txn c.args.tid) s next stands other;
    }

pub returns : goal.returns
returns c =
    let start : c.loop-place.place ≡ 0 = omega arith in
    let none : newest_place (oldest c.loop-place.place (entries_of c.args.slots.now)) c.args.d c.args.read (Txn c.args.tid) ≡ None =
    rw (start, oldest_none (entries_of c.args.slots.now)) in
    sym (c.loop-place.invariant.passed ∙ none)
