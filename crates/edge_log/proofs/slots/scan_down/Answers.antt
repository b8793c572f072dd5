use Rattle.std.proofs.Common.{◌≡◌, ◌+◌, ◌-◌, ◌<◌, ◌≤◌, inr, false, true, [], length, IsTrue, sym, ap, ◌∙◌, arith}
use Rattle.std.proofs.lemmas.Bool.{true≢false}
use Rattle.std.proofs.lemmas.List.Sums.{sum_by_push}
use Rattle.std.proofs.lemmas.List.{length_push, nil_from_length}
use Rattle.graph_model.specs.Payload.{payload_most}
use Rattle.graph_model.specs.declared.pairs.Pair.{Pair}
use Rattle.stamps.specs.Stamps.{Txn}
use Rattle.edge_log.specs.Entries.{visible, shown, pair_of, payload_sum}
use Rattle.edge_log.specs.Places.{oldest}
use Rattle.edge_log.specs.Parts.{payload_bytes, part_most}
use Rattle.edge_log.specs.Slots.{entry_of, entries_of}
use Rattle.edge_log.proofs.SlotLemmas.{StandsAt, length-entries, entry_at-slot, seen_more, unseen_more, payloads-below}
use Rattle.edge_log.proofs.slots.scan_down.Goals as goal
use Rattle.edge_log.proofs.slots.scan_down.Goals.{then-is_visible+else-not-has_room, else-is_visible}

pub loop-below-init : goal.loop-below-init
loop-below-init c =
    let all = shown (oldest c.args.place.below (entries_of c.args.slots.now)) c.args.read (Txn c.args.tid) in
    record {
      pairs = rw c.clear.ensures.cleared;
      few = rw c.clear.ensures.cleared (omega arith);
      bytes = ap (λ part. part.bytes) c.clear.ensures.cleared;
      held = rw c.clear.ensures.cleared;
      wide = c.clear.ensures.wide;
      looks = omega arith;
      props = c.requires.props;
    }

pub returns-then-not-has_room : goal.returns-then-not-has_room
returns-then-not-has_room c =
    let pairs = c.loop-below.out.pairs in
    let s = c.index-slots-below.result in
    let stands : StandsAt c.args.slots.now (c.loop-below.below - 1) s = record { within = omega (arith, length-entries c.args.slots.now); is = c.index-slots-below.is } in
    let seen : IsTrue (visible (entry_of s) c.args.read (Txn c.args.tid)) = sym c.is_visible.ensures ∙ c.if-is_visible.true in
    let few : length pairs < part_most = omega (arith, c.loop-below.invariant.few, c.if-place-below-lt-MOST_LOOKS.true) in
    let no_room : payload_bytes pairs + length s.payload ≤ c.loop-below.out.bytes → ⊥ =
    λ fits. true≢false (sym (c.has_room.ensures.1 (few, rw (c.as_slice-payload.ensures.bytes, c.loop-below.invariant.held) fits)) ∙ c.if-not-has_room.true) in
    let full : c.loop-below.out.bytes < payload_bytes pairs + length s.payload = omega (arith, no_room) in
    let short : length s.payload ≤ payload_most = rw c.as_slice-payload.ensures.bytes at c.as_slice-payload.ensures.within in
    let moved : c.args.place.below ≤ c.loop-below.below → ⊥ = λ stayed.
    let none : pairs ≡ [] = nil_from_length pairs (omega (arith, c.loop-below.invariant.few)) in
    let empty : payload_bytes pairs ≡ 0 = ap payload_bytes none in
    omega (arith, c.loop-below.invariant.wide) in
    record {
      pairs = c.loop-below.invariant.pairs;
      bytes = c.loop-below.invariant.bytes;
      progress = λ _. omega (arith, moved);
      looks = c.loop-below.invariant.looks;
      rest = c.loop-below-test.true;
      place = record { within = omega (arith, c.requires.within, c.loop-below.invariant.few); props = c.loop-below.invariant.props };
      stop = inr (rw (entry_at-slot c.args.slots.now (c.loop-below.below - 1) s stands) (seen, full));
    }

pub loop-below-preserved : goal.loop-below-preserved
loop-below-preserved c =
    let slots = c.args.slots.now in
    let who = Txn c.args.tid in
    let s = c.index-slots-below.result in
    let pairs = c.loop-below.out.pairs in
    let all = shown (oldest c.args.place.below (entries_of slots)) c.args.read who in
    let stands : StandsAt slots (c.loop-below.below - 1) s = record { within = omega (arith, length-entries c.args.slots.now); is = c.index-slots-below.is } in
    let next : c.loop-below.below ≡ c.loop-below.below - 1 + 1 = omega arith in
    let payloads = payloads-below slots (c.loop-below.below - 1) c.loop-below.below s next stands in
    let props : c.loop-below.props - length s.payload ≡ payload_sum (oldest (c.loop-below.below - 1) (entries_of slots)) = omega (arith, payloads, c.loop-below.invariant.props) in
    let looks : c.args.place.below ≤ c.loop-below.below - 1 + part_most = omega (arith, c.if-place-below-lt-MOST_LOOKS.true) in
    elim c.if-is_visible.branch [
      | then-is_visible+else-not-has_room w ↦
          let seen : visible (entry_of s) c.args.read who ≡ true = sym c.is_visible.ensures ∙ w.if-is_visible.true in
          let more = seen_more slots (c.loop-below.below - 1) c.loop-below.below c.args.read who s all pairs next stands seen c.loop-below.invariant.pairs in
          record {
            pairs = rw (w.out-is, w.push.ensures, c.as_slice-payload.ensures.bytes) more;
            few = rw (w.out-is, w.push.ensures, c.as_slice-payload.ensures.bytes, length_push pairs (pair_of (entry_of s))) (omega (arith, c.loop-below.invariant.few));
            bytes = rw (w.out-is, w.push.ensures) c.loop-below.invariant.bytes;
            wide = rw (w.out-is, w.push.ensures) c.loop-below.invariant.wide;
            held = rw (w.out-is, w.push.ensures, c.as_slice-payload.ensures.bytes, sum_by_push (λ (x : Pair). length x.p) pairs (pair_of (entry_of s))) (omega (arith, c.loop-below.invariant.held));
            looks = looks;
            props = rw c.as_slice-payload.ensures.bytes props;
          }
      | else-is_visible w ↦
          let unseen : visible (entry_of s) c.args.read who ≡ false = sym c.is_visible.ensures ∙ w.if-is_visible.false in
          let same = unseen_more slots (c.loop-below.below - 1) c.loop-below.below c.args.read who s all pairs next stands unseen c.loop-below.invariant.pairs in
          record {
            pairs = rw w.out-is same;
            few = rw w.out-is (omega (arith, c.loop-below.invariant.few));
            bytes = rw w.out-is c.loop-below.invariant.bytes;
            wide = rw w.out-is c.loop-below.invariant.wide;
            held = rw w.out-is c.loop-below.invariant.held;
            looks = looks;
            props = rw c.as_slice-payload.ensures.bytes props;
          }
    ]

pub overflow_sub-props : goal.overflow_sub-props
overflow_sub-props c =
    let slots = c.args.slots.now in
    let s = c.index-slots-below.result in
    let stands : StandsAt slots (c.loop-below.below - 1) s = record { within = omega (arith, length-entries c.args.slots.now); is = c.index-slots-below.is } in
    let next : c.loop-below.below ≡ c.loop-below.below - 1 + 1 = omega arith in
    let long = ap length c.as_slice-payload.ensures.bytes in
    omega (arith, payloads-below slots (c.loop-below.below - 1) c.loop-below.below s next stands, c.loop-below.invariant.props, long)
