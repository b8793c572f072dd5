use Rattle.std.proofs.Common.{◌≡◌, ◌∙◌, ◌+◌, ◌-◌, ◌++◌, ◌∷◌, [], length, sym, ap, arith, append-nil}
use Rattle.stamps.specs.Stamps.{Txn}
use Rattle.edge_log.specs.Entries.{shown}
use Rattle.edge_log.specs.Places.{oldest}
use Rattle.edge_log.specs.Slots.{entries_of}
use Rattle.edge_log.proofs.PlaceLemmas.{oldest_all, oldest_none}
use Rattle.edge_log.proofs.SlotLemmas.{StandsAt, length-entries, seen_more, unseen_more}
use Rattle.edge_log.proofs.slots.seen_pairs.Goals as goal

pub loop-place-init : goal.loop-place-init
loop-place-init c =
    let all = oldest_all (entries_of c.args.slots.now) (length c.args.slots.now) (omega (arith, length-entries c.args.slots.now)) in
    record {
      within = omega arith;
      pairs = ap (λ xs. shown xs c.args.read (Txn c.args.tid)) (sym all) ∙ ap (λ front. front ++ shown (oldest (length c.args.slots.now) (entries_of c.args.slots.now)) c.args.read (Txn c.args.tid)) (sym c.new-pairs.ensures);
    }

pub loop-place-preserved-in_ok-push : goal.loop-place-preserved-in_ok-push
loop-place-preserved-in_ok-push c =
    let s = c.index-slots-place.result in
    let stands : StandsAt c.args.slots.now (c.loop-place.place - 1) s = record { within = omega arith; is = c.index-slots-place.is } in
    let next : c.loop-place.place ≡ c.loop-place.place - 1 + 1 = omega arith in
    record {
      within = omega arith;
      pairs = seen_more c.args.slots.now (c.loop-place.place - 1) c.loop-place.place c.args.read (Txn c.args.tid) s _ c.loop-place.pairs next stands (sym c.is_visible.ensures ∙ c.if-is_visible.true) c.loop-place.invariant.pairs
          ∙ ap (λ front. front ++ shown (oldest (c.loop-place.place - 1) (entries_of c.args.slots.now)) c.args.read (Txn c.args.tid)) (sym (c.in_ok-push.ensures ∙ ap (λ x. c.loop-place.pairs ++ x ∷ []) c.in_ok-pair.ensures));
    }

pub loop-place-preserved : goal.loop-place-preserved
loop-place-preserved c =
    let s = c.index-slots-place.result in
    let stands : StandsAt c.args.slots.now (c.loop-place.place - 1) s = record { within = omega arith; is = c.index-slots-place.is } in
    let next : c.loop-place.place ≡ c.loop-place.place - 1 + 1 = omega arith in
    record {
      within = omega arith;
      pairs = unseen_more c.args.slots.now (c.loop-place.place - 1) c.loop-place.place c.args.read (Txn c.args.tid) s _ c.loop-place.pairs next stands (sym c.is_visible.ensures ∙ c.if-is_visible.false) c.loop-place.invariant.pairs;
    }

pub returns : goal.returns
returns c =
    let start : c.loop-place.place ≡ 0 = omega arith in
    let none : shown (oldest c.loop-place.place (entries_of c.args.slots.now)) c.args.read (Txn c.args.tid) ≡ [] = rw (start, oldest_none (entries_of c.args.slots.now)) in
    sym (c.loop-place.invariant.pairs ∙ ap (λ xs. c.loop-place.pairs ++ xs) none ∙ append-nil c.loop-place.pairs)
