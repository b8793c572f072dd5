use Rattle.std.proofs.Common.{◌≡◌, ℕ, ◌+◌, ◌-◌, ap, subst, ◌∙◌, arith}
use Rattle.edge_log.specs.Places.{oldest}
use Rattle.block_index.specs.Noted.{destinations, IsIndexed}
use Rattle.block_index.proofs.PlaceFacts.{at-place, all-of, more-of}
use Rattle.block_index.proofs.takes.take_back.Goals as goal

pub loop-place-init : goal.loop-place-init
loop-place-init c = record {
  slots = c.requires.slots;
  within = (c.requires.from, omega arith);
  room = omega arith;
  indexed = λ start xs held long is. all-of c.args.index.now c.args.count xs (omega (arith, long)) is;
}

pub loop-place-preserved : goal.loop-place-preserved
loop-place-preserved c =
    let inv = c.loop-place.invariant in
    let further = c.loop-place-test.true in
    record {
      slots = (let s = c.pop.ensures.slots in let some = inv.slots.0 in let most = inv.slots.1 in (omega (arith, s, some), omega (arith, s, most)));
      within = (omega (arith, further), (let most = inv.within.1 in omega (arith, most)));
      room = c.pop.ensures.room ∙ inv.room;
      indexed = λ start xs held long is.
          let place : ℕ = c.loop-place.place - 1 in
          let at = at-place xs place (let most = inv.within.1 in omega (arith, long, further, most)) in
          let raw = c.entry_at.ensures start xs at.0 held at.1 in
          let one : c.loop-place.place ≡ place + 1 = omega (arith, further) in
          let here : IsIndexed c.loop-place.index (oldest (place + 1) xs) = subst (λ (n : ℕ). IsIndexed c.loop-place.index (oldest n xs)) one (inv.indexed start xs held long is) in
          c.pop.ensures.popped (destinations (oldest place xs)) (more-of c.loop-place.index place c.entry_at.result.d xs at.0 at.1 (ap (λ r. r.d) raw) here);
    }
