use Rattle.std.proofs.Common.{refl, ap, ℕ, ◌∙◌, arith}
use Rattle.place_index.specs.Slots.{slot_of}
use Rattle.place_index.proofs.IndexLemmas.{popped}
use Rattle.place_index.proofs.place_index.PlaceIndex.pop.Goals as goal

pub returns-in-Some-clause-popped : goal.returns-in-Some-clause-popped
returns-in-Some-clause-popped c = λ ds is.
    let slots = c.len.ensures ∙ c.args.self.now.newest.ok.0 in
    popped c.args.self.now _ c.args.d c.slot_of-slot.result c.in-Some.older c.pop.new.self.items ds is (c.slot_of-slot.ensures.slot ∙ ap (λ (n : ℕ). slot_of n c.args.d) slots) (omega (arith, c.slot_of-slot.ensures.within, slots)) refl c.in-Some.ensures.items refl
