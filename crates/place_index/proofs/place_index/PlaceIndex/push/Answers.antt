use Rattle.std.proofs.Common.{ap, ℕ, ◌+◌, [], ◌∷◌, ◌++◌, ◌∙◌, arith}
use Rattle.std.specs.Prelude.{slice_set}
use Rattle.std.proofs.lemmas.List.{get_or_default}
use Rattle.place_index.specs.Slots.{slot_of}
use Rattle.place_index.proofs.IndexLemmas.{pushed}
use Rattle.place_index.proofs.place_index.PlaceIndex.push.Goals as goal

pub returns-clause-pushed : goal.returns-clause-pushed
returns-clause-pushed c = λ ds is.
    let slots = c.len.ensures ∙ c.args.self.now.newest.ok.0 in
    let places = c.len-2.ensures ∙ c.args.self.now.older.ok.0 in
    pushed c.args.self.now _ c.args.d c.slot_of-slot.result ds is (c.slot_of-slot.ensures.slot ∙ ap (λ (n : ℕ). slot_of n c.args.d) slots) (omega (arith, c.slot_of-slot.ensures.within, slots))
    (ap (λ (n : ℕ). slice_set c.args.self.now.newest.items c.slot_of-slot.result (n + 1)) places)
    (c.push_reserved.ensures.items ∙ ap (λ (n : ℕ). c.args.self.now.older.items ++ (n ∷ [])) (c.index-older.ensures ∙ get_or_default c.args.self.now.newest.items c.slot_of-slot.result c.index-older.result.now 0 (omega (arith, c.slot_of-slot.ensures.within, slots))))
