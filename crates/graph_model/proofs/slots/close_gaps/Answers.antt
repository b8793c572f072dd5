-- The gaps are left out, and then the places are told.
use Rattle.std.proofs.Common.{rules, ◌≡◌, ◌∙◌, is_some, sym, ap}
use Rattle.std.specs.Prelude.{filter}
use Rattle.std.proofs.lemmas.Fn.{filter_same}
use Rattle.graph_model.specs.Whole.{are_pairs}
use Rattle.graph_model.specs.Gaps.{edges_in, place_of}
use Rattle.graph_model.proofs.Gaps.{edges-filled, has-filled}
use Rattle.graph_model.proofs.slots.close_gaps.Goals as goal

filled : (c : goal.After-tell_places-arg-1) → c.retain.new.self.items ≡ filter is_some c.args.slots.now.items
filled c = filter_same _ is_some _ (λ x b f' h. search rules) _ _ c.retain.ensures.filtered

pub tell_places-requires-clause-distinct : goal.tell_places-requires-clause-distinct
tell_places-requires-clause-distinct c = ap (λ s. are_pairs (edges_in s)) (filled c) ∙ ap are_pairs (edges-filled c.args.slots.now.items) ∙ c.requires.distinct

pub tell_places-requires-clause-has : goal.tell_places-requires-clause-has
tell_places-requires-clause-has c = λ d. has-filled d c.args.slots.now.items c.args.places.now c.requires.told ∙ ap (λ s. is_some (place_of d s)) (sym (filled c))

pub returns-then-len-clause-edges : goal.returns-then-len-clause-edges
returns-then-len-clause-edges c = ap edges_in (filter_same _ is_some _ (λ x b f' h. search rules) _ _ c.retain.ensures.filtered) ∙ edges-filled c.args.slots.now.items
