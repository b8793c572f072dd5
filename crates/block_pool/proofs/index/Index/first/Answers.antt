use Rattle.std.proofs.Common.{ℕ, List, get_or, ap, ◌∙◌}
use Rattle.std.specs.List.{list_any}
use Rattle.block_pool.specs.Cells.{has_bit}
use Rattle.block_pool.proofs.IndexFacts.{root_noted}
use Rattle.block_pool.proofs.index.Index.first.Goals as goal

pub first_with-requires-clause-some : goal.first_with-requires-clause-some
first_with-requires-clause-some c =
    ap (λ (xs : List ℕ). has_bit (get_or xs 0 0) c.args.order) c.deref.ensures.value
    ∙ root_noted c.self.inside c.args.order c.self.invariant
    ∙ ap (λ (xs : List ℕ). list_any (λ cell. has_bit cell c.args.order) xs) c.self.view_is
    ∙ c.requires.some
