use Rattle.std.proofs.Common.{ℕ, List, ap, ◌∙◌}
use Rattle.std.specs.List.{list_any}
use Rattle.block_pool.specs.Cells.{has_bit}
use Rattle.block_pool.proofs.ChunkSteps.{first-at}
use Rattle.block_pool.proofs.IndexFacts.{root_noted, room_cells}
use Rattle.block_pool.proofs.index.Index.has.Goals as goal

pub returns-then-self-gt0 : goal.returns-then-self-gt0
returns-then-self-gt0 c =
    c.has_bit.ensures
    ∙ ap (λ (n : ℕ). has_bit n c.args.order) (c.index.ensures ∙ first-at c.self.inside.cells.items c.index.result.now 0 (room_cells c.self.inside c.self.invariant c.if-self-gt0.true))
    ∙ root_noted c.self.inside c.args.order c.self.invariant
    ∙ ap (λ (xs : List ℕ). list_any (λ cell. has_bit cell c.args.order) xs) c.self.view_is
