use Rattle.std.proofs.Common.{ap, ◌∙◌, arith}
use Rattle.std.proofs.lemmas.Nat.{pow_pos}
use Rattle.block_pool.specs.Pools.{ChunkContent}
use Rattle.block_pool.specs.Cells.{cell_of, tree_of}
use Rattle.block_pool.proofs.Halves.{cell-Holds}
use Rattle.block_pool.proofs.CellSteps.{pow-more}
use Rattle.block_pool.proofs.ChunkSteps.{first-at}
use Rattle.block_pool.proofs.chunk.Chunk.cell.Goals as goal

pub index-requires : goal.index-requires
index-requires c =
    let a = pow-more c.self.inside.order in let p = pow_pos c.self.inside.order in omega (arith, a, p, c.self.invariant.cells)

pub returns-clause-cell : goal.returns-clause-cell
returns-clause-cell c =
    c.index.ensures ∙ first-at c.self.inside.cells.items c.index.result.now 0 (let a = pow-more c.self.inside.order in let p = pow_pos c.self.inside.order in omega (arith, a, p, c.self.invariant.cells, c.self.inside.cells.ok.0))
    ∙ cell-Holds c.self.inside.order c.self.inside.cells.items (tree_of c.self.inside.order c.self.inside.cells.items) c.self.invariant.holds
    ∙ ap (λ (x : ChunkContent). cell_of x.order x.tree) c.self.view_is
