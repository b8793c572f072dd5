use Rattle.std.proofs.Common.{ℕ, List, length, ap, ◌∙◌, arith}
use Rattle.std.proofs.Math.ListN.{set}
use Rattle.block_pool.specs.Index.{leaves_of}
use Rattle.block_pool.proofs.IndexFacts.{length-noted, set_noted}
use Rattle.block_pool.proofs.index.Index.set.Goals as goal

pub returns : goal.returns
returns c =
    set_noted c.self.inside c.note.new.cells c.args.at c.args.cell c.self.invariant
    (let n = length-noted c.self.inside c.self.invariant in let v = ap length c.self.view_is in omega (arith, n, v, c.requires))
    (c.note.auto.cells ∙ c.deref_mut.ensures.len)
    (c.note.ensures.leaves ∙ ap (λ (xs : List ℕ). set (leaves_of c.self.inside.depth xs) c.args.at c.args.cell) c.deref_mut.ensures.value)
    ∙ ap (λ (xs : List ℕ). set xs c.args.at c.args.cell) c.self.view_is
