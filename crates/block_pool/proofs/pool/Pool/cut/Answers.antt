use Rattle.std.proofs.Common.{ℕ, ◌≡◌, ◌^◌, ◌<◌, ◌≤◌, true, false, ◌==◌, List, length, sym, ap, subst, ◌∙◌, arith}
use Rattle.std.proofs.Math.ListN.{set}
use Rattle.std.proofs.Math.Pow.{pow_mono}
use Rattle.std.proofs.lemmas.List.Elements.{All-set}
use Rattle.std.specs.List.{list_any}
use Rattle.block_pool.specs.Blocks.{Area}
use Rattle.block_pool.specs.Pools.{ChunkContent, IsChunk, free_from}
use Rattle.block_pool.specs.Cells.{has_bit, has_free}
use Rattle.block_pool.specs.Cuts.{CutsFirst}
use Rattle.block_pool.specs.KeptPool.{cells_of}
use Rattle.block_pool.proofs.ChunkLists.{any_free, cells-set, length-cells}
use Rattle.block_pool.proofs.PoolSteps.{has_at, cut_done}
use Rattle.block_pool.proofs.pool.Pool.cut.Goals as goal

pub first-c-requires-clause-some : goal.first-c-requires-clause-some
first-c-requires-clause-some c =
    ap (λ (xs : List ℕ). list_any (λ cell. has_bit cell c.args.from) xs) c.self.invariant.index
    ∙ any_free 0 c.args.from c.self.inside.chunks.items (omega arith)
    ∙ ap (λ (xs : List ChunkContent). list_any (λ (g : Area). g.order == c.args.from) (free_from 0 xs)) c.self.view_is ∙ c.requires.free

pub take-unit-requires-clause-free : goal.take-unit-requires-clause-free
take-unit-requires-clause-free c =
    let d : ChunkContent = c.index_mut-chunk.result.now in
    let within : c.first-c.result < length c.self.inside.chunks.items = (let n = length-cells c.self.inside.chunks.items in let e = ap length c.self.invariant.index in omega (arith, n, e, c.first-c.ensures.within)) in
    subst (λ (x : ChunkContent). has_free x.order c.args.from x.tree ≡ true) (sym c.index_mut-chunk.ensures.value)
    (has_at c.self.inside.chunks.items c.self.inside.index c.first-c.result c.args.from d true c.self.invariant.index within (omega arith) c.first-c.ensures.found)

pub overflow_cast-unit : goal.overflow_cast-unit
overflow_cast-unit c =
    let d : ChunkContent = c.index_mut-chunk.result.now in
    let within : c.first-c.result < length c.self.inside.chunks.items = (let n = length-cells c.self.inside.chunks.items in let e = ap length c.self.invariant.index in omega (arith, n, e, c.first-c.ensures.within)) in
    let small : d.order ≤ 25 = subst (λ (x : ChunkContent). x.order ≤ 25) (sym c.index_mut-chunk.ensures.value) (c.self.invariant.whole c.first-c.result d within).within in
    let p : 2 ^ d.order ≤ 2 ^ 25 = pow_mono small in
    record { fits = omega (arith, p, c.take-unit.ensures.within) }

pub invariant_of-self : goal.invariant_of-self
invariant_of-self c = record {
  index = c.set.ensures ∙ ap (λ (xs : List ℕ). set xs c.first-c.result c.cell-cell.result) c.self.invariant.index
      ∙ ap (λ (n : ℕ). set (cells_of c.self.inside.chunks.items) c.first-c.result n) c.cell-cell.ensures.cell ∙ sym (cells-set c.first-c.result c.self.inside.chunks.items c.take-unit.new.self);
  few = c.self.invariant.few;
  whole = All-set IsChunk c.self.inside.chunks.items c.first-c.result c.take-unit.new.self c.take-unit.ensures.whole c.self.invariant.whole;
}

pub returns-clause-cut : goal.returns-clause-cut
returns-clause-cut c =
    let d : ChunkContent = c.index_mut-chunk.result.now in
    let within : c.first-c.result < length c.self.inside.chunks.items = (let n = length-cells c.self.inside.chunks.items in let e = ap length c.self.invariant.index in omega (arith, n, e, c.first-c.ensures.within)) in
    let has : has_free d.order c.args.from d.tree ≡ true = subst (λ (x : ChunkContent). has_free x.order c.args.from x.tree ≡ true) (sym c.index_mut-chunk.ensures.value)
    (has_at c.self.inside.chunks.items c.self.inside.index c.first-c.result c.args.from d true c.self.invariant.index within (omega arith) c.first-c.ensures.found) in
    let done = cut_done c.self.inside.chunks.items c.first-c.result c.args.from c.args.order c.take-unit.result d c.take-unit.new.self within c.requires.orders.0 c.index_mut-chunk.ensures.value has
    (λ j h. has_at c.self.inside.chunks.items c.self.inside.index j c.args.from d false c.self.invariant.index (omega arith) (omega arith) (c.first-c.ensures.first j h))
    c.take-unit.ensures.taken c.take-unit.ensures.unit in
    subst (λ (old : List ChunkContent). CutsFirst c.args.from c.args.order old c.named.result (set c.self.inside.chunks.items c.first-c.result c.take-unit.new.self)) c.self.view_is
    (subst (λ (b : Area). CutsFirst c.args.from c.args.order c.self.inside.chunks.items b (set c.self.inside.chunks.items c.first-c.result c.take-unit.new.self)) (sym c.named.ensures) done)
