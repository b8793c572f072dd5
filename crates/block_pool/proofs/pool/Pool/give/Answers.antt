use Rattle.std.proofs.Common.{ℕ, List, length, sym, ap, subst, ◌∙◌, arith}
use Rattle.std.specs.Prelude.{Contains}
use Rattle.std.proofs.Math.ListN.{set}
use Rattle.std.proofs.lemmas.List.Elements.{All-set}
use Rattle.block_pool.specs.Blocks.{HasOneMore}
use Rattle.block_pool.specs.Pools.{ChunkContent, IsChunk, out_from, shapes}
use Rattle.block_pool.specs.KeptPool.{cells_of}
use Rattle.block_pool.proofs.ChunkLists.{cells-set, length-cells}
use Rattle.block_pool.proofs.OutFacts.{less_keeps}
use Rattle.block_pool.proofs.PoolSteps.{out_known, out_at, give_named}
use Rattle.block_pool.proofs.pool.Pool.give.Goals as goal

pub index_mut-chunk-requires : goal.index_mut-chunk-requires
index_mut-chunk-requires c =
    let known = out_known c.self.inside.chunks.items c.args.b (subst (λ (xs : List ChunkContent). Contains (out_from 0 xs) c.args.b) (sym c.self.view_is) c.requires) in
    let o = c.self.inside.chunks.ok.0 in let w = known.within in omega (arith, o, w, c.chunk-c.ensures)

pub give-requires : goal.give-requires
give-requires c =
    let known = out_known c.self.inside.chunks.items c.args.b (subst (λ (xs : List ChunkContent). Contains (out_from 0 xs) c.args.b) (sym c.self.view_is) c.requires) in
    out_at c.self.inside.chunks.items c.args.b c.chunk-c.result c.order.result c.start.result c.index_mut-chunk.result.now known c.chunk-c.ensures c.order.ensures c.start.ensures c.index_mut-chunk.ensures.value

pub set-requires : goal.set-requires
set-requires c =
    let known = out_known c.self.inside.chunks.items c.args.b (subst (λ (xs : List ChunkContent). Contains (out_from 0 xs) c.args.b) (sym c.self.view_is) c.requires) in
    let n = length-cells c.self.inside.chunks.items in let e = ap length c.self.invariant.index in let w = known.within in omega (arith, n, e, w, c.chunk-c.ensures)

pub invariant_of-self : goal.invariant_of-self
invariant_of-self c = record {
  index = c.set.ensures ∙ ap (λ (xs : List ℕ). set xs c.chunk-c.result c.cell-cell.result) c.self.invariant.index
      ∙ ap (λ (n : ℕ). set (cells_of c.self.inside.chunks.items) c.chunk-c.result n) c.cell-cell.ensures.cell ∙ sym (cells-set c.chunk-c.result c.self.inside.chunks.items c.give.new.self);
  few = c.self.invariant.few;
  whole = All-set IsChunk c.self.inside.chunks.items c.chunk-c.result c.give.new.self c.give.ensures.whole c.self.invariant.whole;
}

pub returns-clause-out : goal.returns-clause-out
returns-clause-out c =
    let known = out_known c.self.inside.chunks.items c.args.b (subst (λ (xs : List ChunkContent). Contains (out_from 0 xs) c.args.b) (sym c.self.view_is) c.requires) in
    subst (λ (xs : List ChunkContent). HasOneMore c.args.b (out_from 0 (set c.self.inside.chunks.items c.chunk-c.result c.give.new.self)) (out_from 0 xs)) c.self.view_is
    (give_named c.self.inside.chunks.items c.args.b c.chunk-c.result c.order.result c.start.result c.index_mut-chunk.result.now c.give.new.self known c.chunk-c.ensures c.order.ensures c.start.ensures
    c.index_mut-chunk.ensures.value c.give.ensures.given).0

pub returns-clause-kept : goal.returns-clause-kept
returns-clause-kept c =
    let known = out_known c.self.inside.chunks.items c.args.b (subst (λ (xs : List ChunkContent). Contains (out_from 0 xs) c.args.b) (sym c.self.view_is) c.requires) in
    (give_named c.self.inside.chunks.items c.args.b c.chunk-c.result c.order.result c.start.result c.index_mut-chunk.result.now c.give.new.self known c.chunk-c.ensures c.order.ensures c.start.ensures
    c.index_mut-chunk.ensures.value c.give.ensures.given).1
    ∙ ap shapes c.self.view_is

pub returns-clause-keeps : goal.returns-clause-keeps
returns-clause-keeps c =
    less_keeps c.args.b (out_from 0 (set c.self.inside.chunks.items c.chunk-c.result c.give.new.self)) (out_from 0 c.args.self.now) (returns-clause-out c)
