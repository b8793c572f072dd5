use Rattle.std.proofs.Common.{◌<◌, List, length, sym, ap, subst, ◌∙◌, arith}
use Rattle.std.proofs.lemmas.List.Elements.{All-set}
use Rattle.block_pool.specs.Pools.{ChunkContent, IsChunk, with_part}
use Rattle.block_pool.proofs.PoolSteps.{length-with_part, cells-written}
use Rattle.block_pool.proofs.pool.Pool.bytes_mut.Goals as goal

pub invariant_of-self-lent : goal.invariant_of-self-lent
invariant_of-self-lent c = λ w.
    let items : List ChunkContent = c.self.inside.chunks.items in
    let d : ChunkContent = c.index_mut-chunk.result.now in
    let x : ChunkContent = record { order = d.order; bytes = with_part d.bytes c.bounds_of-from.result.from w; tree = d.tree } in
    let within : c.chunk.result < length items = (let v = ap length c.self.view_is in omega (arith, v, c.chunk.ensures, c.bounds_of-from.ensures.chunk)) in
    let was : IsChunk d = subst (λ (y : ChunkContent). IsChunk y) (sym c.index_mut-chunk.ensures.value) (c.self.invariant.whole c.chunk.result d within) in
    record {
      index = c.self.invariant.index ∙ sym (cells-written c.chunk.result items d x within (ap (λ (y : ChunkContent). y.order) c.index_mut-chunk.ensures.value) (ap (λ (y : ChunkContent). y.tree) c.index_mut-chunk.ensures.value));
      few = c.self.invariant.few;
      whole = All-set IsChunk items c.chunk.result x (record { within = was.within; long = length-with_part d.bytes c.bounds_of-from.result.from w ∙ was.long; cut = was.cut; joined = was.joined }) c.self.invariant.whole;
    }
