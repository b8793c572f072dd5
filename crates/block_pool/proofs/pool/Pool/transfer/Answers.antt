use Rattle.std.proofs.Common.{ℕ, ◌≡◌, ◌<◌, List, length, sym, ap, ◌∙◌, arith}
use Rattle.std.proofs.Math.ListN.{set}
use Rattle.block_pool.specs.Pools.{ChunkContent, chunk_at, with_part, with_bytes}
use Rattle.block_pool.proofs.PoolSteps.{at-any}
use Rattle.block_pool.proofs.WriteFacts.{none}
use Rattle.block_pool.proofs.TransferFacts.{Stays, stays, refilled}
use Rattle.block_pool.proofs.pool.Pool.transfer.Goals as goal

pub invariant_of-self : goal.invariant_of-self
invariant_of-self g c =
    let items : List ChunkContent = c.self.inside.chunks.items in
    let k : ℕ = c.chunk-to_chunk.result in
    let within : k < length items = (let v = ap length c.self.view_is in omega (arith, v, c.chunk-to_chunk.ensures, c.bounds_of-written.ensures.chunk)) in
    let d : ChunkContent = c.index_mut.result.now in
    let is : d ≡ chunk_at items k = c.index_mut.ensures.value ∙ at-any items k d none within in
    let new : set items k c.transfer.new.self ≡ with_bytes items k c.bounds_of-written.result.from c.transfer.ensures.part =
    ap (set items k) (c.transfer.ensures.new_is ∙ ap (λ (x : ChunkContent). record x { bytes = with_part x.bytes c.bounds_of-written.result.from c.transfer.ensures.part }) is) in
    let same : Stays items (set items k c.transfer.new.self) = stays items k c.bounds_of-written.result.from c.transfer.ensures.part _ within c.self.invariant.whole new in
    record {
      index = c.self.invariant.index ∙ sym same.cells;
      few = omega (arith, same.long, c.self.invariant.few);
      whole = same.whole;
    }

pub invariant_of-self-else-from_chunk-to_chunk : goal.invariant_of-self-else-from_chunk-to_chunk
invariant_of-self-else-from_chunk-to_chunk g c =
    let items : List ChunkContent = c.self.inside.chunks.items in
    let k : ℕ = c.chunk-to_chunk.result in
    let within : k < length items = (let v = ap length c.self.view_is in omega (arith, v, c.chunk-to_chunk.ensures, c.bounds_of-written.ensures.chunk)) in
    let new : c.transfer_across.new.chunks ≡ with_bytes items k c.bounds_of-written.result.from c.transfer_across.ensures.part =
    c.transfer_across.ensures.new_is ∙ ap (λ (xs : List ChunkContent). with_bytes xs k c.bounds_of-written.result.from c.transfer_across.ensures.part) c.deref_mut.ensures.value in
    let long : length items ≡ c.self.inside.chunks.len = omega (arith, c.self.inside.chunks.ok.0) in
    let other : length c.transfer_across.new.chunks ≡ length items = (let v = ap length c.deref_mut.ensures.value in omega (arith, v, c.transfer_across.auto.chunks)) in
    let filled = refilled c.self.inside.chunks.len c.transfer_across.new.chunks items (omega (arith, long, other)) long in
    let same = stays items k c.bounds_of-written.result.from c.transfer_across.ensures.part _ within c.self.invariant.whole (filled ∙ new) in
    record {
      index = c.self.invariant.index ∙ sym same.cells;
      few = omega (arith, same.long, c.self.invariant.few);
      whole = same.whole;
    }
