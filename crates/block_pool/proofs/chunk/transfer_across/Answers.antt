use Rattle.std.proofs.Common.{◌≡◌, ◌-◌, ◌<◌, ◌++◌, ℕ, List, length, slice_range, slice_index_or, take, ap, subst, ◌∙◌, arith}
use Rattle.std.proofs.Math.ListN.{set}
use Rattle.block_pool.specs.Pools.{ChunkContent, chunk_at, with_part}
use Rattle.block_pool.proofs.TransferFacts.{set-back, set-front, at-back, at-front, made, range-long, not_less}
use Rattle.block_pool.proofs.chunk.transfer_across.Goals as goal

pub returns-then-from_chunk-to_chunk : goal.returns-then-from_chunk-to_chunk
returns-then-from_chunk-to_chunk g c =
    let chunks : List ChunkContent = c.args.chunks.now in
    let k : ℕ = c.args.to_chunk in
    let from : List ℕ = slice_range (chunk_at chunks c.args.from_chunk).bytes c.args.from.from c.args.from.to in
    let to : List ℕ = slice_range (chunk_at chunks k).bytes c.args.to.from c.args.to.to in
    let part : List ℕ = c.transfer.new.to in
    let cut = c.split_at_mut-front.ensures in
    let d : ChunkContent = slice_index_or c.split_at_mut-front.result.1.now 0 c.index-back-0.result in
    let x : ChunkContent = record { order = d.order; bytes = with_part d.bytes c.args.to.from part; tree = d.tree } in
    let is : d ≡ chunk_at chunks k =
    ap (λ (xs : List ChunkContent). slice_index_or xs 0 c.index-back-0.result) cut.back ∙ at-back chunks k c.index-back-0.result c.requires.within.1 in
    let e : ChunkContent = slice_index_or c.split_at_mut-front.result.0.now c.args.from_chunk c.index-front-from_chunk.result in
    let other : e ≡ chunk_at chunks c.args.from_chunk =
    ap (λ (xs : List ChunkContent). slice_index_or xs c.args.from_chunk c.index-front-from_chunk.result) cut.front ∙ at-front chunks k c.args.from_chunk c.index-front-from_chunk.result (omega arith) c.requires.within.0 in
    let read : c.part-read.result.now ≡ from = c.part-read.ensures ∙ ap (λ (y : ChunkContent). slice_range y.bytes c.args.from.from c.args.from.to) other in
    let was : c.part_mut.result.now ≡ to = c.part_mut.ensures.value ∙ ap (λ (y : ChunkContent). slice_range y.bytes c.args.to.from c.args.to.to) is in
    let long : length part ≡ c.args.to.to - c.args.to.from =
    c.transfer.auto.to ∙ ap length was ∙ range-long (chunk_at chunks k).bytes c.args.to.from c.args.to.to c.requires.to.0 c.requires.to.1 in
    made (g.W.Transfer.does c.args.work.now from to) chunks k c.args.to.from (c.args.to.to - c.args.to.from) part d _
    (subst (λ (ys : List ℕ). g.W.Transfer.does c.args.work.now from ys part) was (subst (λ (xs : List ℕ). g.W.Transfer.does c.args.work.now xs c.part_mut.result.now part) read c.transfer.ensures))
    long is
    (ap (λ (xs : List ChunkContent). xs ++ set c.split_at_mut-front.result.1.now 0 x) cut.front ∙ ap (λ (ys : List ChunkContent). take k chunks ++ set ys 0 x) cut.back ∙ set-back chunks k x c.requires.within.1)

pub returns-else-from_chunk-to_chunk : goal.returns-else-from_chunk-to_chunk
returns-else-from_chunk-to_chunk g c =
    let chunks : List ChunkContent = c.args.chunks.now in
    let k : ℕ = c.args.to_chunk in
    let from : List ℕ = slice_range (chunk_at chunks c.args.from_chunk).bytes c.args.from.from c.args.from.to in
    let to : List ℕ = slice_range (chunk_at chunks k).bytes c.args.to.from c.args.to.to in
    let part : List ℕ = c.transfer-else-from_chunk-to_chunk.new.to in
    let cut = c.split_at_mut-front-else-from_chunk-to_chunk.ensures in
    let below : k < c.args.from_chunk = not_less c.args.from_chunk k c.requires.apart c.if-from_chunk-to_chunk.false in
    let d : ChunkContent = slice_index_or c.split_at_mut-front-else-from_chunk-to_chunk.result.0.now c.args.to_chunk c.index-front-to_chunk.result in
    let x : ChunkContent = record { order = d.order; bytes = with_part d.bytes c.args.to.from part; tree = d.tree } in
    let is : d ≡ chunk_at chunks k =
    ap (λ (xs : List ChunkContent). slice_index_or xs k c.index-front-to_chunk.result) cut.front ∙ at-front chunks c.args.from_chunk k c.index-front-to_chunk.result below c.requires.within.1 in
    let e : ChunkContent = slice_index_or c.split_at_mut-front-else-from_chunk-to_chunk.result.1.now 0 c.index-back-0-else-from_chunk-to_chunk.result in
    let other : e ≡ chunk_at chunks c.args.from_chunk =
    ap (λ (xs : List ChunkContent). slice_index_or xs 0 c.index-back-0-else-from_chunk-to_chunk.result) cut.back ∙ at-back chunks c.args.from_chunk c.index-back-0-else-from_chunk-to_chunk.result c.requires.within.0 in
    let read : c.part-read-else-from_chunk-to_chunk.result.now ≡ from = c.part-read-else-from_chunk-to_chunk.ensures ∙ ap (λ (y : ChunkContent). slice_range y.bytes c.args.from.from c.args.from.to) other in
    let was : c.part_mut-else-from_chunk-to_chunk.result.now ≡ to = c.part_mut-else-from_chunk-to_chunk.ensures.value ∙ ap (λ (y : ChunkContent). slice_range y.bytes c.args.to.from c.args.to.to) is in
    let long : length part ≡ c.args.to.to - c.args.to.from =
    c.transfer-else-from_chunk-to_chunk.auto.to ∙ ap length was ∙ range-long (chunk_at chunks k).bytes c.args.to.from c.args.to.to c.requires.to.0 c.requires.to.1 in
    made (g.W.Transfer.does c.args.work.now from to) chunks k c.args.to.from (c.args.to.to - c.args.to.from) part d _
    (subst (λ (ys : List ℕ). g.W.Transfer.does c.args.work.now from ys part) was (subst (λ (xs : List ℕ). g.W.Transfer.does c.args.work.now xs c.part_mut-else-from_chunk-to_chunk.result.now part) read c.transfer-else-from_chunk-to_chunk.ensures))
    long is
    (ap (λ (xs : List ChunkContent). set xs k x ++ c.split_at_mut-front-else-from_chunk-to_chunk.result.1.now) cut.front ∙ ap (λ (ys : List ChunkContent). set (take c.args.from_chunk chunks) k x ++ ys) cut.back ∙ set-front chunks c.args.from_chunk k x below (omega (arith, c.requires.within.0)))
