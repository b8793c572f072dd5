use Rattle.std.proofs.Common.{[], ◌∷◌, subst}
use Rattle.store_opening.specs.Opened.{AreShards}
use Rattle.store_opening.proofs.Opens.{shards_front}
use Rattle.store_opening.proofs.opening.let_go.Goals as goal

pub shard_of-requires : goal.shard_of-requires
shard_of-requires g c = (shards_front c.pop.new.self.items (c.in-Some.value ∷ []) (subst (λ xs. AreShards xs) c.in-Some.ensures.items c.loop-value.invariant)).1

pub loop-value-preserved : goal.loop-value-preserved
loop-value-preserved g c = (shards_front c.pop.new.self.items (c.in-Some.value ∷ []) (subst (λ xs. AreShards xs) c.in-Some.ensures.items c.loop-value.invariant)).0
