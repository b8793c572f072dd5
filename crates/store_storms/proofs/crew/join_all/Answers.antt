use Rattle.std.proofs.Common.{ap}
use Rattle.store_storms.proofs.Storms.{less_at, joins_next}
use Rattle.store_storms.proofs.crew.join_all.Goals as goal

pub join_seats-requires : goal.join_seats-requires
join_seats-requires g c =
    let b = c.args.store.now.board in
    let less = less_at b.turns b.shards c.loop-worker.workers.items c.pop.new.self.items c.in-Some.worker c.in-Some.ensures.items c.loop-worker.invariant.at in
    record { stands = (c.loop-worker.invariant.out.0, less.1.stands.0) }

pub loop-worker-preserved : goal.loop-worker-preserved
loop-worker-preserved g c =
    let b = c.args.store.now.board in
    let was = c.loop-worker.invariant in
    let less = less_at b.turns b.shards c.loop-worker.workers.items c.pop.new.self.items c.in-Some.worker c.in-Some.ensures.items was.at in
    record {
      out = joins_next b.turns b.shards c.loop-worker.workers.items c.pop.new.self.items c.in-Some.worker c.loop-worker.pass c.join_seats.new.into c.in-Some.ensures.items was.out less.1 c.join_seats.ensures.stands (ap (λ m. m.0) c.join_seats.ensures.both);
      at = less.0;
    }
