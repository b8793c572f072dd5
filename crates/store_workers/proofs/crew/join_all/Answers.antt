use Rattle.std.proofs.Common.{rules, ◌≡◌, ◌≤◌, ◌∷◌, [], ℕ, refl, ap, sym, subst, arith, length, length-append, reverse, ◌++◌, ◌∙◌, append-nil}
use Rattle.turn_board.specs.Board.{known}
use Rattle.turn_board.specs.Views.{start_of}
use Rattle.store_workers.specs.Crews.{HasOut}
use Rattle.store_workers.proofs.Crewing.{stand-less, comes-next, replies-more, replies_in}
use Rattle.store_workers.proofs.crew.join_all.Goals as goal

pub loop-worker-init : goal.loop-worker-init
loop-worker-init g c =
    let none = ap length c.requires.none in
    record {
      stands = c.requires.stands;
      stand = c.requires.stand;
      start = refl;
      out = λ u n lines out ran. (out, ran);
      back = ap (λ rs. replies_in c.args.workers.items ++ reverse rs) c.requires.none ∙ append-nil (replies_in c.args.workers.items);
      many = omega (arith, none);
      room = c.requires.room;
    }

pub join_seats-requires : goal.join_seats-requires
join_seats-requires g c =
    let b = c.args.store.now.board in
    let less = stand-less b.turns b.shards c.loop-worker.workers.items c.pop.new.self.items c.in-Some.worker c.in-Some.ensures.items c.loop-worker.invariant.stand in
    record { stands = (c.loop-worker.invariant.stands, less.1) }

pub push_reserved-requires : goal.push_reserved-requires
push_reserved-requires g c =
    let was = c.loop-worker.invariant in
    let many = was.many in let room = was.room in
    let popped = ap length c.in-Some.ensures.items in let one = length-append c.pop.new.self.items (c.in-Some.worker ∷ []) in
    omega (arith, many, room, popped, one)

pub loop-worker-preserved : goal.loop-worker-preserved
loop-worker-preserved g c =
    let b = c.args.store.now.board in
    let was = c.loop-worker.invariant in
    let less = stand-less b.turns b.shards c.loop-worker.workers.items c.pop.new.self.items c.in-Some.worker c.in-Some.ensures.items was.stand in
    let many = was.many in
    let popped = ap length c.in-Some.ensures.items in let one = length-append c.pop.new.self.items (c.in-Some.worker ∷ []) in
    let pushed = ap length c.push_reserved.ensures.items in let more = length-append c.loop-worker.replies.items (c.in-Some.worker.crew.replies ∷ []) in
    record {
      stands = c.join_seats.ensures.stands;
      stand = less.0;
      start = ap (λ m. start_of m.0) c.join_seats.ensures.both ∙ was.start;
      out = λ u n lines out ran. comes-next u n lines c.args.workers.items c.loop-worker.workers.items c.pop.new.self.items c.in-Some.worker (known c.args.pass.now) (known c.loop-worker.pass) (known c.join_seats.new.into)
          c.in-Some.ensures.items (ap (λ m. m.0) c.join_seats.ensures.both) (was.out u n lines) out ran;
      back = replies-more c.loop-worker.workers.items c.pop.new.self.items c.in-Some.worker (replies_in c.args.workers.items) c.loop-worker.replies.items c.push_reserved.new.self.items c.in-Some.ensures.items c.push_reserved.ensures.items was.back;
      many = omega (arith, many, popped, one, pushed, more);
      room = subst (λ (k : ℕ). length c.args.workers.items ≤ k) (sym c.push_reserved.ensures.capacity) was.room;
    }

pub returns-clause-back : goal.returns-clause-back
returns-clause-back g c = λ u n lines out ran.
    let none : length c.loop-worker.workers.items ≡ 0 = search rules in
    subst (λ (k : ℕ). HasOut u n lines k (known c.loop-worker.pass)) none (c.loop-worker.invariant.out u n lines out ran).0
