use Rattle.std.proofs.Common.{◌≡◌, ◌≤◌, ◌∷◌, [], ℕ, suc, ap, sym, subst, arith, length, length-append, reverse}
use Rattle.turn_board.specs.Board.{known}
use Rattle.turn_board.specs.Views.{View, start_of}
use Rattle.store_workers.specs.Crews.{pass_of, AreNumbered, HasParted, IsCrew, IsFreshAt, Waits}
use Rattle.store_workers.proofs.Coming.{none-parted, split-fresh}
use Rattle.store_workers.proofs.Crewing.{parts-next, waits-more, next-crew}
use Rattle.store_workers.proofs.crew.split_all.Goals as goal

pub loop-crew-init : goal.loop-crew-init
loop-crew-init g c =
    let none = ap length c.requires.empty in
    record {
      parted = (c.requires.stands, subst (λ (k : ℕ). HasParted (known c.args.pass.now) k (known c.args.pass.now)) (sym none) (none-parted (known c.args.pass.now) c.requires.none));
      wait = subst (λ ws. AreNumbered (Waits c.args.store.now.board.turns c.args.store.now.board.shards c.args.count c.args.script.now (start_of (known c.args.pass.now)) (known c.args.pass.now).number) 0 ws) (sym c.requires.empty) tt;
      ready = subst (λ (k : ℕ). AreNumbered (IsCrew c.args.count c.args.script.now) k (reverse c.args.crews.items)) (sym none) c.requires.crews;
      len = omega (arith, none);
      room = c.requires.room;
    }

pub loop-crew-preserved : goal.loop-crew-preserved
loop-crew-preserved g c =
    let b = c.args.store.now.board in
    let u = known c.args.pass.now in
    let was = c.loop-crew.invariant in
    let said = c.split_seat-second.ensures in
    let next = next-crew c.args.count c.args.script.now (length c.loop-crew.workers.items) c.loop-crew.crews.items c.pop.new.self.items c.in-Some.crew c.in-Some.ensures.items was.ready in
    let fresh : IsFreshAt (start_of u) (pass_of u.number (length c.loop-crew.workers.items)) (known c.split_seat-second.result) =
    subst (λ (v : View). IsFreshAt (start_of u) (pass_of u.number (length c.loop-crew.workers.items)) v) (sym (ap (λ m. m.0) said.right)) (split-fresh u (length c.loop-crew.workers.items) (known c.loop-crew.pass) was.parted.1) in
    let more = waits-more b.turns b.shards c.args.count c.args.script.now (start_of u) u.number c.loop-crew.workers.items c.push_reserved.new.self.items c.split_seat-second.result c.in-Some.crew was.wait c.push_reserved.ensures.items said.stands.1 fresh next.0 in
    let many = was.len in let grown = more.1 in
    let popped = ap length c.in-Some.ensures.items in let one = length-append c.pop.new.self.items (c.in-Some.crew ∷ []) in
    let up : suc (length c.loop-crew.workers.items) ≡ length c.push_reserved.new.self.items = omega (arith, grown) in
    record {
      parted = (said.stands.0, subst (λ (k : ℕ). HasParted u k (known c.split_seat-second.new.pass)) (sym more.1) (parts-next u (length c.loop-crew.workers.items) (known c.loop-crew.pass) (known c.split_seat-second.new.pass) was.parted.1 (ap (λ m. m.0) said.left)));
      wait = more.0;
      ready = subst (λ (k : ℕ). AreNumbered (IsCrew c.args.count c.args.script.now) k (reverse c.pop.new.self.items)) up next.1;
      len = omega (arith, many, grown, popped, one);
      room = subst (λ (k : ℕ). length c.args.crews.items ≤ k) (sym c.push_reserved.ensures.capacity) was.room;
    }
