use Rattle.std.proofs.Common.{◌≤◌, ap, sym, subst, arith, length}
use Rattle.std.specs.List.{All}
use Rattle.std.proofs.lemmas.List.Elements.{All-nil}
use Rattle.turn_board.specs.Board.{known}
use Rattle.turn_board.specs.Views.{start_of, next_number}
use Rattle.store_storms.specs.Putters.{IsAtStorm, IsFirst, numbers_of}
use Rattle.store_storms.proofs.Storms.{fresh_at, splits_next, more_at, pushed_len}
use Rattle.store_storms.proofs.crew.split_all.Goals as goal

pub loop-number-init : goal.loop-number-init
loop-number-init g c =
    let b = c.args.store.now.board in record {
      out = subst (λ ws. IsFirst b.turns b.shards (numbers_of ws) c.args.pass.now) (sym c.requires.none) c.requires.out;
      at = subst (λ ws. All (λ w. IsAtStorm b.turns b.shards w) ws) (sym c.requires.none) (All-nil (λ w. IsAtStorm b.turns b.shards w));
      len = ap length c.requires.none;
      room = c.requires.room;
    }

pub loop-number-preserved : goal.loop-number-preserved
loop-number-preserved g c =
    let b = c.args.store.now.board in
    let was = c.loop-number.invariant in
    let v = known c.loop-number.pass in
    let said = c.split_seat-second.ensures in
    let right = ap (λ m. m.0) said.right in
    let stands = fresh_at b.turns b.shards (start_of v) (next_number v) v.seen v.seen_logs c.split_seat-second.result _ c.new.result said.stands.1 right c.new.ensures was.out.1.found in
    let len = was.len in let one = pushed_len _ _ _ c.push_reserved.ensures.items in
    record {
      out = splits_next b.turns b.shards c.loop-number.workers.items c.push_reserved.new.self.items _ c.loop-number.pass c.split_seat-second.new.pass c.push_reserved.ensures.items was.out said.stands.0 (ap (λ m. m.0) said.left) (ap (λ u. u.number) right);
      at = more_at b.turns b.shards c.loop-number.workers.items c.push_reserved.new.self.items _ c.push_reserved.ensures.items was.at stands;
      len = omega (arith, len, one);
      room = subst (λ k. c.args.count ≤ k) (sym c.push_reserved.ensures.capacity) was.room;
    }
