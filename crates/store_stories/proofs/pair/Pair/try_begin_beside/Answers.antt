use Rattle.turn_board.specs.Board.{known}
use Rattle.store_stories.proofs.Pairs.{still_apart, same_taken, same_given, same_then, tried_stands}
use Rattle.store_stories.proofs.pair.Pair.try_begin_beside.Goals as goal

pub returns : goal.returns
returns g c =
    let p = c.args.self.now in
    let b = p.store.board in
    let took = c.hold_turn in
    let gave = c.free_turn in
    let tried = tried_stands b.turns b.shards p.second.seat c.try_begin-answer.new.pass.seat p.session c.try_begin-answer.new.session c.try_begin-answer.result c.try_begin-answer.ensures.goes in
    record {
      apart = still_apart b.turns b.shards p.first gave.new.pass p.second c.try_begin-answer.new.pass p.session c.try_begin-answer.new.session c.requires.apart gave.ensures.stands gave.ensures.none
          (same_then (known p.first.seat) (known took.new.pass.seat) (known gave.new.pass.seat) (same_taken c.args.turn _ p.first.seat took.new.pass.seat took.ensures.holds.1) (same_given took.new.pass.seat gave.new.pass.seat gave.ensures.given))
          tried.0 c.try_begin-answer.ensures.told.1 tried.1;
    }
