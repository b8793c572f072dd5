use Rattle.std.proofs.Common.{[], sym, subst}
use Rattle.turn_board.specs.Board.{known}
use Rattle.store_storms.specs.Putters.{IsFirst}
use Rattle.store_storms.proofs.Storms.{none_out, is_last}
use Rattle.store_storms.proofs.storm.storm_over.Goals as goal

pub put_by_all-committed-requires-clause-first : goal.put_by_all-committed-requires-clause-first
put_by_all-committed-requires-clause-first g c κs within =
    let made = c.made-vertex.new.desk in
    let desk = c.made-vertex.ensures.at_desk in
    subst (λ seat. IsFirst made.store.board.turns made.store.board.shards [] seat) (sym c.into_seat-pass.ensures) (desk.stands.0, none_out (known made.pass.seat) desk.last desk.found)

pub close_seat-requires-clause-last : goal.close_seat-requires-clause-last
close_seat-requires-clause-last g c = let first = c.put_by_all-committed.ensures.first in is_last (known c.put_by_all-committed.new.pass) first.1 first.0.held
