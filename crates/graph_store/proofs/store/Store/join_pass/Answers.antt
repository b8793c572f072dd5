use Rattle.std.proofs.Common.{sym, subst}
use Rattle.turn_board.specs.Board.{known}
use Rattle.turn_board.specs.Views.{joining}
use Rattle.store_turns.specs.Seeing.{HasSeen}
use Rattle.store_turns.proofs.Seeing.{seen_joining, seen_joined}
use Rattle.graph_store.proofs.Heard.{heard_as}
use Rattle.graph_store.proofs.store.Store.join_pass.Goals as goal

pub invariant_of-into : goal.invariant_of-into
invariant_of-into g c =
    let into = c.args.into.now in let join = c.join_seats in let v = known into.seat in let w = known c.into_seat.result in
    record { heard = heard_as join.new.into (joining v w) join.ensures.both into.told (seen_joining v w into.told into.heard) }

pub hear-requires : goal.hear-requires
hear-requires g c =
    let from = c.args.from in let join = c.join_seats in let v = known c.args.into.now.seat in let w = known c.into_seat.result in
    let heard = subst (λ s. HasSeen from.told (known s)) (sym c.into_seat.ensures) from.heard in
    record { seen = heard_as join.new.into (joining v w) join.ensures.both from.told (seen_joined v w join.ensures.base from.told heard) }
