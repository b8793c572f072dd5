use Rattle.std.proofs.Common.{sym, subst}
use Rattle.turn_board.specs.Board.{known}
use Rattle.turn_board.specs.Views.{IsLast}
use Rattle.graph_store.proofs.store.Store.close.Goals as goal

pub close_seat-requires-clause-last : goal.close_seat-requires-clause-last
close_seat-requires-clause-last g c = subst (λ s. IsLast (known s)) (sym c.into_seat.ensures) c.requires.last
