use Rattle.std.proofs.Common.{ap, sym, subst}
use Rattle.turn_board.specs.Board.{known}
use Rattle.turn_board.specs.Views.{View, IsLast}
use Rattle.store_stories.proofs.Pairs.{is_last}
use Rattle.store_stories.proofs.pair.Pair.close.Goals as goal

pub close-requires-clause-last : goal.close-requires-clause-last
close-requires-clause-last g c =
    let p = c.args.self in
    let apart = c.requires.apart in
    subst (λ (v : View). IsLast v) (sym (ap (λ m. m.0) c.join_pass.ensures.both)) (is_last (known p.first.seat) (known p.second.seat) apart.at.held apart.root apart.made apart.none)
