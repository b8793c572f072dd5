use Rattle.turn_board.specs.Board.{known}
use Rattle.turn_board.specs.Views.{splitting, split_off}
use Rattle.graph_store.proofs.Heard.{heard_as}
use Rattle.graph_store.proofs.store.Store.split_pass.Goals as goal

pub invariant_of-pass : goal.invariant_of-pass
invariant_of-pass g c =
    let pass = c.args.pass.now in let split = c.split_seat in
    record { heard = heard_as split.new.pass (splitting (known pass.seat)) split.ensures.left pass.told pass.heard }

pub new-requires : goal.new-requires
new-requires g c =
    let pass = c.args.pass.now in let split = c.split_seat in
    record { heard = heard_as split.result (split_off (known pass.seat)) split.ensures.right pass.told pass.heard }
