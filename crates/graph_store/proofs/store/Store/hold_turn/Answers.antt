use Rattle.turn_board.specs.Board.{known}
use Rattle.turn_board.specs.Views.{taking}
use Rattle.graph_store.specs.Passes.{shown_by}
use Rattle.graph_store.proofs.Heard.{heard_as}
use Rattle.graph_store.proofs.Holding.{belongs_still, holds_one}
use Rattle.graph_store.proofs.store.Store.hold_turn.Goals as goal

pub returns-clause-holds : goal.returns-clause-holds
returns-clause-holds g c =
    let b = c.args.self.now.board in
    let p = c.args.pass.now in
    let took = c.take-value in
    let shown = shown_by g.D.Disk.moment took.result in (
      record {
        turn_is = c.requires.turn;
        value = took.result;
        held = c.replace-held.ensures.after;
        holds = holds_one b.turns b.shards c.args.turn shown.part p.seat took.new.pass c.requires.stands took.ensures.taken took.ensures.keeps;
        belongs = belongs_still c.args.turn shown.part p.seat took.new.pass shown took.ensures.taken took.ensures.belongs;
      },
      took.ensures.taken,
    )

pub invariant_of-pass : goal.invariant_of-pass
invariant_of-pass g c =
    let pass = c.args.pass.now in let took = c.take-value in
    record { heard = heard_as took.new.pass (taking c.args.turn (shown_by g.D.Disk.moment took.result).part (known pass.seat)) took.ensures.taken pass.told pass.heard }
