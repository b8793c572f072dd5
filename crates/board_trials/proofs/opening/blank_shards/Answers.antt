use Rattle.std.proofs.Common.{◌∙◌, sym}
use Rattle.board_trials.proofs.Opens.{one_blank_more, on_ok}
use Rattle.board_trials.proofs.opening.blank_shards.Goals as goal

pub loop-number-preserved : goal.loop-number-preserved
loop-number-preserved c =
    one_blank_more c.args.count c.loop-number.number c.loop-number.shards.values.items c.push.new.self.values.items c.loop-number.invariant
    (on_ok c.push.result _ (sym c.is_err.ensures.value ∙ c.if-is_err.false) c.push.ensures.added)
