use Rattle.std.proofs.Common.{◌∙◌, sym, ap}
use Rattle.graph_model.specs.declared.graph.Base.{Base}
use Rattle.core_states.specs.LogParts.{opened_part}
use Rattle.store_trials.specs.AtDesk.{found_new}
use Rattle.store_trials.proofs.tests.log_desk.Goals as goal

pub desk_over-requires-clause-log : goal.desk_over-requires-clause-log
desk_over-requires-clause-log c =
    let found = found_new c.in-Some.log.wal.disk in
    (found, c.in-Some.ensures.log ∙ sym (ap (λ (b : Base). opened_part b.epoch found) c.small_base-base.ensures))
