use Rattle.std.proofs.Common.{◌≡◌, refl}
use Rattle.core_states.specs.Openings.{run_limits}
use Rattle.core_states.specs.States.{State, first_name, after}
use Rattle.core_kept.specs.Bounds.{Kept}
use Rattle.core_kept.proofs.Keeping.{step_kept}
use Rattle.txn_core.specs.Cores.{state_of}
use Rattle.part_scripts.proofs.States.{within, either, rows_there}
use Rattle.part_scripts.proofs.together.do_alone.Goals as goal

pub step-requires-clause-within : goal.step-requires-clause-within
step-requires-clause-within c = within c.args.base.now (state_of c.args.base.now c.args.core.now) c.requires.good c.requires.kept

pub returns-clause-kept : goal.returns-clause-kept
returns-clause-kept c =
    let base = c.args.base.now in
    let e = c.args.event.now in
    let s = state_of base c.args.core.now in
    either (Kept base run_limits) c.step.result s (after run_limits s (first_name e.actor) e.act) (state_of base c.step.new.self) c.step.ensures.state c.step.ensures.unchanged
    (step_kept base run_limits s (first_name e.actor) e.act c.requires.kept) c.requires.kept

pub returns-clause-rows : goal.returns-clause-rows
returns-clause-rows c = λ w other.
    let base = c.args.base.now in
    let e = c.args.event.now in
    let s = state_of base c.args.core.now in
    either (λ (t : State). t.row w ≡ s.row w) c.step.result s (after run_limits s (first_name e.actor) e.act) (state_of base c.step.new.self) c.step.ensures.state c.step.ensures.unchanged
    (rows_there s (first_name e.actor) e.act w other) refl
