use Rattle.std.proofs.Common.{◌≡◌, ap, sym, ◌∙◌, subst, Some, Option}
use Rattle.std.specs.Prelude.{unwrap_or, Ok}
use Rattle.core_states.specs.declared.actor.Actor.{Actor}
use Rattle.core_states.specs.declared.clock.Clock.{Clock}
use Rattle.core_states.specs.declared.event.CoreAnswer.{CoreAnswer}
use Rattle.core_states.specs.Openings.{fresh_actor, run_limits}
use Rattle.core_states.specs.States.{State, first_name}
use Rattle.core_events.specs.CoreLogs.{log_of}
use Rattle.txn_core.specs.Cores.{state_of}
use Rattle.clock_facts.specs.Known.{KnowsActor}
use Rattle.part_scripts.specs.Clocks.{DidOnGroup}
use Rattle.clock_facts.proofs.Clock.{knows}
use Rattle.part_scripts.proofs.States.{group_after}
use Rattle.part_scripts.proofs.together.do_on_clock.Goals as goal

pub act_on_clock-requires : goal.act_on_clock-requires
act_on_clock-requires c =
    let base = c.args.base.now in
    let s = state_of base c.args.core.now in
    let i = first_name c.args.event.now.actor in
    let is : s.actor i ≡ c.in-Some-get.actor.now = ap (λ (o : Option Actor). unwrap_or o (fresh_actor base)) (sym c.in-Some-get.ensures.value) in
    subst (λ (k : Clock). KnowsActor k c.in-Some-get.actor.now) (sym c.requires.clock) (subst (λ (a : Actor). KnowsActor s.clock a) is (knows base run_limits s i c.requires.kept))
