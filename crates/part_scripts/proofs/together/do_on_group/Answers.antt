use Rattle.std.proofs.Common.{◌≡◌, ap, sym, ◌∙◌, subst, Some, Option}
use Rattle.std.specs.Prelude.{unwrap_or, Ok}
use Rattle.core_states.specs.declared.actor.Actor.{Actor}
use Rattle.core_states.specs.declared.clock.Clock.{Clock}
use Rattle.core_states.specs.declared.event.CoreAnswer.{CoreAnswer}
use Rattle.core_states.specs.Openings.{fresh_actor, run_limits}
use Rattle.core_states.specs.States.{State, first_name}
use Rattle.core_events.specs.CoreLogs.{log_of}
use Rattle.txn_core.specs.Cores.{state_of}
use Rattle.clock_facts.specs.Known.{KnowsActor}
use Rattle.part_scripts.specs.Clocks.{DidOnGroup}
use Rattle.clock_facts.proofs.Clock.{knows}
use Rattle.part_scripts.proofs.States.{group_after}
use Rattle.part_scripts.proofs.together.do_on_group.Goals as goal
use Rattle.part_scripts.proofs.together.do_on_group.Goals.{In-Some}

-- the actor that the core has
is_it : (c : In-Some) → (state_of c.args.base.now c.args.core.now).actor (first_name c.args.event.now.actor) ≡ c.in-Some.actor.now
is_it c = ap (λ (o : Option Actor). unwrap_or o (fresh_actor c.args.base.now)) (sym c.in-Some.ensures.value)

pub act_on_group-requires : goal.act_on_group-requires
act_on_group-requires c =
    let at = goal.at.act_on_group-requires c in
    let base = c.args.base.now in
    let s = state_of base c.args.core.now in
    subst (λ (k : Clock). KnowsActor k c.in-Some.actor.now) (sym c.requires.clock) (subst (λ (a : Actor). KnowsActor s.clock a) (is_it at.In-Some) (knows base run_limits s (first_name c.args.event.now.actor) c.requires.kept))

pub returns-clause-clock : goal.returns-clause-clock
returns-clause-clock c =
    let at = goal.at.returns-clause-clock c in
    let e = c.args.event.now in
    let i = first_name e.actor in
    let s = state_of c.args.base.now c.args.core.now in
    let next = c.act_on_group.new.part.clock in
    let told = subst (λ (o : Option CoreAnswer). DidOnGroup e.act i (log_of c.args.core.now.log) c.in-Some.actor.now c.args.part.now.clock (Ok o) next) c.in-Some-2.is c.in_ok-told.ensures in
    let by_core = subst (λ (k : Clock). DidOnGroup e.act i s.log c.in-Some.actor.now k (Ok (Some c.in-Some-2.told)) next) c.requires.clock told in
    let by_actor = subst (λ (a : Actor). DidOnGroup e.act i s.log a s.clock (Ok (Some c.in-Some-2.told)) next) (sym (is_it at.In-Some)) by_core in
    sym (ap (λ (t : State). t.clock) c.in_ok-answer.ensures.state ∙ group_after s i e.act c.in-Some-2.told next c.requires.reach by_actor)
