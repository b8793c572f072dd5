use Rattle.std.proofs.Common.{◌≡◌, ap, sym, ◌∙◌, subst, Some, Option}
use Rattle.std.specs.Prelude.{unwrap_or, Ok}
use Rattle.core_rows.specs.Rows.{Row}
use Rattle.core_states.specs.declared.actor.Actor.{Actor}
use Rattle.core_states.specs.declared.event.CoreAnswer.{CoreAnswer}
use Rattle.core_states.specs.Openings.{fresh_actor, run_limits}
use Rattle.core_states.specs.States.{State, first_name}
use Rattle.shard_state.specs.Shards.{row_at}
use Rattle.txn_core.specs.Cores.{state_of}
use Rattle.part_scripts.specs.Rows.{Fits, Did, AreAlike}
use Rattle.part_scripts.proofs.States.{fits, alike_after, clock_stays}
use Rattle.part_scripts.proofs.together.do_on_row.Goals as goal
use Rattle.part_scripts.proofs.together.do_on_row.Goals.{In-Some-txn}
use Rattle.part_scripts.proofs.together.do_on_row.Given.{Over}

-- the actor runs the transaction
runs : (g : Over) (c : In-Some-txn g) → ((state_of c.args.base.now c.args.core.now).actor (first_name c.args.event.now.actor)).txn ≡ Some c.in-Some-txn.x
runs g c = ap (λ (o : Option Actor). (unwrap_or o (fresh_actor c.args.base.now)).txn) (sym c.in-Some.ensures.value) ∙ c.in-Some-txn.is

pub act_on-requires-clause-fits : goal.act_on-requires-clause-fits
act_on-requires-clause-fits g c =
    let at = goal.at.act_on-requires-clause-fits g c in
    let base = c.args.base.now in
    subst (λ (r : Row). Fits c.in-Some-txn.x c.args.v r) (sym (c.requires.alike c.args.v c.requires.own))
    (fits base (state_of base c.args.core.now) (first_name c.args.event.now.actor) c.in-Some-txn.x c.args.v c.requires.kept (runs g at.In-Some-txn))

pub returns-clause-alike : goal.returns-clause-alike
returns-clause-alike g c =
    let at = goal.at.returns-clause-alike g c in
    let base = c.args.base.now in
    let e = c.args.event.now in
    let s = state_of base c.args.core.now in
    let content = g.L.EdgeLog.content in
    let did = subst (λ (o : Option CoreAnswer). Did e.act c.in-Some-txn.x (row_at content c.args.shard.now c.args.v) (Ok o) (row_at content c.act_on.new.shard c.args.v)) c.in-Some-2.is c.in_ok-told.ensures.did in
    subst (λ (t : State). AreAlike content t c.act_on.new.shard) (sym c.in_ok-answer.ensures.state)
    (alike_after content s (first_name e.actor) e.act c.args.v c.args.shard.now c.act_on.new.shard c.in-Some-2.told (did (s.actor (first_name e.actor)) (runs g at.In-Some-txn))
    c.requires.reach c.requires.own c.requires.alike c.in_ok-told.ensures.same c.in_ok-told.ensures.keeps)

pub returns-clause-clock : goal.returns-clause-clock
returns-clause-clock g c =
    let e = c.args.event.now in
    let s = state_of c.args.base.now c.args.core.now in
    ap (λ (t : State). t.clock) c.in_ok-answer.ensures.state ∙ clock_stays s (first_name e.actor) e.act c.args.v c.requires.reach
