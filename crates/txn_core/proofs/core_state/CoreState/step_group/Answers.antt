-- An event on the log part and the clock is the step of the state that the core stands for; after want of memory the core stands for the state as it was.
use Rattle.std.proofs.Common.{◌≡◌, ap, sym, ◌∙◌}
use Rattle.core_states.specs.States.{State, first_name}
use Rattle.core_states.specs.Names.{Name, set_name}
use Rattle.core_states.specs.declared.actor.Actor.{Actor}
use Rattle.txn_core.specs.Cores.{state_of, actor_in}
use Rattle.core_events.specs.CoreLogs.{log_of}
use Rattle.txn_core.proofs.Cores.{actors_set, actors_same, group_done, group_undone, group_same}
use Rattle.txn_core.proofs.core_state.CoreState.step_group.Goals as goal
use Rattle.txn_core.proofs.core_state.CoreState.step_group.Goals.{In_ok-actor}

pub returns-clause-answer : goal.returns-clause-answer
returns-clause-answer c =
    let base = c.args.base.now in
    let core = c.args.self.now in
    let index = c.args.event.now.actor in
    let s = state_of base core in
    let z = state_of base (record c.args.self.now { clock = c.on_group-done.new.clock; log = c.on_group-done.new.log; actors = c.put_actor.new.actors }) in
    let set = actors_set base core.actors c.put_actor.new.actors index c.on_group-done.new.actor c.put_actor.ensures.here (λ j other. c.put_actor.ensures.others j other ∙ c.take_actor.ensures.others j other) in
    let is : z ≡ record s { clock = c.on_group-done.new.clock; log = log_of c.on_group-done.new.log; actor = set_name s.actor (first_name index) c.on_group-done.new.actor } = λ j. record s { clock = c.on_group-done.new.clock; log = log_of c.on_group-done.new.log; actor = set j } in
    (group_done s z (first_name index) c.args.event.now.act c.in_ok-actor.actor (log_of c.on_group-done.new.log) c.on_group-done.new.clock c.on_group-done.new.actor c.on_group-done.result c.requires.reach c.in_ok-actor.ensures.taken c.on_group-done.ensures.done is).0

pub returns-clause-state : goal.returns-clause-state
returns-clause-state c =
    let base = c.args.base.now in
    let core = c.args.self.now in
    let index = c.args.event.now.actor in
    let s = state_of base core in
    let z = state_of base (record c.args.self.now { clock = c.on_group-done.new.clock; log = c.on_group-done.new.log; actors = c.put_actor.new.actors }) in
    let set = actors_set base core.actors c.put_actor.new.actors index c.on_group-done.new.actor c.put_actor.ensures.here (λ j other. c.put_actor.ensures.others j other ∙ c.take_actor.ensures.others j other) in
    let is : z ≡ record s { clock = c.on_group-done.new.clock; log = log_of c.on_group-done.new.log; actor = set_name s.actor (first_name index) c.on_group-done.new.actor } = λ j. record s { clock = c.on_group-done.new.clock; log = log_of c.on_group-done.new.log; actor = set j } in
    (group_done s z (first_name index) c.args.event.now.act c.in_ok-actor.actor (log_of c.on_group-done.new.log) c.on_group-done.new.clock c.on_group-done.new.actor c.on_group-done.result c.requires.reach c.in_ok-actor.ensures.taken c.on_group-done.ensures.done is).1

pub returns-clause-unchanged : goal.returns-clause-unchanged
returns-clause-unchanged c =
    let base = c.args.base.now in
    let core = c.args.self.now in
    let index = c.args.event.now.actor in
    let s = state_of base core in
    let z = state_of base (record c.args.self.now { clock = c.on_group-done.new.clock; log = c.on_group-done.new.log; actors = c.put_actor.new.actors }) in
    let set = actors_set base core.actors c.put_actor.new.actors index c.on_group-done.new.actor c.put_actor.ensures.here (λ j other. c.put_actor.ensures.others j other ∙ c.take_actor.ensures.others j other) in
    let is : z ≡ record s { clock = c.on_group-done.new.clock; log = log_of c.on_group-done.new.log; actor = set_name s.actor (first_name index) c.on_group-done.new.actor } = λ j. record s { clock = c.on_group-done.new.clock; log = log_of c.on_group-done.new.log; actor = set j } in
    group_undone s z (first_name index) c.in_ok-actor.actor (log_of c.on_group-done.new.log) c.on_group-done.new.clock c.on_group-done.new.actor c.on_group-done.result c.in_ok-actor.ensures.taken (group_same c.on_group-done.new.log core.log c.on_group-done.new.clock core.clock c.in_ok-actor.actor c.on_group-done.new.actor c.on_group-done.result c.on_group-done.ensures.unchanged) is
