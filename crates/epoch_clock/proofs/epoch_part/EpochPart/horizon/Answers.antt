use Rattle.std.proofs.Common.{◌≡◌, ◌∙◌, ap}
use Rattle.core_states.specs.declared.actor.Learnt.{Learnt}
use Rattle.core_states.specs.ClockEvents.{learn}
use Rattle.epoch_clock.specs.EpochStates.{EpochState}
use Rattle.epoch_clock.specs.EpochKept.{clock_in}
use Rattle.epoch_clock.proofs.Rows.{horizon_is, oldest_is}
use Rattle.epoch_clock.proofs.Events.{asks_is}
use Rattle.epoch_clock.proofs.epoch_part.EpochPart.horizon.Goals as goal

pub returns-clause-learnt : goal.returns-clause-learnt
returns-clause-learnt c =
    let inside = c.self.inside in
    let told : (let l : Learnt = record { horizon = c.horizon.result; oldest = c.oldest.result } in l ≡ learn (clock_in inside)) =
    λ i. record { horizon = (c.horizon.ensures ∙ horizon_is inside.visible inside.readers) i; oldest = (c.oldest.ensures ∙ oldest_is inside.next_tid inside.readers) i } in
    told ∙ ap (λ (s : EpochState). learn s.clock) c.self.view_is

pub returns-clause-event : goal.returns-clause-event
returns-clause-event c = asks_is c.args.self.now.clock _ (returns-clause-learnt c)
