use Rattle.std.proofs.Common.{◌∙◌, ap}
use Rattle.core_states.specs.Numbers.{outcome_of}
use Rattle.epoch_clock.specs.EpochStates.{EpochState}
use Rattle.epoch_clock.proofs.Outcomes.{outcome_paired}
use Rattle.epoch_clock.proofs.Events.{hears_is}
use Rattle.epoch_clock.proofs.epoch_part.EpochPart.outcome.Goals as goal

pub returns-clause-kept : goal.returns-clause-kept
returns-clause-kept c = c.of.ensures ∙ outcome_paired c.args.tid c.self.inside.commits.outcomes.kept ∙ ap (λ (s : EpochState). outcome_of c.args.tid s.clock.outcomes) c.self.view_is

pub returns-clause-event : goal.returns-clause-event
returns-clause-event c = hears_is c.args.tid c.args.self.now.clock c.of.result (returns-clause-kept c)
