use Rattle.std.proofs.Common.{◌∙◌, length, ap, sym}
use Rattle.epoch_clock.specs.EpochStates.{EpochState}
use Rattle.epoch_clock.proofs.Keeping.{length_records}
use Rattle.epoch_clock.proofs.epoch_part.EpochPart.waiting.Goals as goal

pub returns : goal.returns
returns c = c.len.ensures ∙ sym (length_records 0 c.self.inside.commits.queue.members) ∙ ap (λ (s : EpochState). length s.clock.queue) c.self.view_is
