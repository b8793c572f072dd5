use Rattle.std.proofs.Common.{Bool, length, sym, ap, ◌∙◌}
use Rattle.std.specs.Prelude.{if◌then◌else◌}
use Rattle.tel_block.specs.Logs.{entries_of}
use Rattle.tel_block.proofs.LogFacts.{count, places, committed-place}
use Rattle.tel_block.proofs.log.TelBlock.first_place.Goals as goal

pub returns-then-own-clause-place : goal.returns-then-own-clause-place
returns-then-own-clause-place c = λ bytes is. places c.args.self.now.block.order c.args.self.now.fill c.args.self.now.committed c.args.self.now.epoch bytes is.filled

pub returns-else-own-clause-place : goal.returns-else-own-clause-place
returns-else-own-clause-place c = λ bytes is. committed-place c.args.self.now.block.order c.args.self.now.fill c.args.self.now.committed c.args.self.now.epoch bytes is.filled

pub returns-then-own-clause-below : goal.returns-then-own-clause-below
returns-then-own-clause-below c = λ bytes is.
    let log = c.args.self.now in
    sym (ap (λ (b : Bool). if b then length (entries_of log.block.order log.fill bytes) else log.committed.entries) c.if-own.true ∙ count log.block.order log.fill bytes)

pub returns-else-own-clause-below : goal.returns-else-own-clause-below
returns-else-own-clause-below c = λ bytes is.
    let log = c.args.self.now in
    sym (ap (λ (b : Bool). if b then length (entries_of log.block.order log.fill bytes) else log.committed.entries) c.if-own.false)
