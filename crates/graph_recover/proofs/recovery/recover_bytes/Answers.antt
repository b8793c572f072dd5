-- A log has no more changes than bytes.
use Rattle.std.proofs.Common.{arith}
use Rattle.graph_recover.proofs.Lengths.{changes_within}
use Rattle.graph_recover.proofs.recovery.recover_bytes.Goals as goal

pub returns-in-Ok-clause-changes : goal.returns-in-Ok-clause-changes
returns-in-Ok-clause-changes c =
    let log = c.in-Ok.decoded in
    let few = changes_within c.args.bytes.now log.records log.durable c.in-Ok.ensures.recovered in
    omega (arith, few, c.requires)
