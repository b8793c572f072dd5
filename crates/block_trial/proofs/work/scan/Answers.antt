use Rattle.std.proofs.Common.{subst, IfSome, Option}
use Rattle.edge_log.specs.declared.place.Place.{Place}
use Rattle.block_reading.proofs.PastLemmas.{past-oldest, past-below}
use Rattle.block_trial.specs.Logs.{HasPastPlace}
use Rattle.block_trial.proofs.work.scan.Goals as goal

pub part_of_past-next-requires-clause-past : goal.part_of_past-next-requires-clause-past
part_of_past-next-requires-clause-past c =
    let has : HasPastPlace c.args.start c.in-Some.place c.args.block.now =
    subst (λ (next : Option Place). IfSome next (λ (q : Place). HasPastPlace c.args.start q c.args.block.now)) c.in-Some.is c.loop-part.invariant in
    past-below c.args.start c.in-Some.place has.0 c.args.block.now 5 has.1.0 has.1.1.0 (past-oldest 5 c.in-Some.place.below has.0 has.1.1.1)
