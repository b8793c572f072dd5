use Rattle.std.proofs.Common.{length, ap, arith}
use Rattle.commit_queue.specs.KeptOutcomes.{KeptOutcomes}
use Rattle.commit_queue.proofs.Places.{place_most}
use Rattle.commit_queue.proofs.outcomes.Outcomes.noted.Goals as goal

pub returns-else-place-len-clause-place : goal.returns-else-place-len-clause-place
returns-else-place-len-clause-place c =
    let same = ap (λ (s : KeptOutcomes). length s.kept) c.self.view_is in
    omega (arith, place_most c.args.tid c.args.self.now.kept, c.search-place.ensures, c.len.ensures, c.if-place-len.false, same)
