use Rattle.std.proofs.Common.{arith}
use Rattle.edge_log.specs.Places.{oldest}
use Rattle.edge_log.proofs.EntryLemmas.{payloads-oldest}
use Rattle.tel_block.proofs.LogFacts.{sum-kept}
use Rattle.tel_block.proofs.moves.kept_fill.Goals as goal

pub overflow_cast-result : goal.overflow_cast-result
overflow_cast-result c =
    let start = c.requires.holds.0 in
    let xs = c.requires.holds.1 in
    let facts = c.requires.holds.2 in
    let is = (c.kept_size-entries.ensures start xs facts.0 facts.1).1 in
    record { fits = omega (arith, is, sum-kept c.args.horizon (oldest c.args.count xs), payloads-oldest c.args.count xs, facts.2) }

pub returns : goal.returns
returns c = λ start xs held within.
    let is = c.kept_size-entries.ensures start xs held within in
    record { entries = is.0; props = is.1 }
