use Rattle.std.proofs.Common.{List, subst}
use Rattle.stamps.specs.Stamps.{Txn}
use Rattle.edge_log.specs.Entries.{Entry}
use Rattle.edge_log.specs.Parts.{IsPart}
use Rattle.block_reading.proofs.BelowLemmas.{below-held, below-read}
use Rattle.block_reading.proofs.PartLemmas.{part-lifted}
use Rattle.block_reading.proofs.parts.part_of_past.Goals as goal

pub part_below-requires-clause-holds : goal.part_below-requires-clause-holds
part_below-requires-clause-holds c = below-held c.args.start c.args.place c.args.block.now c.requires.place

pub returns : goal.returns
returns c = λ xs held place.
    let P : List Entry → Type 0 = λ ys. IsPart ys c.args.place.below c.part_below.result c.args.read (Txn c.args.tid) c.args.out.now c.part_below.new.out in
    part-lifted xs c.args.place.below c.args.read (Txn c.args.tid) c.part_below.result c.args.out.now c.part_below.new.out place.within
    (subst P (below-read c.args.start c.args.place xs c.args.block.now held place) c.part_below.ensures)
