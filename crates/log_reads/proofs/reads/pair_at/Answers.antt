use Rattle.std.proofs.Common.{arith}
use Rattle.log_reads.proofs.PartEdges.{payload-within, edge_at}
use Rattle.log_reads.proofs.reads.pair_at.Goals as goal

pub from_slice-requires : goal.from_slice-requires
from_slice-requires c =
    let pairs = c.args.part.now.pairs in
    let at = edge_at pairs c.args.i c.in-Some.d c.in-Some-p.p.now c.in-Some.ensures c.in-Some-p.ensures in
    omega (arith, payload-within pairs c.args.i (record { d = c.in-Some.d; p = c.in-Some-p.p.now }) at, c.requires)
