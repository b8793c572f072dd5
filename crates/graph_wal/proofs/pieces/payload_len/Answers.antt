use Rattle.std.proofs.Common.{arith}
use Rattle.graph_wal.proofs.Members.{length-next, within-next, spelled-next}
use Rattle.graph_wal.proofs.pieces.payload_len.Goals as goal

pub member_len-len-requires : goal.member_len-len-requires
member_len-len-requires c = (within-next c.args.g.now c.loop-i.i c.member_at.result.now c.member_at.ensures c.loop-i.invariant.within).0

pub loop-i-preserved : goal.loop-i-preserved
loop-i-preserved c =
    let m = c.member_at.result.now in
    let before = c.loop-i.invariant in
    record {
      len = omega (arith, before.len, c.member_len-len.ensures.len, length-next c.args.g.now c.loop-i.i m c.member_at.ensures);
      small = omega (arith, before.small, c.member_len-len.ensures.within);
      within = (within-next c.args.g.now c.loop-i.i m c.member_at.ensures before.within).1;
      spelled = spelled-next c.args.g.now c.loop-i.i m c.member_at.ensures before.spelled c.member_len-len.ensures.spelled;
      end = before.end;
      count = before.count;
    }
