use Rattle.std.proofs.Common.{length, arith, ap}
use Rattle.graph_wal.proofs.Members.{length-member_bytes, length-spelled}
use Rattle.graph_wal.proofs.pieces.member_len.Goals as goal

pub overflow_add-result : goal.overflow_add-result
overflow_add-result c = omega (arith, c.len.ensures, ap length c.bytes.ensures.bytes, length-spelled c.args.m.now c.bytes.ensures.spelled c.requires)

pub returns-clause-len : goal.returns-clause-len
returns-clause-len c = omega (arith, c.len.ensures, ap length c.bytes.ensures.bytes, length-member_bytes c.args.m.now)

pub returns-clause-within : goal.returns-clause-within
returns-clause-within c = omega (arith, c.len.ensures, ap length c.bytes.ensures.bytes, length-spelled c.args.m.now c.bytes.ensures.spelled c.requires)
