use Rattle.std.proofs.Common.{length, arith, ap}
use Rattle.graph_model.specs.declared.record.Record.{Record}
use Rattle.graph_wal.proofs.Members.{count-within}
use Rattle.graph_wal.proofs.pieces.gather_member.Goals as goal

pub overflow_cast-len : goal.overflow_cast-len
overflow_cast-len c = omega (arith, c.len.ensures, ap (λ (r : Record). length r.changes) c.record-r.ensures, count-within c.args.m.now c.requires.within)
