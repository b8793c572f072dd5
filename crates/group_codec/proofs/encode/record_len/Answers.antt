use Rattle.std.proofs.Common.{length, ap, arith}
use Rattle.group_codec.specs.Spelling.{changes_bytes}
use Rattle.group_codec.proofs.Lengths.{length-changes_bytes, length-record_bytes}
use Rattle.group_codec.proofs.encode.record_len.Goals as goal

pub returns-clause-len : goal.returns-clause-len
returns-clause-len c =
    let same = ap (λ cs. length (changes_bytes cs)) c.as_slice.ensures in
    omega (arith, c.changes_len.ensures.len, same, length-record_bytes c.args.committed.now, length-changes_bytes c.args.committed.now.changes)
