use Rattle.std.proofs.Common.{◌++◌, ◌∙◌, sym, ap, drop, arith}
use Rattle.group_codec.specs.Spelling.{u64_bytes}
use Rattle.group_codec.proofs.Numbers.{u64_front}
use Rattle.group_codec.proofs.number.u64_at.Goals as goal

pub returns-clause-found : goal.returns-clause-found
returns-clause-found c =
    u64_front c.args.bytes.now c.if-bytes-lt8.false (λ i. omega (arith, c.type_inv.bytes i))
    ∙ ap (λ n. u64_bytes n ++ drop 8 c.args.bytes.now) (sym c.read_u64.ensures)
