use Rattle.std.proofs.Common.{◌++◌, ◌∙◌, sym, ap, drop, arith}
use Rattle.group_codec.specs.Spelling.{u32_bytes}
use Rattle.group_codec.proofs.Numbers.{u32_front}
use Rattle.group_codec.proofs.number.u32_at.Goals as goal

pub returns-clause-found : goal.returns-clause-found
returns-clause-found c =
    u32_front c.args.bytes.now c.if-bytes-lt4.false (λ i. omega (arith, c.type_inv.bytes i))
    ∙ ap (λ n. u32_bytes n ++ drop 4 c.args.bytes.now) (sym c.read_u32.ensures)
