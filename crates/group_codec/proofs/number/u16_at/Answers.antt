use Rattle.std.proofs.Common.{◌++◌, ◌∙◌, sym, ap, drop, arith}
use Rattle.group_codec.specs.Spelling.{u16_bytes}
use Rattle.group_codec.proofs.Numbers.{u16_front}
use Rattle.group_codec.proofs.number.u16_at.Goals as goal

pub returns-clause-found : goal.returns-clause-found
returns-clause-found c =
    u16_front c.args.bytes.now c.if-bytes-lt2.false (λ i. omega (arith, c.type_inv.bytes i))
    ∙ ap (λ n. u16_bytes n ++ drop 2 c.args.bytes.now) (sym c.read_u16.ensures)
