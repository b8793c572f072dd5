use Rattle.std.proofs.Common.{arith}
use Rattle.edge_bloom.proofs.BitLemmas.{set_bit}
use Rattle.edge_bloom.proofs.filter.set.Goals as goal

pub returns : goal.returns
returns c = λ b. set_bit c.args.filter.now c.args.place b (omega arith)
