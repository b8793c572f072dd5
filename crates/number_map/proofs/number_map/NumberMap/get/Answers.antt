use Rattle.std.proofs.Common.{arith}
use Rattle.std.proofs.lemmas.Grind.{common_steps}
use Rattle.number_map.proofs.KeptLemmas.{kept_near, kept_far}
use Rattle.number_map.proofs.number_map.NumberMap.get.Goals as goal

pub returns-then-n-len : goal.returns-then-n-len
returns-then-n-len g c = grind (arith, common_steps, kept_near c.args.self.now c.args.n)

pub returns-else-n-len : goal.returns-else-n-len
returns-else-n-len g c = grind (arith, common_steps, kept_far c.args.self.now c.args.n)
