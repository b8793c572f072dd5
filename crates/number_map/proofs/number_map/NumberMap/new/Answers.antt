use Rattle.std.proofs.Common.{arith}
use Rattle.std.proofs.lemmas.Grind.{common_steps}
use Rattle.number_map.specs.KeptAt.{kept_at}
use Rattle.number_map.proofs.number_map.NumberMap.new.Goals as goal

pub returns : goal.returns
unfolding kept_at
returns g c n = grind (arith, common_steps)
