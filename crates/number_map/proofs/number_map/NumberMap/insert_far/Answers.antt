use Rattle.std.proofs.Common.{arith, ap, refl}
use Rattle.std.specs.BTreeMap as tree
use Rattle.std.specs.Map.{lookup}
use Rattle.std.specs.Ordering.{nat_cmp}
use Rattle.number_map.proofs.KeptLemmas.{with_far, kept_same}
use Rattle.number_map.proofs.number_map.NumberMap.insert_far.Goals as goal

pub returns-in-Ok-clause-kept : goal.returns-in-Ok-clause-kept
returns-in-Ok-clause-kept g c = with_far _ _ _ _ (omega arith) refl c.in-Ok.ensures.updates.0

pub returns-clause-unchanged : goal.returns-clause-unchanged
returns-clause-unchanged g c =
    kept_same _ _ refl (λ m. refl) (λ m. ap (lookup (tree.is_at (nat_cmp m))) c.in-Err.ensures.err)
