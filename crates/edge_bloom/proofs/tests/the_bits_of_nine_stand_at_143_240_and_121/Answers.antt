use Rattle.std.proofs.Common.{ℕ, ◌≡◌, List, length, refl, arith}
use Rattle.edge_bloom.specs.Filters.{IsFilter}
use Rattle.edge_bloom.proofs.tests.the_bits_of_nine_stand_at_143_240_and_121.Goals as goal

of_32 : (xs : List ℕ) → length xs ≡ 32 → IsFilter xs
of_32 xs e = record { power = (5, e); least = omega arith; most = omega arith }

pub may_hold-requires : goal.may_hold-requires
may_hold-requires g c = of_32 _ refl

pub add-requires : goal.add-requires
add-requires g c = of_32 _ refl

pub may_hold-requires-2 : goal.may_hold-requires-2
may_hold-requires-2 g c = of_32 c.add.new.filter c.add.auto.filter

pub may_hold-requires-3 : goal.may_hold-requires-3
may_hold-requires-3 g c = of_32 c.add.new.filter c.add.auto.filter

pub holds_both-requires : goal.holds_both-requires
holds_both-requires g c = of_32 c.add.new.filter c.add.auto.filter
