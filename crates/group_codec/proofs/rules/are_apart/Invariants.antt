use Rattle.std.proofs.Common.{◌≡◌, take, true}
use Rattle.std.specs.Prelude.{nat_le}
use Rattle.std.specs.List.{list_all}
use Rattle.std.specs.Ordering.{nat_cmp}
use Rattle.std.specs.BTreeMap.{get}
use Rattle.graph_model.specs.Change.{vertex_of}
use Rattle.group_codec.specs.Judging.{newest_of}
use Rattle.group_codec.proofs.rules.are_apart.Given as goal

abbrev pub invariant-loop-change : goal.invariant-loop-change
invariant-loop-change l = list_all (λ c. nat_le (newest_of (get nat_cmp l.newest) (vertex_of c)) l.read) (take l.change-index l.changes) ≡ true
