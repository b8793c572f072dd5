use Rattle.std.proofs.Common.{◌≡◌, ℕ, take, cond}
use Rattle.std.specs.Prelude.{◌==◌}
use Rattle.std.specs.List.{list_any}
use Rattle.std.specs.Ordering.{nat_cmp}
use Rattle.std.specs.BTreeMap.{get}
use Rattle.graph_model.specs.Change.{vertex_of}
use Rattle.group_codec.specs.Judging.{newest_of}
use Rattle.group_codec.proofs.rules.note_newest.Given as goal

abbrev pub invariant-loop-change : goal.invariant-loop-change
invariant-loop-change l = (v : ℕ) → newest_of (get nat_cmp l.newest) v ≡ cond (list_any (λ c. vertex_of c == v) (take l.change-index l.changes)) l.epoch (newest_of (get nat_cmp l.initial.newest) v)
