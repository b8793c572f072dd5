use Rattle.std.proofs.Common.{◌≡◌, ◌≤◌, take}
use Rattle.graph_model.specs.Change.{encoded_lens}
use Rattle.group_codec.proofs.rules.is_short.Given as goal

abbrev pub invariant-loop-change : goal.invariant-loop-change
invariant-loop-change l = (l.len ≡ encoded_lens (take l.change-index l.changes)) × (l.len ≤ 16777216)
