use Rattle.std.proofs.Common.{◌≡◌, take}
use Rattle.graph_model.specs.Change.{encoded_lens}
use Rattle.group_codec.proofs.encode.changes_len.Given as goal

abbrev pub invariant-loop-change : goal.invariant-loop-change
invariant-loop-change l = l.len ≡ encoded_lens (take l.change-index l.changes)
