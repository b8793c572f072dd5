use Rattle.std.proofs.Common.{◌∙◌, sym, ap, arith}
use Rattle.std.proofs.lemmas.List.{take_all}
use Rattle.graph_model.specs.Change.{encoded_lens}
use Rattle.group_codec.proofs.Lengths.{length-changes_bytes}
use Rattle.group_codec.proofs.encode.changes_len.Goals as goal

pub returns-clause-len : goal.returns-clause-len
returns-clause-len c =
    c.loop-change.invariant ∙ ap encoded_lens (take_all c.loop-change.change-index c.args.changes.now (omega arith)) ∙ sym (length-changes_bytes c.args.changes.now)
