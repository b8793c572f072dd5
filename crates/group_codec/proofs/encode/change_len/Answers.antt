use Rattle.std.proofs.Common.{◌∙◌, sym}
use Rattle.group_codec.proofs.Lengths.{length-change_bytes}
use Rattle.group_codec.proofs.encode.change_len.Goals as goal

pub returns-clause-len : goal.returns-clause-len
returns-clause-len c = c.encoded_len.ensures.len ∙ sym (length-change_bytes c.args.c.now)
