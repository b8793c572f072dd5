use Rattle.std.proofs.Common.{◌≤◌, length, arith, ap}
use Rattle.graph_model.specs.Change.{encoded_lens}
use Rattle.graph_model.specs.Records.{transaction_most}
use Rattle.group_codec.proofs.Lengths.{length-changes_bytes}
use Rattle.log_rows.proofs.appends.group_of.Goals as goal

pub returns : goal.returns
returns c =
    let short : encoded_lens c.args.changes ≤ transaction_most = omega (arith, c.len.ensures, ap length c.requires.spelling, length-changes_bytes c.args.changes) in
    rw (c.push.ensures, c.new-group.ensures, c.new.ensures) (omega arith, (short, tt))
