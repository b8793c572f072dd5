use Rattle.std.proofs.Common.{◌≡◌, take, true}
use Rattle.group_codec.specs.Judging.{puts_fit}
use Rattle.group_codec.proofs.rules.puts_fit.Given as goal

abbrev pub invariant-loop-record : goal.invariant-loop-record
invariant-loop-record l = puts_fit l.graph (take l.record-index l.records) ≡ true
