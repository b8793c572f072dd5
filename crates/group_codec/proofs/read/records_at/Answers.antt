use Rattle.std.proofs.Common.{◌≡◌, ap, subst, arith, Err}
use Rattle.group_codec.specs.declared.refusal.GroupRefusal.TheVariants.{Bad}
use Rattle.group_codec.specs.Spelling.{record_bytes, is_spelled}
use Rattle.group_codec.specs.Reading.{NoneBegins}
use Rattle.group_codec.proofs.Fronts.{to_end, record-ends, reads_stop}
use Rattle.group_codec.proofs.read.records_at.Goals as goal

pub returns-in-Err-clause-bad : goal.returns-in-Err-clause-bad
returns-in-Err-clause-bad c = λ bad.
    let same : c.in-Err.refusal ≡ Bad = (cc) in
    reads_stop (is_spelled c.args.epoch) record_bytes c.args.bytes.now c.loop-turn.records c.loop-turn.size c.args.count (record-ends c.args.epoch) c.loop-turn.invariant.1 (omega arith)
    (subst (NoneBegins (is_spelled c.args.epoch) record_bytes) (to_end c.loop-turn.size c.args.bytes.now) (c.in-Err.ensures.bad (ap Err same)))
