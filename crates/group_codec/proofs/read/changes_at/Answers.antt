use Rattle.std.proofs.Common.{◌≡◌, ap, subst, arith, Err, sym, [], ◌∷◌, ◌∙◌, length-append}
use Rattle.group_codec.specs.declared.refusal.GroupRefusal.TheVariants.{Bad}
use Rattle.group_codec.specs.Spelling.{change_bytes, has_fields}
use Rattle.group_codec.specs.Reading.{NoneBegins, Begins}
use Rattle.group_codec.proofs.Lengths.{length-change_bytes}
use Rattle.group_codec.proofs.Fronts.{to_end, change-ends, reads_stop, reads_more}
use Rattle.group_codec.proofs.read.changes_at.Goals as goal

pub returns-in-Err-clause-bad : goal.returns-in-Err-clause-bad
returns-in-Err-clause-bad c = λ bad.
    let same : c.in-Err.refusal ≡ Bad = (cc) in
    reads_stop has_fields change_bytes c.args.bytes.now c.loop-turn.changes c.loop-turn.size c.args.count change-ends c.loop-turn.invariant.1 (omega arith)
    (subst (NoneBegins has_fields change_bytes) (to_end c.loop-turn.size c.args.bytes.now) (c.in-Err.ensures.bad (ap Err same)))

pub loop-turn-preserved : goal.loop-turn-preserved
loop-turn-preserved c =
    let up = reads_more has_fields change_bytes c.args.bytes.now c.loop-turn.changes c.loop-turn.size c.encoded_len.result c.in-Ok.change c.loop-turn.invariant.1
    (subst (λ xs. Begins has_fields change_bytes xs c.in-Ok.change) (to_end c.loop-turn.size c.args.bytes.now) c.in-Ok.ensures.found) (c.encoded_len.ensures.len ∙ sym (length-change_bytes c.in-Ok.change)) in
    rw c.in_ok-push.ensures (omega (arith, length-append c.loop-turn.changes (c.in-Ok.change ∷ []), c.loop-turn.invariant.0), up)
