use Rattle.std.proofs.Common.{◌≡◌, ap, subst, Err}
use Rattle.group_codec.specs.declared.refusal.GroupRefusal.TheVariants.{Bad}
use Rattle.group_codec.specs.Spelling.{payload_bytes, is_payload}
use Rattle.group_codec.specs.Reading.{Begins, NoneBegins}
use Rattle.group_codec.proofs.Fronts.{to_end, put-short, put-none, put-begins}
use Rattle.group_codec.proofs.read.put_at.Goals as goal

pub returns-in_default-clause-bad : goal.returns-in_default-clause-bad
returns-in_default-clause-bad c = λ _. put-short c.args.bytes.now c.in_default.ensures.short

pub returns-in-Ok-clause-found : goal.returns-in-Ok-clause-found
returns-in-Ok-clause-found c = put-begins c.args.bytes.now c.in-Some.v c.in-Some.l c.in-Some.d c.in-Ok.p c.in-Some.ensures.found
    (subst (λ xs. Begins is_payload payload_bytes xs c.in-Ok.p) (to_end 18 c.args.bytes.now) c.in-Ok.ensures.found)

pub returns-in-Err-clause-bad : goal.returns-in-Err-clause-bad
returns-in-Err-clause-bad c = λ bad. put-none c.args.bytes.now c.in-Some.v c.in-Some.l c.in-Some.d c.in-Some.ensures.found (let same : c.in-Err.refusal ≡ Bad = (cc) in subst (NoneBegins is_payload payload_bytes) (to_end 18 c.args.bytes.now) (c.in-Err.ensures.bad (ap Err same)))
