use Rattle.std.proofs.Common.{◌≡◌, ap, subst, arith, Err}
use Rattle.group_codec.specs.declared.refusal.GroupRefusal.TheVariants.{Bad}
use Rattle.group_codec.specs.Spelling.{payload_bytes, is_payload}
use Rattle.group_codec.specs.Reading.{NoneBegins}
use Rattle.group_codec.proofs.Fronts.{to_end, vertex-short, vertex-none}
use Rattle.group_codec.proofs.read.vertex_at.Goals as goal

pub returns-in_default-clause-bad : goal.returns-in_default-clause-bad
returns-in_default-clause-bad c = λ _. vertex-short c.args.bytes.now c.in_default.ensures.short

pub returns-in-Err-clause-bad : goal.returns-in-Err-clause-bad
returns-in-Err-clause-bad c = λ bad. vertex-none c.args.bytes.now c.in-Some.v (omega arith) c.in-Some.ensures.found (let same : c.in-Err.refusal ≡ Bad = (cc) in subst (NoneBegins is_payload payload_bytes) (to_end 8 c.args.bytes.now) (c.in-Err.ensures.bad (ap Err same)))
