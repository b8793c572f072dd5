use Rattle.std.proofs.Common.{◌≡◌, ap, subst, take, drop, arith, Err}
use Rattle.group_codec.specs.declared.refusal.GroupRefusal.TheVariants.{Bad}
use Rattle.group_codec.specs.Reading.{NoPayloadOf}
use Rattle.group_codec.proofs.Groups.{group-short, group-cut, group-none}
use Rattle.group_codec.proofs.group.group_at.Goals as goal

pub returns-in_default-clause-bad : goal.returns-in_default-clause-bad
returns-in_default-clause-bad c = λ _. group-short c.args.epoch c.args.bytes.now c.in_default.ensures.short

pub returns-then-bytes-end-clause-bad : goal.returns-then-bytes-end-clause-bad
returns-then-bytes-end-clause-bad c = λ _. group-cut c.args.epoch c.in-Some.len c.args.bytes.now (omega arith) c.in-Some.ensures.found (omega arith)

pub returns-in-Err-clause-bad : goal.returns-in-Err-clause-bad
returns-in-Err-clause-bad c = λ bad.
    let same : c.in-Err.refusal ≡ Bad = (cc) in
    group-none c.args.epoch c.in-Some.len c.args.bytes.now (omega arith) c.in-Some.ensures.found
    (subst (λ n. NoPayloadOf c.args.epoch (take n (drop 4 c.args.bytes.now))) (omega arith) (c.in-Err.ensures.bad (ap Err same)))
