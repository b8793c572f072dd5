use Rattle.std.proofs.Common.{◌≡◌, ap, subst, arith, Err}
use Rattle.group_codec.specs.declared.refusal.GroupRefusal.TheVariants.{Bad}
use Rattle.group_codec.specs.Spelling.{changes_bytes, has_fields}
use Rattle.group_codec.specs.Reading.{NoneBegins, all_of}
use Rattle.group_codec.proofs.Fronts.{to_end, record-short, record-empty, record-none}
use Rattle.group_codec.proofs.read.record_at.Goals as goal

pub returns-in_default-clause-bad : goal.returns-in_default-clause-bad
returns-in_default-clause-bad c = λ _. record-short c.args.epoch c.args.bytes.now c.in_default.ensures.short

pub returns-then-count-eq0-clause-bad : goal.returns-then-count-eq0-clause-bad
returns-then-count-eq0-clause-bad c = λ _.
    record-empty c.args.epoch c.in-Some.tid c.in-Some.read c.in-Some.count c.args.bytes.now c.in-Some.ensures.fits.0 c.in-Some.ensures.fits.1 (omega arith) c.in-Some.ensures.found

pub returns-in-Err-clause-bad : goal.returns-in-Err-clause-bad
returns-in-Err-clause-bad c = λ bad.
    let same : c.in-Err.refusal ≡ Bad = (cc) in
    record-none c.args.epoch c.in-Some.tid c.in-Some.read c.in-Some.count c.args.bytes.now c.in-Some.ensures.fits.0 c.in-Some.ensures.fits.1 c.in-Some.ensures.fits.2 c.in-Some.ensures.found
    (subst (NoneBegins (all_of c.in-Some.count has_fields) changes_bytes) (to_end 20 c.args.bytes.now) (c.in-Err.ensures.bad (ap Err same)))
