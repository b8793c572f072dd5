use Rattle.std.proofs.Common.{◌≡◌, ap, subst, arith, inl, inr, Err}
use Rattle.std.specs.Prelude.{flat_map}
use Rattle.group_codec.specs.declared.refusal.GroupRefusal.TheVariants.{Bad}
use Rattle.group_codec.specs.Spelling.{record_bytes, is_spelled}
use Rattle.group_codec.specs.Reading.{NoneBegins, ReadsUpTo, all_of}
use Rattle.group_codec.proofs.Fronts.{to_end}
use Rattle.group_codec.proofs.Groups.{payload_of-short, payload_of-epoch, payload_of-count, payload_of-none, payload_of-spare}
use Rattle.group_codec.proofs.group.payload_of.Goals as goal

pub returns-in_default-clause-bad : goal.returns-in_default-clause-bad
returns-in_default-clause-bad c = λ _. payload_of-short c.args.epoch c.args.payload.now c.in_default.ensures.short

pub returns-then-first-epoch-clause-bad : goal.returns-then-first-epoch-clause-bad
returns-then-first-epoch-clause-bad c = λ _.
    payload_of-epoch c.args.epoch c.in-Some.first c.in-Some.count c.args.payload.now (omega arith) c.in-Some.ensures.fits.0 c.in-Some.ensures.fits.1 c.in-Some.ensures.found c.if-first-epoch.true

pub returns-then-count-eq0-clause-bad : goal.returns-then-count-eq0-clause-bad
returns-then-count-eq0-clause-bad c = λ _.
    payload_of-count c.args.epoch c.in-Some.first c.in-Some.count c.args.payload.now (omega arith) c.in-Some.ensures.fits.0 c.in-Some.ensures.fits.1 c.in-Some.ensures.found
    (λ some few. elim c.then-count-eq0.either [ inl none ↦ omega arith | inr many ↦ omega arith ])

pub returns-in-Err-clause-bad : goal.returns-in-Err-clause-bad
returns-in-Err-clause-bad c = λ bad.
    let same : c.in-Err.refusal ≡ Bad = (cc) in
    payload_of-none c.args.epoch c.in-Some.first c.in-Some.count c.args.payload.now (omega arith) c.in-Some.ensures.fits.0 c.in-Some.ensures.fits.1 c.in-Some.ensures.found
    (subst (NoneBegins (all_of c.in-Some.count (is_spelled c.args.epoch)) (flat_map record_bytes)) (to_end 12 c.args.payload.now) (c.in-Err.ensures.bad (ap Err same)))

pub returns-then-size-payload-clause-bad : goal.returns-then-size-payload-clause-bad
returns-then-size-payload-clause-bad c = λ _.
    payload_of-spare c.args.epoch c.in-Some.first c.in-Some.count c.in-Ok.found.1 c.args.payload.now c.in-Ok.found.0 (omega arith) c.in-Some.ensures.fits.0 c.in-Some.ensures.fits.1 c.in-Some.ensures.found c.in-Ok.ensures.found.0
    (subst (λ xs. ReadsUpTo (is_spelled c.args.epoch) record_bytes xs c.in-Ok.found.0 c.in-Ok.found.1) (to_end 12 c.args.payload.now) c.in-Ok.ensures.found.1) c.if-size-payload.true
