use Rattle.std.proofs.Common.{◌+◌, ◌∷◌, [], ◌++◌, ap, subst, ◌∙◌, inr, drop, arith, Err}
use Rattle.group_codec.specs.Log.{NoGroup, log_bytes}
use Rattle.group_codec.specs.Judging.{IsTaken}
use Rattle.group_codec.proofs.Fronts.{to_end}
use Rattle.group_codec.proofs.Texts.{count-short, at-open, at-gate}
use Rattle.group_codec.proofs.log.decode_with_graph.Goals as goal

pub overflow_add-group : goal.overflow_add-group
overflow_add-group c = let gate = c.loop-place.invariant in omega (arith, count-short gate.0, gate.1.counted, gate.1.long, gate.1.within)

pub returns-in-Err-Bad-clause-bad : goal.returns-in-Err-Bad-clause-bad
returns-in-Err-Bad-clause-bad c =
    let groups = c.loop-place.invariant.0 in
    let gate = c.loop-place.invariant.1 in
    let bytes = c.args.bytes.now in
    let rest = drop (c.loop-place.place + 1) bytes in
    let none = subst (NoGroup groups) (to_end (c.loop-place.place + 1) bytes) (c.in-Err-Bad.ensures.bad (ap Err c.in-Err-Bad.field-0-is) groups gate.stands (ap (λ n. n + 1) gate.counted)) in
    inr (
      groups,
      rest,
      record {
        spelled = gate.stands.spelled;
        lawful = gate.stands.lawful;
        text = gate.text ∙ ap (λ xs. log_bytes groups ++ xs) (at-open bytes c.loop-place.place gate.within c.loop-place-test.true);
        bad = none;
      },
      ap (λ n. n + 1) gate.long,
      ap (λ n. n + 1) gate.counted,
    )

pub loop-place-preserved : goal.loop-place-preserved
loop-place-preserved c =
    let groups = c.loop-place.invariant.0 in
    let bytes = c.args.bytes.now in
    let taken = c.in-Ok.ensures.taken in
    let here = subst (λ xs. IsTaken (c.loop-place.count + 1) xs c.loop-place.judge c.take_group.new.judge c.loop-place.records c.take_group.new.records c.in-Ok.size taken.0) (to_end (c.loop-place.place + 1) bytes) taken.1 in (
      groups ++ taken.0 ∷ [],
      at-gate bytes c.loop-place.judge c.take_group.new.judge c.loop-place.records c.take_group.new.records c.loop-place.place c.loop-place.count c.in-Ok.size groups taken.0 c.loop-place.invariant.1 c.loop-place-test.true here,
    )
