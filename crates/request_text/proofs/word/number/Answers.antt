use Rattle.std.proofs.Common.{◌<◌, arith}
use Rattle.request_text.specs.Words.{digits_value}
use Rattle.request_text.proofs.Numbers.{digits_from-at, number_of-above}
use Rattle.request_text.proofs.word.number.Goals as goal

pub returns-in_err-checked_mul-clause-value : goal.returns-in_err-checked_mul-clause-value
returns-in_err-checked_mul-clause-value c =
    let more = digits_from-at c.args.word.now c.loop-byte.byte-index c.loop-byte.value c.loop-byte-test.true in
    let above : c.args.most < digits_value c.args.word.now = omega (arith, more, c.in_err-checked_mul.ensures) in
    rw (c.from_residual.ensures) (number_of-above c.args.most c.args.word.now above)

pub returns-in_err-value-clause-value : goal.returns-in_err-value-clause-value
returns-in_err-value-clause-value c =
    let more = digits_from-at c.args.word.now c.loop-byte.byte-index c.loop-byte.value c.loop-byte-test.true in
    let above : c.args.most < digits_value c.args.word.now = omega (arith, more, c.in_err-value.ensures) in
    rw (c.from_residual-in_err-value.ensures) (number_of-above c.args.most c.args.word.now above)
