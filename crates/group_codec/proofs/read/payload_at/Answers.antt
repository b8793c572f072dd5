use Rattle.std.proofs.Common.{◌∙◌, ap, take, drop, arith}
use Rattle.group_codec.proofs.Fronts.{payload-begins, payload-short, payload-cut}
use Rattle.group_codec.proofs.read.payload_at.Goals as goal

pub returns-in_default-clause-bad : goal.returns-in_default-clause-bad
returns-in_default-clause-bad c = λ _. payload-short c.args.bytes.now c.in_default.ensures.short

pub returns-then-bytes-end-clause-bad : goal.returns-then-bytes-end-clause-bad
returns-then-bytes-end-clause-bad c = λ _. payload-cut c.args.bytes.now c.in-Some.len (omega arith) c.in-Some.ensures.found (omega arith)

pub returns-clause-found : goal.returns-clause-found
returns-clause-found c =
    payload-begins c.args.bytes.now c.in-Some.len c.in_ok-p.p (λ i. omega (arith, c.type_inv.bytes i)) (omega arith) c.in-Some.ensures.found (omega arith)
    (c.in_ok-p.ensures ∙ ap (λ n. take n (drop 2 c.args.bytes.now)) (omega arith))
