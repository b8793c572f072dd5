use Rattle.std.proofs.Common.{get_or, sym, ◌∙◌, arith}
use Rattle.tel_block.proofs.PrivateFacts.{none-noted, none-behind, none-anywhere, found-there}
use Rattle.tel_block.proofs.private.has_private.Goals as goal

pub is_private_at-requires : goal.is_private_at-requires
is_private_at-requires c = omega (arith, c.requires.noted c.loop-place.place-index 0 c.loop-place-test.true, c.requires.from, c.requires.rows)

pub loop-place-preserved : goal.loop-place-preserved
loop-place-preserved c =
    none-noted c.args.of c.args.bytes.now c.args.noted.now c.loop-place.place-index
    (λ start xs x held at. sym (c.is_private_at.ensures start xs x held at) ∙ c.if-is_private_at.false) c.loop-place.invariant

pub loop-place-2-preserved : goal.loop-place-2-preserved
loop-place-2-preserved c =
    none-behind c.args.of c.args.bytes.now c.args.from c.loop-place-2.place
    (λ start xs x held at. sym (c.is_private_at-in-loop-place-2.ensures start xs x held at) ∙ c.if-is_private_at-2.false) c.loop-place-2.invariant

pub returns-then-is_private_at : goal.returns-then-is_private_at
returns-then-is_private_at c = λ start xs held long reached.
    sym (found-there c.args.of c.args.bytes.now (get_or c.args.noted.now c.loop-place.place-index 0) c.args.count start xs held long
    (omega (arith, c.requires.noted c.loop-place.place-index 0 c.loop-place-test.true, c.requires.from))
    (λ s ys x h at. sym (c.is_private_at.ensures s ys x h at) ∙ c.if-is_private_at.true))

pub returns-then-is_private_at-2 : goal.returns-then-is_private_at-2
returns-then-is_private_at-2 c = λ start xs held long reached.
    sym (found-there c.args.of c.args.bytes.now c.loop-place-2.place c.args.count start xs held long c.loop-place-2-test.true
    (λ s ys x h at. sym (c.is_private_at-in-loop-place-2.ensures s ys x h at) ∙ c.if-is_private_at-2.true))

pub returns : goal.returns
returns c = λ start xs held long reached.
    sym (none-anywhere c.args.of c.args.bytes.now c.args.noted.now c.args.from c.args.count start xs held long reached
    (λ k within. c.loop-place.invariant k (omega (arith, within, c.loop-place-test.false)))
    (λ n above within. c.loop-place-2.invariant n above (omega (arith, within, c.loop-place-2-test.false))))
