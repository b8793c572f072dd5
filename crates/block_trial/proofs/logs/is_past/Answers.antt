use Rattle.std.proofs.Common.{subst, arith}
use Rattle.block_layout.proofs.AtPlaces.{entry_at-within}
use Rattle.block_reading.specs.Past.{IsPastRow}
use Rattle.block_trial.proofs.LogLemmas.{past-behind, past-each}
use Rattle.block_trial.proofs.logs.is_past.Goals as goal

pub loop-place-preserved : goal.loop-place-preserved
loop-place-preserved c =
    past-behind 5 c.args.block.now c.loop-place.place
    (λ start xs x held at. subst (IsPastRow 5) (c.entry_at.ensures start xs x held at) (c.is_past_row.ensures c.if-not-is_past_row.false)) c.loop-place.invariant

pub returns : goal.returns
returns c = λ start xs held long yes.
    past-each 5 xs held.fit (λ n x at. c.loop-place.invariant n
    (let w = entry_at-within xs n x at in let end = c.loop-place-test.false in omega (arith, w, long, end)) start xs x held at)
