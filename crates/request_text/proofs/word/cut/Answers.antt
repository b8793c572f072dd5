use Rattle.std.proofs.Common.{take_all}
use Rattle.std.proofs.lemmas.List.{take_rest}
use Rattle.std.proofs.lemmas.List.Splits.{slice_split_none}
use Rattle.request_text.proofs.Splits.{slice_split-read, All-take-more}
use Rattle.request_text.proofs.word.cut.Goals as goal

pub returns-then-byte-separator-clause-parts : goal.returns-then-byte-separator-clause-parts
returns-then-byte-separator-clause-parts c =
    rw take_rest (slice_split-read _ _ _ c.loop-at-test.true c.if-byte-separator.true c.loop-at.invariant)

pub loop-at-preserved : goal.loop-at-preserved
loop-at-preserved c = All-take-more _ _ _ c.loop-at-test.true c.if-byte-separator.false c.loop-at.invariant

pub returns-clause-parts : goal.returns-clause-parts
returns-clause-parts c = slice_split_none _ _ (rw (take_all _ _ c.loop-at-test.false) at c.loop-at.invariant)
