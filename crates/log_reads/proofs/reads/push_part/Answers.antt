use Rattle.std.proofs.Common.{arith, sym, ◌∙◌}
use Rattle.log_reads.proofs.PartEdges.{edges_more, stands_within}
use Rattle.log_reads.proofs.reads.push_part.Goals as goal
use Rattle.log_reads.proofs.reads.push_part.Goals.{in-Some+in_ok-push, in_default}

pub loop-i-preserved : goal.loop-i-preserved
loop-i-preserved c =
    let edges = c.args.part.now.pairs in
    elim c.match-here.branch [
      | in-Some+in_ok-push w ↦
          edges_more c.reserve.new.self edges c.loop-i.pairs c.match-here.pairs c.loop-i.i w.in-Some.pair (sym c.in_ok-here.ensures ∙ w.in-Some.is) c.loop-i.invariant (w.pairs-is ∙ w.in_ok-push.ensures)
      | in_default w ↦ absurd (stands_within edges c.loop-i.i (sym c.in_ok-here.ensures ∙ w.in_default.is) (omega (arith, c.loop-i-test.true, c.pairs-i-end.ensures.count)))
    ]
