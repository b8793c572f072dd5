use Rattle.std.proofs.Common.{◌≡◌, ◌++◌, List, refl, ap, ◌∙◌, arith}
use Rattle.graph_model.specs.declared.pairs.Pair.{Pair}
use Rattle.stamps.specs.Stamps.{Txn}
use Rattle.edge_log.proofs.PlaceLemmas.{oldest_all}
use Rattle.edge_log.specs.Parts.{left_below}
use Rattle.log_reads.proofs.PartEdges.{edges_all, edges_next}
use Rattle.log_reads.proofs.reads.pairs.Goals as goal
use Rattle.log_reads.proofs.reads.pairs.Goals.{else-loop-place-test, then-loop-place-test+in_ok-push_part+in_default}

pub loop-place-init : goal.loop-place-init
loop-place-init g c =
    let entries = (g.L.EdgeLog.content c.args.log.now c.args.room.now).entries in
    let below = c.cursor-place.ensures.below c.args.room.now c.requires.stands in
    record {
      bytes = refl;
      place = c.cursor-place.ensures.place c.args.room.now c.requires.stands;
      pairs = rw (c.new-pairs.ensures, oldest_all entries c.cursor-place.result.below (omega (arith, below)));
    }

pub returns-clause-pairs : goal.returns-clause-pairs
returns-clause-pairs g c =
    let entries = (g.L.EdgeLog.content c.args.log.now c.args.room.now).entries in
    let so_far = c.loop-place.invariant.pairs in
    elim c.loop-place-test.branch [
      | else-loop-place-test w ↦ w.pairs-is ∙ edges_all entries c.loop-place.pairs c.loop-place.place.below c.args.read (Txn c.args.tid) (omega (arith, w.loop-place-test.false)) so_far
      | then-loop-place-test+in_ok-push_part+in_default w ↦ (
          let last : left_below w.part-next.result ≡ 0 = ap left_below w.in_default.is in
          w.pairs-is ∙ edges_all entries w.push_part.new.pairs (left_below w.part-next.result) c.args.read (Txn c.args.tid) last
          (edges_next entries c.loop-place.pairs w.part-next.new.out.pairs w.push_part.new.pairs c.loop-place.place.below (left_below w.part-next.result) c.args.read (Txn c.args.tid) so_far (w.in_ok-push_part.ensures ∙ ap (λ (xs : List Pair). xs ++ w.part-next.new.out.pairs) w.make_room.ensures) w.part-next.ensures.pairs))
    ]
