-- The edges are appended from the last one on, in blocks that are new to the room.
use Rattle.std.proofs.Common.{◌≡◌, ◌∙◌, ◌-◌, ℕ, [], ◌∷◌, drop, sym, ap, subst, arith}
use Rattle.edge_log.specs.Rooms.{KeepsLogs, KeepsOlds}
use Rattle.edge_log.specs.Contents.{with_converted, with_appended}
use Rattle.vertex_rows.specs.Blocks.{Trades}
use Rattle.core_rows.proofs.OpenedLogs.{pending_log, opened-pending, drop_here}
use Rattle.vertex_rows.proofs.Fresh.{keeps_logs-fresh, keeps_olds-fresh}
use Rattle.row_opening.proofs.Pending.{next-fits, tail-pending, unless_err}
use Rattle.row_opening.proofs.Trading.{traded-then, traded-given, fresh-stays}
use Rattle.row_opening.proofs.list_log.log_of_list.Goals as goal
use Rattle.row_opening.proofs.list_log.log_of_list.Goals.{In-Some, After-release, After-convert}
use Rattle.row_opening.proofs.list_log.log_of_list.Given.{Over}

-- the edge at the place, and those after it
rest_here : (g : Over) (c : In-Some g) → drop (c.loop-left.left - 1) c.args.pairs.now ≡ c.in-Some.pair.now ∷ drop c.loop-left.left c.args.pairs.now
rest_here g c = drop_here c.args.pairs.now (c.loop-left.left - 1) c.loop-left.left c.in-Some.pair.now (omega (arith, c.loop-left-test.true)) (sym c.in-Some.ensures)

pub append_pair-requires-clause-within : goal.append_pair-requires-clause-within
append_pair-requires-clause-within g c =
    let inv = c.loop-left.invariant in
    rw (inv.appended, inv.limit)
    (next-fits c.args.pairs.now (c.loop-left.left - 1) c.loop-left.left c.args.most c.in-Some.pair.now (rest_here g (goal.at.append_pair-requires-clause-within g c).In-Some) (omega (arith, c.requires.size, c.requires.within)))

pub loop-left-preserved : goal.loop-left-preserved
loop-left-preserved g c =
    let m = g.L.EdgeLog in
    let inv = c.loop-left.invariant in
    let x = c.in-Some.pair.now in
    let r0 = c.args.room.now in
    let r1 = c.loop-left.room in
    let r2 = c.append_pair.new.room in
    let old = c.loop-left.log in
    let new = c.append_pair.new.log in
    record {
      within = omega (arith, inv.within);
      stands = c.append_pair.ensures.stands;
      appended = unless_err c.append_pair.result c.is_err.result c.is_err.ensures.value c.if-is_err.false c.append_pair.ensures.appended
          ∙ ap (with_appended 0 x.d x.p) inv.appended ∙ ap pending_log (sym (rest_here g (goal.at.loop-left-preserved g c).In-Some));
      limit = c.append_pair.ensures.limit ∙ inv.limit;
      apart = fresh-stays (m.blocks_out r0) (m.blocks_out r1) (m.footprint old) (m.footprint new) inv.apart inv.out c.append_pair.ensures.apart;
      out = traded-then (m.blocks_out r0) (m.blocks_out r1) (m.blocks_out r2) [] (m.footprint old) (m.footprint new) inv.out c.append_pair.ensures.out;
      keeps_logs = keeps_logs-fresh m.stands m.footprint m.content m.spare (m.blocks_out r0) (m.footprint old) r0 r1 r2
          inv.keeps_logs inv.apart (λ log standing. g.met.L.EdgeLog.lies_out log r0 standing) c.append_pair.ensures.keeps_logs;
      keeps_olds = keeps_olds-fresh m.old_stands m.old_footprint m.old_content (m.blocks_out r0) (m.footprint old) r0 r1 r2
          inv.keeps_olds inv.apart (λ old standing. g.met.L.EdgeLog.old_lies_out old r0 standing) c.append_pair.ensures.keeps_olds;
    }

-- What is left where there is no memory for an edge: the log lay in new blocks, which are given back.
pub returns-then-is_err-clause-given_back : goal.returns-then-is_err-clause-given_back
returns-then-is_err-clause-given_back g c =
    let m = g.L.EdgeLog in
    let inv = c.loop-left.invariant in
    let b0 = m.blocks_out c.args.room.now in
    let b1 = m.blocks_out c.loop-left.room in
    let b2 = m.blocks_out c.append_pair.new.room in
    let b3 = m.blocks_out c.release.new.room in
    let held = m.footprint c.append_pair.new.log in
    let given = traded-given b2 b3 (m.old_footprint c.retire.result) c.release.ensures.given in
    traded-then b0 b2 b3 [] held []
    (traded-then b0 b1 b2 [] (m.footprint c.loop-left.log) held inv.out c.append_pair.ensures.out)
    (subst (λ bs. Trades b2 b3 bs []) c.retire.ensures.blocks given)

pub returns-then-is_err-clause-keeps_logs : goal.returns-then-is_err-clause-keeps_logs
returns-then-is_err-clause-keeps_logs g c =
    let m = g.L.EdgeLog in
    let inv = c.loop-left.invariant in
    let r0 = c.args.room.now in
    let r1 = c.loop-left.room in
    let r2 = c.append_pair.new.room in
    let r3 = c.release.new.room in
    let old = c.loop-left.log in
    let new = c.append_pair.new.log in
    let apart = fresh-stays (m.blocks_out r0) (m.blocks_out r1) (m.footprint old) (m.footprint new) inv.apart inv.out c.append_pair.ensures.apart in
    keeps_logs-fresh m.stands m.footprint m.content m.spare (m.blocks_out r0) (m.footprint new) r0 r2 r3
    (keeps_logs-fresh m.stands m.footprint m.content m.spare (m.blocks_out r0) (m.footprint old) r0 r1 r2 inv.keeps_logs inv.apart (λ log standing. g.met.L.EdgeLog.lies_out log r0 standing) c.append_pair.ensures.keeps_logs)
    apart (λ log standing. g.met.L.EdgeLog.lies_out log r0 standing) (subst (λ bs. KeepsLogs m.stands m.footprint m.content m.spare bs r2 r3) c.retire.ensures.blocks c.release.ensures.keeps_logs)

pub returns-then-is_err-clause-keeps_olds : goal.returns-then-is_err-clause-keeps_olds
returns-then-is_err-clause-keeps_olds g c =
    let m = g.L.EdgeLog in
    let inv = c.loop-left.invariant in
    let r0 = c.args.room.now in
    let r1 = c.loop-left.room in
    let r2 = c.append_pair.new.room in
    let r3 = c.release.new.room in
    let old = c.loop-left.log in
    let new = c.append_pair.new.log in
    let apart = fresh-stays (m.blocks_out r0) (m.blocks_out r1) (m.footprint old) (m.footprint new) inv.apart inv.out c.append_pair.ensures.apart in
    keeps_olds-fresh m.old_stands m.old_footprint m.old_content (m.blocks_out r0) (m.footprint new) r0 r2 r3
    (keeps_olds-fresh m.old_stands m.old_footprint m.old_content (m.blocks_out r0) (m.footprint old) r0 r1 r2 inv.keeps_olds inv.apart (λ x standing. g.met.L.EdgeLog.old_lies_out x r0 standing) c.append_pair.ensures.keeps_olds)
    apart (λ x standing. g.met.L.EdgeLog.old_lies_out x r0 standing) (subst (λ bs. KeepsOlds m.old_stands m.old_footprint m.old_content bs r2 r3) c.retire.ensures.blocks c.release.ensures.keeps_olds)

pub convert-requires-clause-tail : goal.convert-requires-clause-tail
convert-requires-clause-tail g c = rw c.loop-left.invariant.appended (tail-pending (drop c.loop-left.left c.args.pairs.now))

pub returns-clause-opened : goal.returns-clause-opened
returns-clause-opened g c =
    let pairs = c.args.pairs.now in
    let start : c.loop-left.left ≡ 0 = omega (arith, c.loop-left-test.false) in
    c.convert.ensures.converted
    ∙ ap (with_converted 0 c.args.epoch) (c.loop-left.invariant.appended ∙ ap (λ (n : ℕ). pending_log (drop n pairs)) start)
    ∙ opened-pending c.args.epoch pairs

pub returns-clause-keeps_logs : goal.returns-clause-keeps_logs
returns-clause-keeps_logs g c =
    let m = g.L.EdgeLog in
    let inv = c.loop-left.invariant in
    let r0 = c.args.room.now in
    keeps_logs-fresh m.stands m.footprint m.content m.spare (m.blocks_out r0) (m.footprint c.loop-left.log) r0 c.loop-left.room c.convert.new.room
    inv.keeps_logs inv.apart (λ log standing. g.met.L.EdgeLog.lies_out log r0 standing) c.convert.ensures.keeps_logs

pub returns-clause-keeps_olds : goal.returns-clause-keeps_olds
returns-clause-keeps_olds g c =
    let m = g.L.EdgeLog in
    let inv = c.loop-left.invariant in
    let r0 = c.args.room.now in
    keeps_olds-fresh m.old_stands m.old_footprint m.old_content (m.blocks_out r0) (m.footprint c.loop-left.log) r0 c.loop-left.room c.convert.new.room
    inv.keeps_olds inv.apart (λ x standing. g.met.L.EdgeLog.old_lies_out x r0 standing) c.convert.ensures.keeps_olds
