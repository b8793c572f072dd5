-- The labels rise, so that each log is under a label of its own, and stands last when it is made.
use Rattle.std.proofs.Common.{◌≡◌, ◌∙◌, ℕ, ◌+◌, ◌++◌, ◌∷◌, [], true, List, length, get_or, take, refl, sym, ap, subst, arith}
use Rattle.std.specs.Prelude.{nat_eq}
use Rattle.std.specs.List.{position_or_len}
use Rattle.std.proofs.lemmas.List.{take_all, take_more}
use Rattle.graph_model.specs.Graph.{vertex_at, pairs_in}
use Rattle.graph_model.specs.Whole.{rise}
use Rattle.core_rows.specs.Rows.{with_log}
use Rattle.core_rows.specs.Openings.{lists_in, opened_log}
use Rattle.core_rows.proofs.OpenedLogs.{labelled_logs, labelled-more, labelled-all, labels-rise}
use Rattle.vertex_rows.specs.Blocks.{footprints_of}
use Rattle.vertex_rows.specs.Owned.{IsAllPast}
use Rattle.vertex_rows.specs.RowIn.{labelled_in}
use Rattle.vertex_rows.proofs.Fresh.{keeps_logs-fresh, keeps_olds-fresh, logs-kept, contents-kept, logs-more, labelled-more as labelled_in-more, one_longer}
use Rattle.vertex_rows.proofs.RowLogs.{no_place}
use Rattle.row_opening.proofs.Openings.{keeps_logs-twice, keeps_olds-twice, next-unnamed, past-more, are-none, none-apart}
use Rattle.row_opening.proofs.Pending.{past-opened}
use Rattle.row_opening.proofs.Trading.{traded-more, fresh-more, footprints-more}
use Rattle.row_opening.proofs.list_logs.logs_of_lists.Goals as goal
use Rattle.row_opening.proofs.list_logs.logs_of_lists.Goals.{After-as_slice-label-items}
use Rattle.row_opening.proofs.list_logs.logs_of_lists.Given.{Over}

labels-up : (g : Over) (c : After-as_slice-label-items g) → rise c.as_slice-label-items.result.now ≡ true
labels-up g c = ap rise (c.as_slice-label-items.ensures ∙ c.in_ok-labels.ensures) ∙ labels-rise c.args.v c.args.graph.now c.requires.whole

pub loop-label-init : goal.loop-label-init
loop-label-init g c =
    let m = g.L.EdgeLog in
    rw (c.new-index.ensures, c.new-logs.ensures) (record {
      named = refl;
      count = refl;
      stand = are-none m.stands m.footprint m.limit c.args.room.now;
      opened = refl;
      past = λ n d lt. absurd (omega (arith, lt));
      apart = none-apart (m.blocks_out c.args.room.now);
      out = λ size. refl;
      keeps_logs = λ log standing apart. (standing, refl, refl);
      keeps_olds = λ x standing apart. (standing, refl);
    })

pub next_log-requires-clause-unnamed : goal.next_log-requires-clause-unnamed
next_log-requires-clause-unnamed g c =
    rw c.loop-label.invariant.named
    (next-unnamed c.as_slice-label-items.result.now c.loop-label.label-index 0 (labels-up g (goal.at.next_log-requires-clause-unnamed g c).After-as_slice-label-items) c.loop-label-test.true)

-- Where there is no memory for the next log, the logs before it still stand, and are given back.
pub give_back-requires : goal.give_back-requires
give_back-requires g c =
    let m = g.L.EdgeLog in (
      c.args.most,
      rw c.next_log.ensures.same
          (logs-kept m.stands m.footprint m.content m.spare m.limit c.loop-label.logs.items c.loop-label.room c.next_log.new.room c.loop-label.invariant.stand c.next_log.ensures.keeps_logs),
    )

pub returns-in-Err-clause-given_back : goal.returns-in-Err-clause-given_back
returns-in-Err-clause-given_back g c size =
    let m = g.L.EdgeLog in
    let inv = c.loop-label.invariant.out size in
    let next = c.in-Err.ensures.given_back size in
    let given = (rw c.next_log.ensures.same at c.give_back.ensures.out) size in
    omega (arith, inv, next, given)

pub returns-in-Err-clause-keeps_logs : goal.returns-in-Err-clause-keeps_logs
returns-in-Err-clause-keeps_logs g c =
    let m = g.L.EdgeLog in
    let inv = c.loop-label.invariant in
    let logs = c.loop-label.logs.items in
    let r0 = c.args.room.now in
    let r2 = c.next_log.new.room in
    keeps_logs-fresh m.stands m.footprint m.content m.spare (m.blocks_out r0) (footprints_of m.footprint logs) r0 r2 c.give_back.new.room
    (keeps_logs-twice m.stands m.footprint m.content m.spare r0 c.loop-label.room r2 inv.keeps_logs c.next_log.ensures.keeps_logs)
    inv.apart (λ log standing. g.met.L.EdgeLog.lies_out log r0 standing) (rw c.next_log.ensures.same at c.give_back.ensures.keeps_logs)

pub returns-in-Err-clause-keeps_olds : goal.returns-in-Err-clause-keeps_olds
returns-in-Err-clause-keeps_olds g c =
    let m = g.L.EdgeLog in
    let inv = c.loop-label.invariant in
    let logs = c.loop-label.logs.items in
    let r0 = c.args.room.now in
    let r2 = c.next_log.new.room in
    keeps_olds-fresh m.old_stands m.old_footprint m.old_content (m.blocks_out r0) (footprints_of m.footprint logs) r0 r2 c.give_back.new.room
    (keeps_olds-twice m.old_stands m.old_footprint m.old_content r0 c.loop-label.room r2 inv.keeps_olds c.next_log.ensures.keeps_olds)
    inv.apart (λ x standing. g.met.L.EdgeLog.old_lies_out x r0 standing) (rw c.next_log.ensures.same at c.give_back.ensures.keeps_olds)

pub loop-label-preserved : goal.loop-label-preserved
loop-label-preserved g c =
    let m = g.L.EdgeLog in
    let inv = c.loop-label.invariant in
    let labels = c.as_slice-label-items.result.now in
    let lists = lists_in (vertex_at c.args.v c.args.graph.now) in
    let i = c.loop-label.label-index in
    let l = get_or labels i 0 in
    let index = c.loop-label.index in
    let logs = c.loop-label.logs.items in
    let x = c.in-Ok.log in
    let e = c.args.epoch in
    let r0 = c.args.room.now in
    let r1 = c.loop-label.room in
    let r2 = c.next_log.new.room in
    let up = labels-up g (goal.at.loop-label-preserved g c).After-as_slice-label-items in
    let lt = c.loop-label-test.true in
    let keeps = c.next_log.ensures.keeps_logs in
    let none : position_or_len (nat_eq l) index ≡ length index = rw inv.named (no_place l (take i labels) (next-unnamed labels i 0 up lt)) in
    let same = contents-kept m.stands m.footprint m.content m.spare m.limit logs r1 r2 inv.stand keeps in
    let logs_are = c.push_reserved.ensures.items ∙ ap (λ (ls : List g.row.L.Denot). ls ++ x ∷ []) c.next_log.ensures.same in
    let past : IsAllPast e (m.content x r2) = subst (IsAllPast e) (sym c.in-Ok.ensures.opened) (past-opened e (pairs_in lists l)) in
    rw (logs_are, c.in-Ok.ensures.named) (record {
      named = ap (λ (ls : List ℕ). ls ++ l ∷ []) inv.named ∙ sym (take_more labels i 0 lt);
      count = one_longer index l ∙ ap (λ (k : ℕ). k + 1) inv.count ∙ sym (one_longer logs x);
      stand = logs-more m.stands m.footprint m.content m.spare m.limit (m.blocks_out r1) logs r1 r2 x inv.stand keeps c.in-Ok.ensures.stands c.in-Ok.ensures.limit c.in-Ok.ensures.apart
          (λ log standing. g.met.L.EdgeLog.lies_out log r1 standing);
      opened = labelled_in-more m.content l index logs r1 r2 x none inv.count same
          ∙ ap (λ log. with_log (record { label = l; log = log }) (labelled_in m.content index logs r1)) c.in-Ok.ensures.opened
          ∙ ap (with_log (record { label = l; log = opened_log e (pairs_in lists l) })) inv.opened
          ∙ labelled-more e lists labels i 0 up lt;
      past = past-more m.stands m.footprint m.content m.spare m.limit e logs r1 r2 x inv.stand keeps inv.past past;
      apart = rw (footprints-more m.footprint logs x) (fresh-more (m.blocks_out r0) (m.blocks_out r1) (footprints_of m.footprint logs) (m.footprint x) inv.apart inv.out c.in-Ok.ensures.apart);
      out = rw (footprints-more m.footprint logs x) (traded-more (m.blocks_out r0) (m.blocks_out r1) (m.blocks_out r2) (footprints_of m.footprint logs) (m.footprint x) inv.out c.in-Ok.ensures.out);
      keeps_logs = keeps_logs-twice m.stands m.footprint m.content m.spare r0 r1 r2 inv.keeps_logs keeps;
      keeps_olds = keeps_olds-twice m.old_stands m.old_footprint m.old_content r0 r1 r2 inv.keeps_olds c.next_log.ensures.keeps_olds;
    })

pub returns-clause-opened : goal.returns-clause-opened
returns-clause-opened g c =
    let lists = lists_in (vertex_at c.args.v c.args.graph.now) in
    let labels = c.as_slice-label-items.ensures ∙ c.in_ok-labels.ensures in
    c.loop-label.invariant.opened
    ∙ ap (labelled_logs c.args.epoch lists) (take_all c.loop-label.label-index c.as_slice-label-items.result.now c.loop-label-test.false ∙ labels)
    ∙ labelled-all c.args.epoch lists (labels-rise c.args.v c.args.graph.now c.requires.whole)
