use Rattle.std.proofs.Common.{◌≡◌, ◌<◌, length, set, ap, sym, subst, ◌∙◌, arith}
use Rattle.std.specs.Prelude.{nat_eq, is_some, Result, Ok, Err, OnErr}
use Rattle.std.proofs.lemmas.List.{length-set}
use Rattle.std.specs.List.{position_or_len}
use Rattle.graph_model.specs.Graph.{pair_to}
use Rattle.stamps.specs.Stamps.{Txn}
use Rattle.edge_log.specs.Entries.{shown}
use Rattle.edge_log.specs.Contents.{LogContent}
use Rattle.core_rows.specs.Rows.{log_at, ended_log}
use Rattle.vertex_rows.specs.Owned.{IsOwned, AreOwned, with_note}
use Rattle.vertex_rows.specs.RowIn.{labelled_in}
use Rattle.vertex_rows.proofs.Contents.{owned-ended_log, owned-ends_never}
use Rattle.vertex_rows.proofs.Logs.{logs-moved, row_stays_apart, keeps_logs-wide, keeps_olds-wide, others_same, owned-touched, contents-set}
use Rattle.vertex_rows.proofs.RowLogs.{place_of, no_place, labelled-set, labelled-same, log_at-labelled, log_at-no_label, owned_taken, owned_by_same}
use Rattle.vertex_rows.proofs.vertex_row.VertexRow.del.Goals as goal
use Rattle.vertex_rows.proofs.vertex_row.VertexRow.del.Goals.{After-at_mut-log, After-end_edge}
use Rattle.vertex_rows.proofs.vertex_row.VertexRow.del.Given.{Over}

-- where the label's log stands
place : (g : Over) (c : After-at_mut-log g) → (position_or_len (nat_eq c.args.l) c.args.self.now.index ≡ c.in-Some.n) × (c.in-Some.n < length c.args.self.now.index)
place g c = place_of c.args.l c.in-Some.n c.args.self.now.index (sym c.row.ensures ∙ c.in-Some.is)

within : (g : Over) (c : After-at_mut-log g) → c.in-Some.n < length c.args.self.now.logs.items
within g c = omega (arith, (place g c).1, c.requires.stands.labelled)

-- the logs are the transaction's, as far as they are private
owned : (g : Over) (c : After-at_mut-log g) → AreOwned g.L.EdgeLog.content c.args.tid c.args.self.now.lock.committed c.args.self.now.touched.items c.args.self.now.logs.items c.args.room.now
owned g c =
    let row = c.args.self.now in
    owned_taken g.L.EdgeLog.content row.lock.owner row.lock.committed c.args.tid c.args.read row.lock.committed row.touched.items row.logs.items c.args.room.now c.requires.taken c.requires.stands.owned

own_log : (g : Over) (c : After-at_mut-log g) → IsOwned c.args.tid c.args.self.now.lock.committed (g.L.EdgeLog.content c.at_mut-log.result.now c.args.room.now)
own_log g c =
    subst (λ log. IsOwned c.args.tid c.args.self.now.lock.committed (g.L.EdgeLog.content log c.args.room.now)) (sym c.at_mut-log.ensures.value)
    ((owned g c).owned c.in-Some.n c.at_mut-log.result.now (within g c))

-- the label's log is the one that is asked
asked : (g : Over) (c : After-at_mut-log g) → log_at (labelled_in g.L.EdgeLog.content c.args.self.now.index c.args.self.now.logs.items c.args.room.now) c.args.l ≡ g.L.EdgeLog.content c.at_mut-log.result.now c.args.room.now
asked g c =
    let row = c.args.self.now in
    let at = place g c in
    log_at-labelled g.L.EdgeLog.content c.args.l row.index row.logs.items c.args.room.now c.in-Some.n c.at_mut-log.result.now at.0 at.1 c.requires.stands.labelled
    ∙ ap (λ log. g.L.EdgeLog.content log c.args.room.now) (sym c.at_mut-log.ensures.value)

pub returns-in_default-clause-there : goal.returns-in_default-clause-there
returns-in_default-clause-there g c =
    let row = c.args.self.now in
    let none = no_place c.args.l row.index (sym c.row.ensures ∙ c.in_default.is) in
    rw (log_at-no_label g.L.EdgeLog.content c.args.l row.index row.logs.items c.args.room.now none)

pub end_edge-requires-clause-ends_never : goal.end_edge-requires-clause-ends_never
end_edge-requires-clause-ends_never g c =
    let at = (goal.at.end_edge-requires-clause-ends_never g c).After-at_mut-log in
    owned-ends_never c.args.tid c.args.self.now.lock.committed c.args.read (g.L.EdgeLog.content c.at_mut-log.result.now c.args.room.now) c.requires.snapshot (own_log g at)

pub returns-in_err-there-clause-stands : goal.returns-in_err-there-clause-stands
returns-in_err-there-clause-stands g c =
    let at = (goal.at.returns-in_err-there-clause-stands g c).After-at_mut-log in
    let m = g.L.EdgeLog in
    let row = c.args.self.now in
    let logs = row.logs.items in
    let n = c.in-Some.n in
    let x = c.end_edge.new.log in
    let y = c.at_mut-log.result.now in
    let new = c.end_edge.new.room in
    let same = c.in_err-there.ensures.unchanged.2 in
    record {
      most = c.requires.stands.most;
      labelled = c.requires.stands.labelled ∙ sym (length-set logs n x);
      logs = logs-moved m.stands m.footprint m.content m.spare m.limit (m.blocks_out c.args.room.now) logs c.args.room.now new n x y c.requires.stands.logs (within g at) c.at_mut-log.ensures.value c.end_edge.ensures.stands c.end_edge.ensures.limit c.end_edge.ensures.apart (λ log stands. g.met.L.EdgeLog.lies_out log c.args.room.now stands) c.end_edge.ensures.keeps_logs;
      owned = rw c.in_err-there.ensures.unchanged.3 (owned_by_same m.content row.lock.owner row.lock.committed row.touched.items logs (set logs n x) c.args.room.now new (length-set logs n x)
          (contents-set m.stands m.footprint m.content m.spare m.limit (λ (content : LogContent). content) logs c.args.room.now new n x y c.requires.stands.logs (within g at) c.at_mut-log.ensures.value c.end_edge.ensures.keeps_logs same) c.requires.stands.owned);
    }

told_err : {T E P : Type 0} (r : Result T E) → P → OnErr r P
told_err (Ok x) p = tt
told_err (Err e) p = p

pub returns-in_err-there-clause-unchanged : goal.returns-in_err-there-clause-unchanged
returns-in_err-there-clause-unchanged g c =
    let at = (goal.at.returns-in_err-there-clause-unchanged g c).After-at_mut-log in
    let m = g.L.EdgeLog in
    let row = c.args.self.now in
    let logs = row.logs.items in
    let n = c.in-Some.n in
    let x = c.end_edge.new.log in
    let y = c.at_mut-log.result.now in
    let new = c.end_edge.new.room in
    let same = c.in_err-there.ensures.unchanged.2 in
    let labelled = labelled-same m.content row.index logs (set logs n x) c.args.room.now new (length-set logs n x)
    (contents-set m.stands m.footprint m.content m.spare m.limit (λ (content : LogContent). content) logs c.args.room.now new n x y c.requires.stands.logs (within g at) c.at_mut-log.ensures.value c.end_edge.ensures.keeps_logs same) in
    told_err c.from_residual.result (rw labelled)

pub returns-in_err-there-clause-no_memory : goal.returns-in_err-there-clause-no_memory
returns-in_err-there-clause-no_memory g c =
    told_err c.from_residual.result
    (ap (λ (log : LogContent). is_some (pair_to c.args.d (shown log.entries c.args.read (Txn c.args.tid)))) (asked g (goal.at.returns-in_err-there-clause-no_memory g c).After-at_mut-log) ∙ c.in_err-there.ensures.no_memory)

pub returns-in_err-there-clause-apart : goal.returns-in_err-there-clause-apart
returns-in_err-there-clause-apart g c =
    let at = (goal.at.returns-in_err-there-clause-apart g c).After-at_mut-log in
    row_stays_apart g.L.EdgeLog.footprint (g.L.EdgeLog.blocks_out c.args.room.now) c.args.self.now.logs.items c.in-Some.n c.end_edge.new.log c.at_mut-log.result.now (within g at) c.at_mut-log.ensures.value c.end_edge.ensures.apart

pub returns-then-there-clause-stands : goal.returns-then-there-clause-stands
returns-then-there-clause-stands g c =
    let at = (goal.at.returns-then-there-clause-stands g c).After-at_mut-log in
    let m = g.L.EdgeLog in
    let row = c.args.self.now in
    let logs = row.logs.items in
    let n = c.in-Some.n in
    let x = c.end_edge.new.log in
    let y = c.at_mut-log.result.now in
    let new = c.end_edge.new.room in
    let e = row.lock.committed in
    let content : IsOwned c.args.tid e (m.content x new) = subst (IsOwned c.args.tid e) (sym c.in_ok-there.ensures.ended) (owned-ended_log c.args.tid e c.args.d c.args.read (m.content y c.args.room.now) (own_log g at)) in
    let noted : c.end_edge.new.touched.items ≡ with_note n row.touched.items = rw c.if-there.true at c.in_ok-there.ensures.noted in
    record {
      most = c.requires.stands.most;
      labelled = c.requires.stands.labelled ∙ sym (length-set logs n x);
      logs = logs-moved m.stands m.footprint m.content m.spare m.limit (m.blocks_out c.args.room.now) logs c.args.room.now new n x y c.requires.stands.logs (within g at) c.at_mut-log.ensures.value c.end_edge.ensures.stands c.end_edge.ensures.limit c.end_edge.ensures.apart (λ log stands. g.met.L.EdgeLog.lies_out log c.args.room.now stands) c.end_edge.ensures.keeps_logs;
      owned = rw noted
          (owned-touched m.stands m.footprint m.content m.spare m.limit c.args.tid e row.touched.items logs c.args.room.now new n x y c.requires.stands.logs (within g at) c.at_mut-log.ensures.value c.end_edge.ensures.keeps_logs (owned g at) content);
    }

pub returns-then-there-clause-ended : goal.returns-then-there-clause-ended
returns-then-there-clause-ended g c =
    let at = (goal.at.returns-then-there-clause-ended g c).After-at_mut-log in
    let m = g.L.EdgeLog in
    let row = c.args.self.now in
    let logs = row.logs.items in
    let n = c.in-Some.n in
    let x = c.end_edge.new.log in
    let y = c.at_mut-log.result.now in
    let new = c.end_edge.new.room in
    let label = place g at in
    let labelled = labelled-set m.content c.args.l row.index logs c.args.room.now new n x label.0 label.1 c.requires.stands.labelled
    (others_same m.stands m.footprint m.content m.spare m.limit logs c.args.room.now new n y c.requires.stands.logs (within g at) c.at_mut-log.ensures.value c.end_edge.ensures.keeps_logs) in
    let log : m.content x new ≡ ended_log c.args.d c.args.read c.args.tid (log_at (labelled_in m.content row.index logs c.args.room.now) c.args.l) =
    c.in_ok-there.ensures.ended ∙ ap (ended_log c.args.d c.args.read c.args.tid) (sym (asked g at)) in
    rw (c.if-there.true, labelled, log)

pub returns-then-there-clause-there : goal.returns-then-there-clause-there
returns-then-there-clause-there g c =
    c.in_ok-there.ensures.there ∙ ap (λ (log : LogContent). is_some (pair_to c.args.d (shown log.entries c.args.read (Txn c.args.tid)))) (sym (asked g (goal.at.returns-then-there-clause-there g c).After-at_mut-log))

pub returns-then-there-clause-apart : goal.returns-then-there-clause-apart
returns-then-there-clause-apart g c =
    let at = (goal.at.returns-then-there-clause-apart g c).After-at_mut-log in
    row_stays_apart g.L.EdgeLog.footprint (g.L.EdgeLog.blocks_out c.args.room.now) c.args.self.now.logs.items c.in-Some.n c.end_edge.new.log c.at_mut-log.result.now (within g at) c.at_mut-log.ensures.value c.end_edge.ensures.apart

pub returns-then-there-clause-keeps_logs : goal.returns-then-there-clause-keeps_logs
returns-then-there-clause-keeps_logs g c =
    let m = g.L.EdgeLog in
    keeps_logs-wide m.stands m.footprint m.content m.spare c.args.self.now.logs.items c.args.room.now c.end_edge.new.room c.in-Some.n c.at_mut-log.result.now (within g (goal.at.returns-then-there-clause-keeps_logs g c).After-at_mut-log) c.at_mut-log.ensures.value c.end_edge.ensures.keeps_logs

pub returns-then-there-clause-keeps_olds : goal.returns-then-there-clause-keeps_olds
returns-then-there-clause-keeps_olds g c =
    let m = g.L.EdgeLog in
    keeps_olds-wide m.old_stands m.old_footprint m.old_content m.footprint c.args.self.now.logs.items c.args.room.now c.end_edge.new.room c.in-Some.n c.at_mut-log.result.now (within g (goal.at.returns-then-there-clause-keeps_olds g c).After-at_mut-log) c.at_mut-log.ensures.value c.end_edge.ensures.keeps_olds

pub returns-else-there-clause-there : goal.returns-else-there-clause-there
returns-else-there-clause-there g c =
    c.in_ok-there.ensures.there ∙ ap (λ (log : LogContent). is_some (pair_to c.args.d (shown log.entries c.args.read (Txn c.args.tid)))) (sym (asked g (goal.at.returns-else-there-clause-there g c).After-at_mut-log))
