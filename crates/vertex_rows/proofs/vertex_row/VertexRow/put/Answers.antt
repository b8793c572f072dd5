use Rattle.std.proofs.Common.{◌≡◌, ◌<◌, ◌+◌, ℕ, length, set, ap, sym, subst, ◌∙◌, arith}
use Rattle.std.specs.Prelude.{◌↔◌, nat_eq, is_some, Result, Ok, Err, OnErr}
use Rattle.std.specs.Result.{IsErrAnd}
use Rattle.std.proofs.lemmas.List.{length-set}
use Rattle.std.specs.List.{position_or_len}
use Rattle.graph_model.specs.Graph.{pair_to}
use Rattle.graph_model.specs.Change.{edge_size}
use Rattle.stamps.specs.Stamps.{Txn}
use Rattle.edge_log.specs.Entries.{shown, sizes}
use Rattle.edge_log.specs.declared.refusal.LogRefusal.TheVariants.{LogFull}
use Rattle.edge_log.specs.Contents.{LogContent, with_appended}
use Rattle.core_rows.specs.Rows.{log_at, ended_log}
use Rattle.vertex_rows.specs.Owned.{IsOwned, AreOwned}
use Rattle.vertex_rows.specs.RowIn.{labelled_in}
use Rattle.vertex_rows.proofs.Contents.{owned-appended, owned-ended_log, owned-ends_never}
use Rattle.vertex_rows.proofs.Logs.{logs-moved, row_stays_apart, keeps_logs-wide, keeps_olds-wide, others_same, owned-touched, contents-set}
use Rattle.vertex_rows.proofs.RowLogs.{place_of, no_place, labelled-set, labelled-same, log_at-labelled, log_at-no_label, owned_taken, owned_by_same}
use Rattle.vertex_rows.proofs.vertex_row.VertexRow.put.Goals as goal
use Rattle.vertex_rows.proofs.vertex_row.VertexRow.put.Goals.{After-at_mut-log, After-put_edge}
use Rattle.vertex_rows.proofs.vertex_row.VertexRow.put.Given.{Over}

-- where the label's log stands
place : (g : Over) (c : After-at_mut-log g) → (position_or_len (nat_eq c.args.l) c.args.self.now.index ≡ c.in-Some.n) × (c.in-Some.n < length c.args.self.now.index)
place g c = place_of c.args.l c.in-Some.n c.args.self.now.index (sym c.row.ensures ∙ c.in-Some.is)

within : (g : Over) (c : After-at_mut-log g) → c.in-Some.n < length c.args.self.now.logs.items
within g c = omega (arith, (place g c).1, c.requires.stands.labelled)

-- the logs are the transaction's, as far as they are private
owned : (g : Over) (c : After-at_mut-log g) → AreOwned g.L.EdgeLog.content c.args.tid c.args.self.now.lock.committed c.args.self.now.touched.items c.args.self.now.logs.items c.args.room.now
owned g c =
    let row = c.args.self.now in
    owned_taken g.L.EdgeLog.content row.lock.owner row.lock.committed c.args.tid c.args.read row.lock.committed row.touched.items row.logs.items c.args.room.now c.requires.taken c.requires.stands.owned

own_log : (g : Over) (c : After-at_mut-log g) → IsOwned c.args.tid c.args.self.now.lock.committed (g.L.EdgeLog.content c.at_mut-log.result.now c.args.room.now)
own_log g c =
    subst (λ log. IsOwned c.args.tid c.args.self.now.lock.committed (g.L.EdgeLog.content log c.args.room.now)) (sym c.at_mut-log.ensures.value)
    ((owned g c).owned c.in-Some.n c.at_mut-log.result.now (within g c))

-- the label's log is the one that is asked
asked : (g : Over) (c : After-at_mut-log g) → log_at (labelled_in g.L.EdgeLog.content c.args.self.now.index c.args.self.now.logs.items c.args.room.now) c.args.l ≡ g.L.EdgeLog.content c.at_mut-log.result.now c.args.room.now
asked g c =
    let row = c.args.self.now in
    let at = place g c in
    log_at-labelled g.L.EdgeLog.content c.args.l row.index row.logs.items c.args.room.now c.in-Some.n c.at_mut-log.result.now at.0 at.1 c.requires.stands.labelled
    ∙ ap (λ log. g.L.EdgeLog.content log c.args.room.now) (sym c.at_mut-log.ensures.value)

pub put_first-requires-clause-owned : goal.put_first-requires-clause-owned
put_first-requires-clause-owned g c =
    let row = c.args.self.now in
    owned_taken g.L.EdgeLog.content row.lock.owner row.lock.committed c.args.tid c.args.read row.lock.committed row.touched.items row.logs.items c.args.room.now c.requires.taken c.requires.stands.owned

pub returns-in_default-clause-full : goal.returns-in_default-clause-full
returns-in_default-clause-full g c =
    let row = c.args.self.now in
    let none = no_place c.args.l row.index (sym c.row.ensures ∙ c.in_default.is) in
    let size : edge_size c.args.p.now ≡ sizes (log_at (labelled_in g.L.EdgeLog.content row.index row.logs.items c.args.room.now) c.args.l).entries + edge_size c.args.p.now =
    rw (log_at-no_label g.L.EdgeLog.content c.args.l row.index row.logs.items c.args.room.now none) (omega arith) in
    subst (λ (k : ℕ). (c.put_first.result ≡ Err LogFull) ↔ (c.args.self.now.log_most < k)) size c.put_first.ensures.full

pub returns-in_default-clause-replaced : goal.returns-in_default-clause-replaced
returns-in_default-clause-replaced g c =
    let row = c.args.self.now in
    let none = no_place c.args.l row.index (sym c.row.ensures ∙ c.in_default.is) in
    rw (log_at-no_label g.L.EdgeLog.content c.args.l row.index row.logs.items c.args.room.now none) c.put_first.ensures.replaced

-- the size is that of the label's log, and the limit that of each log of a row
full : (g : Over) (c : After-at_mut-log g) (A : Type 0) (n : ℕ) → (A ↔ (g.L.EdgeLog.limit c.at_mut-log.result.now < sizes (g.L.EdgeLog.content c.at_mut-log.result.now c.args.room.now).entries + n)) →
    A ↔ (c.args.self.now.log_most < sizes (log_at (labelled_in g.L.EdgeLog.content c.args.self.now.index c.args.self.now.logs.items c.args.room.now) c.args.l).entries + n)
full g c A n told =
    let m = g.L.EdgeLog in
    let y = c.at_mut-log.result.now in
    let limit : m.limit y ≡ c.args.self.now.log_most = ap m.limit c.at_mut-log.ensures.value ∙ c.requires.stands.logs.limits c.in-Some.n y (within g c) in
    subst (λ (k : ℕ). A ↔ (k < sizes (log_at (labelled_in m.content c.args.self.now.index c.args.self.now.logs.items c.args.room.now) c.args.l).entries + n)) limit
    (subst (λ (log : LogContent). A ↔ (m.limit y < sizes log.entries + n)) (sym (asked g c)) told)

err_is : {T E : Type 0} (r : Result T E) (e : E) → IsErrAnd r (λ x. x ≡ e) → r ≡ Err e
err_is (Ok x) e told = absurd told
err_is (Err x) e told = ap Err told

pub returns-in_err-replaced-clause-full : goal.returns-in_err-replaced-clause-full
returns-in_err-replaced-clause-full g c =
    let same : c.from_residual.result ≡ Err c.in_err-replaced.field-0.0 = err_is c.from_residual.result c.in_err-replaced.field-0.0 c.from_residual.ensures.1 in
    subst (λ r. (r ≡ Err LogFull) ↔ (c.args.self.now.log_most < sizes (log_at (labelled_in g.L.EdgeLog.content c.args.self.now.index c.args.self.now.logs.items c.args.room.now) c.args.l).entries + edge_size c.args.p.now))
    (c.in_err-replaced.was ∙ sym same)
    (full g (goal.at.returns-in_err-replaced-clause-full g c).After-at_mut-log (c.put_edge.result ≡ Err LogFull) (edge_size c.args.p.now) c.put_edge.ensures.full)

pub returns-clause-full : goal.returns-clause-full
returns-clause-full g c =
    subst (λ r. (r ≡ Err LogFull) ↔ (c.args.self.now.log_most < sizes (log_at (labelled_in g.L.EdgeLog.content c.args.self.now.index c.args.self.now.logs.items c.args.room.now) c.args.l).entries + edge_size c.args.p.now))
    c.in_ok-replaced.was
    (full g (goal.at.returns-clause-full g c).After-at_mut-log (c.put_edge.result ≡ Err LogFull) (edge_size c.args.p.now) c.put_edge.ensures.full)

pub put_edge-requires-clause-ends_never : goal.put_edge-requires-clause-ends_never
put_edge-requires-clause-ends_never g c =
    let at = (goal.at.put_edge-requires-clause-ends_never g c).After-at_mut-log in
    owned-ends_never c.args.tid c.args.self.now.lock.committed c.args.read (g.L.EdgeLog.content c.at_mut-log.result.now c.args.room.now) c.requires.snapshot (own_log g at)

pub returns-in_err-replaced-clause-stands : goal.returns-in_err-replaced-clause-stands
returns-in_err-replaced-clause-stands g c =
    let at = (goal.at.returns-in_err-replaced-clause-stands g c).After-at_mut-log in
    let m = g.L.EdgeLog in
    let row = c.args.self.now in
    let logs = row.logs.items in
    let n = c.in-Some.n in
    let x = c.put_edge.new.log in
    let y = c.at_mut-log.result.now in
    let new = c.put_edge.new.room in
    let same = c.in_err-replaced.ensures.unchanged.0 in
    record {
      most = c.requires.stands.most;
      labelled = c.requires.stands.labelled ∙ sym (length-set logs n x);
      logs = logs-moved m.stands m.footprint m.content m.spare m.limit (m.blocks_out c.args.room.now) logs c.args.room.now new n x y c.requires.stands.logs (within g at) c.at_mut-log.ensures.value c.put_edge.ensures.stands c.put_edge.ensures.limit c.put_edge.ensures.apart (λ log stands. g.met.L.EdgeLog.lies_out log c.args.room.now stands) c.put_edge.ensures.keeps_logs;
      owned = rw c.in_err-replaced.ensures.unchanged.1 (owned_by_same m.content row.lock.owner row.lock.committed row.touched.items logs (set logs n x) c.args.room.now new (length-set logs n x)
          (contents-set m.stands m.footprint m.content m.spare m.limit (λ (content : LogContent). content) logs c.args.room.now new n x y c.requires.stands.logs (within g at) c.at_mut-log.ensures.value c.put_edge.ensures.keeps_logs same) c.requires.stands.owned);
    }

told_err : {T E P : Type 0} (r : Result T E) → P → OnErr r P
told_err (Ok x) p = tt
told_err (Err e) p = p

pub returns-in_err-replaced-clause-unchanged : goal.returns-in_err-replaced-clause-unchanged
returns-in_err-replaced-clause-unchanged g c =
    let at = (goal.at.returns-in_err-replaced-clause-unchanged g c).After-at_mut-log in
    let m = g.L.EdgeLog in
    let row = c.args.self.now in
    let logs = row.logs.items in
    let n = c.in-Some.n in
    let x = c.put_edge.new.log in
    let y = c.at_mut-log.result.now in
    let new = c.put_edge.new.room in
    let same = c.in_err-replaced.ensures.unchanged.0 in
    let labelled = labelled-same m.content row.index logs (set logs n x) c.args.room.now new (length-set logs n x)
    (contents-set m.stands m.footprint m.content m.spare m.limit (λ (content : LogContent). content) logs c.args.room.now new n x y c.requires.stands.logs (within g at) c.at_mut-log.ensures.value c.put_edge.ensures.keeps_logs same) in
    told_err c.from_residual.result (rw labelled)

pub returns-in_err-replaced-clause-apart : goal.returns-in_err-replaced-clause-apart
returns-in_err-replaced-clause-apart g c =
    let at = (goal.at.returns-in_err-replaced-clause-apart g c).After-at_mut-log in
    row_stays_apart g.L.EdgeLog.footprint (g.L.EdgeLog.blocks_out c.args.room.now) c.args.self.now.logs.items c.in-Some.n c.put_edge.new.log c.at_mut-log.result.now (within g at) c.at_mut-log.ensures.value c.put_edge.ensures.apart

pub returns-clause-stands : goal.returns-clause-stands
returns-clause-stands g c =
    let at = (goal.at.returns-clause-stands g c).After-at_mut-log in
    let m = g.L.EdgeLog in
    let row = c.args.self.now in
    let logs = row.logs.items in
    let n = c.in-Some.n in
    let x = c.put_edge.new.log in
    let y = c.at_mut-log.result.now in
    let new = c.put_edge.new.room in
    let e = row.lock.committed in
    let content : IsOwned c.args.tid e (m.content x new) = subst (IsOwned c.args.tid e) (sym c.in_ok-replaced.ensures.written)
    (owned-appended c.args.tid e c.args.d c.args.p.now (ended_log c.args.d c.args.read c.args.tid (m.content y c.args.room.now)) (owned-ended_log c.args.tid e c.args.d c.args.read (m.content y c.args.room.now) (own_log g at))) in
    record {
      most = c.requires.stands.most;
      labelled = c.requires.stands.labelled ∙ sym (length-set logs n x);
      logs = logs-moved m.stands m.footprint m.content m.spare m.limit (m.blocks_out c.args.room.now) logs c.args.room.now new n x y c.requires.stands.logs (within g at) c.at_mut-log.ensures.value c.put_edge.ensures.stands c.put_edge.ensures.limit c.put_edge.ensures.apart (λ log stands. g.met.L.EdgeLog.lies_out log c.args.room.now stands) c.put_edge.ensures.keeps_logs;
      owned = rw c.in_ok-replaced.ensures.noted
          (owned-touched m.stands m.footprint m.content m.spare m.limit c.args.tid e row.touched.items logs c.args.room.now new n x y c.requires.stands.logs (within g at) c.at_mut-log.ensures.value c.put_edge.ensures.keeps_logs (owned g at) content);
    }

pub returns-clause-written : goal.returns-clause-written
returns-clause-written g c =
    let at = (goal.at.returns-clause-written g c).After-at_mut-log in
    let m = g.L.EdgeLog in
    let row = c.args.self.now in
    let logs = row.logs.items in
    let n = c.in-Some.n in
    let x = c.put_edge.new.log in
    let y = c.at_mut-log.result.now in
    let new = c.put_edge.new.room in
    let label = place g at in
    let labelled = labelled-set m.content c.args.l row.index logs c.args.room.now new n x label.0 label.1 c.requires.stands.labelled
    (others_same m.stands m.footprint m.content m.spare m.limit logs c.args.room.now new n y c.requires.stands.logs (within g at) c.at_mut-log.ensures.value c.put_edge.ensures.keeps_logs) in
    let log : m.content x new ≡ with_appended c.args.tid c.args.d c.args.p.now (ended_log c.args.d c.args.read c.args.tid (log_at (labelled_in m.content row.index logs c.args.room.now) c.args.l)) =
    c.in_ok-replaced.ensures.written ∙ ap (λ (log : LogContent). with_appended c.args.tid c.args.d c.args.p.now (ended_log c.args.d c.args.read c.args.tid log)) (sym (asked g at)) in
    rw (labelled, log)

pub returns-clause-replaced : goal.returns-clause-replaced
returns-clause-replaced g c =
    c.in_ok-replaced.ensures.replaced ∙ ap (λ (log : LogContent). is_some (pair_to c.args.d (shown log.entries c.args.read (Txn c.args.tid)))) (sym (asked g (goal.at.returns-clause-replaced g c).After-at_mut-log))

pub returns-clause-apart : goal.returns-clause-apart
returns-clause-apart g c =
    let at = (goal.at.returns-clause-apart g c).After-at_mut-log in
    row_stays_apart g.L.EdgeLog.footprint (g.L.EdgeLog.blocks_out c.args.room.now) c.args.self.now.logs.items c.in-Some.n c.put_edge.new.log c.at_mut-log.result.now (within g at) c.at_mut-log.ensures.value c.put_edge.ensures.apart

pub returns-clause-keeps_logs : goal.returns-clause-keeps_logs
returns-clause-keeps_logs g c =
    let m = g.L.EdgeLog in
    keeps_logs-wide m.stands m.footprint m.content m.spare c.args.self.now.logs.items c.args.room.now c.put_edge.new.room c.in-Some.n c.at_mut-log.result.now (within g (goal.at.returns-clause-keeps_logs g c).After-at_mut-log) c.at_mut-log.ensures.value c.put_edge.ensures.keeps_logs

pub returns-clause-keeps_olds : goal.returns-clause-keeps_olds
returns-clause-keeps_olds g c =
    let m = g.L.EdgeLog in
    keeps_olds-wide m.old_stands m.old_footprint m.old_content m.footprint c.args.self.now.logs.items c.args.room.now c.put_edge.new.room c.in-Some.n c.at_mut-log.result.now (within g (goal.at.returns-clause-keeps_olds g c).After-at_mut-log) c.at_mut-log.ensures.value c.put_edge.ensures.keeps_olds

pub returns-in_err-replaced-clause-keeps_logs : goal.returns-in_err-replaced-clause-keeps_logs
returns-in_err-replaced-clause-keeps_logs g c =
    let m = g.L.EdgeLog in
    keeps_logs-wide m.stands m.footprint m.content m.spare c.args.self.now.logs.items c.args.room.now c.put_edge.new.room c.in-Some.n c.at_mut-log.result.now (within g (goal.at.returns-in_err-replaced-clause-keeps_logs g c).After-at_mut-log) c.at_mut-log.ensures.value c.put_edge.ensures.keeps_logs

pub returns-in_err-replaced-clause-keeps_olds : goal.returns-in_err-replaced-clause-keeps_olds
returns-in_err-replaced-clause-keeps_olds g c =
    let m = g.L.EdgeLog in
    keeps_olds-wide m.old_stands m.old_footprint m.old_content m.footprint c.args.self.now.logs.items c.args.room.now c.put_edge.new.room c.in-Some.n c.at_mut-log.result.now (within g (goal.at.returns-in_err-replaced-clause-keeps_olds g c).After-at_mut-log) c.at_mut-log.ensures.value c.put_edge.ensures.keeps_olds
