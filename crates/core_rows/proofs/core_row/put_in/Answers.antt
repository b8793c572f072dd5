-- The log of the label is written where it stands, or made.
use Rattle.std.proofs.Common.{◌∙◌, sym, ap, arith}
use Rattle.std.specs.Ordering.{nat_cmp}
use Rattle.std.specs.BTreeMap.{insert_entry}
use Rattle.edge_log.specs.Contents.{with_appended}
use Rattle.core_rows.specs.Rows.{with_log, ended_log}
use Rattle.core_rows.specs.LogMap.{logs_of}
use Rattle.core_rows.proofs.LogLists.{log_at-some, log_at-none, written-through, unchanged-through, logs-insert}
use Rattle.core_rows.proofs.core_row.put_in.Goals as goal

pub returns-in-Some-clause-full : goal.returns-in-Some-clause-full
returns-in-Some-clause-full c = rw (log_at-some c.args.l c.args.logs.now.entries c.in-Some.log.now (sym c.in-Some.ensures.value)) c.put.ensures.full

pub returns-in-Some-clause-written : goal.returns-in-Some-clause-written
returns-in-Some-clause-written c =
    let at = sym c.in-Some.ensures.value in
    rw (log_at-some c.args.l c.args.logs.now.entries c.in-Some.log.now at)
    (written-through c.put.result c.args.logs.now.entries _ c.args.l c.in-Some.log.now c.put.new.self _ c.requires at (c.get_mut.follows.holds c.put.new.self).0 c.put.ensures.written)

pub returns-in-Some-clause-replaced : goal.returns-in-Some-clause-replaced
returns-in-Some-clause-replaced c = rw (log_at-some c.args.l c.args.logs.now.entries c.in-Some.log.now (sym c.in-Some.ensures.value)) c.put.ensures.replaced

pub returns-in-Some-clause-unchanged : goal.returns-in-Some-clause-unchanged
returns-in-Some-clause-unchanged c =
    unchanged-through c.put.result c.args.logs.now.entries _ c.args.l c.in-Some.log.now c.put.new.self (sym c.in-Some.ensures.value) (c.get_mut.follows.holds c.put.new.self).0 c.put.ensures.unchanged

pub returns-in_err-log-clause-full : goal.returns-in_err-log-clause-full
returns-in_err-log-clause-full c =
    let within = c.new.ensures.within in
    rw (log_at-none c.args.l c.args.logs.now.entries (sym c.in_default.ensures.value)) (grind (arith, within, c.from_residual.ensures))

pub returns-in_err-replaced-clause-full : goal.returns-in_err-replaced-clause-full
returns-in_err-replaced-clause-full c =
    let within = c.new.ensures.within in
    rw (log_at-none c.args.l c.args.logs.now.entries (sym c.in_default.ensures.value)) (grind (arith, within, c.from_residual-in_err-replaced.ensures, c.in_err-replaced.ensures.full, c.in_ok-log.ensures.empty))

pub returns-in-Ok-clause-full : goal.returns-in-Ok-clause-full
returns-in-Ok-clause-full c =
    let within = c.new.ensures.within in
    rw (log_at-none c.args.l c.args.logs.now.entries (sym c.in_default.ensures.value)) (λ e. (cc), λ lt. absurd (omega (arith, within)))

pub returns-in-Ok-clause-written : goal.returns-in-Ok-clause-written
returns-in-Ok-clause-written c =
    let es = c.args.logs.now.entries in
    let wrote = c.in-Ok.ensures.entries ∙ ap (λ m. insert_entry nat_cmp m.entries c.args.l c.put-2.new.self) c.get_mut.follows.holds-at-none in
    let made = c.in_ok-replaced.ensures.written ∙ ap (λ log. with_appended c.args.tid c.args.d c.args.p.now (ended_log c.args.d c.args.read c.args.tid log)) c.in_ok-log.ensures.empty in
    rw (log_at-none c.args.l es (sym c.in_default.ensures.value))
    (ap logs_of wrote ∙ logs-insert es c.args.l c.put-2.new.self ∙ ap (λ log. with_log (record { label = c.args.l; log = log }) (logs_of es)) made)

pub returns-in-Ok-clause-replaced : goal.returns-in-Ok-clause-replaced
returns-in-Ok-clause-replaced c =
    let empty = c.in_ok-log.ensures.empty in
    rw (log_at-none c.args.l c.args.logs.now.entries (sym c.in_default.ensures.value)) (rw empty at c.in_ok-replaced.ensures.replaced)

pub returns-clause-full : goal.returns-clause-full
returns-clause-full c =
    let within = c.new.ensures.within in
    rw (log_at-none c.args.l c.args.logs.now.entries (sym c.in_default.ensures.value)) (λ e. (cc), λ lt. absurd (omega (arith, within)))
