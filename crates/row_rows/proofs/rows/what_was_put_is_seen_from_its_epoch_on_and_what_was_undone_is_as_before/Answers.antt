use Rattle.std.proofs.Common.{◌≡◌, ap, arith}
use Rattle.core_rows.specs.Rows.{Row, lock_answer}
use Rattle.row_rows.proofs.rows.what_was_put_is_seen_from_its_epoch_on_and_what_was_undone_is_as_before.Goals as goal

pub put-requires-clause-stands : goal.put-requires-clause-stands
put-requires-clause-stands g c = c.new-row.ensures.stands tt

pub put-requires-clause-taken : goal.put-requires-clause-taken
put-requires-clause-taken g c = ap (λ (row : Row). lock_answer row 4 2) (c.new-row.ensures.fresh tt)

pub put-requires-clause-snapshot : goal.put-requires-clause-snapshot
put-requires-clause-snapshot g c =
    let none : c.new-row.result.lock.committed ≡ 0 = ap (λ (row : Row). row.committed) (c.new-row.ensures.fresh tt) in
    omega (arith, none)
