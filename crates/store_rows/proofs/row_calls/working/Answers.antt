use Rattle.store_rows.proofs.row_calls.working.Goals as goal

pub returns : goal.returns
returns c = record {
  work = c.in_ok-work.work.now;
  works = c.in_ok-work.ensures.some;
  tid = c.caller.ensures.0;
  read = c.caller.ensures.1;
  left = c.caller.ensures.2;
}
