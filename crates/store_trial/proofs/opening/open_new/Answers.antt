use Rattle.std.proofs.Common.{[], true, ap}
use Rattle.graph_model.specs.Records.{list_most}
use Rattle.store_log.specs.LogValues.{found_on}
use Rattle.store_opening.specs.Opened.{start_with}
use Rattle.turn_board.specs.Board.{known}
use Rattle.store_trial.proofs.Hands.{base_of_none, fresh_base, fresh_last}
use Rattle.store_trial.proofs.opening.open_new.Goals as goal

pub returns : goal.returns
returns g c =
    let disk = c.in-Ok.wal.disk in
    let base = c.empty_base-base.result in
    let pass = c.in-Ok-open_seat.pass in
    let start = start_with base list_most (found_on g.D.Disk.told g.D.Disk.faults disk (record { since = g.D.Disk.moment disk; base = []; epoch = 0; no_rest = true })) c.args.shards in
    let fresh = ap (λ m. m.0) c.in-Ok-open_seat.ensures.pass in
    record {
      free = (c.in-Ok-open_seat.ensures.stands, fresh_base start (known pass) fresh (base_of_none (g.D.Disk.told disk) base c.empty_base-base.ensures));
      last = fresh_last start (known pass) fresh;
    }
