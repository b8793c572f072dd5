use Rattle.std.proofs.Common.{[], true, ap}
use Rattle.store_log.specs.LogValues.{found_on}
use Rattle.store_opening.specs.Opened.{start_with}
use Rattle.store_stories.proofs.Desks.{base_of_none, fresh_at_desk}
use Rattle.store_stories.proofs.desk.desk_over.Goals as goal

pub returns : goal.returns
returns g c =
    let disk = c.in-Ok.wal.disk in
    let base = c.empty_base-base.result in
    let start = start_with base c.args.settings.log_most (found_on g.D.Disk.told g.D.Disk.faults disk (record { since = g.D.Disk.moment disk; base = []; epoch = 0; no_rest = true })) c.args.settings.shards in
    record {
      at_desk = fresh_at_desk c.in-Ok-open.store.board.turns c.in-Ok-open.store.board.shards start c.in-Ok-open.pass c.new.result c.new-2.result
          c.in-Ok-open.ensures.stands c.in-Ok-open.ensures.told.1 (ap (λ m. m.0) c.in-Ok-open.ensures.pass) c.new.ensures c.new-2.ensures (base_of_none (g.D.Disk.told disk) base c.empty_base-base.ensures);
    }
