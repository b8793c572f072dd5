-- A new shard keeps no row.
use Rattle.std.proofs.Common.{rules, ap}
use Rattle.shard_state.specs.Shards.{row_kept}
use Rattle.shard_state.proofs.OneRow.{none_stand}
use Rattle.shard_state.proofs.shard.Shard+L+L+Room.new.Goals as goal

pub returns-clause-shard : goal.returns-clause-shard
returns-clause-shard g c =
    let m = g.L.EdgeLog in
    record {
      among = c.requires.among;
      most = c.requires.most;
      rows = none_stand m.stands m.footprint m.content m.limit c.args.log_most c.new-2.result c.args.room c.new-2.ensures;
      part = search rules;
    }

pub returns-clause-fresh : goal.returns-clause-fresh
returns-clause-fresh g c v = ap (λ o. row_kept g.L.EdgeLog.content o c.args.room) (c.new-2.ensures _)
