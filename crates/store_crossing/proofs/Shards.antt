-- The value of a shard's turn may go to another thread, and threads may share it: part by part, from its rows on.
use denote.RattleType.{RattleType}
use denote.Struct.Declared as declared
use denote.Param.Send.{IsSend, IsSync, AllSend, AllSync, sendable, struct_send, struct_sync, recorded_send, recorded_sync, view_send, view_sync}
use Rattle.std.proofs.Common.{rules}
use Rattle.std.proofs.Crossing.{crosses}
use Rattle.std.proofs.MapsCrossing as maps
use Rattle.std.specs.contracts.snapshot.Snapshot as Snapshot
use Rattle.graph_model.specs.contracts.graph.Base as Base
use Rattle.label_index.proofs.label_index.LabelIndex.TheSendSync as labels
use Rattle.vertex_versions.proofs.versions.Versions.TheSendSync as versions
use Rattle.row_logs.proofs.row_logs.RowLogs.TheSendSync as logs
use Rattle.vertex_rows.specs.contracts.vertex_row.VertexRow as Row
use Rattle.number_map.specs.contracts.number_map.NumberMap as Numbers
use Rattle.edge_log.proofs.part.Part.TheSendSync as part
use Rattle.shard_state.specs.contracts.shard.Shard as Shard
use Rattle.tel_block.specs.contracts.log.TelBlock as Log
use Rattle.tel_block.proofs.log.TelBlock.TheSendSync as log
use Rattle.block_pool.specs.contracts.pool.Pool as Pool
use Rattle.store_rows.specs.contracts.shard_home.ShardHome as Home

row_send : (L : RattleType) → IsSend L → IsSend (Row.the_row L)
row_send L s = search (sendable, crosses, labels.the_send, versions.the_send, logs.the_send) depth 40 fits 5000

row_sync : (L : RattleType) → IsSync L → IsSync (Row.the_row L)
row_sync L s = search (sendable, crosses, labels.the_sync, versions.the_sync, logs.the_sync) depth 40 fits 5000

numbers_send : (T : RattleType) → IsSend T → IsSend (Numbers.the_field T).row
numbers_send T s = search (sendable, crosses, maps.crosses) depth 40 fits 5000

numbers_sync : (T : RattleType) → IsSync T → IsSync (Numbers.the_field T).row
numbers_sync T s = search (sendable, crosses, maps.crosses) depth 40 fits 5000

pool_send : IsSend Pool.the_row
pool_send = search (rules, sendable, crosses) depth 40 fits 5000

pool_sync : IsSync Pool.the_row
pool_sync = search (rules, sendable, crosses) depth 40 fits 5000

shard_send : (L R : RattleType) → IsSend L → IsSend R → IsSend (Shard.the_field L R).row
shard_send L R s t =
    let rows : IsSend (Numbers.the_field (Row.the_row L)).row = numbers_send (Row.the_row L) (row_send L s) in
    let fields : AllSend (declared.shape (Shard.the_type L R)).fields =
    (search sendable depth 20, (search sendable depth 20, (search sendable depth 20, (search sendable depth 20, (rows, (t, (part.the_send, tt))))))) in
    struct_send (declared.shape (Shard.the_type L R)) fields

shard_sync : (L R : RattleType) → IsSync L → IsSync R → IsSync (Shard.the_field L R).row
shard_sync L R s t =
    let rows : IsSync (Numbers.the_field (Row.the_row L)).row = numbers_sync (Row.the_row L) (row_sync L s) in
    let fields : AllSync (declared.shape (Shard.the_type L R)).fields =
    (search sendable depth 20, (search sendable depth 20, (search sendable depth 20, (search sendable depth 20, (rows, (t, (part.the_sync, tt))))))) in
    struct_sync (declared.shape (Shard.the_type L R)) fields

snapshot_send : IsSend (Snapshot.the_row Base.the_row)
snapshot_send = search (sendable, crosses) depth 20

snapshot_sync : IsSync (Snapshot.the_row Base.the_row)
snapshot_sync = search (sendable, crosses) depth 20

pub home_send : IsSend Home.the_row
home_send =
    let T = Home.TheInside.the_type in
    let fields : AllSend (declared.shape T).fields = (shard_send Log.the_row Pool.the_row log.the_send pool_send, (snapshot_send, tt)) in
    view_send _ _ _ _ _ (recorded_send _ _ T.to T.to_one (struct_send (declared.shape T) fields))

pub home_sync : IsSync Home.the_row
home_sync =
    let T = Home.TheInside.the_type in
    let fields : AllSync (declared.shape T).fields = (shard_sync Log.the_row Pool.the_row log.the_sync pool_sync, (snapshot_sync, tt)) in
    view_sync _ _ _ _ _ (recorded_sync _ _ T.to T.to_one (struct_sync (declared.shape T) fields))
