-- What a shard keeps: the rows of its vertices, whose logs lie in one room.
use Rattle.std.specs.Prelude.{◌≡◌, ◌≢◌, ℕ, ◌<◌, ◌≤◌, ◌/◌, ◌%◌, Bool, true, false, ◌&&◌, not, List, Option, Some, None, IsSome}
use Rattle.graph_model.specs.Vertex.{Vertex}
use Rattle.graph_model.specs.Graph.{vertex_at}
use Rattle.graph_model.specs.Payload.{payload_most}
use Rattle.graph_model.specs.Records.{transaction_most, list_most}
use Rattle.stamps.specs.Stamps.{Txn}
use Rattle.edge_log.specs.Rooms.{Block, AreApart, KeepsLogs}
use Rattle.edge_log.specs.Contents.{LogContent}
use Rattle.vertex_locks.specs.declared.lock_row.LockRow.{LockRow}
use Rattle.vertex_locks.specs.declared.answer.Look.{Look}
use Rattle.vertex_locks.specs.declared.answer.Look.TheVariants.{Taken, Held, Conflict}
use Rattle.core_rows.specs.Rows.{Row, fresh_row, newest, is_there, lock_answer}
use Rattle.core_states.specs.RowEvents.{Limits}
use Rattle.number_map.specs.declared.number_map.NumberMap.{NumberMap}
use Rattle.number_map.specs.KeptAt.{kept_at}
use Rattle.vertex_rows.specs.declared.vertex_row.VertexRow.{VertexRow}
use Rattle.vertex_rows.specs.Blocks.{StaysApart}
use Rattle.vertex_rows.specs.RowIn.{row_over, row_blocks, IsRowIn}
use Rattle.shard_state.specs.declared.shard.Shard.{Shard}
use Rattle.shard_state.specs.declared.who.Who.{Who}

-- the row of a vertex that is kept, and that of one which was never there
abbrev pub row_kept : {L R : Type 0} → (L → R → LogContent) → Option (VertexRow L) → R → Row
row_kept content None room = fresh_row
row_kept content (Some row) room = row_over content row room

-- the row that stands at a place
abbrev pub row_in : {L R : Type 0} → (L → R → LogContent) → NumberMap (VertexRow L) → R → ℕ → Row
row_in content rows room n = row_kept content (kept_at rows n) room

-- the row of a vertex of the shard, which stands at the vertex divided by the number of shards
abbrev pub row_at : {L R : Type 0} → (L → R → LogContent) → Shard L R → ℕ → Row
row_at content shard v = row_in content shard.rows shard.room (v / shard.shards)

-- a vertex is one of the shard's
abbrev pub IsOf : {L R : Type 0} → ℕ → Shard L R → Type 0
IsOf v shard = v % shard.shards ≡ shard.number

-- The rows stand in the room, each with this limit, and each apart from the others.
pub record StandIn {L R : Type 0} (stands : L → R → Type 0) (footprint : L → List Block) (content : L → R → LogContent) (limit : L → ℕ) (most : ℕ) (rows : NumberMap (VertexRow L)) (room : R) : Type 0 where
  pub stand : (n : ℕ) (row : VertexRow L) → kept_at rows n ≡ Some row → IsRowIn stands footprint content limit row room
  pub limits : (n : ℕ) (row : VertexRow L) → kept_at rows n ≡ Some row → row.log_most ≡ most
  pub apart : (m n : ℕ) (a b : VertexRow L) → kept_at rows m ≡ Some a → kept_at rows n ≡ Some b → m ≢ n → AreApart (row_blocks footprint a) (row_blocks footprint b)

-- A shard is one of so many, its rows stand in its room, and its part has room for every payload.
pub record IsShard {L R : Type 0} (stands : L → R → Type 0) (footprint : L → List Block) (content : L → R → LogContent) (limit : L → ℕ) (shard : Shard L R) : Type 0 where
  pub among : shard.number < shard.shards
  pub most : shard.log_most ≤ list_most
  pub rows : StandIn stands footprint content limit shard.log_most shard.rows shard.room
  pub part : shard.part.bytes ≡ payload_most

-- The shard is the same one of as many, with the same limit, and each row that it kept it still keeps.
pub record SameShard {L R : Type 0} (old new : Shard L R) : Type 0 where
  pub number : new.number ≡ old.number
  pub shards : new.shards ≡ old.shards
  pub most : new.log_most ≡ old.log_most
  pub kept : (n : ℕ) → IsSome (kept_at old.rows n) → IsSome (kept_at new.rows n)

-- Of each vertex of the graph that is the shard's a row is kept.
abbrev pub HasLoaded : {L R : Type 0} → List Vertex → Shard L R → Type 0
HasLoaded graph shard = (v : ℕ) → IsOf v shard → IsSome (vertex_at v graph) → IsSome (kept_at shard.rows (v / shard.shards))

-- One row changes in the room: it stands there, with the limit that it had, in blocks that were its own or apart from all that others lie in, and the logs of others are as they were.
pub record ChangesAlone {L R : Type 0} (stands : L → R → Type 0) (footprint : L → List Block) (content : L → R → LogContent) (spare : L → R → ℕ) (limit : L → ℕ) (out : List Block) (row new : VertexRow L) (room after : R) : Type 0 where
  pub there : IsRowIn stands footprint content limit new after
  pub most : new.log_most ≡ row.log_most
  pub apart : StaysApart out (row_blocks footprint row) (row_blocks footprint new)
  pub keeps : KeepsLogs stands footprint content spare (row_blocks footprint row) room after

-- Each vertex of the shard but one has the row that it had.
abbrev pub KeepsRows : {L R : Type 0} → (L → R → LogContent) → ℕ → Shard L R → Shard L R → Type 0
KeepsRows content v old new = (w : ℕ) → IsOf w old → w ≢ v → row_at content new w ≡ row_at content old w

-- the lock is the row's
abbrev pub IsLockOf : LockRow → Row → Type 0
IsLockOf lock row = (lock.owner ≡ row.owner) × (lock.committed ≡ row.committed)

-- the limits of a store whose logs have so many bytes at most
abbrev pub limits_with : ℕ → Limits
limits_with most = record { txn = transaction_most; log = most }

-- the lock can be taken, or is the transaction's own
abbrev pub is_taken : Look → Bool
is_taken Taken = true
is_taken (Held u) = false
is_taken (Conflict e) = false

-- the transaction sees the vertex
abbrev pub sees_vertex : Who → Row → Bool
sees_vertex who row = is_there (newest row.versions who.read (Txn who.tid))

-- it sees the vertex and can't take it
abbrev pub must_look : Who → Row → Bool
must_look who row = sees_vertex who row && not (is_taken (lock_answer row who.tid who.read))

-- It may change the vertex: it need not look, and where it owns the vertex no commit after its snapshot changed it.
pub record MayChange (who : Who) (row : Row) : Type 0 where
  pub looked : must_look who row ≡ false
  pub snapshot : row.owner ≡ Some who.tid → row.committed ≤ who.read
