-- The row that logs in a room make with their labels, and when it stands there.
use Rattle.std.specs.Prelude.{◌≡◌, ℕ, ◌<◌, ◌≤◌, List, [], ◌∷◌, length, get_or, Option, Some, None}
use Rattle.graph_model.specs.Records.{list_most}
use Rattle.edge_log.specs.Rooms.{Block}
use Rattle.edge_log.specs.Contents.{LogContent}
use Rattle.core_rows.specs.Rows.{Row, LabelLog, with_log}
use Rattle.vertex_rows.specs.declared.vertex_row.VertexRow.{VertexRow}
use Rattle.vertex_rows.specs.Blocks.{AreLogs, footprints_of}
use Rattle.vertex_rows.specs.Owned.{AreOwned, IsAllPast}

-- the logs under their labels
abbrev pub labelled_in : {L R : Type 0} → (L → R → LogContent) → List ℕ → List L → R → List LabelLog
labelled_in content [] logs room = []
labelled_in content (l ∷ labels) [] room = []
labelled_in content (l ∷ labels) (x ∷ logs) room = with_log (record { label = l; log = content x room }) (labelled_in content labels logs room)

-- The row that a vertex has in a room.
abbrev pub row_over : {L R : Type 0} → (L → R → LogContent) → VertexRow L → R → Row
row_over content row room = record { owner = row.lock.owner; committed = row.lock.committed; versions = row.versions; logs = labelled_in content row.index row.logs.items room }

-- Of a free row everything is past; of a row that a transaction owns, what is private is the owner's and stands in touched logs.
abbrev pub OwnedBy : {L R : Type 0} → (L → R → LogContent) → Option ℕ → ℕ → List ℕ → List L → R → Type 0
OwnedBy {L} content None e touched logs room = (touched ≡ []) × ((n : ℕ) (d : L) → n < length logs → IsAllPast e (content (get_or logs n d) room))
OwnedBy content (Some t) e touched logs room = AreOwned content t e touched logs room

-- A row stands in a room, and its logs may grow no further than a record may.
pub record IsRowIn {L R : Type 0} (stands : L → R → Type 0) (footprint : L → List Block) (content : L → R → LogContent) (limit : L → ℕ) (row : VertexRow L) (room : R) : Type 0 where
  pub labelled : length row.index ≡ length row.logs.items
  pub logs : AreLogs stands footprint limit row.log_most row.logs.items room
  pub most : row.log_most ≤ list_most
  pub owned : OwnedBy content row.lock.owner row.lock.committed row.touched.items row.logs.items room

-- the blocks of a row
abbrev pub row_blocks : {L : Type 0} → (L → List Block) → VertexRow L → List Block
row_blocks footprint row = footprints_of footprint row.logs.items
