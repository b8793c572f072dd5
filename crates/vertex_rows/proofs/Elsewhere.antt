-- A row while what changes in its room is apart from its blocks.
use Rattle.std.proofs.Common.{◌≡◌, ℕ, suc, ◌<◌, List, [], ◌∷◌, length, get_or, refl, ap, arith}
use Rattle.std.specs.Prelude.{Contains}
use Rattle.std.proofs.lemmas.List.Elements.{All-append, All-nil}
use Rattle.edge_log.specs.Rooms.{Block, AreApart, AreAmong, KeepsLogs}
use Rattle.edge_log.specs.Contents.{LogContent}
use Rattle.edge_log.proofs.BlockLemmas.{apart_sym}
use Rattle.core_rows.specs.Rows.{LabelLog}
use Rattle.vertex_rows.specs.declared.vertex_row.VertexRow.{VertexRow}
use Rattle.vertex_rows.specs.Blocks.{footprints_of}
use Rattle.vertex_rows.specs.RowIn.{row_over, row_blocks, IsRowIn}
use Rattle.vertex_rows.proofs.Logs.{apart_part}
use Rattle.vertex_rows.proofs.RowLogs.{labelled-same, owned_by_same}

-- The blocks of all logs are among those that each log's are among.
footprints_among : {L : Type 0} (footprint : L → List Block) (out : List Block) (logs : List L) → ((n : ℕ) (d : L) → n < length logs → AreAmong (footprint (get_or logs n d)) out) → AreAmong (footprints_of footprint logs) out
footprints_among footprint out [] each = All-nil (Contains out)
footprints_among footprint out (x ∷ logs) each =
    All-append (Contains out) (footprint x) (footprints_of footprint logs) (each 0 x (omega arith)) (footprints_among footprint out logs (λ n d lt. each (suc n) d (omega (arith, lt))))

-- A row lies in blocks that are out, where each log does.
pub row_lies_out : {L R : Type 0} (stands : L → R → Type 0) (footprint : L → List Block) (content : L → R → LogContent) (limit : L → ℕ) (out : List Block) (row : VertexRow L) (room : R) →
    ((log : L) → stands log room → AreAmong (footprint log) out) → IsRowIn stands footprint content limit row room → AreAmong (row_blocks footprint row) out
row_lies_out stands footprint content limit out row room lies is =
    footprints_among footprint out row.logs.items (λ n d lt. lies (get_or row.logs.items n d) (is.logs.stand n d lt))

-- Where what changes is apart from its blocks, a row stands as it did.
pub row_stays : {L R : Type 0} (stands : L → R → Type 0) (footprint : L → List Block) (content : L → R → LogContent) (spare : L → R → ℕ) (limit : L → ℕ) (blocks : List Block) (row : VertexRow L) (room new : R) →
    KeepsLogs stands footprint content spare blocks room new → AreApart blocks (row_blocks footprint row) → IsRowIn stands footprint content limit row room →
    IsRowIn stands footprint content limit row new × (row_over content row new ≡ row_over content row room)
row_stays {L} {R} stands footprint content spare limit blocks row room new keeps apart is = (
  record {
    labelled = is.labelled;
    logs = record { stand = λ n d lt. (stays n d lt).0; apart = is.logs.apart; limits = is.logs.limits };
    most = is.most;
    owned = owned_by_same content row.lock.owner row.lock.committed row.touched.items row.logs.items row.logs.items room new refl (λ n d lt. (stays n d lt).1) is.owned;
  },
  ap (λ (xs : List LabelLog). record { owner = row.lock.owner; committed = row.lock.committed; versions = row.versions; logs = xs }) (labelled-same content row.index row.logs.items row.logs.items room new refl (λ n d lt. (stays n d lt).1)),
)
  where
    stays : (n : ℕ) (d : L) → n < length row.logs.items → stands (get_or row.logs.items n d) new × (content (get_or row.logs.items n d) new ≡ content (get_or row.logs.items n d) room) × (spare (get_or row.logs.items n d) new ≡ spare (get_or row.logs.items n d) room)
    stays n d lt = keeps (get_or row.logs.items n d) (is.logs.stand n d lt) (apart_sym (footprint (get_or row.logs.items n d)) blocks (apart_part footprint row.logs.items blocks n d lt (apart_sym blocks (footprints_of footprint row.logs.items) apart)))
