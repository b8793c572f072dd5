use Rattle.std.proofs.Common.{length, ap, arith}
use Rattle.io_edges.proofs.Appending.{Appended-AppendedPart, Appended-part, AppendedPart-either, AppendedPart-more, AppendedPart-same}
use Rattle.io_edges.specs.OutBuffer.{Buffered}
use Rattle.io_edges.proofs.out_buffer.OutBufferOutlet.put.Goals as goal
use Rattle.io_edges.proofs.out_buffer.OutBufferOutlet.put.Goals.{then-bytes-spare+in_ok-flush, else-bytes-spare}

-- A piece that does not fit the empty buffer follows the pending bytes, which the sink has. Without a flush
-- the piece fits, so there is no such case.
pub returns-then-bytes-spare-2-clause-part : goal.returns-then-bytes-spare-2-clause-part
returns-then-bytes-spare-2-clause-part g c =
    elim c.if-bytes-spare.branch [
      | then-bytes-spare+in_ok-flush w ↦
          Appended-AppendedPart _ _ _ _ _ (rw w.sink-is w.in_ok-flush.ensures.flushed)
          (AppendedPart-either c.write_all.result _ _ _ c.write_all.ensures.written c.write_all.ensures.part)
      | else-bytes-spare w ↦
          absurd (omega (arith, ap (λ (b : Buffered). length b.pending) w.self-is, ap (λ (b : Buffered). b.room) w.self-is))
    ]

-- The sink has the pending bytes where they were flushed, and nothing new where they were not.
pub returns-clause-part : goal.returns-clause-part
returns-clause-part g c =
    elim c.if-bytes-spare.branch [
      | then-bytes-spare+in_ok-flush w ↦
          rw w.sink-is (AppendedPart-more _ _ _ _ (Appended-part _ _ _ w.in_ok-flush.ensures.flushed))
      | else-bytes-spare w ↦ rw w.sink-is (AppendedPart-same _ _)
    ]
