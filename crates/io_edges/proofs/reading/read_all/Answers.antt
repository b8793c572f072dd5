use Rattle.std.proofs.Common.{[], arith}
use Rattle.io_edges.proofs.Taking.{HasRead-read, HasRead-too_long}
use Rattle.io_edges.proofs.reading.read_all.Goals as goal

-- the read put its bytes behind those that the buffer had
pub loop-buffer-preserved : goal.loop-buffer-preserved
loop-buffer-preserved g c = (
  omega arith,
  HasRead-read _ _ _ _ _ _ _ _ _ _ _ _ _ _ _ c.loop-buffer.invariant.1
      (rw c.deref_mut.ensures.value c.in_ok-make_room.ensures.kept) c.deref_mut.ensures.len
      (omega (arith, c.read.auto.buf, c.deref_mut.ensures.len))
      (omega (arith, c.in_ok-make_room.ensures.room)) c.in_ok-make_room.ensures.within
      c.in_ok-n.ensures.taken c.in_ok-n.ensures.count,
)

-- the same, and the buffer has no more than one byte too many
pub returns-then-at-most-clause-too_long : goal.returns-then-at-most-clause-too_long
returns-then-at-most-clause-too_long g c = λ _.
    HasRead-too_long _ _ _ _ _ _ _
    (HasRead-read _ _ _ _ _ _ _ _ _ _ _ _ _ [] [] c.loop-buffer.invariant.1
    (rw c.deref_mut.ensures.value c.in_ok-make_room.ensures.kept) c.deref_mut.ensures.len
    (omega (arith, c.read.auto.buf, c.deref_mut.ensures.len))
    (omega (arith, c.in_ok-make_room.ensures.room)) c.in_ok-make_room.ensures.within
    c.in_ok-n.ensures.taken c.in_ok-n.ensures.count)
    c.if-at-most.true
