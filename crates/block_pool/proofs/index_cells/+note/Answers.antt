use Rattle.std.proofs.Common.{◌<◌, sym, ap, ◌∙◌, subst, arith}
use Rattle.block_pool.specs.Index.{leaves_of, IsIndex}
use Rattle.block_pool.proofs.CellSteps.{room_upper}
use Rattle.block_pool.proofs.TakeSteps.{long_upper}
use Rattle.block_pool.proofs.IndexSteps.{place_upper, index_upper, noted_lower, noted_upper}
use Rattle.block_pool.proofs.index_cells.+note.Goals as goal

pub note-requires-else-at-half : goal.note-requires-else-at-half
note-requires-else-at-half t c =
    let some : 0 < c.args.depth = omega arith in (
      omega arith,
      (
        omega arith,
        (
          place_upper c.args.depth c.power-half.result c.args.at some c.power-half.ensures c.requires.at c.if-at-half.false,
          (
            long_upper c.args.depth c.power-upper.result c.args.cells.now some c.power-upper.ensures c.requires.long,
            index_upper c.args.depth c.power-upper.result c.args.cells.now some c.power-upper.ensures c.requires.index,
          ),
        ),
      ),
    )

pub gather-requires-else-at-half-clause-lower : goal.gather-requires-else-at-half-clause-lower
gather-requires-else-at-half-clause-lower t c =
    (room_upper c.args.depth c.power-upper.result c.args.cells.now c.note-else-at-half.new.cells (omega arith) c.power-upper.ensures c.requires.long c.note-else-at-half.auto.cells).0

pub gather-requires-else-at-half-clause-upper : goal.gather-requires-else-at-half-clause-upper
gather-requires-else-at-half-clause-upper t c =
    (room_upper c.args.depth c.power-upper.result c.args.cells.now c.note-else-at-half.new.cells (omega arith) c.power-upper.ensures c.requires.long c.note-else-at-half.auto.cells).1

pub returns-then-at-half-clause-index : goal.returns-then-at-half-clause-index
returns-then-at-half-clause-index t c =
    subst (IsIndex c.args.depth) (sym c.gather.ensures)
    (noted_lower c.args.depth c.power-upper.result c.args.at c.args.cell c.args.cells.now c.note.new.cells (omega arith) c.power-upper.ensures c.requires.long c.note.auto.cells (omega (arith, c.power-half.ensures)) c.requires.index c.note.ensures.index c.note.ensures.leaves).0

pub returns-then-at-half-clause-leaves : goal.returns-then-at-half-clause-leaves
returns-then-at-half-clause-leaves t c =
    ap (leaves_of c.args.depth) c.gather.ensures
    ∙ (noted_lower c.args.depth c.power-upper.result c.args.at c.args.cell c.args.cells.now c.note.new.cells (omega arith) c.power-upper.ensures c.requires.long c.note.auto.cells (omega (arith, c.power-half.ensures)) c.requires.index c.note.ensures.index c.note.ensures.leaves).1

pub returns-else-at-half-clause-index : goal.returns-else-at-half-clause-index
returns-else-at-half-clause-index t c =
    subst (IsIndex c.args.depth) (sym c.gather-else-at-half.ensures)
    (noted_upper c.args.depth c.power-upper.result c.power-half.result c.args.at c.args.cell c.args.cells.now c.note-else-at-half.new.cells (omega arith) c.power-upper.ensures c.power-half.ensures c.requires.long c.note-else-at-half.auto.cells c.if-at-half.false c.requires.index
    c.note-else-at-half.ensures.index c.note-else-at-half.ensures.leaves).0

pub returns-else-at-half-clause-leaves : goal.returns-else-at-half-clause-leaves
returns-else-at-half-clause-leaves t c =
    ap (leaves_of c.args.depth) c.gather-else-at-half.ensures
    ∙ (noted_upper c.args.depth c.power-upper.result c.power-half.result c.args.at c.args.cell c.args.cells.now c.note-else-at-half.new.cells (omega arith) c.power-upper.ensures c.power-half.ensures c.requires.long c.note-else-at-half.auto.cells c.if-at-half.false c.requires.index
    c.note-else-at-half.ensures.index c.note-else-at-half.ensures.leaves).1
