-- The new blocks are apart from all that were out, and the blocks that the log left are given back.
use Rattle.std.proofs.Common.{◌≡◌, ◌++◌, ap, sym, ◌∙◌, arith}
use Rattle.std.specs.Prelude.{sum_by}
use Rattle.std.proofs.lemmas.List.Sums.{sum_by-append}
use Rattle.std.proofs.lemmas.List.Sorted.{sum_by-IsPermutation}
use Rattle.edge_log.specs.Rooms.{TakesNew}
use Rattle.edge_log.proofs.BlockLemmas.{apart_sym, apart_among}
use Rattle.vertex_rows.proofs.one_log.make_room.Goals as goal

pub returns-in-Ok-Some-clause-apart : goal.returns-in-Ok-Some-clause-apart
returns-in-Ok-Some-clause-apart g c others among apart =
    let before = g.L.EdgeLog.blocks_out c.args.room.now in
    let new = g.L.EdgeLog.footprint c.prepare.new.self in
    let taken : TakesNew before (g.L.EdgeLog.blocks_out c.prepare.new.room) new = rw c.in-Ok-Some.field-0-is at c.in-Ok-Some.ensures.blocks in
    apart_sym others new (apart_among others before new among taken.apart)

pub returns-in-Ok-Some-clause-out : goal.returns-in-Ok-Some-clause-out
returns-in-Ok-Some-clause-out g c size =
    let m = g.L.EdgeLog in
    let before = m.blocks_out c.args.room.now in
    let between = m.blocks_out c.prepare.new.room in
    let after = m.blocks_out c.release.new.room in
    let old = m.footprint c.args.log.now in
    let new = m.footprint c.prepare.new.self in
    let taken : TakesNew before between new = rw c.in-Ok-Some.field-0-is at c.in-Ok-Some.ensures.blocks in
    let moved = rw c.in-Ok-Some.field-0-is at c.in-Ok-Some.ensures.moved in
    let out : sum_by size (new ++ before) ≡ sum_by size between = sum_by-IsPermutation size between (new ++ before) taken.out in
    let given : sum_by size (old ++ after) ≡ sum_by size between =
    ap (λ bs. sum_by size (bs ++ after)) (sym moved.2) ∙ sum_by-IsPermutation size between (m.old_footprint c.in-Ok-Some.left ++ after) c.release.ensures.given in
    let parts = sum_by-append size new before in
    let others = sum_by-append size old after in
    omega (arith, out, given, parts, others)
