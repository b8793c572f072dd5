use Rattle.std.proofs.Common.{◌≡◌, refl, arith}
use Rattle.edge_log.proofs.PlaceLemmas.{oldest_all, oldest_none}
use Rattle.log_reads.proofs.PartEdges.{no_pairs}
use Rattle.log_reads.proofs.reads.shows_any.Goals as goal

pub loop-place-init : goal.loop-place-init
loop-place-init g c =
    let entries = (g.L.EdgeLog.content c.args.log.now c.args.room.now).entries in
    let below = c.cursor-place.ensures.below c.args.room.now c.requires in
    record {
      bytes = refl;
      place = c.cursor-place.ensures.place c.args.room.now c.requires;
      rest = rw (oldest_all entries c.cursor-place.result.below (omega (arith, below)));
    }

pub returns-after-loop-place-clause-any : goal.returns-after-loop-place-clause-any
returns-after-loop-place-clause-any g c =
    let entries = (g.L.EdgeLog.content c.args.log.now c.args.room.now).entries in
    let start : c.loop-place.place.below ≡ 0 = omega arith in
    rw (c.loop-place.invariant.rest, start, oldest_none entries)

pub returns-in_default-clause-any : goal.returns-in_default-clause-any
returns-in_default-clause-any g c =
    let entries = (g.L.EdgeLog.content c.args.log.now c.args.room.now).entries in
    let none = no_pairs c.part-next.new.out.pairs (omega (arith, c.pairs.ensures.count, c.if-pairs-gt0.false)) in
    rw (c.loop-place.invariant.rest, c.in_default.ensures.pairs, none, oldest_none entries)
