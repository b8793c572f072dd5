use Rattle.std.proofs.Common.{ap, sym}
use Rattle.std.specs.Option.{option_map}
use Rattle.stamps.specs.Stamps.{Txn}
use Rattle.edge_log.proofs.PlaceLemmas.{pair_to-none}
use Rattle.log_reads.proofs.PartEdges.{payload_at_place}
use Rattle.log_reads.proofs.reads.payload_to.Goals as goal

pub returns-in_ok-payload_at-in-Some : goal.returns-in_ok-payload_at-in-Some
returns-in_ok-payload_at-in-Some g c =
    payload_at_place (g.L.EdgeLog.content c.args.log.now c.args.room.now).entries c.args.d c.args.read c.in-Some.place (Txn c.args.tid) c.in_ok-payload_at-in-Some.field-0 (sym c.in-Some.ensures.place) c.in_ok-payload_at-in-Some.ensures

pub returns-in-None : goal.returns-in-None
returns-in-None g c =
    sym (ap (option_map (λ x. x.p)) (pair_to-none (g.L.EdgeLog.content c.args.log.now c.args.room.now).entries c.args.d c.args.read (Txn c.args.tid) (sym c.in-None.ensures.place)))
