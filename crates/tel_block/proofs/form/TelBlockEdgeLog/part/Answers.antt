use Rattle.std.proofs.Common.{ℕ, List, sym, subst}
use Rattle.stamps.specs.Stamps.{Txn}
use Rattle.edge_log.specs.Places.{IsPlaceIn}
use Rattle.edge_log.specs.Parts.{IsPart}
use Rattle.tel_block.specs.Logs.{IsLog, content_in}
use Rattle.tel_block.proofs.form.TelBlockEdgeLog.part.Goals as goal

pub bytes-requires : goal.bytes-requires
bytes-requires c = c.requires.stands.lies.out

pub part_in-requires : goal.part_in-requires
part_in-requires c = record {
  is_log = subst (λ (bytes : List ℕ). IsLog c.args.self.now bytes) (sym c.bytes.ensures.bytes) c.requires.stands.is_log;
  place = subst (λ (bytes : List ℕ). IsPlaceIn (content_in c.args.self.now bytes).entries c.args.place) (sym c.bytes.ensures.bytes) c.requires.place;
}

pub returns : goal.returns
returns c = subst (λ (bytes : List ℕ). IsPart (content_in c.args.self.now bytes).entries c.args.place.below c.part_in.result c.args.read (Txn c.args.tid) c.args.out.now c.part_in.new.out) c.bytes.ensures.bytes c.part_in.ensures
