use Rattle.std.proofs.Common.{ℕ, List, sym, subst}
use Rattle.stamps.specs.Stamps.{Txn}
use Rattle.edge_log.specs.Places.{IsPlaceIn}
use Rattle.edge_log.specs.Parts.{IsPart}
use Rattle.tel_block.specs.Logs.{IsOld, old_content_in}
use Rattle.tel_block.proofs.form.TelBlockEdgeLog.old_part.Goals as goal

pub bytes-requires : goal.bytes-requires
bytes-requires c = c.requires.stands.lies.out

pub part_in-requires : goal.part_in-requires
part_in-requires c = record {
  is_old = subst (λ (bytes : List ℕ). IsOld c.args.old.now bytes) (sym c.bytes.ensures.bytes) c.requires.stands.is_old;
  place = subst (λ (bytes : List ℕ). IsPlaceIn (old_content_in c.args.old.now bytes).entries c.args.place) (sym c.bytes.ensures.bytes) c.requires.place;
}

pub returns : goal.returns
returns c = subst (λ (bytes : List ℕ). IsPart (old_content_in c.args.old.now bytes).entries c.args.place.below c.part_in.result c.args.read (Txn c.args.tid) c.args.out.now c.part_in.new.out) c.bytes.ensures.bytes c.part_in.ensures
