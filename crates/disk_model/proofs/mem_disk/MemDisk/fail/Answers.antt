use Rattle.std.proofs.Common.{◌∙◌, ap, arith}
use Rattle.disk_model.specs.Steps.{Other}
use Rattle.disk_model.specs.Past.{Past}
use Rattle.disk_model.proofs.Paces.{IsNow-noted, IsPaced-noted, recorded-room}
use Rattle.disk_model.proofs.mem_disk.MemDisk.fail.Goals as goal

pub invariant_of-self : goal.invariant_of-self
invariant_of-self c = record {
  now = IsNow-noted _ _ _ c.args.event c.self.invariant.now c.requires c.note.ensures;
  memory = omega (arith, c.self.invariant.memory, ap (λ (p : Past). p.room) c.note.ensures ∙ recorded-room c.self.inside.history (Other c.args.event));
  paced = IsPaced-noted _ _ _ _ (Other c.args.event) c.self.invariant.paced c.note.ensures c.raise.ensures.raised;
}
