use Rattle.std.proofs.Common.{◌<◌, length, refl, ap, arith}
use Rattle.disk_model.specs.declared.event.Event.TheVariants as events
use Rattle.disk_model.specs.Past.{Past}
use Rattle.disk_model.specs.Steps.{Other}
use Rattle.disk_model.proofs.Paces.{IsNow-shorter, IsPaced-step}
use Rattle.disk_model.proofs.mem_disk.MemDisk.do_sync.Goals as goal

pub invariant_of-self : goal.invariant_of-self
invariant_of-self c =
    let place : length c.args.self.now.past.steps < c.args.self.now.past.places = c.requires in
    record {
      now = IsNow-shorter _ _ _ _ events.Sync c.self.invariant.now c.push.ensures refl (omega arith);
      memory = omega (arith, c.self.invariant.memory, ap (λ (p : Past). p.room) c.push.ensures);
      paced = IsPaced-step _ _ _ _ (Other events.Sync) c.self.invariant.paced (rw (← c.self.view_is) at place) c.push.ensures c.raise.ensures.raised;
    }
