use Rattle.std.proofs.Common.{◌<◌, length, ap, arith}
use Rattle.std.proofs.lemmas.List.{length-take}
use Rattle.disk_model.specs.declared.event.Event.TheVariants as events
use Rattle.disk_model.specs.Past.{Past}
use Rattle.disk_model.specs.Steps.{Other}
use Rattle.disk_model.proofs.Paces.{IsNow-shorter, IsPaced-step}
use Rattle.disk_model.proofs.mem_disk.MemDisk.do_cut.Goals as goal

pub invariant_of-self : goal.invariant_of-self
invariant_of-self c =
    let place : length c.args.self.now.past.steps < c.args.self.now.past.places = c.requires in
    record {
      now = IsNow-shorter _ _ _ _ (events.Cut c.args.to) c.self.invariant.now c.push.ensures c.truncate.ensures.items (omega (arith, ap length c.truncate.ensures.items, length-take c.args.to c.self.inside.bytes.items));
      memory = omega (arith, c.self.invariant.memory, c.truncate.ensures.capacity, ap (λ (p : Past). p.room) c.push.ensures);
      paced = IsPaced-step _ _ _ _ (Other (events.Cut c.args.to)) c.self.invariant.paced (rw (← c.self.view_is) at place) c.push.ensures c.raise.ensures.raised;
    }
