use Rattle.std.proofs.Common.{◌≡◌, ◌+◌, ◌<◌, ◌≤◌, length, rules, ap, arith}
use Rattle.disk_model.specs.Images.{overwritten}
use Rattle.disk_model.specs.Past.{Past}
use Rattle.disk_model.specs.Steps.{Wrote}
use Rattle.disk_model.specs.Memory.{bytes_of}
use Rattle.disk_model.proofs.Paces.{IsNow-write, IsPaced-step, fits-room}
use Rattle.disk_model.proofs.mem_disk.MemDisk.do_write.Goals as goal

pub invariant_of-self : goal.invariant_of-self
invariant_of-self c =
    let bytes : c.overwrite.new.bytes.items ≡ overwritten c.self.inside.bytes.items c.args.place c.args.bytes.now = search rules in
    let place : length c.args.self.now.past.steps < c.args.self.now.past.places = c.requires.has_place in
    let joined : c.args.place ≤ length (bytes_of c.args.self.now) = c.requires.joined in
    let room : c.args.place + length c.args.bytes.now ≤ c.args.self.now.past.room = fits-room c.args.self.now c.args.place (length c.args.bytes.now) c.requires.has_room in
    record {
      now = IsNow-write _ _ _ _ _ c.args.place c.self.invariant.now (rw c.self.invariant.now.read (rw (← c.self.view_is) at joined)) (rw (← c.self.view_is) at room) c.push_write.ensures bytes;
      memory = omega (arith, c.self.invariant.memory, c.overwrite.ensures.capacity, ap (λ (p : Past). p.room) c.push_write.ensures);
      paced = IsPaced-step _ _ _ _ (Wrote c.args.place c.args.bytes.now) c.self.invariant.paced (rw (← c.self.view_is) at place) c.push_write.ensures c.raise.ensures.raised;
    }
