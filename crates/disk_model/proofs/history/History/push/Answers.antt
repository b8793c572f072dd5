use Rattle.std.proofs.Common.{◌<◌, length, arith}
use Rattle.disk_model.proofs.Recordings.{IsRecording-other}
use Rattle.disk_model.proofs.history.History.push.Goals as goal

pub invariant_of-self : goal.invariant_of-self
invariant_of-self c =
    let before = c.self.invariant in
    let place : length c.args.self.now.steps < c.args.self.now.places = c.requires in
    record {
      recording = IsRecording-other _ _ _ c.args.event _ _ before.recording (rw (← c.self.view_is) at place) c.push_within.ensures.items;
      written_memory = before.written_memory;
      calls_memory = omega (arith, before.calls_memory, c.push_within.ensures.capacity);
    }
