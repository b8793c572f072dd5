use Rattle.std.proofs.Common.{◌≡◌, ◌+◌, ◌<◌, ◌≤◌, ◌++◌, [], ◌∷◌, length, List, ap, ◌∙◌, arith}
use Rattle.disk_model.specs.Steps.{Step, Wrote, written}
use Rattle.disk_model.specs.Past.{Past}
use Rattle.disk_model.specs.Recording.{steps_of}
use Rattle.disk_model.proofs.Recordings.{IsRecording-write, steps_of-written}
use Rattle.disk_model.proofs.history.History.push_write.Goals as goal

pub invariant_of-self : goal.invariant_of-self
invariant_of-self c =
    let before = c.self.invariant in
    let place : length c.args.self.now.steps < c.args.self.now.places = c.requires.has_place in
    let room : written c.args.self.now.steps + length c.args.bytes.now ≤ c.args.self.now.room = c.requires.has_room in
    record {
      recording = IsRecording-write _ _ _ _ _ c.args.place _ _ _ before.recording (c.len-from.ensures ∙ c.self.inside.written.ok.0) (rw (← c.self.view_is) at place) (rw (← c.self.view_is) at room) c.extend_within.ensures.bytes c.push_within.ensures.items;
      written_memory = omega (arith, before.written_memory, c.extend_within.ensures.capacity);
      calls_memory = omega (arith, before.calls_memory, c.push_within.ensures.capacity);
    }

pub returns : goal.returns
returns c =
    let before = c.self.invariant in
    let steps : steps_of c.extend_within.new.bytes.items c.push_within.new.items.items ≡ steps_of c.self.inside.written.items c.self.inside.calls.items ++ Wrote c.args.place c.args.bytes.now ∷ [] =
    steps_of-written _ _ _ _ _ c.args.place _ before.recording.each (c.len-from.ensures ∙ c.self.inside.written.ok.0) c.extend_within.ensures.bytes c.push_within.ensures.items in
    rw (← c.self.view_is) (ap (λ (l : List Step). let past : Past = record { first = c.self.inside.first.items; steps = l; places = c.self.inside.places; room = c.self.inside.room } in past) steps)
