use Rattle.std.proofs.Common.{◌≡◌, length, drop}
use Rattle.disk_model.specs.Steps.{reads, imaged}
use Rattle.disk_model.specs.Recording.{steps_of, AllIn}
use Rattle.disk_model.proofs.history.redo_all.Given as goal

abbrev pub invariant-loop-call : goal.invariant-loop-call
invariant-loop-call l = record {
  inside : AllIn (length l.written) (drop l.call-index l.calls);
  bytes : reads l.initial.replay.bytes.items (steps_of l.written l.calls) ≡ reads l.replay.bytes.items (steps_of l.written (drop l.call-index l.calls));
  image : imaged l.fill l.initial.replay.bytes.items l.initial.replay.image.items (steps_of l.written l.calls) ≡ imaged l.fill l.replay.bytes.items l.replay.image.items (steps_of l.written (drop l.call-index l.calls));
}
