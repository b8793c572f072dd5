-- What a disk over memory keeps of its past.
use Rattle.std.specs.Prelude.{◌≤◌, vec_capacity}
use Rattle.disk_model.specs.declared.history.History.TheInside.{Inside}
use Rattle.disk_model.specs.Recording.{steps_of, IsRecording}
use Rattle.disk_model.specs.Past.{Past}

-- the past that the fields stand for
abbrev pub past_of : Inside → Past
past_of h = record { first = h.first.items; steps = steps_of h.written.items h.calls.items; places = h.places; room = h.room }

-- The written bytes are those of the recorded calls, there is memory for all that there is room for, and
-- nothing passes the room.
pub record IsKept (h : Inside) : Type 0 where
  pub recording : IsRecording h.written.items h.calls.items h.places h.room
  pub written_memory : h.room ≤ vec_capacity h.written
  pub calls_memory : h.places ≤ vec_capacity h.calls
