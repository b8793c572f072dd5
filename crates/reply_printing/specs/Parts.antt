-- The parts of a round.
use Rattle.std.specs.Prelude.{ℕ, List, take, drop}
use Rattle.request_text.specs.declared.reply.Reply.{Reply}

-- the part of a round that begins at this place
abbrev pub part_at : ℕ → List Reply → List Reply
part_at at round = take 32768 (drop at round)
