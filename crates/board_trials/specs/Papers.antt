-- What the value of the log's turn shows on the small board.
use Rattle.std.specs.Prelude.{ℕ, true, None}
use Rattle.core_states.specs.LogParts.{LogPart, all_firm}
use Rattle.board_trials.specs.declared.spot.Paper.{Paper}

-- a log that nobody holds, and no disk
abbrev pub paper_log : Paper → LogPart
paper_log p = record { holder = None; durable = p.durable; moment = p.moment; mended = true; opening_count = 0; greatest = 0; firm = all_firm; disk = None }

abbrev pub paper_time : Paper → ℕ
paper_time p = p.time
