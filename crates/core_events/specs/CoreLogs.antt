-- The log part as plain data, and what it stands for.
use Rattle.std.specs.Prelude.{ℕ, Option, Some, None}
use Rattle.core_states.specs.Names.{Name}
use Rattle.core_states.specs.LogParts.{LogPart, all_firm}
use Rattle.core_states.specs.States.{first_name}
use Rattle.core_events.specs.declared.core_log.CoreLog.{CoreLog}

-- the holder of the log turn is named by its index
abbrev pub named : Option ℕ → Option Name
named None = None
named (Some i) = Some (first_name i)

abbrev pub log_of : CoreLog → LogPart
log_of log = record { holder = named log.holder; durable = log.durable; moment = log.moment; mended = log.mended; opening_count = log.opening_count; greatest = log.greatest; firm = all_firm; disk = Some log.disk }
