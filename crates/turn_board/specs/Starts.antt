-- What a board was made for, as its table has it.
use Rattle.std.specs.Prelude.{ℕ, ◌-◌, List, length, Option, Some, None}
use mathlib.Core.Option.{some, none}
use lib.ListN.{get_elem?}
use Rattle.core_states.specs.LogParts.{Found, all_firm}
use Rattle.core_states.specs.Parts.{Part, OfShard, OfClock, OfLog}
use Rattle.turn_board.specs.Views.{Shown, Start}
use Rattle.turn_board.specs.Histories.{found_by}
use Rattle.turn_board.specs.Openings.{limits_of}
use Rattle.turn_board.specs.declared.opened.Opened.{Opened}

-- what a log part says that the run found; any other part says nothing
abbrev pub nothing_found : Found
nothing_found = record { count = 0; firm = all_firm; records = None }

abbrev pub found_of : Part → Found
found_of (OfShard rows) = nothing_found
found_of (OfClock k) = nothing_found
found_of (OfLog log) = found_by log

abbrev pub found_at : {H : Type 0} → (H → Shown) → mathlib.Core.Option.Option (Option H) → Found
found_at show none = nothing_found
found_at show (some None) = nothing_found
found_at show (some (Some x)) = found_of (show x).part

-- what the last of the values, which is the log's, says that the run found
abbrev pub found_in : {H : Type 0} → (H → Shown) → List (Option H) → Found
found_in show xs = found_at show (get_elem? xs (length xs - 1))

-- how many of the values are those of shards: all but the clock's and the log's
abbrev pub shards_in : {H : Type 0} → List (Option H) → ℕ
shards_in xs = length xs - 2

-- what a board with these values was made for
abbrev pub start_in : {H : Type 0} → (H → Shown) → Opened H → Start
start_in show o = record { base = o.base.value; limits = limits_of o.log_most; found = found_in show o.values.value.items; shards = shards_in o.values.value.items }
