-- Where the logs of a row lie.
use Rattle.std.specs.Prelude.{◌≡◌, Bool, true, ◌++◌, Option, None, Some, nat_lt, vec_len, vec_capacity, []}
use Rattle.std.specs.Option.{option_to_list}
use Rattle.row_logs.specs.Logs.{Logs}
use Rattle.row_logs.specs.declared.row_logs.RowLogs.TheInside.{Inside}

-- whether one more log gets in without memory: as the first, or behind the others
abbrev pub has_room_in : {L : Type 0} → Inside L → Bool
has_room_in a = by_first a.first (nat_lt (vec_len a.others) (vec_capacity a.others))
  where
    by_first : {L : Type 0} → Option L → Bool → Bool
    by_first None behind = true
    by_first (Some x) behind = behind

-- the first log, and those after it
abbrev pub logs_in : {L : Type 0} → Inside L → Logs L
logs_in a = record { items = option_to_list a.first ++ a.others.items; has_room = has_room_in a }

-- Without a first log there are no others.
abbrev pub AreInOrder : {L : Type 0} → Inside L → Type 0
AreInOrder a = a.first ≡ None → a.others.items ≡ []
