-- The members of a group, in order.
use Rattle.std.specs.Prelude.{ℕ, Option, List, flat_map, map}
use Rattle.std.specs.Option.{option_to_list}
use Rattle.graph_model.specs.declared.record.Record.{Record}
use Rattle.group_commit.specs.Encoded.{Encoded}

-- the members that stand in these places
abbrev pub members_of : List (Option Encoded) → List Encoded
members_of places = flat_map option_to_list places

-- the records of the members, with the epoch that they get
abbrev pub records_at : ℕ → List Encoded → List Record
records_at epoch members = map (λ m. let r = m.draft in record r { epoch = epoch }) members
