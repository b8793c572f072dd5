-- What a log holds after many appends, some of which failed, and what a crash at any moment of them leaves.
use Rattle.std.specs.Prelude.{◌⊎◌, ℕ, ◌+◌, ◌≤◌, nat_le, List, [], ◌∷◌, ◌++◌, length, take, flat_map, cond, Option, IfSome}
use Rattle.std.specs.List.{Contains}
use Rattle.graph_model.specs.declared.record.Record.{Record}
use Rattle.disk_model.specs.Images.{EachImage}
use Rattle.graph_wal.specs.declared.wal.Wal.{Wal}
use Rattle.graph_wal.specs.Log.{RecoversTo, Stands}

-- a group that was appended, and the moment from which it is durable
pub record Durable : Type 0 where
  pub group : List Record
  pub moment : ℕ

abbrev pub durable_group : List Record → ℕ → Durable
durable_group group moment = record { group = group; moment = moment }

-- a group whose append failed, and how many groups were durable then
pub record Tried : Type 0 where
  pub behind : ℕ
  pub group : List Record

abbrev pub tried : ℕ → List Record → Tried
tried behind group = record { behind = behind; group = group }

-- the records of a base, and those of the groups behind it
abbrev pub all_records : List Record → List Durable → List Record
all_records base groups = base ++ flat_map (λ g. g.group) groups

-- the records of a base, and those of the first k groups behind it
abbrev pub first_records : List Record → List Durable → ℕ → List Record
first_records base groups k = all_records base (take k groups)

-- how many groups were durable at a moment
abbrev pub durable_by : ℕ → List Durable → ℕ
durable_by moment [] = 0
durable_by moment (g ∷ groups) = cond (nat_le g.moment moment) 1 0 + durable_by moment groups

-- Each of the groups was durable at a moment.
abbrev pub AreDurableBy : ℕ → List Durable → Type 0
AreDurableBy moment [] = Unit {0}
AreDurableBy moment (g ∷ groups) = (g.moment ≤ moment) × AreDurableBy moment groups

-- The bytes recover to the base and the first k groups, or to these and a group that was tried behind them.
abbrev pub HasFirst : List Record → List Durable → List Tried → ℕ → List ℕ → Type 0
HasFirst base groups failed k bytes =
    RecoversTo (first_records base groups k) bytes
    ⊎ ((g : List Record) × Contains failed (tried k g) × RecoversTo (first_records base groups k ++ g) bytes)

-- A crash at a moment may leave these bytes: they recover to the base and the groups that were durable then, to
-- these and the next group, or to these and a group that was tried behind them.
abbrev pub MayLeave : List Record → List Durable → List Tried → ℕ → List ℕ → Type 0
MayLeave base groups failed moment bytes =
    HasFirst base groups failed (durable_by moment groups) bytes
    ⊎ RecoversTo (first_records base groups (durable_by moment groups + 1)) bytes

-- The log has the base's records and then these groups, each durable from its moment on; what may stand behind
-- them was tried there; and a crash at any moment since an earlier one leaves what it may. Of its bytes and images
-- it says so where the disk tells them.
pub record HasAppended {D : Type 0} (told : D → Option (List ℕ)) (moment : D → ℕ) (images : D → ℕ → List ℕ → Type 0) (wal : Wal D) (from : ℕ) (base : List Record) (groups : List Durable) (failed : List Tried) : Type 0 where
  pub attempt : Option (List Record)
  pub stands : Stands told moment images wal (all_records base groups) attempt
  pub tried_here : IfSome attempt (λ g. Contains failed (tried (length groups) g))
  pub by_now : AreDurableBy (moment wal.disk) groups
  pub crash : IfSome (told wal.disk) (λ _. EachImage moment images wal.disk from (MayLeave base groups failed))
