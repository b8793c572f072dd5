-- The part of the state that knows the log's disk.
use Rattle.std.specs.Prelude.{ℕ, Bool, true, false, List, [], ◌∷◌, ◌++◌, Option, Some, None}
use Rattle.graph_model.specs.declared.record.Record.{Record}
use Rattle.core_states.specs.declared.disk_records.DiskRecords.{DiskRecords}
use Rattle.core_states.specs.Names.{Name, same_name}

-- How firm the log was that a run found: from which moment on a crash leaves its records, and whether nothing stood behind its last gate.
pub record Firmness : Type 0 where
  pub since : ℕ
  pub no_rest : Bool

-- that of a log whose records every crash leaves
abbrev pub all_firm : Firmness
all_firm = record { since = 0; no_rest = true }

pub record LogPart : Type 0 where
  pub holder : Option Name  -- the actor that holds the log turn, from its collect to its publish or fail
  pub durable : ℕ  -- the last durable epoch
  pub moment : ℕ  -- when the last append answered, or 0
  pub mended : Bool  -- no failed attempt stands
  pub opening_count : ℕ  -- the disk's count of faults when the run opened
  pub greatest : ℕ  -- the count after the last fail, or the one at opening
  pub firm : Firmness  -- how firm the log was when the run opened
  pub disk : Option DiskRecords  -- what is on the disk, where the disk tells its bytes

-- an actor holds the log turn; it or nobody does
abbrev pub is_held_by : Name → Option Name → Bool
is_held_by i None = false
is_held_by i (Some j) = same_name i j

abbrev pub may_take : Name → Option Name → Bool
may_take i None = true
may_take i (Some j) = same_name i j

-- What a run finds of the disk: its count of faults, how firm the log is and, where the disk tells its bytes, the durable records.
pub record Found : Type 0 where
  pub count : ℕ
  pub firm : Firmness
  pub records : Option (List Record)

abbrev pub found_records : Option (List Record) → Option DiskRecords
found_records None = None
found_records (Some rs) = Some (record { opened = rs; durable = rs; moments = []; attempt = None; tried = [] })

-- the log part that a run starts with at this epoch
abbrev pub opened_part : ℕ → Found → LogPart
opened_part epoch found = record { holder = None; durable = epoch; moment = 0; mended = true; opening_count = found.count; greatest = found.count; firm = found.firm; disk = found_records found.records }

-- the disk with more durable records, whose append answered at this moment; with those of an attempt that failed; and without an attempt
abbrev pub with_durable : ℕ → List Record → Option DiskRecords → Option DiskRecords
with_durable moment rs None = None
with_durable moment rs (Some d) = Some (record { opened = d.opened; durable = d.durable ++ rs; moments = d.moments ++ moment ∷ []; attempt = d.attempt; tried = d.tried })

-- an attempt that stands stays, and then nothing more was tried
abbrev pub first_attempt : Option (List Record) → List Record → List Record
first_attempt None rs = rs
first_attempt (Some qs) rs = qs

abbrev pub more_tried : Option (List Record) → List Record → List (List Record) → List (List Record)
more_tried None rs groups = rs ∷ groups
more_tried (Some qs) rs groups = groups

abbrev pub with_attempt : List Record → Option DiskRecords → Option DiskRecords
with_attempt rs None = None
with_attempt rs (Some d) = Some (record { opened = d.opened; durable = d.durable; moments = d.moments; attempt = Some (first_attempt d.attempt rs); tried = more_tried d.attempt rs d.tried })

abbrev pub without_attempt : Option DiskRecords → Option DiskRecords
without_attempt None = None
without_attempt (Some d) = Some (record { opened = d.opened; durable = d.durable; moments = d.moments; attempt = None; tried = d.tried })
