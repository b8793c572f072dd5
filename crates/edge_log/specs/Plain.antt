-- What a log over a vector keeps, and what it has room for.
use Rattle.std.specs.Prelude.{◌≡◌, ℕ, ◌+◌, ◌-◌, min, nat_lt, if◌then◌else◌, ◌<◌, ◌≤◌, All, vec_len, vec_capacity}
use Rattle.edge_log.specs.declared.plain_log.PlainLog.{PlainLog}
use Rattle.edge_log.specs.Entries.{sizes, payload_sum}
use Rattle.edge_log.specs.Contents.{LogContent, Fits}
use Rattle.edge_log.specs.Places.{oldest}
use Rattle.edge_log.specs.Slots.{entries_of, IsReached}

abbrev pub content_of : PlainLog → LogContent
content_of log = record { entries = entries_of log.slots.items; committed = log.committed; epoch = log.epoch }

-- the limit on the sum of its entries' sizes
abbrev pub limit_of : PlainLog → ℕ
limit_of log = log.most

-- how large an entry may be that the limit allows, and for which there is memory
abbrev pub spare_of : PlainLog → ℕ
spare_of log = if nat_lt (vec_len log.slots) (vec_capacity log.slots) then min (log.most - log.size) (28 + vec_capacity log.ready) else 0

-- there is memory to note one more end stamp
abbrev pub MayEnd : PlainLog → Type 0
MayEnd log = vec_len log.noted < vec_capacity log.noted

-- The log keeps within its limit, knows its sizes and where private stamps stand, and has the memory for the next payload empty.
pub record IsPlain (log : PlainLog) : Type 0 where
  pub fits : Fits log.most (content_of log)
  pub size : log.size ≡ sizes (entries_of log.slots.items)
  pub props : log.props ≡ payload_sum (entries_of log.slots.items)
  pub committed_props : log.committed_props ≡ payload_sum (oldest log.committed (entries_of log.slots.items))
  pub settled : log.settled ≤ log.committed
  pub noted : All (λ n. n < log.settled) log.noted.items
  pub reached : IsReached log.noted.items log.settled log.slots.items
  pub ready : vec_len log.ready ≡ 0

-- The logs have the same entries, notes, limit and sizes, and the second has at least the memory of the first.
pub record GrowsTo (old new : PlainLog) : Type 0 where
  pub slots : new.slots.items ≡ old.slots.items
  pub committed : new.committed ≡ old.committed
  pub epoch : new.epoch ≡ old.epoch
  pub most : new.most ≡ old.most
  pub size : new.size ≡ old.size
  pub props : new.props ≡ old.props
  pub committed_props : new.committed_props ≡ old.committed_props
  pub noted : new.noted.items ≡ old.noted.items
  pub settled : new.settled ≡ old.settled
  pub ready : vec_len new.ready ≡ vec_len old.ready
  pub spare : spare_of old ≤ spare_of new
  pub may_end : MayEnd old → MayEnd new
