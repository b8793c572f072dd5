-- What no event takes back.
use Rattle.std.specs.Prelude.{◌≡◌, ℕ, ◌≤◌, ◌<◌, List, [], ◌∷◌, ◌++◌, Option, Some, None}
use Rattle.graph_model.specs.declared.record.Record.{Record}
use Rattle.core_states.specs.declared.clock.Clock.{Clock}
use Rattle.core_states.specs.declared.disk_records.DiskRecords.{DiskRecords}
use Rattle.core_states.specs.declared.transaction.Receipt.{Receipt}
use Rattle.core_states.specs.LogParts.{LogPart}
use Rattle.core_states.specs.Names.{Name}
use Rattle.core_states.specs.Sound.{InReceipts}
use Rattle.core_states.specs.States.{State}

-- all of these epochs are above this one
abbrev pub AllLater : ℕ → List Record → Type 0
AllLater e [] = Unit {0}
AllLater e (r ∷ rs) = (e < r.epoch) × AllLater e rs

-- The next numbers, the last epoch and the visible one do not fall, and the records and the moments stand as they were, first in the list: what comes after them is of epochs above the last one.
pub record Later (k z : Clock) : Type 0 where
  pub next_tid : k.next_tid ≤ z.next_tid
  pub next_vertex : k.next_vertex ≤ z.next_vertex
  pub last : k.last ≤ z.last
  pub visible : k.visible ≤ z.visible
  pub more : List Record
  pub is : z.records ≡ k.records ++ more
  pub above : AllLater k.last more
  pub since : List ℕ
  pub moments : z.moments ≡ k.moments ++ since

-- What was durable at opening, where the disk tells it.
abbrev pub opened_records : Option DiskRecords → Option (List Record)
opened_records None = None
opened_records (Some d) = Some d.opened

-- Of the log part neither the durable epoch nor the moment nor the greatest count falls; the count, the firmness and the records at opening never change.
pub record LaterLog (k z : LogPart) : Type 0 where
  pub durable : k.durable ≤ z.durable
  pub moment : k.moment ≤ z.moment
  pub greatest : k.greatest ≤ z.greatest
  pub opening_count : z.opening_count ≡ k.opening_count
  pub firm : z.firm ≡ k.firm
  pub opened : opened_records z.disk ≡ opened_records k.disk

-- Each actor keeps its receipts.
abbrev pub ReceiptsStay : State → State → Type 0
ReceiptsStay s t = (i : Name) (r : Receipt) → InReceipts r (s.actor i).receipts → InReceipts r (t.actor i).receipts
