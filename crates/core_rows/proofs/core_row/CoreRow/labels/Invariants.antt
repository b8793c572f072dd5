use Rattle.std.proofs.Common.{◌≡◌, ◌++◌, map}
use Rattle.stamps.specs.Stamps.{Txn}
use Rattle.core_rows.specs.Rows.{shown_lists}
use Rattle.core_rows.specs.LogMap.{logs_of}
use Rattle.core_rows.proofs.core_row.CoreRow.labels.Given as goal

-- the labels so far, followed by those of the logs that are left, are all
abbrev pub invariant-loop-label : goal.invariant-loop-label
invariant-loop-label l = l.labels ++ map (λ y. y.label) (shown_lists (logs_of l.label-iterator) l.read (Txn l.tid)) ≡ map (λ y. y.label) (shown_lists l.self.logs l.read (Txn l.tid))
