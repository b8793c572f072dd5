-- What the logs of a row are once a log that they lent was changed.
use Rattle.std.specs.Prelude.{ℕ}
use Rattle.std.specs.Borrow.{Lends, RattleType, MutBor, Fml}
use Rattle.row_logs.specs.Logs.{Logs, with_log}
use Rattle.row_logs.specs.contracts.row_logs.RowLogs.{the_row}

-- s ends with the last value behind r at its place
abbrev pub LendsAt : (L : RattleType) → MutBor (Logs L.Denot) → ℕ → MutBor L.Denot → Fml
LendsAt L s n r = Lends (the_row L) L s r (with_log s.now n)
