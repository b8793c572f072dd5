use Rattle.std.proofs.Common.{sym}
use Rattle.request_text.proofs.Splits.{column_at-words}
use Rattle.request_text.proofs.words.Words.column.Goals as goal

pub returns-in-Some : goal.returns-in-Some
returns-in-Some c = rw (← c.self.view_is, c.in-Some.is) (sym (column_at-words c.self.inside.end c.in-Some.rest))
