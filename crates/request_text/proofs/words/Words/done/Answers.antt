use Rattle.request_text.proofs.Splits.{done-words}
use Rattle.request_text.proofs.words.Words.done.Goals as goal

pub returns-in-Some : goal.returns-in-Some
returns-in-Some c = λ request. rw (c.column.ensures, ← c.self.view_is, c.in-Some.is) (done-words request c.self.inside.end c.in-Some.field-0)
