use Rattle.core_rows.proofs.core_row.CoreRow.look.Goals as goal

pub returns : goal.returns
returns c = rw (← c.self.view_is) c.look.ensures.answer
