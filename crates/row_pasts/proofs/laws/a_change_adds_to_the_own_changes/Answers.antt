use Rattle.row_pasts.proofs.RowSteps.{row_put, row_del, row_push}
use Rattle.row_pasts.proofs.laws.a_change_adds_to_the_own_changes.Goals as goal

pub returns-clause-put : goal.returns-clause-put
returns-clause-put c = row_put

pub returns-clause-del : goal.returns-clause-del
returns-clause-del c = row_del

pub returns-clause-push : goal.returns-clause-push
returns-clause-push c = row_push
