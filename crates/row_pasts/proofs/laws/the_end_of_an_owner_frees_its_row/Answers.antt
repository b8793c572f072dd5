use Rattle.row_pasts.proofs.RowSteps.{row_apply, row_release, row_undo}
use Rattle.row_pasts.proofs.laws.the_end_of_an_owner_frees_its_row.Goals as goal

pub returns-clause-applied : goal.returns-clause-applied
returns-clause-applied c = row_apply

pub returns-clause-released : goal.returns-clause-released
returns-clause-released c = row_release

pub returns-clause-undone : goal.returns-clause-undone
returns-clause-undone c = row_undo
