use Rattle.graph_workers.proofs.Serving.{told_visible}
use Rattle.graph_workers.proofs.what_a_worker_was_told_is_visible.Goals as goal

pub returns : goal.returns
returns c = told_visible
