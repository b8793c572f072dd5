use Rattle.graph_workers.proofs.Serving.{all-lines-legal}
use Rattle.graph_workers.proofs.all_lines_are_legal.Goals as goal

pub returns : goal.returns
returns c = λ base found lines seat closed good seated A. all-lines-legal base found lines closed good A seat seated
