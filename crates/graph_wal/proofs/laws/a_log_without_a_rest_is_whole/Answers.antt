use Rattle.graph_wal.proofs.Logs.{whole}
use Rattle.graph_wal.proofs.laws.a_log_without_a_rest_is_whole.Goals as goal

pub returns : goal.returns
returns c = λ bytes records durable is long. whole bytes records durable is long
