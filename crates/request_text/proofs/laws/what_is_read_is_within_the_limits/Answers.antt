use Rattle.request_text.proofs.Within.{script_of-within}
use Rattle.request_text.proofs.laws.what_is_read_is_within_the_limits.Goals as goal

pub returns : goal.returns
returns c = script_of-within
