use Rattle.request_text.proofs.ReadAgain.{script_of-script_text}
use Rattle.request_text.proofs.laws.what_is_printed_is_read.Goals as goal

pub returns : goal.returns
returns c = script_of-script_text
