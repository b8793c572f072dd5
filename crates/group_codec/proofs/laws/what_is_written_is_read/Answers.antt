use Rattle.group_codec.proofs.Readings.{written-read}
use Rattle.group_codec.proofs.laws.what_is_written_is_read.Goals as goal

pub returns : goal.returns
returns c = written-read
