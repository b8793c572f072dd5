use Rattle.block_layout.proofs.Raw.{read_back}
use Rattle.block_layout.proofs.laws.entries_are_read_back.Goals as goal

pub returns : goal.returns
returns c = read_back
