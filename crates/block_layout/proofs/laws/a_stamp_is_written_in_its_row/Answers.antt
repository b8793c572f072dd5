use Rattle.block_layout.proofs.AtPlaces.{there}
use Rattle.block_layout.proofs.Stamped.{held-created, held-ended}
use Rattle.block_layout.proofs.Blocked.{block-created, block-ended}
use Rattle.block_layout.proofs.laws.a_stamp_is_written_in_its_row.Goals as goal

pub returns-clause-created : goal.returns-clause-created
returns-clause-created c = λ start n s xs bytes held within has. let x = there xs n within in held-created start n s xs x.0 bytes held x.1 has

pub returns-clause-ended : goal.returns-clause-ended
returns-clause-ended c = λ start n s xs bytes held within has. let x = there xs n within in held-ended start n s xs x.0 bytes held x.1 has

pub returns-clause-block_created : goal.returns-clause-block_created
returns-clause-block_created c = λ order h f n s xs bytes b within has. let x = there xs n within in block-created order h f n s xs x.0 bytes b x.1 has

pub returns-clause-block_ended : goal.returns-clause-block_ended
returns-clause-block_ended c = λ order h f n s xs bytes b within has. let x = there xs n within in block-ended order h f n s xs x.0 bytes b x.1 has
