use Rattle.block_pool.specs.Pools.{bytes_of}
use Rattle.tel_block.proofs.form.TelBlockEdgeLog.cursor.Goals as goal

pub returns-clause-place : goal.returns-clause-place
returns-clause-place c = λ room stands. c.first_place.ensures.place (bytes_of room c.args.self.now.block) stands.is_log

pub returns-clause-below : goal.returns-clause-below
returns-clause-below c = λ room stands. c.first_place.ensures.below (bytes_of room c.args.self.now.block) stands.is_log
