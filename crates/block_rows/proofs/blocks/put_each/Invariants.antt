use Rattle.tel_block.specs.Places.{StandsIn}
use Rattle.block_rows.proofs.blocks.put_each.Given as goal

abbrev pub invariant-loop-d : goal.invariant-loop-d
invariant-loop-d g l = StandsIn l.log l.room
