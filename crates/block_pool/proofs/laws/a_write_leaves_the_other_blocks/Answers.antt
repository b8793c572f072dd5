use Rattle.block_pool.specs.Pools.{chunk_at, with_part}
use Rattle.block_pool.proofs.WriteFacts.{written_there, written_apart, out-written, free-written}
use Rattle.block_pool.proofs.laws.a_write_leaves_the_other_blocks.Goals as goal

pub returns-clause-written : goal.returns-clause-written
returns-clause-written c = written_there

pub returns-clause-others : goal.returns-clause-others
returns-clause-others c = written_apart

pub returns-clause-out : goal.returns-clause-out
returns-clause-out c = λ pool k start part. out-written 0 k pool (with_part (chunk_at pool k).bytes start part)

pub returns-clause-free : goal.returns-clause-free
returns-clause-free c = λ pool k start part. free-written 0 k pool (with_part (chunk_at pool k).bytes start part)
