use Rattle.std.proofs.Common.{◌==◌, List, ap, subst, ◌∙◌, arith}
use Rattle.std.specs.List.{list_any}
use Rattle.block_pool.specs.Blocks.{Area}
use Rattle.block_pool.specs.Pools.{ChunkContent, free_blocks, out_blocks}
use Rattle.block_pool.specs.Cuts.{CutsFirst}
use Rattle.block_pool.proofs.OutFacts.{more_has, more_keeps}
use Rattle.block_pool.proofs.TakeReady.{taken_there, taken_fresh, any-fresh}
use Rattle.block_pool.proofs.pool.Pool.take.Goals as goal

pub cut-requires-in-None-clause-free : goal.cut-requires-in-None-clause-free
cut-requires-in-None-clause-free c =
    ap (λ (xs : List ChunkContent). list_any (λ (g : Area). g.order == c.max-from.result) (free_blocks xs)) c.in_ok-add_chunk-in-None.ensures.added
    ∙ any-fresh 0 c.max-from.result c.args.self.now

pub returns-in-Some-clause-taken : goal.returns-in-Some-clause-taken
returns-in-Some-clause-taken c =
    taken_there c.args.order c.in-Some.from c.args.self.now c.cut.result c.cut.new.self c.cut.ensures.cut c.in-Some.ensures.found.0 c.in-Some.ensures.found.1.1 c.in-Some.ensures.least

pub returns-in_ok-add_chunk-in-None-clause-taken : goal.returns-in_ok-add_chunk-in-None-clause-taken
returns-in_ok-add_chunk-in-None-clause-taken c =
    taken_fresh c.args.order c.max-from.result c.args.self.now c.cut-in-None.result c.cut-in-None.new.self c.max-from.ensures (omega arith) c.in-None.ensures.none
    (subst (λ (xs : List ChunkContent). CutsFirst c.max-from.result c.args.order xs c.cut-in-None.result c.cut-in-None.new.self) c.in_ok-add_chunk-in-None.ensures.added c.cut-in-None.ensures.cut)

pub returns-in-Some-clause-out : goal.returns-in-Some-clause-out
returns-in-Some-clause-out c = more_has c.cut.result (out_blocks c.args.self.now) (out_blocks c.cut.new.self) (returns-in-Some-clause-taken c).out

pub returns-in-Some-clause-keeps : goal.returns-in-Some-clause-keeps
returns-in-Some-clause-keeps c = more_keeps c.cut.result (out_blocks c.args.self.now) (out_blocks c.cut.new.self) (returns-in-Some-clause-taken c).out

pub returns-in_ok-add_chunk-in-None-clause-out : goal.returns-in_ok-add_chunk-in-None-clause-out
returns-in_ok-add_chunk-in-None-clause-out c =
    more_has c.cut-in-None.result (out_blocks c.args.self.now) (out_blocks c.cut-in-None.new.self) (returns-in_ok-add_chunk-in-None-clause-taken c).out

pub returns-in_ok-add_chunk-in-None-clause-keeps : goal.returns-in_ok-add_chunk-in-None-clause-keeps
returns-in_ok-add_chunk-in-None-clause-keeps c =
    more_keeps c.cut-in-None.result (out_blocks c.args.self.now) (out_blocks c.cut-in-None.new.self) (returns-in_ok-add_chunk-in-None-clause-taken c).out
