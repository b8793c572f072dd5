use Rattle.std.proofs.Common.{ℕ, List, length, sym, ap, subst, arith}
use Rattle.block_layout.specs.Sizes.{props_start}
use Rattle.block_layout.specs.Blocks.{HoldsEntries}
use Rattle.block_pool.specs.Pools.{bytes_of}
use Rattle.tel_block.specs.Logs.{entries_of}
use Rattle.tel_block.proofs.LogFacts.{count, small}
use Rattle.tel_block.proofs.log.TelBlock.search.Goals as goal

pub bytes-requires : goal.bytes-requires
bytes-requires c = c.requires.lies.out

pub search-requires : goal.search-requires
search-requires c =
    let log = c.args.self.now in
    let s = small log.block.order log.fill log.committed log.epoch (bytes_of c.args.room.now log.block) c.requires.is_log.filled in
    let same = ap length c.bytes.ensures.bytes in
    omega (arith, s.rows, same)

pub returns : goal.returns
returns c =
    let log = c.args.self.now in
    let bytes : List ℕ = bytes_of c.args.room.now log.block in
    let start : ℕ = props_start log.block.order in
    c.search.ensures start (entries_of log.block.order log.fill bytes)
    (subst (λ (b : List ℕ). HoldsEntries start (entries_of log.block.order log.fill bytes) b) (sym c.bytes.ensures.bytes) c.requires.is_log.filled.block.entries)
    (count log.block.order log.fill bytes)
