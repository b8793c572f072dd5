use Rattle.std.proofs.Common.{sym, ap, ◌∙◌, arith}
use Rattle.block_layout.specs.Sizes.{block_len}
use Rattle.block_index.proofs.IndexFacts.{may-find}
use Rattle.tel_block.specs.Logs.{entries_of}
use Rattle.tel_block.proofs.LogFacts.{count, small, at-order}
use Rattle.tel_block.proofs.log.TelBlock.find_in.Goals as goal

pub overflow_cast-order : goal.overflow_cast-order
overflow_cast-order c =
    let log = c.args.self.now in
    let s = small log.block.order log.fill log.committed log.epoch c.args.bytes.now c.requires.filled in
    record { fits = omega (arith, c.order-order.ensures, s.order_small) }

pub find-requires : goal.find-requires
find-requires c =
    let log = c.args.self.now in
    let s = small log.block.order log.fill log.committed log.epoch c.args.bytes.now c.requires.filled in
    record {
      small = omega (arith, c.order-order.ensures, s.order_small);
      long = s.long ∙ ap block_len (sym c.order-order.ensures);
      rows = s.rows;
      may = may-find log.index log.fill.entries (entries_of log.block.order log.fill c.args.bytes.now) c.requires.indexed (count log.block.order log.fill c.args.bytes.now);
    }

pub returns : goal.returns
returns c =
    let log = c.args.self.now in
    let is = c.requires.filled in
    c.find.ensures is.header is.filter (entries_of log.block.order log.fill c.args.bytes.now)
    (at-order c.order-order.result log.block.order is.header is.filter (entries_of log.block.order log.fill c.args.bytes.now) c.args.bytes.now c.order-order.ensures is.block)
    (count log.block.order log.fill c.args.bytes.now) c.requires.indexed
