use Rattle.std.proofs.Common.{arith}
use Rattle.block_layout.specs.Sizes.{props_start}
use Rattle.block_index.specs.Indexed.{most_in}
use Rattle.block_index.proofs.IndexFacts.{has-room-less}
use Rattle.tel_block.specs.Logs.{entries_of}
use Rattle.tel_block.proofs.LogFacts.{count, small}
use Rattle.tel_block.proofs.log.TelBlock.index_for.Goals as goal

pub note-requires : goal.note-requires
note-requires c =
    let log = c.args.self.now in
    let s = small log.block.order log.fill log.committed log.epoch c.args.bytes.now c.requires.is_log.filled in
    let fresh = c.in_ok-index.ensures.fresh in
    record {
      empty = fresh.0;
      room = has-room-less c.in_ok-index.index log.fill.entries (most_in c.args.order) (omega (arith, c.requires.room)) fresh.1;
      few = omega (arith, s.rows, s.long, s.short);
      rows = s.rows;
      holds = (props_start log.block.order, entries_of log.block.order log.fill c.args.bytes.now, (c.requires.is_log.filled.block.entries, count log.block.order log.fill c.args.bytes.now, (let p = c.requires.is_log.filled.props in omega (arith, p, s.inside, s.long, s.short))));
    }

pub returns-clause-indexes : goal.returns-clause-indexes
returns-clause-indexes c =
    let log = c.args.self.now in
    c.note.ensures.indexed (props_start log.block.order) (entries_of log.block.order log.fill c.args.bytes.now) c.requires.is_log.filled.block.entries (count log.block.order log.fill c.args.bytes.now)

pub returns-clause-room : goal.returns-clause-room
returns-clause-room c = c.note.ensures.room (most_in c.args.order) c.in_ok-index.ensures.fresh.1
