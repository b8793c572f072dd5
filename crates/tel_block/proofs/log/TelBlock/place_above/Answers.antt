use Rattle.std.proofs.Common.{List, arith}
use Rattle.edge_log.specs.Entries.{Entry}
use Rattle.edge_log.proofs.PlaceLemmas.{entry_at_there-within}
use Rattle.block_layout.specs.Sizes.{props_start}
use Rattle.block_index.proofs.IndexFacts.{may-find}
use Rattle.tel_block.specs.Logs.{entries_of}
use Rattle.tel_block.proofs.LogFacts.{count, small}
use Rattle.tel_block.proofs.log.TelBlock.place_above.Goals as goal

pub place_above-requires-clause-there : goal.place_above-requires-clause-there
place_above-requires-clause-there c =
    let log = c.args.self.now in
    let xs : List Entry = entries_of log.block.order log.fill c.args.bytes.now in
    let n = count log.block.order log.fill c.args.bytes.now in
    let within = entry_at_there-within xs c.args.place c.requires.there in
    omega (arith, n, within)

pub place_above-requires-clause-rows : goal.place_above-requires-clause-rows
place_above-requires-clause-rows c =
    let log = c.args.self.now in
    let s = small log.block.order log.fill log.committed log.epoch c.args.bytes.now c.requires.is_log.filled in
    s.rows

pub place_above-requires-clause-may : goal.place_above-requires-clause-may
place_above-requires-clause-may c =
    let log = c.args.self.now in
    may-find log.index log.fill.entries (entries_of log.block.order log.fill c.args.bytes.now) c.requires.is_log.indexed (count log.block.order log.fill c.args.bytes.now)

pub place_above-requires-clause-holds : goal.place_above-requires-clause-holds
place_above-requires-clause-holds c =
    let log = c.args.self.now in
    let is = c.requires.is_log in
    let s = small log.block.order log.fill log.committed log.epoch c.args.bytes.now is.filled in (
      props_start log.block.order,
      entries_of log.block.order log.fill c.args.bytes.now,
      (is.filled.block.entries, count log.block.order log.fill c.args.bytes.now, (let p = is.filled.props in omega (arith, p, s.inside, s.long, s.short)), is.indexed),
    )

pub returns-in-Some-clause-place : goal.returns-in-Some-clause-place
returns-in-Some-clause-place c =
    let log = c.args.self.now in
    let is = c.requires.is_log in
    c.in-Some.ensures.place (props_start log.block.order) (entries_of log.block.order log.fill c.args.bytes.now) is.filled.block.entries (count log.block.order log.fill c.args.bytes.now) is.indexed

pub returns-in-None-clause-above : goal.returns-in-None-clause-above
returns-in-None-clause-above c =
    let log = c.args.self.now in
    let xs : List Entry = entries_of log.block.order log.fill c.args.bytes.now in
    let within = entry_at_there-within xs c.args.place c.requires.there in
    let below = c.first_place.ensures.below c.args.bytes.now c.requires.is_log in
    omega (arith, within, below)
