use Rattle.std.proofs.Common.{◌≡◌, ℕ, sym, ap, subst, ◌∙◌, arith}
use Rattle.block_layout.specs.Sizes.{props_start}
use Rattle.block_layout.specs.Blocks.{HoldsEntries}
use Rattle.tel_block.specs.Logs.{entries_of}
use Rattle.tel_block.proofs.LogFacts.{small}
use Rattle.block_reading.proofs.PastLemmas.{past-below}
use Rattle.tel_block.proofs.log.TelBlock.part_in.Goals as goal
use Rattle.tel_block.proofs.log.TelBlock.part_in.Goals.{After-props_start-start}

pub overflow_cast-order : goal.overflow_cast-order
overflow_cast-order c =
    let log = c.args.self.now in
    let s = small log.block.order log.fill log.committed log.epoch c.args.bytes.now c.requires.is_log.filled in
    record { fits = omega (arith, c.order.ensures, s.order_small) }

pub props_start-start-requires : goal.props_start-start-requires
props_start-start-requires c =
    let log = c.args.self.now in
    let s = small log.block.order log.fill log.committed log.epoch c.args.bytes.now c.requires.is_log.filled in
    omega (arith, c.order.ensures, s.order_small)

-- the entries of the log are those of its block
held : (c : After-props_start-start) → HoldsEntries c.props_start-start.result (entries_of c.args.self.now.block.order c.args.self.now.fill c.args.bytes.now) c.args.bytes.now
held c =
    let log = c.args.self.now in
    let at : c.props_start-start.result ≡ props_start log.block.order = c.props_start-start.ensures ∙ ap props_start c.order.ensures in
    subst (λ (n : ℕ). HoldsEntries n (entries_of log.block.order log.fill c.args.bytes.now) c.args.bytes.now) (sym at) c.requires.is_log.filled.block.entries

pub part-requires : goal.part-requires
part-requires c = (entries_of c.args.self.now.block.order c.args.self.now.fill c.args.bytes.now, (held (goal.at.part-requires c).After-props_start-start, c.requires.place))

pub part_of_past-requires : goal.part_of_past-requires
part_of_past-requires c =
    let xs = entries_of c.args.self.now.block.order c.args.self.now.fill c.args.bytes.now in
    let is = held (goal.at.part_of_past-requires c).After-props_start-start in
    record {
      place = (xs, (is, c.requires.place));
      past = past-below c.props_start-start.result c.args.place xs c.args.bytes.now c.args.read is c.requires.place
          (c.is_past_below.ensures c.args.bytes.now c.requires.is_log c.if-is_past_below.true);
    }

pub returns-then-is_past_below : goal.returns-then-is_past_below
returns-then-is_past_below c =
    c.part_of_past.ensures (entries_of c.args.self.now.block.order c.args.self.now.fill c.args.bytes.now)
    (held (goal.at.returns-then-is_past_below c).After-props_start-start) c.requires.place

pub returns-else-is_past_below : goal.returns-else-is_past_below
returns-else-is_past_below c =
    c.part.ensures (entries_of c.args.self.now.block.order c.args.self.now.fill c.args.bytes.now)
    (held (goal.at.returns-else-is_past_below c).After-props_start-start) c.requires.place
