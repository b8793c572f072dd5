use Rattle.std.proofs.Common.{◌≡◌, ℕ, ◌+◌, ◌-◌, ◌*◌, ◌<◌, ◌≤◌, List, ◌∷◌, length, refl, sym, ap, subst, arith}
use Rattle.edge_log.specs.Entries.{Entry, fresh_entry}
use Rattle.block_layout.specs.Sizes.{block_len, props_start}
use Rattle.block_layout.specs.Blocks.{IsBlock}
use Rattle.block_layout.proofs.Blocked.{start_small}
use Rattle.block_writing.specs.Filters.{filter_in}
use Rattle.tel_block.specs.declared.log.TelBlock.{TelBlock}
use Rattle.edge_log.specs.Contents.{with_appended}
use Rattle.block_index.specs.Indexed.{most_in}
use Rattle.block_index.proofs.IndexFacts.{may-push}
use Rattle.tel_block.specs.Logs.{content_in, entries_of}
use Rattle.tel_block.proofs.LogFacts.{Small, small, at-order, count}
use Rattle.tel_block.proofs.Steps.{Shows, appended}
use Rattle.tel_block.proofs.log.TelBlock.append_in.Goals as goal
use Rattle.tel_block.proofs.log.TelBlock.append_in.Goals.{After-len}

pub overflow_cast-order : goal.overflow_cast-order
overflow_cast-order c =
    let log = c.args.self.now in
    let s = small log.block.order log.fill log.committed log.epoch c.args.bytes.now c.requires.is_log.filled in
    record { fits = omega (arith, c.order-order.ensures, s.order_small) }

-- the block has room for one entry more than there are
more-within : (log : TelBlock) (k : ℕ) (xs : List Entry) → length xs ≡ log.fill.entries →
    28 + k ≤ block_len log.block.order - props_start log.block.order - (28 * log.fill.entries + log.fill.props) → length xs < most_in log.block.order
more-within log k xs n room = omega (arith, n, room)

-- an entry more is within the block
fits : (log : TelBlock) (o n : ℕ) (p bytes : List ℕ) → o ≡ log.block.order → n ≡ length p → Small log.block.order log.fill log.committed bytes →
    28 + length p ≤ block_len log.block.order - props_start log.block.order - (28 * log.fill.entries + log.fill.props) →
    props_start o + (log.fill.props + n) + 28 * (log.fill.entries + 1) ≤ length bytes
fits log o n p bytes same len s room =
    let e = ap props_start same in
    let start = start_small log.block.order in
    let long = s.long in
    omega (arith, e, start, long, room, len)

pub push-requires : goal.push-requires
push-requires c =
    let log = c.args.self.now in
    let bytes : List ℕ = c.args.bytes.now in
    let is = c.requires.is_log in
    let n = count log.block.order log.fill bytes in
    let s = small log.block.order log.fill log.committed log.epoch bytes is.filled in
    may-push log.index (most_in log.block.order) (entries_of log.block.order log.fill bytes) is.indexed is.index_room
    (more-within log (length c.args.p.now) (entries_of log.block.order log.fill bytes) n (omega (arith, c.requires.has_room)))
    (omega (arith, n, s.rows, s.long, s.short))

pub append_entry-requires : goal.append_entry-requires
append_entry-requires c =
    let log = c.args.self.now in
    let s = small log.block.order log.fill log.committed log.epoch c.args.bytes.now c.requires.is_log.filled in
    record {
      small = omega (arith, c.order-order.ensures, s.order_small);
      room = fits log c.order-order.result (length c.as_slice.result.now) c.args.p.now c.args.bytes.now c.order-order.ensures (ap length c.as_slice.ensures.bytes) s (omega (arith, c.requires.has_room));
      number = c.requires.number;
      len = c.as_slice.ensures.within;
    }

pub overflow_cast-self : goal.overflow_cast-self
overflow_cast-self c = record { fits = omega (arith, c.len.ensures.within) }

-- what is written makes the log one with the edge in front
shown : (c : After-len) → Shows (record c.args.self.now { fill = record { entries = c.args.self.now.fill.entries + 1; props = c.args.self.now.fill.props + c.len.result }; index = c.push.new.self }) (with_appended c.args.tid c.args.d c.args.p.now (content_in c.args.self.now c.args.bytes.now)) c.append_entry.new.block
shown c =
    let log = c.args.self.now in
    let old : List ℕ = c.args.bytes.now in
    let new : List ℕ = c.append_entry.new.block in
    let o : ℕ = c.order-order.result in
    let f : List ℕ = filter_in o new in
    let order : ℕ = log.block.order in
    let xs : List Entry = entries_of log.block.order log.fill old in
    appended log c.push.new.self c.args.tid c.args.d c.len.result c.args.p.now old new f c.requires.is_log
    (c.push.ensures.pushed xs (fresh_entry c.args.d c.args.p.now c.args.tid) c.requires.is_log.indexed refl (sym c.requires.is_log.filled.props))
    (c.push.ensures.room (most_in order) c.requires.is_log.index_room) c.len.ensures.len (omega (arith, c.requires.has_room))
    (λ h g xs b n s.
    subst (λ (q : List ℕ). IsBlock order h f (fresh_entry c.args.d q c.args.tid ∷ xs) new) c.as_slice.ensures.bytes
    (subst (λ (k : ℕ). IsBlock k h f (fresh_entry c.args.d c.as_slice.result.now c.args.tid ∷ xs) new) c.order-order.ensures
    (c.append_entry.ensures.appended h g xs (at-order o order h g xs old c.order-order.ensures b) n s)))

pub returns-clause-is_log : goal.returns-clause-is_log
returns-clause-is_log c = (shown (goal.at.returns-clause-is_log c).After-len).is

pub returns-clause-appended : goal.returns-clause-appended
returns-clause-appended c = (shown (goal.at.returns-clause-appended c).After-len).content
