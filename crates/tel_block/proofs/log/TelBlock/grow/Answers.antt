use Rattle.std.proofs.Common.{ℕ, List, refl, sym, ap, subst, ◌∙◌, arith}
use Rattle.block_layout.specs.Sizes.{block_len, props_start}
use Rattle.block_layout.proofs.Blocked.{start_small}
use Rattle.block_pool.specs.Pools.{ChunkContent, bytes_of, with_bytes}
use Rattle.tel_block.specs.declared.log.TelBlock.{TelBlock}
use Rattle.tel_block.specs.declared.old.OldBlock.{OldBlock}
use Rattle.block_index.specs.Indexed.{Indexes, HasRoom, most_in}
use Rattle.tel_block.specs.Logs.{IsLog, old_of, content_in, entries_of}
use Rattle.tel_block.specs.Places.{Moves}
use Rattle.tel_block.proofs.LogFacts.{small}
use Rattle.tel_block.proofs.RoomFacts.{length-block}
use Rattle.tel_block.proofs.TakeFacts.{taken-lies, taken-keeps, taken-apart}
use Rattle.tel_block.proofs.FormFacts.{moves, taken-order}
use Rattle.tel_block.proofs.Steps.{Shows, copied-whole}
use Rattle.tel_block.proofs.log.TelBlock.grow.Goals as goal

pub order_for-order-requires : goal.order_for-order-requires
order_for-order-requires c =
    let log = c.args.self.now in
    let is = c.requires.stands.is_log in
    let s = small log.block.order log.fill log.committed log.epoch (bytes_of c.args.room.now log.block) is.filled in
    record { least = omega (arith, c.order.ensures, s.order_small); fits = omega (arith, c.used.ensures, c.requires.within, is.bounded) }

pub bytes-requires : goal.bytes-requires
bytes-requires c = c.requires.stands.lies.out

pub transfer-requires-clause-apart : goal.transfer-requires-clause-apart
transfer-requires-clause-apart c =
    taken-apart c.order_for-order.result c.args.room.now c.in_ok-block.block c.take.new.self c.in_ok-block.ensures.taken c.args.self.now.block c.requires.stands.lies.out

pub transfer-requires-clause-may : goal.transfer-requires-clause-may
transfer-requires-clause-may c =
    let log = c.args.self.now in
    let b = c.in_ok-block.block in
    let mid : List ChunkContent = c.take.new.self in
    let takes = c.in_ok-block.ensures.taken in
    let kept = taken-keeps c.order_for-order.result c.args.room.now b mid takes c.in_ok-block.ensures.whole log.block c.requires.stands.lies in
    let is : IsLog log (bytes_of mid log.block) = subst (λ (bytes : List ℕ). IsLog log bytes) (sym kept.1) c.requires.stands.is_log in
    let s = small log.block.order log.fill log.committed log.epoch (bytes_of mid log.block) is.filled in
    let order = taken-order c.order_for-order.result c.args.room.now b mid takes in
    let moving = c.moving_to-moving.ensures in
    let long = length-block mid b (taken-lies c.order_for-order.result c.args.room.now b mid takes c.in_ok-block.ensures.whole) in
    let from = ap props_start moving.orders.0 in
    let to = ap props_start (moving.orders.1 ∙ order) in
    let room = ap block_len (moving.orders.1 ∙ order) in
    let at = ap block_len order in
    let start = start_small c.order_for-order.result in
    let entries = ap (λ f. f.entries) moving.fill in
    let props = ap (λ f. f.props) moving.fill in
    record {
      small = (omega (arith, moving.orders, s.order_small), omega (arith, moving.orders, order, c.order_for-order.ensures.within));
      long = long ∙ ap block_len (sym moving.orders.1);
      header = s.header;
      held = omega (arith, from, entries, props, s.inside);
      room = omega (arith, to, start, entries, props, c.order_for-order.ensures.large, c.used.ensures, long, at);
    }

pub returns-clause-moves : goal.returns-clause-moves
returns-clause-moves c =
    let log : TelBlock = c.args.self.now in
    let b = c.in_ok-block.block in
    let old : List ChunkContent = c.args.room.now in
    let mid : List ChunkContent = c.take.new.self in
    let takes = c.in_ok-block.ensures.taken in
    let kept = taken-keeps c.order_for-order.result old b mid takes c.in_ok-block.ensures.whole log.block c.requires.stands.lies in
    let from : List ℕ = bytes_of mid log.block in
    let part : List ℕ = c.transfer.ensures.part in
    let is : IsLog log from = subst (λ (bytes : List ℕ). IsLog log bytes) (sym kept.1) c.requires.stands.is_log in
    let new : TelBlock = record log { block = b; index = c.in_ok-index.index } in
    let out : OldBlock = old_of log in
    let moving = c.moving_to-moving.ensures in
    let order = taken-order c.order_for-order.result old b mid takes in
    let indexed : Indexes c.in_ok-index.index (entries_of log.block.order log.fill from) = subst (λ (bytes : List ℕ). Indexes c.in_ok-index.index (entries_of log.block.order log.fill bytes)) (c.bytes.ensures.bytes ∙ sym kept.1) c.in_ok-index.ensures.indexes in
    let index_room : HasRoom (most_in b.order) c.in_ok-index.index = subst (λ (o : ℕ). HasRoom (most_in o) c.in_ok-index.index) (sym order) c.in_ok-index.ensures.room in
    let shows : Shows new (content_in log from) part = copied-whole log b c.in_ok-index.index c.moving_to-moving.result from part is indexed index_room moving.orders.0 moving.orders.1 moving.fill c.transfer.ensures.done in
    let moved = moves c.args.size c.order_for-order.result old b mid log new out from part c.requires.stands takes c.in_ok-block.ensures.whole c.transfer.ensures.long kept.1
    (record {
      block = refl;
      is_log = shows.is;
      content = shows.content;
      fill = refl;
      limit = refl;
      may_end = λ may. may;
      is_old = (log.committed, is.filled);
      old_content = refl;
      old_block = refl;
      within = c.requires.within;
      room = omega (arith, c.order_for-order.ensures.large, c.used.ensures);
    }) in
    subst (λ (r : List ChunkContent). Moves c.args.size log c.move_to.new.self c.move_to.result old r) (sym c.transfer.ensures.new_is)
    (subst (λ (x : TelBlock). Moves c.args.size log x c.move_to.result old (with_bytes mid b.chunk b.start part)) (sym c.move_to.ensures.moved)
    (subst (λ (x : OldBlock). Moves c.args.size log new x old (with_bytes mid b.chunk b.start part)) (sym c.move_to.ensures.old) moved))
