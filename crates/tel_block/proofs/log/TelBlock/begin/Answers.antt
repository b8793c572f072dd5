use Rattle.std.proofs.Common.{ℕ, ◌-◌, sym, ap, subst, ◌∙◌, arith}
use Rattle.block_index.specs.Indexed.{IsFresh}
use Rattle.block_layout.specs.Sizes.{block_len, props_start}
use Rattle.block_pool.specs.Pools.{with_bytes}
use Rattle.tel_block.proofs.FormFacts.{Placed, placed, taken-order}
use Rattle.tel_block.proofs.log.TelBlock.begin.Goals as goal

pub order_for-least-requires : goal.order_for-least-requires
order_for-least-requires c = record { least = omega arith; fits = omega (arith, c.requires.within, c.requires.most) }

pub bytes_mut-bytes-requires : goal.bytes_mut-bytes-requires
bytes_mut-bytes-requires c = c.in_ok-block.ensures.out

pub begun-requires : goal.begun-requires
begun-requires c =
    let order = taken-order c.order_for-least.result c.args.room.now c.in_ok-block.block c.take.new.self c.in_ok-block.ensures.taken in
    record {
      small = omega (arith, order, c.order_for-least.ensures.within);
      long = c.bytes_mut-bytes.ensures.long;
      most = c.requires.most;
      noted = c.in_ok-noted.ensures.items;
      index = subst (λ (o : ℕ). IsFresh o c.in_ok-index.index) (sym order) c.in_ok-index.ensures.fresh;
      may_end = omega (arith, c.in_ok-noted.ensures.len, c.in_ok-noted.ensures.capacity);
    }

pub returns-clause-begins : goal.returns-clause-begins
returns-clause-begins c =
    let log = c.begun.result in
    let b = c.in_ok-block.block in
    let lies : Placed c.args.room.now (with_bytes c.take.new.self b.chunk b.start c.begun.new.bytes) log c.begun.new.bytes =
    placed c.order_for-least.result c.args.room.now b c.take.new.self log c.begun.new.bytes c.in_ok-block.ensures.taken c.in_ok-block.ensures.whole
    (c.begun.auto.bytes ∙ c.bytes_mut-bytes.ensures.long) c.begun.ensures.block c.begun.ensures.is_log in
    let order = ap (λ b. b.order) c.begun.ensures.block ∙ taken-order c.order_for-least.result c.args.room.now b c.take.new.self c.in_ok-block.ensures.taken in
    let fill = c.begun.ensures.fill in
    let room = ap (λ (k : ℕ). block_len k - props_start k) order in
    let entries = ap (λ f. f.entries) fill in
    let props = ap (λ f. f.props) fill in
    record {
      stands = lies.stands;
      empty = lies.content ∙ c.begun.ensures.empty;
      limit = c.begun.ensures.limit;
      has_room = omega (arith, room, entries, props, c.begun.ensures.limit, c.order_for-least.ensures.large, c.requires.within);
      may_end = c.begun.ensures.may_end;
      taken = lies.taken;
      keeps = lies.keeps;
    }
