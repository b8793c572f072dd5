use Rattle.std.proofs.Math.Pow.{pow_mono}
use Rattle.std.proofs.Common.{ℕ, ◌+◌, ◌*◌, ◌^◌, ◌≤◌, List, length, refl, sym, ap, subst, ◌∙◌, arith}
use Rattle.edge_log.specs.Entries.{Entry, kept, payload_sum}
use Rattle.block_layout.specs.Sizes.{block_len, props_start}
use Rattle.block_layout.specs.Blocks.{IsBlock}
use Rattle.block_layout.proofs.Blocked.{start_small}
use Rattle.block_writing.specs.Filters.{filter_in}
use Rattle.block_writing.specs.Headers.{kept_header}
use Rattle.block_writing.specs.Spelled.{spelled, Spells}
use Rattle.edge_log.specs.Contents.{with_kept}
use Rattle.block_index.specs.Indexed.{most_in}
use Rattle.block_index.proofs.IndexFacts.{has-room-less}
use Rattle.tel_block.specs.Logs.{entries_of, content_in}
use Rattle.tel_block.proofs.LogFacts.{small}
use Rattle.tel_block.proofs.Steps.{Shows, copied}
use Rattle.tel_block.proofs.log.TelBlock.kept_in.Goals as goal
use Rattle.tel_block.proofs.log.TelBlock.kept_in.Goals.{After-copy_kept, After-note}

pub overflow_cast-order : goal.overflow_cast-order
overflow_cast-order c = record { fits = omega (arith, c.order-order.ensures, c.requires.order) }

pub begin_kept-requires : goal.begin_kept-requires
begin_kept-requires c =
    let log = c.args.self.now in
    let s = small log.block.order log.fill log.committed log.epoch c.args.from.now c.requires.is_log.filled in
    record {
      small = omega (arith, c.order-order.ensures, c.requires.order);
      long = c.requires.long ∙ ap block_len (sym c.order-order.ensures);
      header = s.header;
    }

pub overflow_cast-order-2 : goal.overflow_cast-order-2
overflow_cast-order-2 c =
    let log = c.args.self.now in
    let s = small log.block.order log.fill log.committed log.epoch c.args.from.now c.requires.is_log.filled in
    record { fits = omega (arith, c.order.ensures, s.order_small) }

pub copy_kept-requires : goal.copy_kept-requires
copy_kept-requires c =
    let log = c.args.self.now in
    let is = c.requires.is_log.filled in
    let from : List ℕ = c.args.from.now in
    let s = small log.block.order log.fill log.committed log.epoch from is in
    let to = ap props_start c.order-order.ensures in
    let start = start_small c.args.block.order in
    let ys : List Entry = kept c.args.horizon (entries_of log.block.order log.fill from) in
    let e = c.requires.fill.entries in
    let p = c.requires.fill.props in
    let long = c.begin_kept.auto.to in
    let fits : props_start c.order-order.result + payload_sum ys + 28 * length ys ≤ length c.begin_kept.new.to = omega (arith, to, start, e, p, c.requires.room, c.requires.long, long) in
    record {
      orders = (omega (arith, c.order.ensures, s.order_small), omega (arith, c.order-order.ensures, c.requires.order));
      long = long ∙ c.requires.long ∙ ap block_len (sym c.order-order.ensures);
      spelled = subst (λ (k : ℕ). Spells k log.fill from) (sym c.order.ensures) (record { held = is.block.entries; sum = is.props });
      room = subst (λ (k : ℕ). let entries = kept c.args.horizon (spelled k log.fill from) in props_start c.order-order.result + payload_sum entries + 28 * length entries ≤ length c.begin_kept.new.to) (sym c.order.ensures) fits;
    }

-- what is kept of the entries, in the new block
kept-block : (c : After-copy_kept) →
    IsBlock c.args.block.order (kept_header c.args.block.order c.name_of-previous.result c.args.committed.entries c.args.committed.props c.requires.is_log.filled.header) (filter_in c.order-order.result c.copy_kept.new.to)
    (kept c.args.horizon (entries_of c.args.self.now.block.order c.args.self.now.fill c.args.from.now)) c.copy_kept.new.to
kept-block c =
    let log = c.args.self.now in
    let is = c.requires.is_log in
    let old : List ℕ = c.args.from.now in
    let new : List ℕ = c.copy_kept.new.to in
    let o : ℕ = c.order-order.result in
    let xs = entries_of log.block.order log.fill old in
    let f : List ℕ = filter_in o new in
    let head = kept_header o c.name_of-previous.result c.args.committed.entries c.args.committed.props is.filled.header in
    let begun = c.begin_kept.ensures.begun log.block.order is.filled.header is.filled.filter xs is.filled.block in
    let first : IsBlock o head f (kept c.args.horizon (spelled c.order.result log.fill old)) new = c.copy_kept.ensures.copied head (filter_in o c.begin_kept.new.to) begun in
    let second : IsBlock o head f (kept c.args.horizon xs) new = subst (λ (k : ℕ). IsBlock o head f (kept c.args.horizon (spelled k log.fill old)) new) c.order.ensures first in
    let P : ℕ → Type 0 = λ k. IsBlock k (kept_header k c.name_of-previous.result c.args.committed.entries c.args.committed.props is.filled.header) f (kept c.args.horizon xs) new in
    subst P c.order-order.ensures second

pub note-requires : goal.note-requires
note-requires c =
    let room = c.requires.room in
    let start = start_small c.args.block.order in
    let long = c.copy_kept.auto.to in
    let before = c.begin_kept.auto.to in
    let most : 2 ^ c.args.block.order ≤ 2 ^ 25 = pow_mono c.requires.order in
    record {
      empty = c.requires.index.0;
      room = has-room-less c.args.index c.args.fill.entries (most_in c.args.block.order) (omega (arith, room)) c.requires.index.1;
      few = omega (arith, room, most);
      rows = omega (arith, room, start, long, before, c.requires.long);
      holds = (props_start c.args.block.order, kept c.args.horizon (entries_of c.args.self.now.block.order c.args.self.now.fill c.args.from.now), ((kept-block (goal.at.note-requires c).After-copy_kept).entries, c.requires.fill.entries, (let p = c.requires.fill.props in omega (arith, p, room, most))));
    }

shown : (c : After-note) →
    IsBlock c.args.block.order (kept_header c.args.block.order c.name_of-previous.result c.args.committed.entries c.args.committed.props c.requires.is_log.filled.header) (filter_in c.order-order.result c.copy_kept.new.to)
    (kept c.args.horizon (entries_of c.args.self.now.block.order c.args.self.now.fill c.args.from.now)) c.copy_kept.new.to →
    Shows (record {
      block = c.args.block;
      fill = c.args.fill;
      committed = c.args.committed;
      epoch = c.args.self.now.epoch;
      latest = c.args.self.now.latest;
      most = c.args.self.now.most;
      noted = c.args.noted;
      settled = 0;
      index = c.note.new.self;
    }) (with_kept c.args.horizon (content_in c.args.self.now c.args.from.now)) c.copy_kept.new.to
shown c block =
    let log = c.args.self.now in
    let is = c.requires.is_log in
    let old : List ℕ = c.args.from.now in
    let new : List ℕ = c.copy_kept.new.to in
    let ys : List Entry = kept c.args.horizon (entries_of log.block.order log.fill old) in
    copied log (record {
      block = c.args.block;
      fill = c.args.fill;
      committed = c.args.committed;
      epoch = log.epoch;
      latest = log.latest;
      most = log.most;
      noted = c.args.noted;
      settled = 0;
      index = c.note.new.self;
    }) c.args.horizon c.name_of-previous.result old new (filter_in c.order-order.result new) is
    (c.note.ensures.indexed (props_start c.args.block.order) ys block.entries c.requires.fill.entries) (c.note.ensures.room (most_in c.args.block.order) c.requires.index.1)
    c.requires.noted refl c.requires.fill c.requires.committed block

pub settle-requires : goal.settle-requires
settle-requires c = (shown (goal.at.settle-requires c).After-note (kept-block (goal.at.settle-requires c).After-copy_kept)).is

pub returns-clause-kept : goal.returns-clause-kept
returns-clause-kept c = c.settle.ensures.content ∙ (shown (goal.at.returns-clause-kept c).After-note (kept-block (goal.at.returns-clause-kept c).After-copy_kept)).content
