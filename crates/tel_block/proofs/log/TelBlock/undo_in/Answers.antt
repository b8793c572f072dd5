use Rattle.std.proofs.Common.{ℕ, ◌<◌, List, sym, subst, ◌∙◌, arith}
use Rattle.std.specs.Prelude.{All}
use Rattle.edge_log.specs.Places.{oldest}
use Rattle.block_writing.specs.Changed.{AreReached}
use Rattle.edge_log.specs.Contents.{with_undone}
use Rattle.block_layout.specs.Sizes.{props_start}
use Rattle.block_index.specs.Indexed.{most_in}
use Rattle.block_index.proofs.IndexFacts.{may-take-back}
use Rattle.tel_block.specs.Logs.{entries_of, content_in}
use Rattle.tel_block.proofs.LogFacts.{count, small}
use Rattle.tel_block.proofs.PrivateFacts.{reached-of, reached-oldest}
use Rattle.tel_block.proofs.Steps.{Shows, undone}
use Rattle.tel_block.proofs.log.TelBlock.undo_in.Goals as goal
use Rattle.tel_block.proofs.log.TelBlock.undo_in.Goals.{After-undo_bytes}

pub take_back-requires : goal.take_back-requires
take_back-requires c =
    let log = c.args.self.now in
    let is = c.requires in
    let s = small log.block.order log.fill log.committed log.epoch c.args.bytes.now is.filled in
    record { may = may-take-back log.index (entries_of log.block.order log.fill c.args.bytes.now) is.indexed; from = is.filled.within; rows = s.rows }

pub undo_bytes-requires : goal.undo_bytes-requires
undo_bytes-requires c =
    let log = c.args.self.now in
    let is = c.requires in
    let s = small log.block.order log.fill log.committed log.epoch c.args.bytes.now is.filled in
    record {
      from = is.settled;
      rows = omega (arith, s.rows, s.few);
      noted = subst (λ (ns : List ℕ). All (λ n. n < log.committed.entries) ns) (sym c.deref.ensures.value) (λ k d h. (let w = is.noted k d h in let v = is.settled in omega (arith, w, v)));
    }

shown : (c : After-undo_bytes) → Shows (record c.args.self.now { fill = c.args.self.now.committed; index = c.take_back.new.self }) (with_undone c.args.tid (content_in c.args.self.now c.args.bytes.now)) c.undo_bytes.new.bytes
shown c =
    let log = c.args.self.now in
    let is = c.requires in
    let xs = entries_of log.block.order log.fill c.args.bytes.now in
    let n = count log.block.order log.fill c.args.bytes.now in
    let ys = oldest log.committed.entries xs in
    undone log c.take_back.new.self c.args.tid c.args.bytes.now c.undo_bytes.new.bytes is
    (c.take_back.ensures.indexed (props_start log.block.order) xs is.filled.block.entries n is.indexed) (c.take_back.ensures.room (most_in log.block.order) is.index_room)
    (c.undo_bytes.ensures log.block.order is.filled.header is.filled.filter xs is.filled.block (let w = is.filled.within in omega (arith, n, w))
    (subst (λ (ns : List ℕ). AreReached c.args.tid ns log.settled ys) (sym c.deref.ensures.value) (reached-of c.args.tid log.noted.items log.settled ys (reached-oldest log.noted.items log.settled log.committed.entries xs is.reached))))

pub settle-requires : goal.settle-requires
settle-requires c = (shown (goal.at.settle-requires c).After-undo_bytes).is

pub returns-clause-undone : goal.returns-clause-undone
returns-clause-undone c = c.settle.ensures.content ∙ (shown (goal.at.returns-clause-undone c).After-undo_bytes).content
