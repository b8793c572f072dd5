use Rattle.std.proofs.Common.{ℕ, ◌<◌, List, sym, subst, ◌∙◌, arith}
use Rattle.std.specs.Prelude.{All}
use Rattle.block_writing.specs.Changed.{AreReached}
use Rattle.edge_log.specs.Contents.{with_converted}
use Rattle.tel_block.specs.Logs.{entries_of, content_in}
use Rattle.tel_block.proofs.LogFacts.{count, small}
use Rattle.tel_block.proofs.PrivateFacts.{reached-of}
use Rattle.tel_block.proofs.Steps.{Shows, committed}
use Rattle.tel_block.proofs.log.TelBlock.convert_in.Goals as goal
use Rattle.tel_block.proofs.log.TelBlock.convert_in.Goals.{After-max-self}

pub convert_bytes-requires : goal.convert_bytes-requires
convert_bytes-requires c =
    let log = c.args.self.now in
    let is = c.requires.is_log in
    let s = small log.block.order log.fill log.committed log.epoch c.args.bytes.now is.filled in
    record {
      from = (let w = is.settled in omega (arith, w, s.few));
      rows = s.rows;
      header = s.header;
      noted = subst (λ (ns : List ℕ). All (λ n. n < log.fill.entries) ns) (sym c.deref.ensures.value) (λ k d h. (let w = is.noted k d h in let v = is.settled in omega (arith, w, v, s.few)));
      epoch = c.requires.epoch;
    }

shown : (c : After-max-self) → Shows (record c.args.self.now { committed = c.args.self.now.fill; epoch = c.args.epoch; latest = c.max-self.result }) (with_converted c.args.tid c.args.epoch (content_in c.args.self.now c.args.bytes.now)) c.convert_bytes.new.bytes
shown c =
    let log = c.args.self.now in
    let is = c.requires.is_log in
    let xs = entries_of log.block.order log.fill c.args.bytes.now in
    let latest = c.max-self.ensures in
    committed log c.args.tid c.args.epoch c.max-self.result c.args.bytes.now c.convert_bytes.new.bytes is (omega (arith, latest)) (omega (arith, latest))
    (c.convert_bytes.ensures log.block.order is.filled.header is.filled.filter xs is.filled.block (count log.block.order log.fill c.args.bytes.now)
    (subst (λ (ns : List ℕ). AreReached c.args.tid ns log.settled xs) (sym c.deref.ensures.value) (reached-of c.args.tid log.noted.items log.settled xs is.reached)))

pub settle-requires : goal.settle-requires
settle-requires c = (shown (goal.at.settle-requires c).After-max-self).is

pub returns-clause-converted : goal.returns-clause-converted
returns-clause-converted c = c.settle.ensures.content ∙ (shown (goal.at.returns-clause-converted c).After-max-self).content
