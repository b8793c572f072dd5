use Rattle.std.proofs.Common.{ℕ, ◌<◌, List, sym, subst, arith}
use Rattle.std.specs.Prelude.{All}
use Rattle.block_layout.specs.Sizes.{props_start}
use Rattle.tel_block.specs.Logs.{entries_of, IsReached}
use Rattle.tel_block.proofs.LogFacts.{small, count}
use Rattle.tel_block.proofs.log.TelBlock.has_entry_in.Goals as goal

pub has_private-requires : goal.has_private-requires
has_private-requires c =
    let log = c.args.self.now in
    let s = small log.block.order log.fill log.committed log.epoch c.args.bytes.now c.requires.filled in
    record {
      from = (let w = c.requires.settled in omega (arith, w, s.few));
      rows = s.rows;
      noted = subst (λ (ns : List ℕ). All (λ n. n < log.settled) ns) (sym c.deref.ensures.value) c.requires.noted;
    }

pub returns : goal.returns
returns c =
    let log = c.args.self.now in
    let xs = entries_of log.block.order log.fill c.args.bytes.now in
    c.has_private.ensures (props_start log.block.order) xs c.requires.filled.block.entries (count log.block.order log.fill c.args.bytes.now)
    (subst (λ (ns : List ℕ). IsReached ns log.settled xs) (sym c.deref.ensures.value) c.requires.reached)
