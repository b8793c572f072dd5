use Rattle.std.proofs.Common.{ℕ, ◌<◌, List, sym, subst, ◌∙◌, arith}
use Rattle.std.specs.Prelude.{All}
use Rattle.block_layout.specs.Sizes.{props_start}
use Rattle.tel_block.specs.Logs.{entries_of, IsReached}
use Rattle.tel_block.proofs.LogFacts.{count, small}
use Rattle.tel_block.proofs.Steps.{settled}
use Rattle.tel_block.proofs.log.TelBlock.settle.Goals as goal

pub has_private-requires : goal.has_private-requires
has_private-requires c =
    let log = c.args.self.now in
    let s = small log.block.order log.fill log.committed log.epoch c.args.bytes.now c.requires.filled in
    record {
      from = (let w = c.requires.settled in omega (arith, w, s.few));
      rows = s.rows;
      noted = subst (λ (ns : List ℕ). All (λ n. n < log.settled) ns) (sym c.deref.ensures.value) c.requires.noted;
    }

pub returns-then-not-has_private-clause-is_log : goal.returns-then-not-has_private-clause-is_log
returns-then-not-has_private-clause-is_log c =
    let log = c.args.self.now in
    let xs = entries_of log.block.order log.fill c.args.bytes.now in
    settled log c.clear.new.self c.args.bytes.now c.requires c.clear.ensures.items
    (sym (c.has_private.ensures (props_start log.block.order) xs c.requires.filled.block.entries (count log.block.order log.fill c.args.bytes.now)
    (subst (λ (ns : List ℕ). IsReached ns log.settled xs) (sym c.deref.ensures.value) c.requires.reached)) ∙ c.if-not-has_private.true)
