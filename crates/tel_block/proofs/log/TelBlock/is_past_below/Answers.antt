use Rattle.std.proofs.Common.{◌≡◌, ◌≤◌, length, ap, sym, ◌∙◌, arith}
use Rattle.std.proofs.lemmas.Bool.{true≢false}
use Rattle.std.proofs.lemmas.List.{nil_from_length}
use Rattle.std.proofs.lemmas.Bool.Decides.{nat_tests}
use Rattle.tel_block.specs.Logs.{entries_of}
use Rattle.tel_block.proofs.LogFacts.{count}
use Rattle.tel_block.proofs.DatedFacts.{past-below}
use Rattle.tel_block.proofs.log.TelBlock.is_past_below.Goals as goal
use Rattle.tel_block.proofs.log.TelBlock.is_past_below.Goals.{then-is_empty, else-is_empty}

pub returns-then-below-self : goal.returns-then-below-self
returns-then-below-self c = λ bytes is seen.
    let log = c.args.self.now in
    let xs = entries_of log.block.order log.fill bytes in
    elim c.if-is_empty.branch [
      | then-is_empty w ↦
          let both = sym w.value-is ∙ c.if-below-self.true in
          let low : c.args.below ≤ log.settled = grind (arith, nat_tests, both) in
          let latest : log.latest ≤ c.args.read = grind (arith, nat_tests, seen) in
          let none : length log.noted.items ≡ 0 = (let value = ap length c.deref-noted.ensures.value in let is_empty = w.if-is_empty.true in grind (arith, nat_tests, value, is_empty)) in
          let within : c.args.below ≤ length xs = (let n = count log.block.order log.fill bytes in let settled = is.settled in let few = is.filled.within in omega (arith, n, settled, few, low)) in
          past-below log.noted.items log.settled log.latest c.args.read c.args.below xs (nil_from_length log.noted.items none) low within latest is.reached is.dated
      | else-is_empty w ↦ absurd (true≢false (sym c.if-below-self.true ∙ w.value-is ∙ w.if-is_empty.false))
    ]
