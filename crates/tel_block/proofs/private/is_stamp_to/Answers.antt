use Rattle.std.proofs.Common.{◌≡◌, ◌-◌, true, false, ap, sym, ◌∙◌, arith}
use Rattle.std.specs.Prelude.{◌&&◌, ◌==◌, Bool, nat_le}
use Rattle.std.proofs.lemmas.Bool.Decides.{nat_tests}
use Rattle.tel_block.specs.Logs.{is_stamp_to}
use Rattle.tel_block.proofs.PrivateFacts.{stamp-to-none, stamp-to-some}
use Rattle.tel_block.proofs.private.is_stamp_to.Goals as goal

pub returns-in-None : goal.returns-in-None
returns-in-None c = λ s has same. stamp-to-none s c.args.stamp has same ∙ ap (λ of. is_stamp_to of s) (sym c.in-None.is)

pub returns-then-stamp-ge-PRIVATE : goal.returns-then-stamp-ge-PRIVATE
returns-then-stamp-ge-PRIVATE c = λ s has same.
    let large : nat_le 0x8000_0000_0000_0000 c.args.stamp ≡ true = (let h = c.if-stamp-ge-PRIVATE.true in grind (arith, nat_tests, h)) in
    ap (λ (b : Bool). b && c.args.stamp - 0x8000_0000_0000_0000 == c.in-Some.tid) (sym large) ∙ stamp-to-some c.in-Some.tid s c.args.stamp has same ∙ ap (λ of. is_stamp_to of s) (sym c.in-Some.is)

pub returns-else-stamp-ge-PRIVATE : goal.returns-else-stamp-ge-PRIVATE
returns-else-stamp-ge-PRIVATE c = λ s has same.
    let low : nat_le 0x8000_0000_0000_0000 c.args.stamp ≡ false = (let h = c.if-stamp-ge-PRIVATE.false in grind (arith, nat_tests, h)) in
    low ∙ ap (λ (b : Bool). b && c.args.stamp - 0x8000_0000_0000_0000 == c.in-Some.tid) (sym low) ∙ stamp-to-some c.in-Some.tid s c.args.stamp has same ∙ ap (λ of. is_stamp_to of s) (sym c.in-Some.is)
