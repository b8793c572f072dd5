use Rattle.std.proofs.Common.{◌≡◌, ℕ, ◌≤◌, true, IsTrue, List, sym, ◌∙◌, subst, arith}
use Rattle.std.specs.Prelude.{nat_le, ◌==◌}
use Rattle.std.specs.List.{list_any}
use Rattle.std.proofs.lemmas.Bool.{false≢true}
use Rattle.std.proofs.lemmas.Bool.Decides.{nat_tests}
use Rattle.edge_bloom.specs.Filters.{HasBitsOf}
use Rattle.block_layout.specs.Sizes.{has_filter}
use Rattle.block_reading.proofs.FilterLemmas.{newest-unknown}
use Rattle.block_reading.proofs.walks.may_lead_to.Goals as goal

has : (order : ℕ) → 3 ≤ order → IsTrue (has_filter order)
has order least = let h : nat_le 3 order ≡ true = grind (arith, nat_tests) in h

pub returns-else-order-lt-FILTER_ORDER : goal.returns-else-order-lt-FILTER_ORDER
returns-else-order-lt-FILTER_ORDER c = λ h filter xs b no e who.
    let known = b.known (has c.args.order (omega (arith, c.if-order-lt-FILTER_ORDER.false))) in
    let P : List ℕ → Type 0 = λ f. HasBitsOf f known.0 in
    let bits : HasBitsOf c.filter_of.result.now known.0 = subst P (sym (c.filter_of.ensures.bytes ∙ b.bits)) known.1.0 in
    let unknown : IsTrue (list_any (λ y. y == c.args.d) known.0) → ⊥ = λ among. false≢true (sym no ∙ c.may_hold.ensures.added known.0 bits among) in
    newest-unknown known.0 xs c.args.d e who unknown known.1.1
