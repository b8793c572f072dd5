use Rattle.std.proofs.Common.{◌≡◌, ℕ, ◌+◌, ◌<◌, List, length, subst, sym, ap, ◌∙◌, arith}
use Rattle.edge_log.specs.Entries.{Entry, kept, payload_sum}
use Rattle.edge_log.specs.Places.{oldest}
use Rattle.block_layout.proofs.AtPlaces.{there, oldest_with, row-fits}
use Rattle.block_writing.proofs.Copied.{oldest-none}
use Rattle.block_writing.proofs.Kept.{kept-counted}
use Rattle.block_writing.proofs.keep.kept_size.Goals as goal

pub loop-place-init : goal.loop-place-init
loop-place-init c = record {
  few = omega arith;
  small = omega arith;
  counted = λ start xs held within. (ap (λ (ys : List Entry). length (kept c.args.horizon ys)) (oldest-none xs), ap (λ (ys : List Entry). payload_sum (kept c.args.horizon ys)) (oldest-none xs));
}

pub loop-place-preserved : goal.loop-place-preserved
loop-place-preserved c = record {
  few = (let one = c.kept_part-more.ensures.few in let was = c.loop-place.invariant.few in omega (arith, one, was));
  small = (let short = c.kept_part-more.ensures.short in let was = c.loop-place.invariant.small in let is = c.from-props.ensures in omega (arith, short, was, is));
  counted = λ start xs held within.
      (let n : ℕ = c.loop-place.place in
      let h : ℕ = c.args.horizon in
      let below : n < length xs = omega (arith, within) in
      let x = there xs n below in
      let read = c.read_row-entry.ensures start xs x.0 held x.1 in
      let more = oldest_with xs n x.0 x.1 in
      let was = c.loop-place.invariant.counted start xs held within in
      let now = kept-counted h x.0 (oldest n xs) c.read_row-entry.result c.kept_part-more.result.0 c.kept_part-more.result.1 (row-fits start n xs x.0 c.args.from.now held x.1) read c.kept_part-more.ensures.entries c.kept_part-more.ensures.props in
      let long = ap (λ (ys : List Entry). length (kept h ys)) more in
      let sum = ap (λ (ys : List Entry). payload_sum (kept h ys)) more in
      (long ∙ now.0 ∙ ap (λ (k : ℕ). k + c.kept_part-more.result.0) was.0, sum ∙ now.1 ∙ ap (λ (k : ℕ). k + c.kept_part-more.result.1) was.1 ∙ ap (λ (k : ℕ). c.loop-place.props + k) (sym c.from-props.ensures)));
}

pub returns : goal.returns
returns c = λ start xs held within.
    let end : c.loop-place.place ≡ c.args.count = omega (arith, c.loop-place.auto.place-end) in
    let was = c.loop-place.invariant.counted start xs held within in
    let P : ℕ → Type 0 = λ n.
    (length (kept c.args.horizon (oldest n xs)) ≡ c.loop-place.entries) × (payload_sum (kept c.args.horizon (oldest n xs)) ≡ c.loop-place.props) in
    subst P end was
