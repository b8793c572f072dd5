use Rattle.std.proofs.Common.{◌-◌, ◌+◌, ◌≡◌, ℕ, List, length, slice_range, ◌++◌, take, drop, sym, ap, subst, ◌∙◌, arith, drop-drop}
use Rattle.std.proofs.lemmas.List.{length-take}
use Rattle.block_pool.proofs.WriteFacts.{with_part-fits, range-first}
use Rattle.block_pool.proofs.transfer.transfer_within.Goals as goal

pub returns-then-from-to : goal.returns-then-from-to
returns-then-from-to g c =
    let bytes : List ℕ = c.args.bytes.now in
    let at : ℕ = c.args.to.from in
    let n : ℕ = c.args.to.to - c.args.to.from in
    let part : List ℕ = c.transfer.new.to in
    let cut = c.split_at_mut-front.ensures in
    let taken = length-take n c.split_at_mut-front.result.1.now in
    let long : length part ≡ n = omega (arith, c.transfer.auto.to, taken, cut.back_len) in
    let read : slice_range c.split_at_mut-front.result.0.now c.args.from.from c.args.from.to ≡ slice_range bytes c.args.from.from c.args.from.to =
    ap (λ (xs : List ℕ). slice_range xs c.args.from.from c.args.from.to) cut.front ∙ range-first bytes at c.args.from.from c.args.from.to (omega arith) (omega arith) (omega arith) in
    let was : take n c.split_at_mut-front.result.1.now ≡ slice_range bytes at c.args.to.to = ap (take n) cut.back in
    record {
      part = part;
      done = subst (λ (xs : List ℕ). g.W.Transfer.does c.args.work.now xs (slice_range bytes at c.args.to.to) part) read
          (subst (λ (ys : List ℕ). g.W.Transfer.does c.args.work.now (slice_range c.split_at_mut-front.result.0.now c.args.from.from c.args.from.to) ys part) was c.transfer.ensures);
      long = long;
      new_is = ap (λ (xs : List ℕ). xs ++ (part ++ drop n c.split_at_mut-front.result.1.now)) cut.front
          ∙ ap (λ (xs : List ℕ). take at bytes ++ (part ++ drop n xs)) cut.back
          ∙ ap (λ (xs : List ℕ). take at bytes ++ (part ++ xs)) (drop-drop n at bytes)
          ∙ ap (λ (k : ℕ). take at bytes ++ (part ++ drop (at + k) bytes)) (sym long)
          ∙ sym (with_part-fits bytes at part (omega arith));
    }
