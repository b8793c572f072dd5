use Rattle.std.proofs.Common.{◌≡◌, ℕ, ◌+◌, ◌<◌, ◌≤◌, Bool, List, length, subst, sym, arith, nat_le, nat_lt}
use Rattle.std.specs.Prelude.{◌&&◌, ◌==◌}
use Rattle.edge_log.specs.Entries.{Entry}
use Rattle.tel_entry.specs.RawStamps.{stamp_of}
use Rattle.block_layout.specs.Blocks.{IsBlock}
use Rattle.block_writing.specs.Changed.{settled_entry, changed_where}
use Rattle.block_writing.proofs.Settled.{settled-twice, length-changed, changed-never, changed-more, window-none, window-more}
use Rattle.block_writing.proofs.changes.settle_from.Goals as goal

pub loop-place-init : goal.loop-place-init
loop-place-init c = λ order h f xs b within.
    let from : ℕ = c.args.from in
    let P : List Entry → Type 0 = λ ys. IsBlock order h f ys c.args.block.now in
    subst P (sym (changed-never (λ n. nat_le from n && nat_lt n from) (settled_entry c.args.tid (stamp_of c.args.created) (stamp_of c.args.ended)) xs (λ n. window-none from n))) b

pub loop-place-preserved : goal.loop-place-preserved
loop-place-preserved c = λ order h f xs b within.
    let from : ℕ = c.args.from in
    let place : ℕ = c.loop-place.place in
    let above : from ≤ place = omega arith in
    let g : Entry → Entry = settled_entry c.args.tid (stamp_of c.args.created) (stamp_of c.args.ended) in
    let q : ℕ → Bool = λ n. nat_le from n && nat_lt n place in
    let long = length-changed q g xs in
    let here : place < length (changed_where q g xs) = (let l = long in omega (arith, l)) in
    let P : List Entry → Type 0 = λ ys. IsBlock order h f ys c.settle_row.new.block in
    subst P
    (changed-more (λ n. place == n) q (λ n. nat_le from n && nat_lt n (place + 1)) g xs (settled-twice c.args.tid (stamp_of c.args.created) (stamp_of c.args.ended)) (λ n. window-more from place n above))
    (c.settle_row.ensures order h f (changed_where q g xs) (c.loop-place.invariant order h f xs b within) here)

pub returns : goal.returns
returns c = λ order h f xs b within.
    let from : ℕ = c.args.from in
    let g : Entry → Entry = settled_entry c.args.tid (stamp_of c.args.created) (stamp_of c.args.ended) in
    let end : c.loop-place.place ≡ c.args.to = omega (arith, c.loop-place.auto.place-end) in
    let P : ℕ → Type 0 = λ k. IsBlock order h f (changed_where (λ n. nat_le from n && nat_lt n k) g xs) c.loop-place.block in
    subst P end (c.loop-place.invariant order h f xs b within)
