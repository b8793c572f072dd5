use Rattle.std.proofs.Common.{ℕ, ◌+◌, ◌<◌, Bool, List, [], length, take, get_or, refl, subst, sym, arith}
use Rattle.std.specs.Prelude.{◌==◌}
use Rattle.std.proofs.lemmas.List.{take_all}
use Rattle.edge_log.specs.Entries.{Entry}
use Rattle.tel_entry.specs.RawStamps.{stamp_of}
use Rattle.block_layout.specs.Blocks.{IsBlock}
use Rattle.block_writing.specs.Changed.{settled_entry, changed_where, is_among}
use Rattle.block_writing.proofs.Settled.{settled-twice, length-changed, changed-never, changed-more, among-more}
use Rattle.block_writing.proofs.changes.settle_noted.Goals as goal

pub loop-place-init : goal.loop-place-init
loop-place-init c = λ order h f xs b within.
    let P : List Entry → Type 0 = λ ys. IsBlock order h f ys c.args.block.now in
    subst P (sym (changed-never (is_among []) (settled_entry c.args.tid (stamp_of c.args.created) (stamp_of c.args.ended)) xs (λ n. refl))) b

pub loop-place-preserved : goal.loop-place-preserved
loop-place-preserved c = λ order h f xs b within.
    let noted : List ℕ = c.args.noted.now in
    let i : ℕ = c.loop-place.place-index in
    let there : i < length noted = omega arith in
    let place : ℕ = get_or noted i 0 in
    let g : Entry → Entry = settled_entry c.args.tid (stamp_of c.args.created) (stamp_of c.args.ended) in
    let q : ℕ → Bool = is_among (take i noted) in
    let long = length-changed q g xs in
    let here : place < length (changed_where q g xs) = (let w = within i 0 there in omega (arith, w, long)) in
    let P : List Entry → Type 0 = λ ys. IsBlock order h f ys c.settle_row.new.block in
    subst P
    (changed-more (λ n. place == n) q (is_among (take (i + 1) noted)) g xs (settled-twice c.args.tid (stamp_of c.args.created) (stamp_of c.args.ended)) (λ n. among-more noted i n there))
    (c.settle_row.ensures order h f (changed_where q g xs) (c.loop-place.invariant order h f xs b within) here)

pub returns : goal.returns
returns c = λ order h f xs b within.
    let noted : List ℕ = c.args.noted.now in
    let g : Entry → Entry = settled_entry c.args.tid (stamp_of c.args.created) (stamp_of c.args.ended) in
    let P : List ℕ → Type 0 = λ ns. IsBlock order h f (changed_where (is_among ns) g xs) c.loop-place.block in
    subst P (take_all c.loop-place.place-index noted (omega arith)) (c.loop-place.invariant order h f xs b within)
