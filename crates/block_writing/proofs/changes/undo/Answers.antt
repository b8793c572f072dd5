use Rattle.std.proofs.Common.{◌≡◌, ℕ, ◌<◌, All, Bool, List, length, map, subst, ap, ◌∙◌, arith, nat_le, nat_lt}
use Rattle.std.specs.Prelude.{◌&&◌}
use Rattle.stamps.specs.declared.stamp.Stamp.{Stamp}
use Rattle.stamps.specs.declared.stamp.Stamp.TheVariants.{Never}
use Rattle.edge_log.specs.Entries.{Entry}
use Rattle.edge_log.specs.Places.{oldest}
use Rattle.tel_entry.specs.RawStamps.{stamp_of}
use Rattle.block_layout.specs.Blocks.{IsBlock}
use Rattle.block_layout.proofs.AtPlaces.{length-oldest}
use Rattle.block_layout.proofs.Blocked.{block-oldest}
use Rattle.block_writing.specs.Changed.{settled_entry, changed_where, is_among}
use Rattle.block_writing.proofs.Settled.{settled-twice, settled-other, length-changed, changed-twice, all-changed, map-cleared}
use Rattle.block_writing.proofs.changes.undo.Goals as goal

pub returns : goal.returns
returns c = λ order h f all b few reached.
    let t : ℕ = c.args.tid in
    let own : Stamp = stamp_of c.private_stamp-created.result in
    let from : ℕ = c.args.from in
    let count : ℕ = c.args.committed in
    let noted : List ℕ = c.args.noted.now in
    let xs : List Entry = oldest count all in
    let long : length xs ≡ count = length-oldest all count few in
    let g : Entry → Entry = settled_entry t own Never in
    let q : ℕ → Bool = λ n. nat_le from n && nat_lt n count in
    let same = length-changed q g xs in
    let first = c.settle_from.ensures order h f xs (block-oldest order h f count all c.args.block.now b) (omega (arith, long)) in
    let in_it : All (λ n. n < length (changed_where q g xs)) noted = λ k d within. (let w = c.requires.noted k d within in omega (arith, w, same, long)) in
    let second = c.settle_noted.ensures order h f (changed_where q g xs) first in_it in
    let whole = changed-twice (is_among noted) q g xs (settled-twice t own Never)
    ∙ all-changed t noted from count g xs reached (omega (arith, long)) (settled-other t own Never)
    ∙ ap (λ (new : Stamp). map (settled_entry t new Never) xs) c.private_stamp-created.ensures.stamp
    ∙ map-cleared t xs in
    let P : List Entry → Type 0 = λ ys. IsBlock order h f ys c.settle_noted.new.block in
    subst P whole second
