use Rattle.std.proofs.Common.{ℕ, ◌<◌, All, Bool, List, length, map, subst, ap, ◌∙◌, arith, nat_le, nat_lt}
use Rattle.std.specs.Prelude.{◌&&◌}
use Rattle.stamps.specs.declared.stamp.Stamp.{Stamp}
use Rattle.edge_log.specs.Entries.{Entry}
use Rattle.tel_entry.specs.RawStamps.{stamp_of}
use Rattle.block_layout.specs.Blocks.{IsBlock}
use Rattle.block_writing.specs.Headers.{committed_header}
use Rattle.block_writing.specs.Changed.{settled_entry, changed_where, is_among}
use Rattle.block_writing.proofs.Settled.{settled-twice, settled-other, length-changed, changed-twice, all-changed, map-converted, stamp_of-epoch}
use Rattle.block_writing.proofs.changes.convert.Goals as goal

pub returns : goal.returns
returns c = λ order h f xs b long reached.
    let t : ℕ = c.args.tid in
    let e : ℕ = c.args.epoch in
    let s : Stamp = stamp_of e in
    let from : ℕ = c.args.from in
    let count : ℕ = c.args.fill.entries in
    let noted : List ℕ = c.args.noted.now in
    let g : Entry → Entry = settled_entry t s s in
    let q : ℕ → Bool = λ n. nat_le from n && nat_lt n count in
    let same = length-changed q g xs in
    let first = c.settle_from.ensures order h f xs b (omega (arith, long)) in
    let in_it : All (λ n. n < length (changed_where q g xs)) noted = λ k d within. (let w = c.requires.noted k d within in omega (arith, w, same, long)) in
    let second = c.settle_noted.ensures order h f (changed_where q g xs) first in_it in
    let whole = changed-twice (is_among noted) q g xs (settled-twice t s s)
    ∙ all-changed t noted from count g xs reached (omega (arith, long)) (settled-other t s s)
    ∙ ap (λ (new : Stamp). map (settled_entry t new new) xs) (stamp_of-epoch e c.requires.epoch.0 c.requires.epoch.1)
    ∙ map-converted t e xs in
    let P : List Entry → Type 0 = λ ys. IsBlock order (committed_header e count c.args.fill.props h) f ys c.commit_header.new.block in
    subst P whole (c.commit_header.ensures order h f (changed_where (is_among noted) g (changed_where q g xs)) second)
